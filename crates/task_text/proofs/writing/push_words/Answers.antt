use Rattle.task_text.proofs.Joined.{words_joined, on_ok}
use Rattle.task_text.proofs.writing.push_words.Goals as goal

pub returns : goal.returns
returns c = on_ok c.end_line.result c.end_line.ensures (λ e. words_joined c.args.out.now.items _ _ _ _ _ _ c.args.start c.args.words.now c.name_of.ensures c.in_ok-extend_from_slice.ensures.items c.in_ok-push_value.ensures c.in_ok-push_hex_words.ensures e)
