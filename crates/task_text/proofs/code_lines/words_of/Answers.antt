use Rattle.task_text.proofs.Fields.{no_words, words_read}
use Rattle.task_text.proofs.code_lines.words_of.Goals as goal

pub returns-in_default : goal.returns-in_default
returns-in_default c = no_words c.args.fields.now c.loop-f.f-index _ _ c.loop-f-test.true c.in_default.ensures

pub returns : goal.returns
returns c = words_read c.args.fields.now c.loop-f.f-index c.loop-f.words c.loop-f-test.false c.loop-f.invariant.all c.loop-f.invariant.words
