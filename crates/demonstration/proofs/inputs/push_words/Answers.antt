use Rattle.std.proofs.Common.{refl}
use Rattle.demonstration.proofs.Drawn.{before_words, next_number, next_word}
use Rattle.demonstration.proofs.inputs.push_words.Goals as goal

pub loop-k-init : goal.loop-k-init
loop-k-init c = record { number = refl; bytes = before_words c.args.bytes.now }

pub loop-k-preserved : goal.loop-k-preserved
loop-k-preserved c = record {
  number = next_number c.args.start c.loop-k._k c.loop-k.number c.draw-number.result c.loop-k.invariant.number c.draw-number.ensures;
  bytes = next_word c.args.start c.loop-k._k c.loop-k.number c.draw-number.result c.word_of.result _ _ _ c.loop-k.invariant.number c.draw-number.ensures c.loop-k.invariant.bytes c.word_of.ensures c.in_ok-push_word.ensures;
}
