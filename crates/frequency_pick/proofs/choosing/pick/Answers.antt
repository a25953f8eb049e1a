use Rattle.std.proofs.Common.{◌∙◌}
use Rattle.frequency_pick.proofs.Same.{choice_same}
use Rattle.frequency_pick.proofs.choosing.pick.Goals as goal

pub returns : goal.returns
returns c = λ cs stands. c.first.ensures ∙ choice_same _ _ cs c.requires stands
