use Rattle.std.proofs.Common.{sym, subst}
use Rattle.std.specs.List.{Contains}
use Rattle.subtask_cut.specs.Search.{SaysWhether}
use Rattle.subtask_cut.proofs.Found.{says_among}
use Rattle.subtask_cut.proofs.rules.is_one_of.Goals as goal

pub returns : goal.returns
returns c =
    subst (λ b. SaysWhether b (Contains c.args.addresses.now c.args.a)) (sym c.is_ok.ensures.value)
    (says_among c.args.addresses.now c.args.a c.binary_search.result c.requires c.binary_search.ensures.position)
