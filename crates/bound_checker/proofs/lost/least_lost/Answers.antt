use Rattle.bound_checker.specs.Lost.{mask_of}
use Rattle.bound_checker.proofs.Rows.{over_is_fact}
use Rattle.bound_checker.proofs.lost.least_lost.Goals as goal

pub within-requires-clause-inner : goal.within-requires-clause-inner
within-requires-clause-inner c =
    over_is_fact (mask_of c.args.masks.now.functions.items c.args.masks.now.marks.items) c.args.callee c.args.f.now c.loop-r.r c.fact_over.result c.requires.facts c.fact_over.ensures
