use Rattle.admission.proofs.Rowing.{cost_made, more_costs}
use Rattle.admission.proofs.Shapes.{caches_buildable}
use Rattle.admission.proofs.bounds.costs_of.Goals as goal

pub charge-requires-clause-shape : goal.charge-requires-clause-shape
charge-requires-clause-shape c x e = caches_buildable c.args.task.now.machine.icache c.requires.limits.machine.icache x e

pub loop-k-preserved : goal.loop-k-preserved
loop-k-preserved c =
    more_costs c.args.task.now c.args.g.now c.args.cuts.now c.args.pen c.loop-k.k c.loop-k.costs.items c.push.new.self.items c.costs_with.result
    c.loop-k.invariant (cost_made c.args.task.now c.args.g.now c.args.cuts.now c.args.pen c.loop-k.k c.scope.result.now c.in_ok-charge.charge c.costs_with.result c.scope.ensures c.in_ok-charge.ensures c.costs_with.ensures) c.in_ok-push.ensures.items
