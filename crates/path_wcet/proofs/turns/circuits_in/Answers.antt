use Rattle.std.proofs.Common.{rules}
use Rattle.path_wcet.proofs.Rounds.{making_more, making_none}
use Rattle.path_wcet.proofs.turns.circuits_in.Goals as goal

pub loop-r-init : goal.loop-r-init
loop-r-init c = making_none c.args.n.now c.args.regions.now _ (search rules)

pub loop-r-preserved : goal.loop-r-preserved
loop-r-preserved c =
    making_more c.args.n.now c.args.regions.now c.loop-r.circuits.items c.push.new.self.items c.loop-r.r-index _ c.in_ok-circuit_of.field-0 c.loop-r-test.true c.loop-r.invariant c.in_ok-circuit_of.ensures.circuit c.in_ok-circuit_of.ensures.is (search rules)
