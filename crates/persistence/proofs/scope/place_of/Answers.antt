use Rattle.std.proofs.Common.{arith}
use Rattle.persistence.proofs.Units.{narrow_up, narrow_down, narrow_all}
use Rattle.persistence.proofs.scope.place_of.Goals as goal

pub loop-low-init : goal.loop-low-init
loop-low-init c = narrow_all c.args.units.now c.args.u

pub loop-low-preserved-then-units-middle : goal.loop-low-preserved-then-units-middle
loop-low-preserved-then-units-middle c = narrow_up c.args.units.now c.args.u _ _ _ _ c.requires c.loop-low.invariant (omega arith) (omega arith) c.if-units-middle.true

pub loop-low-preserved : goal.loop-low-preserved
loop-low-preserved c = narrow_down c.args.units.now c.args.u _ _ _ _ c.requires c.loop-low.invariant (omega arith) (omega arith) c.if-units-middle.false
