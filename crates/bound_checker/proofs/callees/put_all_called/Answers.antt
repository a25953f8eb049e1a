use Rattle.bound_checker.proofs.Entering.{more_calls, no_calls}
use Rattle.bound_checker.proofs.callees.put_all_called.Goals as goal

pub loop-k-init : goal.loop-k-init
loop-k-init c = record { room_is = c.requires.room; adds = no_calls c.args.code.now c.args.g.now c.args.lo _ }

pub loop-k-preserved : goal.loop-k-preserved
loop-k-preserved c = record { room_is = c.put_called.ensures.room; adds = more_calls c.args.code.now c.args.g.now c.args.lo c.loop-k.k _ _ _ c.loop-k.auto.k c.loop-k.invariant.adds c.put_called.ensures.adds }
