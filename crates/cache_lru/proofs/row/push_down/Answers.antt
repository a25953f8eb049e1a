use Rattle.std.proofs.Common.{sym, arith}
use Rattle.cache_lru.proofs.Touches.{pushing_none, pushing_more, pushed_found, pushed_renewed}
use Rattle.cache_lru.proofs.row.push_down.Goals as goal

pub loop-slot-init : goal.loop-slot-init
loop-slot-init c = pushing_none _ _

pub loop-slot-preserved : goal.loop-slot-preserved
loop-slot-preserved c = pushing_more _ _ _ _ _ (omega arith) c.loop-slot.invariant c.if-next-line.false

pub returns-then-next-line-clause-found : goal.returns-then-next-line-clause-found
returns-then-next-line-clause-found c = sym (pushed_found _ _ _ _ _ (omega arith) c.loop-slot.invariant c.if-next-line.true)

pub returns-then-next-line-clause-renewed : goal.returns-then-next-line-clause-renewed
returns-then-next-line-clause-renewed c = pushed_renewed _ _ _ _ _ (omega arith) c.loop-slot.invariant c.if-next-line.true
