use Rattle.std.proofs.Common.{arith, refl}
use Rattle.flow_graph.proofs.Points.{part_read, returns_found, returns_missing}
use Rattle.flow_graph.proofs.returns.returns_of.Goals as goal

pub returns-in-Err : goal.returns-in-Err
returns-in-Err c = returns_missing c.args.functions.now c.args.returns.now c.args.function _ _ c.requires.functions c.in-Err.ensures.position refl

pub returns-in-Ok : goal.returns-in-Ok
returns-in-Ok c =
    returns_found c.args.functions.now c.args.returns.now c.args.function c.in-Ok.k _ c.requires.functions c.in-Ok.ensures.position
    (part_read c.args.returns.now c.in-Ok.k c.index-own.result.now c.deref.result.now (omega (arith, c.requires.parts.enough, c.in-Ok.ensures.bound)) c.index-own.ensures c.deref.ensures.value)
