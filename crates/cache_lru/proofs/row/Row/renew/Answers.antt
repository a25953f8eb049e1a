use Rattle.std.proofs.Common.{arith, length-drop}
use Rattle.cache_lru.proofs.Touches.{renewed_with_room, renewed_when_full}
use Rattle.cache_lru.proofs.row.Row.renew.Goals as goal

pub returns-then-self-ways-clause-lines : goal.returns-then-self-ways-clause-lines
returns-then-self-ways-clause-lines c = λ fits.
    renewed_with_room c.args.ways _ _ _ c.self.inside.lines _ c.push_down.new.lines _ c.self.view_is (omega (arith, c.self.told, c.self.invariant)) (omega (arith, length-drop c.self.inside.len c.self.inside.lines, c.self.told, c.requires)) c.if-self-ways.true c.in-Some.ensures.moved c.in-Some.ensures.found

pub returns-else-self-ways-clause-lines : goal.returns-else-self-ways-clause-lines
returns-else-self-ways-clause-lines c = λ fits.
    renewed_when_full c.args.ways _ _ _ c.self.inside.lines _ c.push_down.new.lines _ c.self.view_is (omega (arith, c.self.told, c.self.invariant)) c.if-self-ways.false fits c.in-Some.ensures.moved c.in-Some.ensures.found
