use Rattle.bound_checker.proofs.Searching.{not_more, spread_all, spread_more, spread_none}
use Rattle.bound_checker.proofs.search.spread.Goals as goal

pub loop-scope-init : goal.loop-scope-init
loop-scope-init c = spread_none c.args.code.now c.args.g.now c.args.scope _ c.requires.room

pub loop-scope-preserved : goal.loop-scope-preserved
loop-scope-preserved c =
    spread_more c.args.code.now c.args.g.now c.args.scope c.loop-scope.done c.found.result _ _ _ c.loop-scope.invariant (c.is_more.ensures.0 c.loop-scope-test.true) c.found.ensures c.pass_on.ensures.room c.pass_on.ensures.adds

pub returns-clause-spread : goal.returns-clause-spread
returns-clause-spread c =
    spread_all c.args.code.now c.args.g.now c.args.scope c.loop-scope.done _ _ c.loop-scope.invariant (not_more c.is_more.result c.loop-scope.done c.loop-scope.room.count c.is_more.ensures.1 c.loop-scope-test.false)
