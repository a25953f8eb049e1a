use Rattle.std.proofs.Common.{arith}
use Rattle.subtask_cut.proofs.Scopes.{map_push, no_scopes, one_more_scope, scopes_all}
use Rattle.subtask_cut.proofs.cuts.scopes_of.Goals as goal

pub loop-k-init : goal.loop-k-init
loop-k-init c = rw c.new-scopes.ensures.items (no_scopes c.args.g.now c.args.firsts.now)

pub loop-k-preserved : goal.loop-k-preserved
loop-k-preserved c =
    one_more_scope c.args.g.now c.args.firsts.now c.loop-k.k _ _ _ _ c.loop-k-test.true c.after.ensures
    c.in_ok-scope_of.ensures
    (map_push _ _ _ _ c.in_ok-push.ensures.items) c.loop-k.invariant

pub returns : goal.returns
returns c =
    scopes_all c.args.g.now c.args.firsts.now c.loop-k.k _ (omega arith) c.loop-k.invariant
