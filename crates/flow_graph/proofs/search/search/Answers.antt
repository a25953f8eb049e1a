use Rattle.std.proofs.Common.{rules}
use Rattle.flow_graph.proofs.Searches.{opens, skipped, stepped, finished, popped, pays}
use Rattle.flow_graph.proofs.search.search.Goals as goal

pub loop-place-init : goal.loop-place-init
loop-place-init c = rw (c.new-found.ensures.items, c.in_ok-work.ensures.items) (opens _ _ _ _ _ c.requires.starts c.requires.beside c.requires.fresh)

pub mark-requires : goal.mark-requires
mark-requires c = (popped _ _ _ _ _ _ _ _ _ c.loop-place.invariant c.in-Some.ensures.items).0

pub owe-requires : goal.owe-requires
owe-requires c = (popped _ _ _ _ _ _ _ _ _ c.loop-place.invariant c.in-Some.ensures.items).1

pub loop-place-preserved : goal.loop-place-preserved
loop-place-preserved c = skipped _ _ _ _ _ _ _ _ _ _ c.in-Some.ensures.items c.if-mark.ensures.old c.loop-place.invariant

pub loop-place-preserved-in-Continue-branch-3 : goal.loop-place-preserved-in-Continue-branch-3
loop-place-preserved-in-Continue-branch-3 c =
    stepped _ _ _ _ _ _ _ _ _ _ _ _ c.requires.net c.in-Some.ensures.items c.if-mark.ensures.new c.in_ok-push.ensures.items c.in_ok-owe.ensures c.loop-place.invariant

pub loop-place-smaller-in-Continue-branch-3 : goal.loop-place-smaller-in-Continue-branch-3
loop-place-smaller-in-Continue-branch-3 c =
    pays _ _ _ _ _ _ _ _ _ (popped _ _ _ _ _ _ _ _ _ c.loop-place.invariant c.in-Some.ensures.items).0 c.in-Some.ensures.items c.if-mark.ensures.new c.in_ok-owe.ensures

pub returns-clause-found : goal.returns-clause-found
returns-clause-found c = finished _ _ _ _ _ _ _ (search rules) c.loop-place.invariant
