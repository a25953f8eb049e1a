use Rattle.std.proofs.Common.{ℕ, List, get_or, length, refl, subst}
use Rattle.flow_graph.specs.Calls.{CallsAmong, IsLeast}
use Rattle.flow_graph.proofs.Levels.{all_one, below_next, one_more_searched, searched_all, unsearched}
use Rattle.flow_graph.proofs.calls.recursive_call.Goals as goal

pub loop-k-init : goal.loop-k-init
loop-k-init c = unsearched c.args.net.now c.args.functions.now c.in_ok-stamps.stamps.items (length c.args.net.now) refl c.in_ok-stamps.ensures

pub loop-k-preserved : goal.loop-k-preserved
loop-k-preserved c =
    one_more_searched c.args.net.now c.args.functions.now c.loop-k.stamps.items c.search.new.stamps.items c.in_ok-found.found.items c.loop-k.k 0 c.loop-k.best c.lesser-best.result c.again.result
    c.loop-k-test.true c.in_ok-found.ensures.length c.in_ok-found.ensures.stamps c.in_ok-found.ensures.found c.lesser-best.ensures
    (subst (λ (l : List ℕ). IsLeast (CallsAmong c.args.net.now (get_or c.args.functions.now c.loop-k.k 0) l (length l)) c.again.result) c.deref.ensures.value c.again.ensures)
    c.loop-k.invariant

pub search-requires : goal.search-requires
search-requires c = record {
  net = c.requires.net;
  starts = all_one (length c.args.net.now) _ (c.requires.within c.loop-k.k 0 c.loop-k-test.true);
  beside = c.loop-k.invariant.beside;
  fresh = below_next c.loop-k.stamps.items c.loop-k.k c.loop-k.invariant.low;
}

pub returns : goal.returns
returns c = searched_all c.args.net.now c.args.functions.now c.loop-k.stamps.items c.loop-k.k c.loop-k.best c.loop-k-test.false c.loop-k.auto.k-end c.loop-k.invariant
