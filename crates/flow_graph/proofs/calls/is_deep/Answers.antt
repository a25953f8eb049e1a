use Rattle.std.proofs.Common.{ℕ, ◌≡◌, List, false, length, refl, rules, subst}
use Rattle.flow_graph.specs.Calls.{called_upto}
use Rattle.flow_graph.specs.Places.{IsSpread}
use Rattle.flow_graph.proofs.Levels.{below_next, deep_answer, fresh_level, next_level}
use Rattle.flow_graph.proofs.calls.is_deep.Goals as goal

pub loop-level-init : goal.loop-level-init
loop-level-init c = fresh_level c.args.net.now c.args.entry (length c.args.net.now) c.in_ok-stamps.stamps.items c.in_ok-starts.starts.items c.requires.entry refl c.in_ok-stamps.ensures c.in_ok-starts.ensures.items

pub search-requires : goal.search-requires
search-requires c = record {
  net = c.requires.net;
  starts = rw c.deref.ensures.value c.loop-level.invariant.within;
  beside = c.loop-level.invariant.beside;
  fresh = below_next c.loop-level.stamps.items c.loop-level.level c.loop-level.invariant.low;
}

pub loop-level-preserved : goal.loop-level-preserved
loop-level-preserved c =
    next_level c.args.net.now c.args.entry c.loop-level.level c.loop-level.stamps.items c.search.new.stamps.items c.loop-level.starts.items c.in_ok-found.found.items c.in_ok-starts-2.starts.items
    c.requires.net c.loop-level.invariant c.in_ok-found.ensures.length c.in_ok-found.ensures.stamps
    (subst (λ (l : List ℕ). IsSpread c.args.net.now false l c.in_ok-found.found.items) c.deref.ensures.value c.in_ok-found.ensures.found)
    (subst (λ (l : List ℕ). c.in_ok-starts-2.starts.items ≡ called_upto c.args.net.now l (length l)) c.deref-in-loop-level.ensures.value c.in_ok-starts-2.ensures)

pub returns : goal.returns
returns c = deep_answer c.args.net.now c.args.entry c.loop-level.level _ c.loop-level.stamps.items c.loop-level.starts.items c.is_empty.result c.loop-level-test.false c.loop-level.auto.level-end c.loop-level.invariant c.is_empty.ensures (search rules)
