use Rattle.std.proofs.Common.{ℕ, List, ◌∙◌, ap, false, get_or, length, map, rules, subst, sym}
use Rattle.flow_graph.specs.Build.{IsReach}
use Rattle.flow_graph.specs.FunctionParts.{Pushes, returns_upto}
use Rattle.flow_graph.specs.declared.site.Exits.{Exits}
use Rattle.flow_graph.proofs.Levels.{below_next}
use Rattle.flow_graph.proofs.PartLists.{all_parts, found_within, more_parts, no_parts}
use Rattle.flow_graph.proofs.function_parts.parts_of.Goals as goal

pub loop-k-init : goal.loop-k-init
loop-k-init c = no_parts c.args.places.now c.args.functions.now c.in_ok-stamps.stamps.items c.len.result _ _ (search rules) c.in_ok-stamps.ensures c.new-units.ensures c.new-returns.ensures

pub reach-requires : goal.reach-requires
reach-requires c = record {
  net = rw c.deref.ensures.value c.requires.net;
  start = rw c.deref.ensures.value (c.requires.within c.loop-k.k 0 c.loop-k-test.true);
  beside = c.loop-k.invariant.beside ∙ sym (ap (λ (l : List Exits). length l) c.deref.ensures.value);
  fresh = below_next c.loop-k.stamps.items c.loop-k.k c.loop-k.invariant.low;
}

pub push_units-requires : goal.push_units-requires
push_units-requires c = rw (c.deref-in-loop-k.ensures.value, c.deref-in-loop-k-2.ensures.value) (found_within _ _ _ _ (length c.args.places.now.addresses.items) c.in_ok-found.ensures.found c.deref.ensures.value c.requires.addresses)

pub push_returns-requires : goal.push_returns-requires
push_returns-requires c = record {
  addresses = rw c.deref-in-loop-k-3.ensures.value (found_within _ _ _ _ (length c.args.places.now.addresses.items) c.in_ok-found.ensures.found c.deref.ensures.value c.requires.addresses);
  sites = rw c.deref-in-loop-k-3.ensures.value (found_within _ _ _ _ (length c.args.places.now.sites.items) c.in_ok-found.ensures.found c.deref.ensures.value c.requires.sites);
}

pub loop-k-preserved : goal.loop-k-preserved
loop-k-preserved c =
    more_parts c.args.places.now c.args.functions.now c.loop-k.stamps.items c.reach.new.stamps.items c.in_ok-found.found.items c.loop-k.k c.loop-k.units _ c.loop-k.returns _
    (c.in_ok-found.ensures.length ∙ ap (λ (l : List Exits). length l) c.deref.ensures.value)
    c.in_ok-found.ensures.stamps
    (subst (λ (l : List Exits). IsReach l false (get_or c.args.functions.now c.loop-k.k 0) c.in_ok-found.found.items) c.deref.ensures.value c.in_ok-found.ensures.found)
    (subst (λ (l : List ℕ). Pushes c.loop-k.units (map (λ (p : ℕ). get_or c.args.places.now.addresses.items p 0) l) c.push_units.new.units) c.deref-in-loop-k-2.ensures.value
    (subst (λ (l : List ℕ). Pushes c.loop-k.units (map (λ (p : ℕ). get_or l p 0) c.deref-in-loop-k-2.result.now) c.push_units.new.units) c.deref-in-loop-k.ensures.value c.in_ok-push_units.ensures))
    (subst (λ (l : List ℕ). Pushes c.loop-k.returns (returns_upto c.args.places.now.addresses.items c.args.places.now.sites.items l (length l)) c.push_returns.new.returns) c.deref-in-loop-k-3.ensures.value c.in_ok-push_returns.ensures)
    c.loop-k.invariant

pub returns : goal.returns
returns c = all_parts c.args.places.now c.args.functions.now _ c.loop-k.k _ c.loop-k-test.false c.loop-k.auto.k-end c.loop-k.invariant
