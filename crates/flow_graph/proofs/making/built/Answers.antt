use Rattle.std.proofs.Common.{ap, arith, length, ◌∙◌, sym}
use Rattle.std.proofs.lemmas.List.{length-map}
use Rattle.flow_graph.proofs.Built.{built_of, places_within, units_rising_at}
use Rattle.flow_graph.proofs.making.built.Goals as goal

pub invariant_of-result : goal.invariant_of-result
invariant_of-result c = record {
  units = units_rising_at c.args.places.now c.args.reached.now c.args.at.now c.deref.result.now c.in_ok-units.field-0.items c.requires.net c.requires.within c.requires.at c.deref.ensures.value c.in_ok-units.ensures;
  beside = c.in_ok-parts.ensures.units.count ∙ sym (ap length c.in_ok-addresses_at.ensures ∙ length-map c.args.functions.now _);
  within = places_within _ c.in_ok-parts.parts.units _ c.in_ok-parts.ensures.units;
}

pub returns : goal.returns
returns c =
    built_of c.args.places.now c.args.start c.args.reached.now c.args.at.now c.args.functions.now c.in_ok-parts.parts c.index-entry.result.now c.in_ok-units.field-0.items c.in_ok-edges.edges.items c.in_ok-addresses_at.field-0.items c.in_ok-starts.field-0.items c.deref-2.result.now c.deref.result.now c.deref-3.result.now
    (omega (arith, c.requires.start, c.requires.net.addresses)) c.index-entry.ensures c.deref.ensures.value c.in_ok-units.ensures c.deref-2.ensures.value c.in_ok-addresses_at.ensures c.deref-3.ensures.value c.in_ok-starts.ensures c.in_ok-parts.ensures c.in_ok-edges.ensures
