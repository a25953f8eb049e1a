use Rattle.std.proofs.Common.{ap, sym, ◌∙◌, List}
use Rattle.flow_graph.specs.declared.parts.Unit.{Unit as FlowUnit}
use Rattle.loop_regions.specs.Regions.{crosses_at}
use Rattle.loop_regions.proofs.Entries.{crossing_first, nested, side_first}
use Rattle.loop_regions.proofs.nest.check_nested.Goals as goal

pub returns-in-Some-first_entry : goal.returns-in-Some-first_entry
returns-in-Some-first_entry c =
    side_first c.args.g.now c.args.regions.now c.in-Some-first_entry.entry
    (λ k. ap (λ (us : List FlowUnit). crosses_at us c.args.regions.now k) (sym c.units.ensures) ∙ c.in_default.ensures k) c.in-Some-first_entry.ensures

pub returns-in-None : goal.returns-in-None
returns-in-None c =
    nested c.args.g.now c.args.regions.now
    (λ k. ap (λ (us : List FlowUnit). crosses_at us c.args.regions.now k) (sym c.units.ensures) ∙ c.in_default.ensures k) c.in-None.ensures

pub returns-in-Some : goal.returns-in-Some
returns-in-Some c =
    crossing_first c.args.g.now c.args.regions.now c.in-Some.r
    (ap (λ (us : List FlowUnit). crosses_at us c.args.regions.now c.in-Some.r) (sym c.units.ensures) ∙ c.in-Some.ensures.1)
    (λ k less. ap (λ (us : List FlowUnit). crosses_at us c.args.regions.now k) (sym c.units.ensures) ∙ c.in-Some.ensures.2 k less)
