use Rattle.std.proofs.Common.{◌∙◌, sym, subst, ap, ℕ, List, length, ◌<◌, ◌≤◌}
use Rattle.std.specs.Prelude.{slice_index}
use Rattle.loop_regions.specs.Cycles.{AreIn}
use Rattle.loop_regions.specs.declared.ways.Way.{Way}
use Rattle.std.specs.List.{All}
use Rattle.path_wcet.proofs.Rounds.{circuit_is, own_in}
use Rattle.path_wcet.proofs.turns.circuit_of.Goals as goal

pub span_of-base-requires : goal.span_of-base-requires
span_of-base-requires c =
    subst (λ (l : List ℕ). AreIn (length l) c.as_slice.result.now) (sym c.addresses.ensures)
    (subst (λ (l : List Way). AreIn (length c.args.n.now.addresses) l) (sym c.as_slice.ensures.value) (own_in (length c.args.n.now.addresses) c.args.ways.now c.in_ok-own.own.items c.args.region c.requires.inside c.in_ok-own.ensures))

pub returns-clause-circuit : goal.returns-clause-circuit
returns-clause-circuit c =
    circuit_is c.args.n.now c.args.ways.now c.in_ok-own.own.items c.args.region c.number_of.result c.span_of-base.result.0 c.span_of-base.result.1 c.saturating_sub.result c.requires.region
    (subst (λ (l : List ℕ). c.number_of.result < length l) c.addresses-2.ensures c.number_of.ensures.inside)
    (ap (λ (l : List ℕ). slice_index l c.number_of.result) (sym c.addresses-2.ensures) ∙ c.number_of.ensures.at) c.requires.ways c.in_ok-own.ensures
    (subst (λ (l : List Way). All (λ w. (c.span_of-base.result.0 ≤ w.from) × (w.from < c.span_of-base.result.1)) l) c.as_slice.ensures.value c.span_of-base.ensures) c.saturating_sub.ensures
