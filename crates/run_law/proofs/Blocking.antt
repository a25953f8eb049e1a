-- What a graph says of its blocks.
use Rattle.std.proofs.Common.{◌≡◌, ◌∙◌, refl, sym, ap, subst, ℕ, zero, suc, ◌+◌, ◌%◌, ◌<◌, ◌≤◌, Bool, true, false, List, [], ◌∷◌, length, arith, ◌⊎◌, inl, inr, map, get_or}
use Rattle.std.specs.Prelude.{◌==◌, if◌then◌else◌, is_some, Option, Some, None, slice_index}
use Rattle.std.specs.List.{Contains}
use Rattle.std.specs.List.Sorted.{IsStrictlyIncreasing}
use Rattle.std.specs.Option.{option_and_then}
use Rattle.std.proofs.lemmas.Bool.{cases_lt, eqb-true}
use Rattle.std.proofs.lemmas.List.{get_or-map, length-map}
use Rattle.std.proofs.lemmas.List.Elements.{Contains-get_or}
use Rattle.visa_io.specs.declared.records.Code.{Code}
use Rattle.mips_isa.specs.Kinds.{kind_of, is_control}
use Rattle.mips_isa.specs.declared.instr.Instr.{Instr}
use Rattle.mips_isa.specs.declared.instr.Kind.{Kind}
use Rattle.mips_isa.specs.declared.instr.Kind.TheVariants as kind
use Rattle.mips_isa.specs.Prediction.{single_edge_of}
use Rattle.flow_graph.specs.Code.{instr_at, is_code, is_control_at, is_control_instr, word_from}
use Rattle.flow_graph.specs.Edges.{branch_edges, call_edges, edge_of, edge_to, edges_by, edges_of_kind, target_of as named_target}
use Rattle.flow_graph.specs.Faults.{edges_if}
use Rattle.flow_graph.specs.Flow.{Flow, IsGraph}
use Rattle.flow_graph.specs.Reached.{BeginsBlock, Leads, Reached, is_any, target_at}
use Rattle.flow_graph.specs.declared.parts.Edge.{Edge}
use Rattle.flow_graph.specs.declared.parts.EdgeKind.TheVariants.{Next, Taken, Call, Over}
use Rattle.flow_graph.specs.declared.parts.Unit.{Unit as FlowUnit}
use Rattle.run_law.specs.Certificate.{AreBlocksOf, Blocked, Blocks}
use Rattle.run_law.specs.Program.{Program}
use Rattle.run_law.proofs.Calling.{none_of, one_of, two_of}
use Rattle.run_law.proofs.Coded.{control_there}
use Rattle.run_law.proofs.Flows.{entry_code, own_of, reached_along, reached_code, reached_first, unit_of, unit_stands}

abbrev ats : List FlowUnit → List ℕ
ats us = map (λ unit. unit.at) us

-- the units of a graph are the addresses that are reached
among_ats : (us : List FlowUnit) (unit : FlowUnit) → Contains us unit → Contains (ats us) unit.at
among_ats us unit (k, below, is) =
    (k, omega (arith, below, length-map us (λ (u : FlowUnit). u.at)), get_or-map (λ (u : FlowUnit). u.at) us k unit unit.at below ∙ ap (λ (u : FlowUnit). u.at) is)

is_unit : (code : Code) (entry : ℕ) (g : Flow) (u : ℕ) → IsGraph code entry g → Reached code entry u
    → Contains (ats g.units) u
is_unit code entry g u is reached =
    let i = unit_stands code entry g u is reached in
    let unit = unit_of code entry u i.0 (is_control_instr i.0) reached i.1 refl in
    subst (λ a. Contains (ats g.units) a) unit.2 (among_ats g.units unit.0 ((is.units_are unit.0).1 unit.1))

four_by : (code : Code) (a : ℕ) (b : Bool) → (a % 4 == 0) ≡ b
    → is_some (if b then word_from code.spans code.words a else None) ≡ true → a % 4 ≡ 0
four_by code a true is there = eqb-true (a % 4) 0 is
four_by code a false is there = cc

is_four : (code : Code) (a : ℕ) → is_code code a ≡ true → a % 4 ≡ 0
is_four code a there = four_by code a (a % 4 == 0) refl there

unit_four : (code : Code) (entry : ℕ) (g : Flow) → IsGraph code entry g → (k : ℕ) → k < length (ats g.units)
    → slice_index (ats g.units) k % 4 ≡ 0
unit_four code entry g is k below = by_first g.units refl below
  where
    by_first : (us : List FlowUnit) → g.units ≡ us → k < length (ats us) → slice_index (ats us) k % 4 ≡ 0
    by_first [] same there = absurd (omega (arith, there))
    by_first (d ∷ us) same there =
        let low : k < length (d ∷ us) = omega (arith, there, length-map (d ∷ us) (λ (u : FlowUnit). u.at)) in
        let unit : FlowUnit = get_or (d ∷ us) k d in
        let value : slice_index (ats (d ∷ us)) k ≡ unit.at = get_or-map (λ (u : FlowUnit). u.at) (d ∷ us) k d 0 low in
        let among = subst (λ q. Contains q unit) (sym same) (Contains-get_or (d ∷ us) k d low) in
        let reached = ((is.units_are unit).0 among).reached in
        ap (λ n. n % 4) value ∙ is_four code unit.at (reached_code code is_any entry unit.at reached)

-- numbers that rise
rises : (xs : List ℕ) → IsStrictlyIncreasing xs → (i j : ℕ) → i < j → j < length xs
    → slice_index xs i < slice_index xs j
rises xs up i zero low high = absurd (omega (arith, low))
rises xs up i (suc j) low high = elim (cases_lt i j) [
  | inl before ↦ omega (arith, rises xs up i j before (omega (arith, high)), step j (omega (arith, high)))
  | inr same ↦ let is : i ≡ j = omega (arith, low, same) in subst (λ k. slice_index xs k < slice_index xs (suc j)) (sym is) (step j (omega (arith, high)))
]
  where
    step : (k : ℕ) → k + 1 < length xs → slice_index xs k < slice_index xs (suc k)
    step k below = let next : k + 1 ≡ suc k = omega arith in subst (λ m. slice_index xs k < slice_index xs m) next (up k below)

-- two units four apart are neighbours
neighbours : (xs : List ℕ) (i j : ℕ) → IsStrictlyIncreasing xs → ((k : ℕ) → k < length xs → slice_index xs k % 4 ≡ 0)
    → i < length xs → j < length xs → slice_index xs j ≡ slice_index xs i + 4 → j ≡ suc i
neighbours xs i j up fours first second apart = by_order (order i j)
  where
    order : (a b : ℕ) → (b ≤ a) ⊎ ((b ≡ suc a) ⊎ (suc a < b))
    order a b = elim (cases_lt a b) [ inl lt ↦ elim (cases_lt (suc a) b) [ inl more ↦ inr (inr more) | inr least ↦ inr (inl (omega (arith, lt, least))) ] | inr ge ↦ inl ge ]

    by_order : (j ≤ i) ⊎ ((j ≡ suc i) ⊎ (suc i < j)) → j ≡ suc i
    by_order (inl low) = elim (cases_lt j i) [
      | inl lt ↦ absurd (omega (arith, rises xs up j i lt first, apart))
      | inr ge ↦ let same : j ≡ i = omega (arith, low, ge) in absurd (omega (arith, ap (λ k. slice_index xs k) same, apart))
    ]
    by_order (inr (inl is)) = is
    by_order (inr (inr high)) =
        let one = rises xs up i (suc i) (omega arith) (omega (arith, high, second)) in
        let two = rises xs up (suc i) j high second in
        absurd (omega (arith, one, two, apart, fours i first, fours (suc i) (omega (arith, high, second)), fours j second))

-- where a control instruction leads, a block begins
jumps_in : (code : Code) (u : ℕ) (e : Edge) (o : Option ℕ) → target_at code u ≡ o → Contains (edge_to u Taken o) e
    → BeginsBlock code u e.to
jumps_in code u e None is among = absurd (none_of e among)
jumps_in code u e (Some t) is among = inl (is ∙ ap (λ (d : Edge). Some d.to) (sym (one_of (edge_of u t Taken) e among)))

calls_in : (code : Code) (u : ℕ) (e : Edge) (o : Option ℕ) → is_control_at code u ≡ true → target_at code u ≡ o
    → Contains (call_edges u o) e → BeginsBlock code u e.to
calls_in code u e None control is among = absurd (none_of e among)
calls_in code u e (Some t) control is among = elim (two_of (edge_of u t Call) (edge_of u (u + 8) Over) e among) as (λ q. BeginsBlock code u e.to) [
  | inl same ↦ inl (is ∙ ap (λ (d : Edge). Some d.to) (sym same))
  | inr same ↦ inr (control, ap (λ (d : Edge). d.to) same)
]

branches_in : (code : Code) (u : ℕ) (e : Edge) (lone : Option Bool) (o : Option ℕ) → is_control_at code u ≡ true
    → target_at code u ≡ o → Contains (branch_edges u lone (edge_to u Taken o)) e → BeginsBlock code u e.to
branches_in code u e None None control is among = inr (control, ap (λ (d : Edge). d.to) (one_of (edge_of u (u + 8) Next) e among))
branches_in code u e None (Some t) control is among = elim (two_of (edge_of u (u + 8) Next) (edge_of u t Taken) e among) as (λ q. BeginsBlock code u e.to) [
  | inl same ↦ inr (control, ap (λ (d : Edge). d.to) same)
  | inr same ↦ inl (is ∙ ap (λ (d : Edge). Some d.to) (sym same))
]
branches_in code u e (Some true) o control is among = jumps_in code u e o is among
branches_in code u e (Some false) o control is among = inr (control, ap (λ (d : Edge). d.to) (one_of (edge_of u (u + 8) Next) e among))

by_kind : (code : Code) (u : ℕ) (e : Edge) (i : Instr) (k : Kind) → is_control k ≡ true → is_control_at code u ≡ true
    → target_at code u ≡ named_target i u → Contains (edges_of_kind k i u) e → BeginsBlock code u e.to
by_kind code u e i kind.Branch is control target among = branches_in code u e (single_edge_of i) (named_target i u) control target among
by_kind code u e i kind.Jump is control target among = jumps_in code u e (named_target i u) target among
by_kind code u e i kind.Call is control target among = calls_in code u e (named_target i u) control target among
by_kind code u e i kind.Return is control target among = absurd (none_of e among)
by_kind code u e i kind.Indirect is control target among = absurd (none_of e among)
by_kind code u e i kind.Plain is control target among = cc
by_kind code u e i kind.Mul is control target among = cc
by_kind code u e i kind.Div is control target among = cc
by_kind code u e i kind.Load is control target among = cc
by_kind code u e i kind.Store is control target among = cc
by_kind code u e i kind.Stop is control target among = cc

control_begins : (code : Code) (e : Edge) (i : Instr) → instr_at code e.from ≡ Some i
    → is_control_at code e.from ≡ true → Leads code e → BeginsBlock code e.from e.to
unfolding edges_by
control_begins code e i stands control leads =
    let own = (own_of code e leads).1 in
    let among = subst (λ es. Contains es e) (ap (λ o. edges_if o e.from) stands) own in
    by_kind code e.from e i (kind_of i) (sym (control_there code e.from i stands) ∙ control) control (ap (option_and_then (λ j. named_target j e.from)) stands) among

pub blocked_of : (p : Program) (g : Flow) (b : Blocks) → IsGraph p.code p.entry g → AreBlocksOf g b → Blocked p b
blocked_of p g b is of = record {
  entry = (of.starts p.entry).1 (is.starts p.entry (record { reached = reached_first p.code is_any p.entry (entry_code p.code p.entry g is); begins = inl refl }));
  indexed = λ u reached. (of.index u (listed u reached)).1;
  follows = λ u reached next start. by_units u reached next;
  ends = λ e reached leads control.
      let i = unit_stands p.code p.entry g e.from is reached in
      let begins = control_begins p.code e i.0 i.1 control leads in
      (of.starts e.to).1 (is.starts e.to (record { reached = reached_along p.code is_any p.entry e reached leads refl; begins = inr (e.from, reached, begins) }));
}
  where
    listed : (u : ℕ) → Reached p.code p.entry u → Contains b.units u
    listed u reached = subst (λ q. Contains q u) (sym of.units) (is_unit p.code p.entry g u is reached)

    by_units : (u : ℕ) → Reached p.code p.entry u → Reached p.code p.entry (u + 4) → b.index (u + 4) ≡ suc (b.index u)
    by_units u reached next =
        let here = of.index u (listed u reached) in
        let there = of.index (u + 4) (listed (u + 4) next) in
        neighbours b.units (b.index u) (b.index (u + 4)) (subst (λ q. IsStrictlyIncreasing q) (sym of.units) is.units_rise)
        (subst (λ q. (k : ℕ) → k < length q → slice_index q k % 4 ≡ 0) (sym of.units) (unit_four p.code p.entry g is))
        here.0 there.0 (there.1 ∙ ap (λ n. n + 4) (sym here.1))
