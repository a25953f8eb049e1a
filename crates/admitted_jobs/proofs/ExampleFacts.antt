-- The example's blocks, its nest of no regions, what it writes, and its facts.
use Rattle.std.proofs.Common.{◌≡◌, ◌∙◌, refl, sym, ap, subst, ℕ, zero, suc, ◌^◌, ◌-◌, Bool, true, false, pos, negsuc, List, [], ◌∷◌, arith, lit<, ◌⊎◌, inl, inr}
use Rattle.std.specs.Prelude.{All, None, Some}
use Rattle.std.specs.List.{Contains}
use Rattle.std.proofs.lemmas.Bool.{cases_eq}
use Rattle.std.proofs.lemmas.Int.{ints}
use Rattle.std.proofs.lemmas.List.Elements.{All-nil}
use Rattle.mips_isa.specs.Kinds.{kind_of}
use Rattle.mips_isa.specs.Names.{writes_of}
use Rattle.mips_isa.specs.declared.instr.Instr.{Instr}
use Rattle.flow_graph.specs.Code.{instr_at}
use Rattle.flow_graph.specs.Edges.{edge_of}
use Rattle.flow_graph.specs.Faults.{is_word_of}
use Rattle.flow_graph.specs.Reached.{IsFunction, IsStart, IsUnitOf, Reached, is_inner}
use Rattle.flow_graph.specs.declared.parts.Edge.{Edge}
use Rattle.flow_graph.specs.declared.parts.EdgeKind.TheVariants.{Call, Next}
use Rattle.loop_regions.specs.Nested.{IsNest, Numbered}
use Rattle.loop_regions.specs.Regions.{IsFreeWay, LeadsOn}
use Rattle.loop_regions.specs.Ways.{IsWay}
use Rattle.range_facts.specs.Along.{after_instr}
use Rattle.range_facts.specs.Ranges.{Holds, IsFact, IsWithin, unknown}
use Rattle.range_facts.specs.Transfer.{AreFacts, fact_of}
use Rattle.range_facts.specs.declared.facts.Facts.{Facts}
use Rattle.range_facts.specs.declared.strided.Strided.{Strided}
use Rattle.range_facts.proofs.Kept.{transfer_keeps}
use Rattle.range_facts.proofs.Opening.{opening_are}
use Rattle.range_facts.proofs.Sets.{step_one_holds}
use Rattle.run_law.specs.Certificate.{IsKept}
use Rattle.run_law.specs.Counts.{IsCounted}
use Rattle.run_law.specs.Masks.{AreMasks, Enters, Itself, MayWrite, Through}
use Rattle.run_law.specs.Program.{Program}
use Rattle.run_law.proofs.Bare.{at_zero, elsewhere}
use Rattle.run_law.proofs.Certifying.{plain_along}
use Rattle.run_law.proofs.Coded.{control_there, same_instr, words_of_unit}
use Rattle.bound_checker.specs.Input.{IsLine}
use Rattle.bound_checker.specs.Lines.{blocks_of, no_facts, program_of}
use Rattle.bound_checker.proofs.Recorded.{facts_are, instr_fits}
use Rattle.admission.specs.Found.{HasCounts, HasFacts, HasGraph, HasNest, extra_starts, opening_facts, program}
use Rattle.admitted_jobs.proofs.Before.{nth_facts}
use Rattle.admitted_jobs.proofs.ExampleCode.{at_0, at_4, at_8, back, code, nop}
use Rattle.admitted_jobs.proofs.ExampleGraph.{At0, At4, UnitAt, block_is, edge_at, flow, functions, has_graph, leading, no_call, one, reached_0, reached_4, two, units, way_units}
use Rattle.admitted_jobs.proofs.ExampleTask.{task}

-- blocks begin at the entry and at the cut
pub graph_there : HasGraph task code 0 flow
graph_there = record {
  graph = has_graph;
  blocks = λ a. (
    two (λ b. IsStart code 0 b ⊎ (Contains (extra_starts task) b × Reached code 0 b)) 0 4
        (inl (record { reached = reached_0; begins = inl refl })) (inr ((0, lit< tt, refl), reached_4)) a,
    λ h. elim h [ inl start ↦ block_is a (units a start.reached) | inr other ↦ block_is a (units a other.1) ],
  );
}

-- no regions
abbrev pub nest : Numbered
nest = record {
  regions = [];
  addresses = 0 ∷ 4 ∷ [];
  ways = record { edge = edge_of 0 4 Next; from = 0; to = 1; callee = None; back = false } ∷ [];
  ranks = [];
}

the_way : IsWay (0 ∷ 4 ∷ []) flow.edges [] (record {
  edge = edge_of 0 4 Next;
  from = 0;
  to = 1;
  callee = None;
  back =
      false;
})
the_way = record {
  leaves = refl;
  leaves_in = lit< tt;
  enters = refl;
  enters_in = lit< tt;
  back = refl;
  callee = λ is.
      cc;
}

all_ways : All (IsWay (0 ∷ 4 ∷ []) flow.edges []) nest.ways
all_ways zero d below = the_way
all_ways (suc k) d below = absurd (omega (arith, below))

leads_up : (from to : ℕ) → LeadsOn flow [] from to → (from ≡ 0) × (to ≡ 4)
leads_up from to on =
    let e : Edge = on.0 in
    let is = one (λ d. d ≡ edge_of 0 4 Next) (edge_of 0 4 Next) refl e on.1.inner.among in
    (sym on.2 ∙ ap (λ (d : Edge). d.from) is, sym on.3 ∙ ap (λ (d : Edge). d.to) is)

no_cycle : (u last : ℕ) (before : List ℕ) → IsFreeWay flow [] u (u ∷ last ∷ before) → ⊥
no_cycle u last [] way =
    let up = leads_up last u way.0 in
    omega (arith, up.0, up.1, way.1)
no_cycle u last (v ∷ before) way =
    let up = leads_up last u way.0 in
    let more = leads_up v last way.1.0 in
    omega (arith, up.0, more.1)

nests : IsNest flow nest
nests = record {
  numbered = record {
    regions_are = refl;
    addresses_are = refl;
    ways_are = record
        { edges_are = refl; each = all_ways };
  };
  nested = record { crossing = λ k. refl; side = λ k from to side. cc };
  acyclic = λ u cycle. no_cycle u cycle.last cycle.before cycle.way;
}

pub nest_there : HasNest task flow nest
nest_there = record { nest = nests; regions_are = refl }

-- nothing is written
abbrev pub mask : ℕ → ℕ → Bool
mask f r = false

enters_main : (f g : ℕ) → f ≡ 0 → Enters code f g → g ≡ 0
enters_main f _ is Itself = is
enters_main f _ is (Through g u h enters member calls) =
    let own = subst (λ n. IsUnitOf code n u) (enters_main f g is enters) member in
    no_call u h (edge_at (edge_of u h Call) u (way_units is_inner u own.us own.way) calls)

writes_none : (i j : Instr) (a b r : ℕ) {P : Type 0} → instr_at code b ≡ Some j → a ≡ b → instr_at code a ≡ Some i
    → writes_of j ≡ None → writes_of i ≡ Some r → P
writes_none i j a b r {P} stands same there none writes =
    let equal = same_instr code b j i stands (ap (instr_at code) (sym same) ∙ there) in
    let clash : None ≡ Some r = sym none ∙ ap writes_of equal ∙ writes in cc

no_write : (u a r : ℕ) (i : Instr) {P : Type 0} → UnitAt u → is_word_of code u a ≡ true → instr_at code a ≡ Some i
    → writes_of i ≡ Some r → P
unfolding writes_of kind_of
no_write _ a r i {P} At0 word there writes = elim (words_of_unit code 0 a word) [
  | inl first ↦ writes_none i nop a 0 r at_0 first there refl writes
  | inr slot ↦ (let clash : true ≡ false = sym slot.0 ∙ control_there code 0 nop at_0 in cc)
]
no_write _ a r i {P} At4 word there writes = elim (words_of_unit code 4 a word) [
  | inl first ↦ writes_none i back a 4 r at_4 first there refl writes
  | inr slot ↦ writes_none i nop a 8 r at_8 slot.1 there refl writes
]

masks : AreMasks code 0 mask
masks f r function below = (λ e. cc, λ w. writes f r function w)
  where
    writes : (f r : ℕ) → IsFunction code 0 f → MayWrite code f r → false ≡ true
    writes f r function w =
        let inside = enters_main f w.inside (functions f function) w.enters in
        let own = subst (λ n. IsUnitOf code n w.unit) inside w.member in
        no_write w.unit w.at r w.instr (way_units is_inner w.unit own.us own.way) w.word w.stands w.writes

-- nothing is known of registers
within_unknown : (s : Strided) → IsFact s → IsWithin s unknown
within_unknown s is z holds =
    step_one_holds (negsuc (2 ^ 31 - 1)) (pos (2 ^ 31 - 1)) z (omega (arith, ints, is.low, holds.place))
    (omega (arith, ints, is.high, holds.below))

within_none : (f : Facts) → AreFacts f → (r : ℕ) → IsWithin (fact_of f r) (fact_of no_facts r)
unfolding no_facts
within_none f are r = elim (cases_eq r 0) [
  | inl same ↦ subst (λ n. IsWithin (fact_of f n) (fact_of no_facts n)) (sym same)
      (λ z holds. subst (λ s. Holds s z) (are.zero_is ∙ sym at_zero) holds)
  | inr other ↦ (λ z holds. subst (λ s. Holds s z) (sym (elsewhere r other))
      (within_unknown (fact_of f r) (are.each r) z holds))
]

abbrev pub found : Program
found = program task code flow mask

kept_on : (r : ℕ) → IsKept found (blocks_of flow []) (edge_of 0 4 Next) r
unfolding program_of blocks_of kind_of after_instr
kept_on r s is =
    let f : Facts = (after_instr nop 0 (found.before 0)).facts in
    let are : AreFacts f = transfer_keeps nop 0 (found.before 0).facts (instr_fits code 0 nop at_0)
    (nth_facts code flow [] (All-nil IsLine) 0) in
    let same : Some (fact_of f r) ≡ Some s = sym (plain_along found 0 nop r at_0 refl) ∙ is in
    let equal : fact_of f r ≡ s = cc in
    subst (λ q. IsWithin q (fact_of no_facts r)) equal (within_none f are r)

pub facts_there : HasFacts task code flow mask
unfolding program_of blocks_of
facts_there = record {
  masks = masks;
  kept = record {
    certificate = record {
      before_is = λ u reached. refl;
      facts = λ u reached start. facts_are [] u (All-nil IsLine);
      kept = λ e r reached leads start below. subst (λ d. IsKept found (blocks_of flow []) d r)
          (sym (leading e reached leads)) (kept_on r);
    };
    opened = λ r below. within_none (opening_facts task) (opening_are 0 0 0 (omega arith)) r;
  };
}

pub counts_there : HasCounts task code flow mask
counts_there = All-nil (IsCounted found)
