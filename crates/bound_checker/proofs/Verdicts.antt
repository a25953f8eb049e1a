-- What comes of the count of a region.
use Rattle.std.proofs.Common.{◌≡◌, ◌∙◌, refl, sym, ap, subst, ℕ, ℤ, ◌+◌, ◌<◌, ◌≤◌, Bool, true, false, arith, List, ◌⊎◌, inl, inr, Option, Some, None, length, get_or}
use Rattle.std.specs.Prelude.{Contains, ◌&&◌, nat_le, max, ◌==◌, if◌then◌else◌}
use Rattle.std.proofs.lemmas.Bool.{cases_eq, cases_lt, le-leb, leb-true}
use Rattle.std.proofs.lemmas.Grind.{get_or_default_zero}
use Rattle.visa_io.specs.declared.records.Code.{Code}
use Rattle.visa_io.specs.declared.records.FactLine.{FactLine}
use Rattle.visa_io.specs.declared.records.Region.{Region}
use Rattle.mips_isa.specs.declared.instr.Instr.{Instr}
use Rattle.flow_graph.specs.Calls.{IsLeast}
use Rattle.flow_graph.specs.Code.{instr_at, IsCode}
use Rattle.flow_graph.specs.Faults.{is_word_of}
use Rattle.flow_graph.specs.Flow.{Flow, IsGraph}
use Rattle.flow_graph.specs.Reached.{Reached}
use Rattle.flow_graph.specs.declared.parts.Unit.{Unit as FlowUnit}
use Rattle.flow_graph.proofs.Recorded.{reached_unit, unit_reached}
use Rattle.loop_regions.specs.Walks.{LoopGraph, holds}
use Rattle.range_facts.specs.Transfer.{fact_of}
use Rattle.range_facts.specs.declared.along.Along.{Along}
use Rattle.range_facts.specs.declared.strided.Strided.{Strided}
use Rattle.run_law.specs.Certificate.{before_nth, behind}
use Rattle.run_law.specs.Counts.{IsOfRegion, IsStepAt, before_at, is_up, step_by}
use Rattle.bound_checker.specs.Callees.{AreOfRegion}
use Rattle.bound_checker.specs.Counted.{IsInside, turn_if}
use Rattle.bound_checker.specs.Lines.{addresses_of, blocks_of, program_of}
use Rattle.bound_checker.specs.Tally.{GoesWay, HasStep, IsAmong, address_at, before_word}
use Rattle.bound_checker.specs.Units.{IsSoundUnit}
use Rattle.bound_checker.specs.Walk.{IsFirstNumber}
use Rattle.bound_checker.proofs.Edges.{place_is}
use Rattle.bound_checker.proofs.Recorded.{numbered_unit, sound_unit}
use Rattle.bound_checker.proofs.Searching.{units_long}

true_false : {P : Type 0} → true ≡ false → P
true_false e = absurd (let b : ⊥ = cc in b)

-- numbers of units
pub number_at : (g : Flow) (u : ℕ) → Contains (addresses_of g) u → (k : ℕ) × (k < length g.units) × (address_at g k ≡ u)
number_at g u (k, below, is) = (k, omega (arith, below, units_long g), sym (get_or_default_zero (addresses_of g) k u below) ∙ is)

pub reached_at : (code : Code) (g : Flow) (k : ℕ) → IsGraph code g.entry g → k < length g.units → Reached code g.entry (address_at g k)
reached_at code g k graph below = unit_reached code g.entry g (address_at g k) graph (k, omega (arith, below, units_long g), get_or_default_zero (addresses_of g) k (address_at g k) (omega (arith, below, units_long g)))

pub sound_units : (code : Code) (g : Flow) → IsCode code → IsGraph code g.entry g → (k : ℕ) (d : FlowUnit) → k < length g.units → IsSoundUnit (get_or g.units k d)
sound_units code g whole graph k d below = sound_unit code g.entry (get_or g.units k d) whole (numbered_unit code g k (get_or g.units k d) d graph below refl)

-- the units of a region
both_true : (a b : Bool) → a && b ≡ true → (a ≡ true) × (b ≡ true)
both_true true true e = (refl, refl)
both_true true false e = true_false (sym e)
both_true false b e = true_false (sym e)

true_both : (a b : Bool) → a ≡ true → b ≡ true → a && b ≡ true
true_both a b p q = rw (p, q) refl

pub inside_is : (region : Region) (u : ℕ) → holds region u ≡ true → (region.first ≤ u) × (u ≤ region.last)
inside_is region u h = let two = both_true (nat_le region.first u) (nat_le u region.last) h in (leb-true region.first u two.0, leb-true u region.last two.1)

pub of_region : (code : Code) (g : Flow) (region : Region) (addresses other : List ℕ) (a b lo hi : ℕ) → addresses ≡ addresses_of g → other ≡ addresses_of g → a ≡ region.first → b ≡ region.last → IsFirstNumber addresses a lo → IsFirstNumber other (b + 1) hi → AreOfRegion g region lo hi
of_region code g region addresses other a b lo hi same alike first last low high = record {
  inside = λ k from below. true_both (nat_le region.first (address_at g k)) (nat_le (address_at g k) region.last)
      (le-leb region.first (address_at g k) (omega (arith, first, begins.later k from (omega (arith, below, ends.within)))))
      (le-leb (address_at g k) region.last (omega (arith, last, ends.earlier k below)));
  all = λ k below h.
      let two = inside_is region (address_at g k) h in (
        elim (cases_lt k lo) [ inl early ↦ absurd (omega (arith, first, two.0, begins.earlier k early)) | inr late ↦ late ],
        elim (cases_lt k hi) [ inl early ↦ early | inr late ↦ absurd (omega (arith, last, two.1, ends.later k late (omega (arith, below, units_long g)))) ],
      );
}
  where
    begins : IsFirstNumber (addresses_of g) a lo
    begins = subst (λ l. IsFirstNumber l a lo) same low

    ends : IsFirstNumber (addresses_of g) (b + 1) hi
    ends = subst (λ l. IsFirstNumber l (b + 1) hi) alike high

pub region_order : (g : Flow) (region : Region) (lo hi : ℕ) → IsInside g region → AreOfRegion g region lo hi → lo ≤ hi
region_order g region lo hi header of =
    let (k, below, at) = number_at g region.header header.unit in
    let inside = of.all k below (subst (λ u. holds region u ≡ true) (sym at) header.inside) in
    omega (arith, inside.0, inside.1)

pub long_within : (g : Flow) (addresses : List ℕ) (a hi : ℕ) → addresses ≡ addresses_of g → IsFirstNumber addresses a hi → hi ≤ length g.units
long_within g addresses a hi same is = omega (arith, is.within, ap (λ (l : List ℕ). length l) same, units_long g)

-- the facts before an instruction, by the number of its unit
before_same : (code : Code) (g : Flow) (lines : List FactLine) (loops : LoopGraph) (mask : ℕ → ℕ → Bool) (k at : ℕ) → IsGraph code g.entry g → k < length g.units → before_at (program_of code g lines loops mask) (address_at g k) at ≡ before_word code g lines k at
unfolding program_of
before_same code g lines loops mask k at graph below =
    ap (λ n. if at == address_at g k then before_nth code (blocks_of g lines) n else behind (instr_at code (address_at g k)) (address_at g k) (before_nth code (blocks_of g lines) n))
    (place_is (addresses_of g) k (address_at g k) graph.units_rise (omega (arith, below, units_long g)) refl)

pub before_header : (code : Code) (g : Flow) (lines : List FactLine) (loops : LoopGraph) (mask : ℕ → ℕ → Bool) (k u : ℕ) → IsGraph code g.entry g → k < length g.units → address_at g k ≡ u → (program_of code g lines loops mask).before u ≡ before_nth code (blocks_of g lines) k
unfolding program_of
before_header code g lines loops mask k u graph below at = ap (before_nth code (blocks_of g lines)) (place_is (addresses_of g) k u graph.units_rise (omega (arith, below, units_long g)) at)

-- what is known of a region that is gone through
pub record IsScene (code : Code) (g : Flow) (lines : List FactLine) (region : Region) (lo hi : ℕ) : Type 0 where
  pub graph : IsGraph code g.entry g
  pub of : AreOfRegion g region lo hi
  pub within : hi ≤ length g.units

abbrev Among : Code → Flow → List FactLine → Region → ℕ → ℕ → ℕ → Instr → Strided → Type 0
Among code g lines region lo hi at i s = IsAmong code g lines region.counter lo hi at i s

pub of_among : (code : Code) (g : Flow) (lines : List FactLine) (region : Region) (lo hi : ℕ) (loops : LoopGraph) (mask : ℕ → ℕ → Bool) → IsScene code g lines region lo hi → (at : ℕ) (i : Instr) (s : Strided) → Among code g lines region lo hi at i s
    → (of : IsOfRegion (program_of code g lines loops mask) region at i) × (s ≡ fact_of (before_at (program_of code g lines loops mask) of.unit at).facts region.counter)
unfolding program_of
of_among code g lines region lo hi loops mask scene at i s (k, from, below, is) = (
  record { unit = address_at g k; reached = reached_at code g k scene.graph (omega (arith, below, scene.within)); inside = scene.of.inside k from below; word = is.word; stands = is.stands },
  is.fact ∙ ap (λ (a : Along). fact_of a.facts region.counter) (sym (before_same code g lines loops mask k at scene.graph (omega (arith, below, scene.within)))),
)

pub among_of : (code : Code) (g : Flow) (lines : List FactLine) (region : Region) (lo hi : ℕ) (loops : LoopGraph) (mask : ℕ → ℕ → Bool) → IsScene code g lines region lo hi → (at : ℕ) (i : Instr) (of : IsOfRegion (program_of code g lines loops mask) region at i)
    → Among code g lines region lo hi at i (fact_of (before_at (program_of code g lines loops mask) of.unit at).facts region.counter)
unfolding program_of
among_of code g lines region lo hi loops mask scene at i of =
    let (k, below, is) = number_at g of.unit (reached_unit code g.entry g of.unit scene.graph of.reached) in
    let inside = scene.of.all k below (subst (λ u. holds region u ≡ true) (sym is) of.inside) in (
      k,
      inside.0,
      inside.1,
      record {
        word = subst (λ u. is_word_of code u at ≡ true) (sym is) of.word;
        stands = of.stands;
        fact = ap (λ u. fact_of (before_at (program_of code g lines loops mask) u at).facts region.counter) (sym is) ∙ ap (λ (a : Along). fact_of a.facts region.counter) (before_same code g lines loops mask k at scene.graph below);
      },
    )

pub step_at : (code : Code) (g : Flow) (lines : List FactLine) (region : Region) (lo hi : ℕ) (loops : LoopGraph) (mask : ℕ → ℕ → Bool) → IsScene code g lines region lo hi → (at : ℕ) (by : ℤ) → (h : HasStep region.counter (IsAmong code g lines region.counter lo hi) at by)
    → (step : IsStepAt (program_of code g lines loops mask) region at by) × (h.fact ≡ fact_of (before_at (program_of code g lines loops mask) step.of.unit at).facts region.counter)
step_at code g lines region lo hi loops mask scene at by h =
    let o = of_among code g lines region lo hi loops mask scene at h.instr h.fact h.among in
    (record { instr = h.instr; of = o.0; steps = h.steps }, o.1)

pub at_step : (code : Code) (g : Flow) (lines : List FactLine) (region : Region) (lo hi : ℕ) (loops : LoopGraph) (mask : ℕ → ℕ → Bool) → IsScene code g lines region lo hi → (at : ℕ) (by : ℤ) → (step : IsStepAt (program_of code g lines loops mask) region at by)
    → (h : HasStep region.counter (IsAmong code g lines region.counter lo hi) at by) × (h.fact ≡ fact_of (before_at (program_of code g lines loops mask) step.of.unit at).facts region.counter)
at_step code g lines region lo hi loops mask scene at by step =
    (record { instr = step.instr; fact = fact_of (before_at (program_of code g lines loops mask) step.of.unit at).facts region.counter; among = among_of code g lines region lo hi loops mask scene at step.instr step.of; steps = step.steps }, refl)

-- one instruction stands at an address
same_by : (a b : ℤ) → Some a ≡ Some b → a ≡ b
same_by a b e = cc

same_instr : (a b : Instr) → Some a ≡ Some b → a ≡ b
same_instr a b e = cc

one_way : (code : Code) (g : Flow) (lines : List FactLine) (c lo hi at : ℕ) (a b : ℤ) → HasStep c (IsAmong code g lines c lo hi) at a → HasStep c (IsAmong code g lines c lo hi) at b → a ≡ b
one_way code g lines c lo hi at a b x y =
    let same = same_instr x.instr y.instr (sym x.among.3.stands ∙ y.among.3.stands) in
    same_by a b (sym x.steps ∙ ap (step_by c) same ∙ y.steps)

-- a step of the other way than the first one
pub record IsTurn (c : ℕ) (P : ℕ → Instr → Strided → Type 0) (at : ℕ) : Type 0 where
  pub by : ℤ
  pub step : HasStep c P at by
  pub first : ℕ
  pub first_by : ℤ
  pub first_step : HasStep c P first first_by
  pub least : (other : ℕ) (other_by : ℤ) → HasStep c P other other_by → first ≤ other
  pub differs : is_up by ≡ is_up first_by → ⊥

pub bool_cases : (b : Bool) → (b ≡ true) ⊎ (b ≡ false)
bool_cases true = inl refl
bool_cases false = inr refl

pub turn_least : (code : Code) (g : Flow) (lines : List FactLine) (c lo hi : ℕ) (up down : Option ℕ) → IsLeast (GoesWay c (IsAmong code g lines c lo hi) true) up → IsLeast (GoesWay c (IsAmong code g lines c lo hi) false) down
    → IsLeast (IsTurn c (IsAmong code g lines c lo hi)) (turn_if up down)
turn_least code g lines c lo hi None down u d = λ n t. elim (bool_cases (is_up t.by)) [
  | inl yes_ ↦ u n (t.by, t.step, yes_)
  | inr no_ ↦ elim (bool_cases (is_up t.first_by)) [ inl yes_ ↦ u t.first (t.first_by, t.first_step, yes_) | inr none ↦ t.differs (no_ ∙ sym none) ]
]
turn_least code g lines c lo hi (Some x) None u d = λ n t. elim (bool_cases (is_up t.by)) [
  | inr no_ ↦ d n (t.by, t.step, no_)
  | inl yes_ ↦ elim (bool_cases (is_up t.first_by)) [ inr none ↦ d t.first (t.first_by, t.first_step, none) | inl also ↦ t.differs (yes_ ∙ sym also) ]
]
turn_least code g lines c lo hi (Some x) (Some y) u d = elim (cases_lt x y) [
  | inl less ↦ subst (λ n. IsTurn c (IsAmong code g lines c lo hi) n × ((b : ℕ) → IsTurn c (IsAmong code g lines c lo hi) b → n ≤ b)) (later x y less) (
    record { by = d.0.0; step = d.0.1; first = x; first_by = u.0.0; first_step = u.0.1; least = first_of less; differs = λ e. true_false (sym u.0.2 ∙ sym e ∙ d.0.2) },
    λ b t. after_up less b t,
  )
  | inr more ↦ elim (cases_eq x y) [
    | inl same ↦ absurd (true_false (sym u.0.2 ∙ ap is_up (one_way code g lines c lo hi x u.0.0 d.0.0 u.0.1 (subst (λ n. HasStep c (IsAmong code g lines c lo hi) n d.0.0) (sym same) d.0.1)) ∙ d.0.2))
    | inr other ↦ subst (λ n. IsTurn c (IsAmong code g lines c lo hi) n × ((b : ℕ) → IsTurn c (IsAmong code g lines c lo hi) b → n ≤ b)) (earlier x y more) (
      record { by = u.0.0; step = u.0.1; first = y; first_by = d.0.0; first_step = d.0.1; least = first_down (omega (arith, more, other)); differs = λ e. true_false (sym u.0.2 ∙ e ∙ d.0.2) },
      λ b t. after_down (omega (arith, more, other)) b t,
    )
  ]
]
  where
    later : (x y : ℕ) → x < y → y ≡ max x y
    later x y less = omega (arith, less)

    earlier : (x y : ℕ) → y ≤ x → x ≡ max x y
    earlier x y more = omega (arith, more)

    first_of : x < y → (other : ℕ) (by : ℤ) → HasStep c (IsAmong code g lines c lo hi) other by → x ≤ other
    first_of less other by step = elim (bool_cases (is_up by)) [ inl yes_ ↦ u.1 other (by, step, yes_) | inr no_ ↦ omega (arith, less, d.1 other (by, step, no_)) ]

    first_down : y < x → (other : ℕ) (by : ℤ) → HasStep c (IsAmong code g lines c lo hi) other by → y ≤ other
    first_down less other by step = elim (bool_cases (is_up by)) [ inl yes_ ↦ omega (arith, less, u.1 other (by, step, yes_)) | inr no_ ↦ d.1 other (by, step, no_) ]

    after_up : x < y → (b : ℕ) → IsTurn c (IsAmong code g lines c lo hi) b → y ≤ b
    after_up less b t =
        let same : t.first ≡ x = omega (arith, t.least x u.0.0 u.0.1, first_of less t.first t.first_by t.first_step) in
        let by_is = one_way code g lines c lo hi x t.first_by u.0.0 (subst (λ n. HasStep c (IsAmong code g lines c lo hi) n t.first_by) same t.first_step) u.0.1 in
        elim (bool_cases (is_up t.by)) [ inl yes_ ↦ absurd (t.differs (yes_ ∙ sym (ap is_up by_is ∙ u.0.2))) | inr no_ ↦ d.1 b (t.by, t.step, no_) ]

    after_down : y < x → (b : ℕ) → IsTurn c (IsAmong code g lines c lo hi) b → x ≤ b
    after_down less b t =
        let same : t.first ≡ y = omega (arith, t.least y d.0.0 d.0.1, first_down less t.first t.first_by t.first_step) in
        let by_is = one_way code g lines c lo hi y t.first_by d.0.0 (subst (λ n. HasStep c (IsAmong code g lines c lo hi) n t.first_by) same t.first_step) d.0.1 in
        elim (bool_cases (is_up t.by)) [ inl yes_ ↦ u.1 b (t.by, t.step, yes_) | inr no_ ↦ absurd (t.differs (no_ ∙ sym (ap is_up by_is ∙ d.0.2))) ]
