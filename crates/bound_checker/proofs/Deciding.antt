-- What comes of the count of a region, by what its instructions say.
use Rattle.std.proofs.Common.{◌≡◌, ◌∙◌, refl, sym, ap, subst, ℕ, ℤ, pos, negsuc, zero, suc, ◌<◌, ◌≤◌, Bool, true, false, arith, List, [], ◌∷◌, ◌⊎◌, ◌↔◌, inl, inr, Option, Some, None, Result, Ok, Err, length, get_or}
use Rattle.std.specs.Prelude.{◌&&◌, ◌||◌, not, ◌==◌, Contains, map, take, max, min, nat_lt, if◌then◌else◌, unsigned_abs}
use Rattle.std.specs.List.{list_any, slice_get}
use Rattle.std.specs.Ordering.{int_eq}
use Rattle.std.proofs.lemmas.Bool.{cases_lt, eqb-true, lt-ltb, ltb-true}
use Rattle.std.proofs.lemmas.Option.{get_or_from_slice_get, slice_get-get_or}
use Rattle.visa_io.specs.declared.records.Code.{Code}
use Rattle.visa_io.specs.declared.records.FactLine.{FactLine}
use Rattle.visa_io.specs.declared.records.Region.{Region}
use Rattle.flow_graph.specs.Calls.{IsLeast}
use Rattle.flow_graph.specs.Flow.{Flow}
use Rattle.flow_graph.specs.Own.{lesser}
use Rattle.flow_graph.proofs.Levels.{lesser_least}
use Rattle.flow_graph.specs.declared.parts.Unit.{Unit as FlowUnit}
use Rattle.loop_regions.specs.Regions.{AreNested, clashes, is_crossing, is_unit, option_any}
use Rattle.loop_regions.specs.Walks.{LoopGraph, holds}
use Rattle.range_facts.specs.Transfer.{fact_of}
use Rattle.range_facts.specs.declared.along.Along.{Along}
use Rattle.range_facts.specs.declared.strided.Strided.{Strided}
use Rattle.run_law.specs.Counts.{AreSteps, CalleeWrites, HasNoStep, HasOtherWrite, HasWrap, Stride, is_up, needed_of, stays_fit}
use Rattle.run_law.specs.Program.{Program}
use Rattle.bound_checker.specs.Answer.{IsProved}
use Rattle.bound_checker.specs.Gone.{AreRowsOf, mask_in}
use Rattle.bound_checker.specs.Input.{IsTable}
use Rattle.bound_checker.specs.declared.check.Proved.{Proved}
use Rattle.run_law.specs.Masks.{AreMasks}
use Rattle.bound_checker.specs.Counted.{IsCountAfter, IsCountAnswer, IsInside, IsLeastAt, IsSame, needed_by, turn_if, turn_of, verdict, wraps, writes}
use Rattle.bound_checker.specs.Lines.{addresses_of, program_of}
use Rattle.bound_checker.specs.Tally.{GoesWay, HasSize, HasWrite, IsAmong, IsTally, MayWrap}
use Rattle.bound_checker.specs.Walk.{IsWalked}
use Rattle.bound_checker.specs.declared.fault.CountFault.{CountFault}
use Rattle.bound_checker.specs.declared.fault.CountFault.TheVariants.{NoStep, OtherWrite, Wraps, TooFew}
use Rattle.bound_checker.specs.declared.tally.Tally.{Tally}
use Rattle.bound_checker.specs.declared.walk.Walked.{Walked}
use Rattle.bound_checker.proofs.Tallies.{least_same}
use Rattle.bound_checker.proofs.Verdicts.{IsScene, IsTurn, among_of, at_step, before_header, bool_cases, number_at, of_among, step_at, turn_least}

true_false : {P : Type 0} → true ≡ false → P
true_false e = absurd (let b : ⊥ = cc in b)

not_less : (m n : ℕ) → nat_lt m n ≡ false → n ≤ m
not_less m n e = elim (cases_lt m n) [ inl less ↦ true_false (sym (lt-ltb m n less) ∙ e) | inr over ↦ over ]

-- other writes
pub other_least : (code : Code) (g : Flow) (lines : List FactLine) (region : Region) (lo hi : ℕ) (loops : LoopGraph) (mask : ℕ → ℕ → Bool) (t : Tally) (callee : Option ℕ) → IsScene code g lines region lo hi → IsTally region.counter (IsAmong code g lines region.counter lo hi) t
    → IsLeast (CalleeWrites (program_of code g lines loops mask) region) callee → IsLeast (HasOtherWrite (program_of code g lines loops mask) region) (lesser (lesser t.other (turn_of t)) callee)
other_least code g lines region lo hi loops mask t callee scene says least =
    least_same (λ n. (HasWrite region.counter (IsAmong code g lines region.counter lo hi) n ⊎ IsTurn region.counter (IsAmong code g lines region.counter lo hi) n) ⊎ CalleeWrites (program_of code g lines loops mask) region n) (HasOtherWrite (program_of code g lines loops mask) region) (lesser (lesser t.other (turn_of t)) callee) on back
    (lesser_least (λ n. HasWrite region.counter (IsAmong code g lines region.counter lo hi) n ⊎ IsTurn region.counter (IsAmong code g lines region.counter lo hi) n) (CalleeWrites (program_of code g lines loops mask) region) (lesser t.other (turn_of t)) callee
    (lesser_least (HasWrite region.counter (IsAmong code g lines region.counter lo hi)) (IsTurn region.counter (IsAmong code g lines region.counter lo hi)) t.other (turn_of t) says.other (turn_least code g lines region.counter lo hi t.up t.down says.up says.down)) least)
  where
    on : (n : ℕ) → (HasWrite region.counter (IsAmong code g lines region.counter lo hi) n ⊎ IsTurn region.counter (IsAmong code g lines region.counter lo hi) n) ⊎ CalleeWrites (program_of code g lines loops mask) region n → HasOtherWrite (program_of code g lines loops mask) region n
    on n (inl (inl w)) = inl (record { instr = w.instr; of = (of_among code g lines region lo hi loops mask scene n w.instr w.fact w.among).0; writes = w.writes; no_step = w.no_step })
    on n (inl (inr t)) = inr (inl (record {
      by = t.by;
      step = (step_at code g lines region lo hi loops mask scene n t.by t.step).0;
      first = t.first;
      first_by = t.first_by;
      first_step = (step_at code g lines region lo hi loops mask scene t.first t.first_by t.first_step).0;
      least = λ other by step. t.least other by (at_step code g lines region lo hi loops mask scene other by step).0;
      differs = t.differs;
    }))
    on n (inr w) = inr (inr w)

    back : (n : ℕ) → HasOtherWrite (program_of code g lines loops mask) region n → (HasWrite region.counter (IsAmong code g lines region.counter lo hi) n ⊎ IsTurn region.counter (IsAmong code g lines region.counter lo hi) n) ⊎ CalleeWrites (program_of code g lines loops mask) region n
    back n (inl w) = inl (inl (record { instr = w.instr; fact = _; among = among_of code g lines region lo hi loops mask scene n w.instr w.of; writes = w.writes; no_step = w.no_step }))
    back n (inr (inl t)) = inl (inr (record {
      by = t.by;
      step = (at_step code g lines region lo hi loops mask scene n t.by t.step).0;
      first = t.first;
      first_by = t.first_by;
      first_step = (at_step code g lines region lo hi loops mask scene t.first t.first_by t.first_step).0;
      least = λ other by step. t.least other by (step_at code g lines region lo hi loops mask scene other by step).0;
      differs = t.differs;
    }))
    back n (inr (inr w)) = inr w

pub wrap_least : (code : Code) (g : Flow) (lines : List FactLine) (region : Region) (lo hi : ℕ) (loops : LoopGraph) (mask : ℕ → ℕ → Bool) (o : Option ℕ) → IsScene code g lines region lo hi → IsLeast (MayWrap region.counter (IsAmong code g lines region.counter lo hi)) o
    → IsLeast (HasWrap (program_of code g lines loops mask) region) o
wrap_least code g lines region lo hi loops mask o scene least =
    least_same (MayWrap region.counter (IsAmong code g lines region.counter lo hi)) (HasWrap (program_of code g lines loops mask) region) o
    (λ n (by, step, wraps). let s = step_at code g lines region lo hi loops mask scene n by step in record { by = by; step = s.0; wraps = ap (λ f. stays_fit f by) (sym s.1) ∙ wraps })
    (λ n w. let s = at_step code g lines region lo hi loops mask scene n w.by w.step in (w.by, s.0, ap (λ f. stays_fit f w.by) s.1 ∙ w.wraps))
    least

-- the way and the least size of the steps, where none turns back
pub record IsStride (p : Program) (region : Region) (size : Option ℕ) : Type 0 where
  pub stride : Option Stride
  pub steps : AreSteps p region stride
  pub needed : (s : Strided) → needed_by size s ≡ needed_of stride s

-- the steps of a region, by what is told of them
pub stride_is : (code : Code) (g : Flow) (lines : List FactLine) (region : Region) (lo hi : ℕ) (loops : LoopGraph) (mask : ℕ → ℕ → Bool) → IsScene code g lines region lo hi
    → (up down size : Option ℕ) → IsLeast (GoesWay region.counter (IsAmong code g lines region.counter lo hi) true) up → IsLeast (GoesWay region.counter (IsAmong code g lines region.counter lo hi) false) down → IsLeast (HasSize region.counter (IsAmong code g lines region.counter lo hi)) size
    → turn_if up down ≡ None → IsStride (program_of code g lines loops mask) region size
stride_is code g lines region lo hi loops mask scene up down None u d s none = record {
  stride = None;
  steps = λ at by step. s (unsigned_abs by) (at, by, (at_step code g lines region lo hi loops mask scene at by step).0, refl);
  needed = λ f. refl;
}
stride_is code g lines region lo hi loops mask scene None None (Some n) u d s none =
    let (at, by, step, is) = s.0 in
    absurd (elim (bool_cases (is_up by)) [ inl yes_ ↦ u at (by, step, yes_) | inr no_ ↦ d at (by, step, no_) ])
stride_is code g lines region lo hi loops mask scene (Some x) (Some y) (Some n) u d s none = absurd (let never : Some (max x y) ≡ None = none in cc)
stride_is code g lines region lo hi loops mask scene (Some x) None (Some n) u d s none = record {
  stride = Some (record { up = true; least = n });
  steps = (
    λ at by step.
        let h = (at_step code g lines region lo hi loops mask scene at by step).0 in
        (elim (bool_cases (is_up by)) [ inl yes_ ↦ yes_ | inr no_ ↦ absurd (d at (by, h, no_)) ], s.1 (unsigned_abs by) (at, by, h, refl)),
    let (at, by, step, is) = s.0 in (at, by, (step_at code g lines region lo hi loops mask scene at by step).0, is),
  );
  needed = λ f. refl;
}
stride_is code g lines region lo hi loops mask scene None (Some y) (Some n) u d s none = record {
  stride = Some (record { up = false; least = n });
  steps = (
    λ at by step.
        let h = (at_step code g lines region lo hi loops mask scene at by step).0 in
        (elim (bool_cases (is_up by)) [ inr no_ ↦ no_ | inl yes_ ↦ absurd (u at (by, h, yes_)) ], s.1 (unsigned_abs by) (at, by, h, refl)),
    let (at, by, step, is) = s.0 in (at, by, (step_at code g lines region lo hi loops mask scene at by step).0, is),
  );
  needed = λ f. refl;
}

-- none of three is told, so none of them is
lesser_none : (a b : Option ℕ) → lesser a b ≡ None → (a ≡ None) × (b ≡ None)
lesser_none None b e = (refl, e)
lesser_none (Some a) None e = absurd (let never : Some a ≡ None = e in cc)
lesser_none (Some a) (Some b) e = absurd (let never : Some (min a b) ≡ None = e in cc)

pub decided : (code : Code) (g : Flow) (lines : List FactLine) (region : Region) (r lo hi : ℕ) (loops : LoopGraph) (mask : ℕ → ℕ → Bool) (w : Walked) (callee : Option ℕ) → IsScene code g lines region lo hi → IsInside g region → IsWalked code g lines region lo hi w
    → IsLeast (CalleeWrites (program_of code g lines loops mask) region) callee → IsCountAfter (program_of code g lines loops mask) region r (verdict region r w.tally callee w.fact)
decided code g lines region r lo hi loops mask w callee scene header walked least = by_other (lesser (lesser w.tally.other (turn_of w.tally)) callee) refl (other_least code g lines region lo hi loops mask w.tally callee scene walked.says least)
  where
    fact_is : w.fact ≡ fact_of ((program_of code g lines loops mask).before region.header).facts region.counter
    fact_is =
        let (k, below, at) = number_at g region.header header.unit in
        let inside = scene.of.all k below (subst (λ u. holds region u ≡ true) (sym at) header.inside) in
        walked.before k inside.0 inside.1 at ∙ ap (λ (a : Along). fact_of a.facts region.counter) (sym (before_header code g lines loops mask k region.header scene.graph below at))

    stride : lesser (lesser w.tally.other (turn_of w.tally)) callee ≡ None → IsStride (program_of code g lines loops mask) region w.tally.size
    stride e =
        let two = lesser_none (lesser w.tally.other (turn_of w.tally)) callee e in
        let one = lesser_none w.tally.other (turn_of w.tally) two.0 in
        stride_is code g lines region lo hi loops mask scene w.tally.up w.tally.down w.tally.size walked.says.up walked.says.down walked.says.size one.1

    by_enough : (b : Bool) → nat_lt region.count (needed_by w.tally.size w.fact) ≡ b → IsStride (program_of code g lines loops mask) region w.tally.size → ((a : ℕ) → HasOtherWrite (program_of code g lines loops mask) region a → ⊥) → ((a : ℕ) → HasWrap (program_of code g lines loops mask) region a → ⊥)
        → IsCountAfter (program_of code g lines loops mask) region r (if b then Err (TooFew r (needed_by w.tally.size w.fact)) else Ok tt)
    by_enough true e s others none = (refl, others, none, record { stride = s.stride; steps = s.steps; needed_is = s.needed w.fact ∙ ap (needed_of s.stride) fact_is; more = ltb-true region.count (needed_by w.tally.size w.fact) e })
    by_enough false e s others none = λ cycles. record {
      stride = s.stride;
      steps = s.steps;
      cycles = cycles;
      writes = others;
      wraps = none;
      enough = subst (λ n. n ≤ region.count) (s.needed w.fact ∙ ap (needed_of s.stride) fact_is) (not_less region.count (needed_by w.tally.size w.fact) e);
    }

    by_wrap : (o : Option ℕ) → IsLeast (HasWrap (program_of code g lines loops mask) region) o → IsStride (program_of code g lines loops mask) region w.tally.size → ((a : ℕ) → HasOtherWrite (program_of code g lines loops mask) region a → ⊥)
        → IsCountAfter (program_of code g lines loops mask) region r (wraps region r o (needed_by w.tally.size w.fact))
    by_wrap None none s others = by_enough (nat_lt region.count (needed_by w.tally.size w.fact)) refl s others none
    by_wrap (Some at) h s others = (refl, others, record { holds_here = h.0; least = h.1 })

    by_other : (o : Option ℕ) → lesser (lesser w.tally.other (turn_of w.tally)) callee ≡ o → IsLeast (HasOtherWrite (program_of code g lines loops mask) region) o
        → IsCountAfter (program_of code g lines loops mask) region r (writes region r o w.tally.wraps (needed_by w.tally.size w.fact))
    by_other None e none = by_wrap w.tally.wraps (wrap_least code g lines region lo hi loops mask w.tally.wraps scene walked.says.wraps) (stride e) none
    by_other (Some at) e h = (refl, record { holds_here = h.0; least = h.1 })

-- with what is told of cycles
pub answered : (p : Program) (region : Region) (r : ℕ) (b : Bool) (result : Result (Unit {0}) CountFault) → (b ≡ true) ↔ HasNoStep p region → b ≡ false → IsCountAfter p region r result → IsCountAnswer p region r result
answered p region r b (Ok done) tells no_ a = a (λ h. true_false (sym (tells.1 h) ∙ no_))
answered p region r b (Err (NoStep m)) tells no_ a = absurd a
answered p region r b (Err (OtherWrite m at)) tells no_ a = (a.0, (λ h. true_false (sym (tells.1 h) ∙ no_)), a.1)
answered p region r b (Err (Wraps m at)) tells no_ a = (a.0, (λ h. true_false (sym (tells.1 h) ∙ no_)), a.1, a.2)
answered p region r b (Err (TooFew m needed)) tells no_ a = (a.0, (λ h. true_false (sym (tells.1 h) ∙ no_)), a.1, a.2, a.3)

-- sizes aren't 0
not_zero : (z : ℤ) → int_eq z (pos 0) ≡ false → 0 < unsigned_abs z
not_zero (pos zero) other = true_false other
not_zero (pos (suc n)) other = omega arith
not_zero (negsuc n) other = omega arith

-- the header of a region of a nest
any_unit : (units : List FlowUnit) (a : ℕ) → list_any (λ unit. unit.at == a) units ≡ true → Contains (map (λ unit. unit.at) units) a
any_unit [] a e = absurd (true_false (sym e))
any_unit (u ∷ units) a e = by_cases (u.at == a) refl (any_unit units a) e
  where
    by_cases : (b : Bool) → (u.at == a) ≡ b → (list_any (λ unit. unit.at == a) units ≡ true → Contains (map (λ unit. unit.at) units) a) → b || list_any (λ unit. unit.at == a) units ≡ true → Contains (map (λ unit. unit.at) (u ∷ units)) a
    by_cases true is rest e = (0, omega arith, eqb-true u.at a is)
    by_cases false is rest e = let (k, below, at) = rest e in (suc k, omega (arith, below), at)

held_unit : (h u a : Bool) → (not (h && u) || a) ≡ false → (h ≡ true) × (u ≡ true)
held_unit true true a e = (refl, refl)
held_unit true false a e = true_false e
held_unit false u a e = true_false e

pub inside_at : (g : Flow) (regions other : List Region) (k : ℕ) (d : Region) → other ≡ regions → AreNested g regions → k < length regions → IsInside g (get_or other k d)
inside_at g regions other k d same nested below =
    let there : slice_get regions k ≡ Some (get_or regions k d) = slice_get-get_or regions k d below in
    let clean = ap (option_any (λ r. is_crossing g.units (take k regions) r)) (sym there) ∙ nested.crossing k in
    let both = held_unit (holds (get_or regions k d) (get_or regions k d).header) (is_unit g.units (get_or regions k d).header) (list_any (clashes (get_or regions k d)) (take k regions)) clean in
    subst (λ l. IsInside g (get_or l k d)) (sym same) (record { unit = any_unit g.units (get_or regions k d).header both.1; inside = both.0 })

pub answer_at : (P : Region → Type 0) (regions other : List Region) (k : ℕ) (d region : Region) → other ≡ regions → slice_get regions k ≡ Some region → P (get_or other k d) → P region
answer_at P regions other k d region same is h = subst P (ap (λ l. get_or l k d) same ∙ get_or_from_slice_get regions k region d is) h

-- a region has one answer
abbrev stride_with : Bool → ℕ → Stride
stride_with up least = record { up = up; least = least }

abbrev fails_as : CountFault → Result (Unit {0}) CountFault
fails_as fault = Err fault

stride_one : (p : Program) (r : Region) (s t : Option Stride) → AreSteps p r s → AreSteps p r t → s ≡ t
stride_one p r None None a b = refl
stride_one p r None (Some t) a b = let (at, by, step, is) = b.1 in absurd (a at by step)
stride_one p r (Some s) None a b = let (at, by, step, is) = a.1 in absurd (b at by step)
stride_one p r (Some s) (Some t) a b =
    let (at, by, step, is) = a.1 in
    let (other, other_by, other_step, other_is) = b.1 in
    ap Some (same_parts (sym (a.0 at by step).0 ∙ (b.0 at by step).0) (omega (arith, is, other_is, (a.0 other other_by other_step).1, (b.0 at by step).1)))
  where
    same_parts : {u v : Bool} {m n : ℕ} → u ≡ v → m ≡ n → stride_with u m ≡ stride_with v n
    same_parts p q = rw (p, q) refl

needed_one : (p : Program) (r : Region) (s t : Option Stride) → AreSteps p r s → AreSteps p r t → needed_of s (fact_of (p.before r.header).facts r.counter) ≡ needed_of t (fact_of (p.before r.header).facts r.counter)
needed_one p r s t a b = ap (λ o. needed_of o (fact_of (p.before r.header).facts r.counter)) (stride_one p r s t a b)

least_one : (P : ℕ → Type 0) (a b : ℕ) → IsLeastAt P a → IsLeastAt P b → a ≡ b
least_one P a b x y = omega (arith, x.least b y.holds_here, y.least a x.holds_here)

both_ways : {m n : ℕ} (f : ℕ → ℕ → CountFault) → {a b : ℕ} → m ≡ n → a ≡ b → fails_as (f m a) ≡ fails_as (f n b)
both_ways f p q = rw (p, q) refl

pub count_one : (p : Program) (r : Region) (n : ℕ) (a b : Result (Unit {0}) CountFault) → IsCountAnswer p r n a → IsCountAnswer p r n b → a ≡ b
count_one p r n (Ok u) (Ok v) x y = refl
count_one p r n (Ok u) (Err (NoStep m)) x y = absurd (x.cycles y.1)
count_one p r n (Ok u) (Err (OtherWrite m at)) x y = absurd (x.writes at y.2.holds_here)
count_one p r n (Ok u) (Err (Wraps m at)) x y = absurd (x.wraps at y.3.holds_here)
count_one p r n (Ok u) (Err (TooFew m needed)) x y = absurd (omega (arith, x.enough, y.4.more, y.4.needed_is, needed_one p r x.stride y.4.stride x.steps y.4.steps))
count_one p r n (Err (NoStep m)) (Ok v) x y = absurd (y.cycles x.1)
count_one p r n (Err (NoStep m)) (Err (NoStep k)) x y = ap (λ i. fails_as (NoStep i)) (x.0 ∙ sym y.0)
count_one p r n (Err (NoStep m)) (Err (OtherWrite k at)) x y = absurd (y.1 x.1)
count_one p r n (Err (NoStep m)) (Err (Wraps k at)) x y = absurd (y.1 x.1)
count_one p r n (Err (NoStep m)) (Err (TooFew k needed)) x y = absurd (y.1 x.1)
count_one p r n (Err (OtherWrite m at)) (Ok v) x y = absurd (y.writes at x.2.holds_here)
count_one p r n (Err (OtherWrite m at)) (Err (NoStep k)) x y = absurd (x.1 y.1)
count_one p r n (Err (OtherWrite m at)) (Err (OtherWrite k to)) x y = both_ways OtherWrite (x.0 ∙ sym y.0) (least_one (HasOtherWrite p r) at to x.2 y.2)
count_one p r n (Err (OtherWrite m at)) (Err (Wraps k to)) x y = absurd (y.2 at x.2.holds_here)
count_one p r n (Err (OtherWrite m at)) (Err (TooFew k needed)) x y = absurd (y.2 at x.2.holds_here)
count_one p r n (Err (Wraps m at)) (Ok v) x y = absurd (y.wraps at x.3.holds_here)
count_one p r n (Err (Wraps m at)) (Err (NoStep k)) x y = absurd (x.1 y.1)
count_one p r n (Err (Wraps m at)) (Err (OtherWrite k to)) x y = absurd (x.2 to y.2.holds_here)
count_one p r n (Err (Wraps m at)) (Err (Wraps k to)) x y = both_ways Wraps (x.0 ∙ sym y.0) (least_one (HasWrap p r) at to x.3 y.3)
count_one p r n (Err (Wraps m at)) (Err (TooFew k needed)) x y = absurd (y.3 at x.3.holds_here)
count_one p r n (Err (TooFew m needed)) (Ok v) x y = absurd (omega (arith, y.enough, x.4.more, x.4.needed_is, needed_one p r x.4.stride y.stride x.4.steps y.steps))
count_one p r n (Err (TooFew m needed)) (Err (NoStep k)) x y = absurd (x.1 y.1)
count_one p r n (Err (TooFew m needed)) (Err (OtherWrite k to)) x y = absurd (x.2 to y.2.holds_here)
count_one p r n (Err (TooFew m needed)) (Err (Wraps k to)) x y = absurd (x.3 to y.3.holds_here)
count_one p r n (Err (TooFew m needed)) (Err (TooFew k other)) x y = both_ways TooFew (x.0 ∙ sym y.0) (x.4.needed_is ∙ needed_one p r x.4.stride y.4.stride x.4.steps y.4.steps ∙ sym y.4.needed_is)

-- what is kept stays
pub still_proved : (code : Code) (g : Flow) (lines : List FactLine) (old new : Proved) → IsProved code g lines old → IsSame old new → IsProved code g lines new
still_proved code g lines old new p s = record {
  addresses_are = subst (λ v. v.items ≡ addresses_of g) (sym s.addresses) p.addresses_are;
  is_table = subst (λ t. IsTable lines t) (sym s.table) p.is_table;
  rows = subst (λ m. AreRowsOf g m) (sym s.masks) p.rows;
  masks_are = subst (λ m. AreMasks code g.entry (mask_in m)) (sym s.masks) p.masks_are;
  room = s.room (length g.units) p.room;
}
