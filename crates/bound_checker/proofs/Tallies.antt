-- What instructions say of a region's count.
use Rattle.std.proofs.Common.{◌≡◌, ◌∙◌, refl, sym, ap, subst, ℕ, ℤ, ◌+◌, ◌<◌, ◌≤◌, Bool, true, false, arith, List, ◌⊎◌, inl, inr, Option, Some, None, length}
use Rattle.std.specs.Prelude.{not, ◌==◌, if◌then◌else◌, unsigned_abs}
use Rattle.std.proofs.lemmas.Bool.{cases_eq, eq-eqb, eqb-true, ne_eqb}
use Rattle.visa_io.specs.declared.records.Code.{Code}
use Rattle.visa_io.specs.declared.records.FactLine.{FactLine}
use Rattle.visa_io.specs.declared.records.Region.{Region}
use Rattle.mips_isa.specs.Names.{writes_of}
use Rattle.mips_isa.specs.declared.instr.Instr.{Instr}
use Rattle.flow_graph.specs.Calls.{IsLeast}
use Rattle.flow_graph.specs.Code.{instr_at, is_control_at}
use Rattle.flow_graph.specs.Faults.{is_word_of}
use Rattle.flow_graph.specs.Flow.{Flow, IsGraph, IsUnit}
use Rattle.flow_graph.specs.Own.{lesser}
use Rattle.flow_graph.specs.declared.parts.Unit.{Unit as FlowUnit}
use Rattle.flow_graph.proofs.Levels.{lesser_least}
use Rattle.flow_graph.proofs.OwnFaults.{word_cases, word_here, word_slot}
use Rattle.range_facts.proofs.Sets.{unknown_fact}
use Rattle.range_facts.specs.Ranges.{IsFact}
use Rattle.range_facts.specs.Transfer.{AreFacts, fact_of}
use Rattle.range_facts.specs.declared.along.Along.{Along}
use Rattle.range_facts.specs.declared.strided.Strided.{Strided}
use Rattle.run_law.specs.Certificate.{before_nth, behind}
use Rattle.run_law.specs.Counts.{is_up, stays_fit, step_by}
use Rattle.bound_checker.specs.Ends.{behind_first_of}
use Rattle.bound_checker.specs.Lines.{blocks_of}
use Rattle.bound_checker.specs.Tally.{GoesWay, HasSize, HasStep, HasWrite, IsAmong, IsIn, IsTally, MayWrap, address_at, before_word, empty, is_register, joined, of_instr, of_other, of_step, of_step_if, of_unit, only_if, with_slot, writes_counter}
use Rattle.bound_checker.specs.Walk.{IsWalked, begun_with, header_fact}
use Rattle.bound_checker.specs.declared.tally.Tally.{Tally}
use Rattle.bound_checker.specs.declared.walk.Walked.{Walked}
use Rattle.bound_checker.proofs.Recorded.{slot_stands}
use Rattle.bound_checker.proofs.Searching.{control_at, control_of, same_number}

true_false : {P : Type 0} → true ≡ false → P
true_false e = absurd (let b : ⊥ = cc in b)

pub least_same : (P Q : ℕ → Type 0) (o : Option ℕ) → ((n : ℕ) → P n → Q n) → ((n : ℕ) → Q n → P n) → IsLeast P o → IsLeast Q o
least_same P Q None on back h = λ n q. h n (back n q)
least_same P Q (Some a) on back h = (on a h.0, λ n q. h.1 n (back n q))

-- one set of instructions, each with the counter's fact before it, is the union of two
pub record AreBoth (P Q R : ℕ → Instr → Strided → Type 0) : Type 0 where
  pub split : (at : ℕ) (i : Instr) (s : Strided) → R at i s → P at i s ⊎ Q at i s
  pub first : (at : ℕ) (i : Instr) (s : Strided) → P at i s → R at i s
  pub second : (at : ℕ) (i : Instr) (s : Strided) → Q at i s → R at i s

step_in : (c : ℕ) (P R : ℕ → Instr → Strided → Type 0) (at : ℕ) (by : ℤ) → ((a : ℕ) (i : Instr) (s : Strided) → P a i s → R a i s) → HasStep c P at by → HasStep c R at by
step_in c P R at by on h = record { instr = h.instr; fact = h.fact; among = on at h.instr h.fact h.among; steps = h.steps }

step_split : (c : ℕ) (P Q R : ℕ → Instr → Strided → Type 0) (at : ℕ) (by : ℤ) → AreBoth P Q R → (h : HasStep c R at by) → ((x : HasStep c P at by) × (x.fact ≡ h.fact)) ⊎ ((x : HasStep c Q at by) × (x.fact ≡ h.fact))
step_split c P Q R at by both h = elim (both.split at h.instr h.fact h.among) [
  | inl p ↦ inl (record { instr = h.instr; fact = h.fact; among = p; steps = h.steps }, refl)
  | inr q ↦ inr (record { instr = h.instr; fact = h.fact; among = q; steps = h.steps }, refl)
]

pub tally_both : (c : ℕ) (P Q R : ℕ → Instr → Strided → Type 0) (s t : Tally) → AreBoth P Q R → IsTally c P s → IsTally c Q t → IsTally c R (joined s t)
unfolding step_in
tally_both c P Q R s t both p q = record {
  up = ways true s.up t.up p.up q.up;
  down = ways false s.down t.down p.down q.down;
  size = least_same (λ n. HasSize c P n ⊎ HasSize c Q n) (HasSize c R) (lesser s.size t.size)
      (λ n h. elim h [ inl x ↦ (x.0, x.1, step_in c P R x.0 x.1 both.first x.2, x.3) | inr y ↦ (y.0, y.1, step_in c Q R y.0 y.1 both.second y.2, y.3) ])
      (λ n h. elim (step_split c P Q R h.0 h.1 both h.2) [ inl x ↦ inl (h.0, h.1, x.0, h.3) | inr y ↦ inr (h.0, h.1, y.0, h.3) ])
      (lesser_least (HasSize c P) (HasSize c Q) s.size t.size p.size q.size);
  other = least_same (λ n. HasWrite c P n ⊎ HasWrite c Q n) (HasWrite c R) (lesser s.other t.other)
      (λ n h. elim h [
        | inl x ↦ record { instr = x.instr; fact = x.fact; among = both.first n x.instr x.fact x.among; writes = x.writes; no_step = x.no_step }
        | inr y ↦ record { instr = y.instr; fact = y.fact; among = both.second n y.instr y.fact y.among; writes = y.writes; no_step = y.no_step }
      ])
      (λ n h. elim (both.split n h.instr h.fact h.among) [
        | inl x ↦ inl (record { instr = h.instr; fact = h.fact; among = x; writes = h.writes; no_step = h.no_step })
        | inr y ↦ inr (record { instr = h.instr; fact = h.fact; among = y; writes = h.writes; no_step = h.no_step })
      ])
      (lesser_least (HasWrite c P) (HasWrite c Q) s.other t.other p.other q.other);
  wraps = least_same (λ n. MayWrap c P n ⊎ MayWrap c Q n) (MayWrap c R) (lesser s.wraps t.wraps)
      (λ n h. elim h [ inl x ↦ (x.0, step_in c P R n x.0 both.first x.1, x.2) | inr y ↦ (y.0, step_in c Q R n y.0 both.second y.1, y.2) ])
      (λ n h. elim (step_split c P Q R n h.0 both h.1) [
        | inl x ↦ inl (h.0, x.0, ap (λ f. stays_fit f h.0) x.1 ∙ h.2)
        | inr y ↦ inr (h.0, y.0, ap (λ f. stays_fit f h.0) y.1 ∙ h.2)
      ])
      (lesser_least (MayWrap c P) (MayWrap c Q) s.wraps t.wraps p.wraps q.wraps);
}
  where
    ways : (up : Bool) (a b : Option ℕ) → IsLeast (GoesWay c P up) a → IsLeast (GoesWay c Q up) b → IsLeast (GoesWay c R up) (lesser a b)
    ways up a b x y = least_same (λ n. GoesWay c P up n ⊎ GoesWay c Q up n) (GoesWay c R up) (lesser a b)
        (λ n h. elim h [ inl u ↦ (u.0, step_in c P R n u.0 both.first u.1, u.2) | inr v ↦ (v.0, step_in c Q R n v.0 both.second v.1, v.2) ])
        (λ n h. elim (step_split c P Q R n h.0 both h.1) [ inl u ↦ inl (h.0, u.0, h.2) | inr v ↦ inr (h.0, v.0, h.2) ])
        (lesser_least (GoesWay c P up) (GoesWay c Q up) a b x y)

pub tally_none : (c : ℕ) (P : ℕ → Instr → Strided → Type 0) → ((at : ℕ) (i : Instr) (s : Strided) → P at i s → ⊥) → IsTally c P empty
tally_none c P none = record {
  up = λ n h. none n h.1.instr h.1.fact h.1.among;
  down = λ n h. none n h.1.instr h.1.fact h.1.among;
  size = λ n h. none h.0 h.2.instr h.2.fact h.2.among;
  other = λ n h. none n h.instr h.fact h.among;
  wraps = λ n h. none n h.1.instr h.1.fact h.1.among;
}

-- the same set
pub tally_same : (c : ℕ) (P R : ℕ → Instr → Strided → Type 0) (t : Tally) → ((a : ℕ) (i : Instr) (s : Strided) → P a i s → R a i s) → ((a : ℕ) (i : Instr) (s : Strided) → R a i s → P a i s) → IsTally c P t → IsTally c R t
unfolding step_in
tally_same c P R t on back p = record {
  up = least_same (GoesWay c P true) (GoesWay c R true) t.up (λ n h. (h.0, step_in c P R n h.0 on h.1, h.2)) (λ n h. (h.0, step_in c R P n h.0 back h.1, h.2)) p.up;
  down = least_same (GoesWay c P false) (GoesWay c R false) t.down (λ n h. (h.0, step_in c P R n h.0 on h.1, h.2)) (λ n h. (h.0, step_in c R P n h.0 back h.1, h.2)) p.down;
  size = least_same (HasSize c P) (HasSize c R) t.size (λ n h. (h.0, h.1, step_in c P R h.0 h.1 on h.2, h.3)) (λ n h. (h.0, h.1, step_in c R P h.0 h.1 back h.2, h.3)) p.size;
  other = least_same (HasWrite c P) (HasWrite c R) t.other
      (λ n h. record { instr = h.instr; fact = h.fact; among = on n h.instr h.fact h.among; writes = h.writes; no_step = h.no_step })
      (λ n h. record { instr = h.instr; fact = h.fact; among = back n h.instr h.fact h.among; writes = h.writes; no_step = h.no_step }) p.other;
  wraps = least_same (MayWrap c P) (MayWrap c R) t.wraps (λ n h. (h.0, step_in c P R n h.0 on h.1, h.2)) (λ n h. (h.0, step_in c R P n h.0 back h.1, h.2)) p.wraps;
}

-- one instruction
pub record IsOne (at : ℕ) (i : Instr) (s : Strided) (a : ℕ) (j : Instr) (f : Strided) : Type 0 where
  pub at_is : a ≡ at
  pub instr : j ≡ i
  pub fact : f ≡ s

no_step : (c : ℕ) (i : Instr) (by : ℤ) → step_by c i ≡ None → step_by c i ≡ Some by → ⊥
no_step c i by none some = let never : None ≡ Some by = sym none ∙ some in cc

one_step : (c : ℕ) (i : Instr) (a b : ℤ) → step_by c i ≡ Some a → step_by c i ≡ Some b → b ≡ a
one_step c i a b p q = let same : Some a ≡ Some b = sym p ∙ q in cc

pub register_is : (c : ℕ) (o : Option ℕ) → is_register c o ≡ true → o ≡ Some c
register_is c None e = true_false (sym e)
register_is c (Some r) e = ap Some (eqb-true r c e)

pub is_the_register : (c : ℕ) (o : Option ℕ) → o ≡ Some c → is_register c o ≡ true
is_the_register c o e = ap (is_register c) e ∙ eq-eqb c c refl

-- a number that is told where a test holds
pub only_least : (test : Bool) (at : ℕ) (P : ℕ → Type 0) → (test ≡ true → P at) → ((n : ℕ) → P n → (n ≡ at) × (test ≡ true)) → IsLeast P (only_if test at)
only_least true at P holds back = (holds refl, λ n p. omega (arith, (back n p).0))
only_least false at P holds back = λ n p. true_false (sym (back n p).1)

is_false : (b : Bool) → b ≡ false → not b ≡ true
is_false b e = ap not e

not_true : (b : Bool) → not b ≡ true → b ≡ false
not_true true e = true_false (sym e)
not_true false e = refl

pub tally_one : (c at : ℕ) (i : Instr) (s : Strided) → IsTally c (IsOne at i s) (of_instr c at i s)
unfolding of_instr
tally_one c at i s = by_step (step_by c i) refl
  where
    here : (n : ℕ) (by : ℤ) (h : HasStep c (IsOne at i s) n by) → step_by c i ≡ Some by
    here n by h = ap (step_by c) (sym h.among.instr) ∙ h.steps

    step : (by : ℤ) → step_by c i ≡ Some by → HasStep c (IsOne at i s) at by
    step by e = record { instr = i; fact = s; among = record { at_is = refl; instr = refl; fact = refl }; steps = e }

    write : writes_counter c i ≡ true → step_by c i ≡ None → HasWrite c (IsOne at i s) at
    write w e = record { instr = i; fact = s; among = record { at_is = refl; instr = refl; fact = refl }; writes = register_is c (writes_of i) w; no_step = e }

    none : step_by c i ≡ None → IsTally c (IsOne at i s) (of_other at (writes_counter c i))
    none e = record {
      up = λ n h. absurd (no_step c i h.0 e (here n h.0 h.1));
      down = λ n h. absurd (no_step c i h.0 e (here n h.0 h.1));
      size = λ n h. absurd (no_step c i h.1 e (here h.0 h.1 h.2));
      other = only_least (writes_counter c i) at (HasWrite c (IsOne at i s)) (λ w. write w e) (λ n h. (h.among.at_is, is_the_register c (writes_of i) (ap writes_of (sym h.among.instr) ∙ h.writes)));
      wraps = λ n h. absurd (no_step c i h.0 e (here n h.0 h.1));
    }

    some : (by : ℤ) → step_by c i ≡ Some by → IsTally c (IsOne at i s) (of_step at by s)
    some by e = record {
      up = only_least (is_up by) at (GoesWay c (IsOne at i s) true) (λ u. (by, step by e, u)) (λ n h. (h.1.among.at_is, ap is_up (sym (one_step c i by h.0 e (here n h.0 h.1))) ∙ h.2));
      down = only_least (not (is_up by)) at (GoesWay c (IsOne at i s) false) (λ u. (by, step by e, not_true (is_up by) u)) (λ n h. (h.1.among.at_is, is_false (is_up by) (ap is_up (sym (one_step c i by h.0 e (here n h.0 h.1))) ∙ h.2)));
      size = ((at, by, step by e, refl), λ n h. same_size n (sym h.3 ∙ ap unsigned_abs (one_step c i by h.1 e (here h.0 h.1 h.2))));
      other = λ n h. absurd (no_step c i by (ap (step_by c) (sym h.among.instr) ∙ h.no_step) e);
      wraps = only_least (not (stays_fit s by)) at (MayWrap c (IsOne at i s)) (λ u. (by, step by e, not_true (stays_fit s by) u))
          (λ n h. (h.1.among.at_is, is_false (stays_fit s by) (ap (λ f. stays_fit f by) (sym h.1.among.fact) ∙ ap (stays_fit h.1.fact) (sym (one_step c i by h.0 e (here n h.0 h.1))) ∙ h.2)));
    }
      where
        same_size : (n : ℕ) → n ≡ unsigned_abs by → unsigned_abs by ≤ n
        same_size n is = omega (arith, is)

    by_step : (o : Option ℤ) → step_by c i ≡ o → IsTally c (IsOne at i s) (of_step_if o at (writes_counter c i) s)
    by_step None e = none e
    by_step (Some by) e = some by e

-- the instructions of a unit
same_instr : (a b : Instr) → Some a ≡ Some b → a ≡ b
same_instr a b e = cc

before_first : (code : Code) (g : Flow) (lines : List FactLine) (k at : ℕ) → at ≡ address_at g k → before_word code g lines k at ≡ before_nth code (blocks_of g lines) k
before_first code g lines k at e = ap (λ b. if b then before_nth code (blocks_of g lines) k else behind (instr_at code (address_at g k)) (address_at g k) (before_nth code (blocks_of g lines) k)) (eq-eqb at (address_at g k) e)

before_slot : (code : Code) (g : Flow) (lines : List FactLine) (k at : ℕ) → at ≡ address_at g k + 4 → before_word code g lines k at ≡ behind (instr_at code (address_at g k)) (address_at g k) (before_nth code (blocks_of g lines) k)
before_slot code g lines k at e =
    ap (λ b. if b then before_nth code (blocks_of g lines) k else behind (instr_at code (address_at g k)) (address_at g k) (before_nth code (blocks_of g lines) k)) (ne_eqb at (address_at g k) (λ same. omega (arith, same, e)))

-- what is known of the unit of a number
pub record IsHere (code : Code) (g : Flow) (lines : List FactLine) (k : ℕ) (unit : FlowUnit) (a : Along) : Type 0 where
  pub is : IsUnit code g.entry unit
  pub at : address_at g k ≡ unit.at
  pub before : a ≡ before_nth code (blocks_of g lines) k

in_first : (code : Code) (g : Flow) (lines : List FactLine) (c k : ℕ) (unit : FlowUnit) (a : Along) → IsHere code g lines k unit a → (at : ℕ) (i : Instr) (s : Strided) → IsOne unit.at unit.first (fact_of a.facts c) at i s → IsIn code g lines c k at i s
in_first code g lines c k unit a h at i s one = record {
  word = subst (λ n. is_word_of code n at ≡ true) (sym h.at) (subst (λ n. is_word_of code unit.at n ≡ true) (sym one.at_is) (word_here code unit.at));
  stands = ap (instr_at code) one.at_is ∙ h.is.first ∙ ap Some (sym one.instr);
  fact = one.fact ∙ ap (λ (b : Along). fact_of b.facts c) (h.before ∙ sym (before_first code g lines k at (one.at_is ∙ sym h.at)));
}

first_in : (code : Code) (g : Flow) (lines : List FactLine) (c k : ℕ) (unit : FlowUnit) (a : Along) → IsHere code g lines k unit a → (at : ℕ) (i : Instr) (s : Strided) → at ≡ unit.at → IsIn code g lines c k at i s → IsOne unit.at unit.first (fact_of a.facts c) at i s
first_in code g lines c k unit a h at i s same is = record {
  at_is = same;
  instr = same_instr i unit.first (sym is.stands ∙ ap (instr_at code) same ∙ h.is.first);
  fact = is.fact ∙ ap (λ (b : Along). fact_of b.facts c) (before_first code g lines k at (same ∙ sym h.at) ∙ sym h.before);
}

behind_is : (code : Code) (g : Flow) (lines : List FactLine) (k : ℕ) (unit : FlowUnit) (a : Along) → IsHere code g lines k unit a → behind (instr_at code (address_at g k)) (address_at g k) (before_nth code (blocks_of g lines) k) ≡ behind_first_of unit a
behind_is code g lines k unit a h =
    ap (λ n. behind (instr_at code n) n (before_nth code (blocks_of g lines) k)) h.at ∙ ap (λ o. behind o unit.at (before_nth code (blocks_of g lines) k)) h.is.first ∙ ap (behind_first_of unit) (sym h.before)

in_slot : (code : Code) (g : Flow) (lines : List FactLine) (c k : ℕ) (unit : FlowUnit) (slot : Instr) (a : Along) → IsHere code g lines k unit a → unit.slot ≡ Some slot → (at : ℕ) (i : Instr) (s : Strided)
    → IsOne (unit.at + 4) slot (fact_of (behind_first_of unit a).facts c) at i s → IsIn code g lines c k at i s
in_slot code g lines c k unit slot a h has at i s one =
    let control = control_of code g.entry unit h.is slot has in
    record {
      word = subst (λ n. is_word_of code n at ≡ true) (sym h.at) (subst (λ n. is_word_of code unit.at n ≡ true) (sym one.at_is) (word_slot code unit.at (control_at code g.entry unit h.is ∙ control)));
      stands = ap (instr_at code) one.at_is ∙ slot_stands code g.entry unit h.is control ∙ has ∙ ap Some (sym one.instr);
      fact = one.fact ∙ ap (λ (b : Along). fact_of b.facts c) (sym (before_slot code g lines k at (one.at_is ∙ ap (λ n. n + 4) (sym h.at)) ∙ behind_is code g lines k unit a h));
    }

slot_in : (code : Code) (g : Flow) (lines : List FactLine) (c k : ℕ) (unit : FlowUnit) (slot : Instr) (a : Along) → IsHere code g lines k unit a → unit.slot ≡ Some slot → (at : ℕ) (i : Instr) (s : Strided) → at ≡ unit.at + 4
    → IsIn code g lines c k at i s → IsOne (unit.at + 4) slot (fact_of (behind_first_of unit a).facts c) at i s
slot_in code g lines c k unit slot a h has at i s same is =
    let control = control_of code g.entry unit h.is slot has in
    record {
      at_is = same;
      instr = same_instr i slot (sym is.stands ∙ ap (instr_at code) same ∙ slot_stands code g.entry unit h.is control ∙ has);
      fact = is.fact ∙ ap (λ (b : Along). fact_of b.facts c) (before_slot code g lines k at (same ∙ ap (λ n. n + 4) (sym h.at)) ∙ behind_is code g lines k unit a h);
    }

pub tally_unit : (code : Code) (g : Flow) (lines : List FactLine) (c k : ℕ) (unit : FlowUnit) (a : Along) → IsHere code g lines k unit a → IsTally c (IsIn code g lines c k) (of_unit c unit a)
unfolding of_unit
tally_unit code g lines c k unit a h = by_slot unit.slot refl
  where
    words : (at : ℕ) (i : Instr) (s : Strided) → IsIn code g lines c k at i s → (at ≡ unit.at) ⊎ ((is_control_at code unit.at ≡ true) × (at ≡ unit.at + 4))
    words at i s is = word_cases code unit.at at (subst (λ n. is_word_of code n at ≡ true) h.at is.word)

    no_slot : (i : Instr) → None ≡ Some i → ⊥
    no_slot i e = cc

    by_slot : (o : Option Instr) → unit.slot ≡ o → IsTally c (IsIn code g lines c k) (with_slot c unit a o (of_instr c unit.at unit.first (fact_of a.facts c)))
    by_slot None e = tally_same c (IsOne unit.at unit.first (fact_of a.facts c)) (IsIn code g lines c k) (of_instr c unit.at unit.first (fact_of a.facts c)) (in_first code g lines c k unit a h)
        (λ at i s is. elim (words at i s is) [
          | inl same ↦ first_in code g lines c k unit a h at i s same is
          | inr (control, there) ↦ absurd (no_slot i (sym e ∙ sym (slot_stands code g.entry unit h.is (sym (control_at code g.entry unit h.is) ∙ control)) ∙ ap (instr_at code) (sym there) ∙ is.stands))
        ])
        (tally_one c unit.at unit.first (fact_of a.facts c))
    by_slot (Some slot) e = tally_both c (IsOne unit.at unit.first (fact_of a.facts c)) (IsOne (unit.at + 4) slot (fact_of (behind_first_of unit a).facts c)) (IsIn code g lines c k) (of_instr c unit.at unit.first (fact_of a.facts c)) (of_instr c (unit.at + 4) slot (fact_of (behind_first_of unit a).facts c))
        (record {
          split = λ at i s is. elim (words at i s is) [
            | inl same ↦ inl (first_in code g lines c k unit a h at i s same is)
            | inr (control, there) ↦ inr (slot_in code g lines c k unit slot a h e at i s there is)
          ];
          first = in_first code g lines c k unit a h;
          second = in_slot code g lines c k unit slot a h e;
        })
        (tally_one c unit.at unit.first (fact_of a.facts c)) (tally_one c (unit.at + 4) slot (fact_of (behind_first_of unit a).facts c))

-- the units of some numbers
pub walked_none : (code : Code) (g : Flow) (lines : List FactLine) (region : Region) (lo : ℕ) (a : Along) → IsWalked code g lines region lo lo (begun_with a)
walked_none code g lines region lo a = record {
  says = tally_none region.counter (IsAmong code g lines region.counter lo lo) (λ at i s h. omega (arith, h.1, h.2));
  before = λ k from below. absurd (omega (arith, from, below));
  fact = unknown_fact;
}

pub walked_more : (code : Code) (g : Flow) (lines : List FactLine) (region : Region) (lo k : ℕ) (unit : FlowUnit) (a : Along) (w new : Walked) → IsGraph code g.entry g → k < length g.units → IsHere code g lines k unit a → AreFacts a.facts → lo ≤ k
    → new.tally ≡ joined w.tally (of_unit region.counter unit a) → new.fact ≡ header_fact region unit a w.fact → IsWalked code g lines region lo k w → IsWalked code g lines region lo (k + 1) new
walked_more code g lines region lo k unit a w new graph within h facts low tally fact walked = record {
  says = subst (IsTally region.counter (IsAmong code g lines region.counter lo (k + 1))) (sym tally)
      (tally_both region.counter (IsAmong code g lines region.counter lo k) (IsIn code g lines region.counter k) (IsAmong code g lines region.counter lo (k + 1)) w.tally (of_unit region.counter unit a)
      (record {
        split = λ at i s (j, from, below, is). elim (cases_eq j k) [
          | inl same ↦ inr (subst (λ n. IsIn code g lines region.counter n at i s) same is)
          | inr other ↦ inl (j, from, omega (arith, below, other), is)
        ];
        first = λ at i s (j, from, below, is). (j, from, omega (arith, below), is);
        second = λ at i s is. (k, low, omega arith, is);
      })
      walked.says (tally_unit code g lines region.counter k unit a h));
  before = λ j from below at. elim (cases_eq j k) [
    | inl same ↦ fact ∙ ap (λ b. if b then fact_of a.facts region.counter else w.fact) (eq-eqb unit.at region.header (sym h.at ∙ ap (address_at g) (sym same) ∙ at)) ∙ ap (λ (b : Along). fact_of b.facts region.counter) (h.before ∙ ap (before_nth code (blocks_of g lines)) (sym same))
    | inr other ↦ elim (cases_eq unit.at region.header) [
      | inl here ↦ earlier j from (omega (arith, below, other)) at here
      | inr else_ ↦ fact ∙ ap (λ b. if b then fact_of a.facts region.counter else w.fact) (ne_eqb unit.at region.header else_) ∙ walked.before j from (omega (arith, below, other)) at
    ]
  ];
  fact = subst IsFact (sym fact) (by_test (unit.at == region.header));
}
  where
    by_test : (b : Bool) → IsFact (if b then fact_of a.facts region.counter else w.fact)
    by_test true = facts.each region.counter
    by_test false = walked.fact

    earlier : (j : ℕ) → lo ≤ j → j < k → address_at g j ≡ region.header → unit.at ≡ region.header → new.fact ≡ fact_of (before_nth code (blocks_of g lines) j).facts region.counter
    earlier j from below at here = let same = same_number g code j k graph (omega (arith, below, within)) within (at ∙ sym here ∙ sym h.at) in absurd (omega (arith, same, below))
