-- The cuts that a job has passed are among the addresses at which the reference stood.
use Rattle.std.proofs.Common.{◌≡◌, refl, sym, ap, subst, ◌∙◌, inl, inr, ℕ, zero, suc, ◌+◌, ◌≤◌, ◌<◌, Bool, true, false, ◌||◌, List, [], ◌∷◌, length, drop, get_or, eqb-true, eq-eqb, arith}
use Rattle.std.proofs.Math.Seq.{drop-cons}
use Rattle.std.proofs.lemmas.List.{drop_all}
use Rattle.std.proofs.lemmas.Bool.{cases_lt}
use Rattle.std.proofs.lemmas.Grind.{common_steps}
use Rattle.std.specs.Prelude.{if◌then◌else◌, ◌==◌, slice_get}
use Rattle.mips_ref.specs.Mips.{Mips}
use Rattle.ooo_clock.specs.Along.{AreSteps, grown}
use Rattle.remaining_wcet.specs.Runs.{is_among}
use Rattle.timed_jobs.specs.Pace.{pcs_of}
use Rattle.mode_states.specs.Progress.{Progress, all_passed, ended_in, is_cut, passed}

-- the cuts before the sub-task under way are among these addresses
abbrev pub AreMet : List ℕ → Progress → List ℕ → Type 0
AreMet cuts p pcs = (j : ℕ) → j < length p.counts → is_among (get_or cuts j 0) pcs ≡ true

or_right : (a b : Bool) → b ≡ true → a || b ≡ true
or_right true b e = refl
or_right false b e = e

or_left : (a b : Bool) → a ≡ true → a || b ≡ true
or_left true b e = refl
or_left false b e = cc

among_more : (c pc : ℕ) (pcs : List ℕ) → is_among c pcs ≡ true → is_among c (pc ∷ pcs) ≡ true
among_more c pc pcs h = or_right (pc == c) (is_among c pcs) h

among_first : (c pc : ℕ) (pcs : List ℕ) → pc ≡ c → is_among c (pc ∷ pcs) ≡ true
among_first c pc pcs e = or_left (pc == c) (is_among c pcs) (eq-eqb pc c e)

-- the cut that an address is
cut_there : (cuts : List ℕ) (j pc : ℕ) → is_cut (slice_get cuts j) pc ≡ true → pc ≡ get_or cuts j 0
cut_there [] j pc h = cc
cut_there (c ∷ cuts) zero pc h = sym (eqb-true c pc h)
cut_there (c ∷ cuts) (suc j) pc h = cut_there cuts j pc h

one_met : (cuts : List ℕ) (n : ℕ) (p : Progress) (pc : ℕ) (pcs : List ℕ) → AreMet cuts p pcs
    → AreMet cuts (passed cuts n p pc) (pc ∷ pcs)
one_met cuts n p pc pcs met = by (is_cut (slice_get cuts (length p.counts)) pc) refl
  where
    by : (b : Bool) → is_cut (slice_get cuts (length p.counts)) pc ≡ b
        → AreMet cuts (if b then ended_in n p else p) (pc ∷ pcs)
    by false e = λ j l. among_more (get_or cuts j 0) pc pcs (met j l)
    by true e = λ j l. elim (cases_lt j (length p.counts)) [
      | inl before ↦ among_more (get_or cuts j 0) pc pcs (met j before)
      | inr later ↦
          let here : j ≡ length p.counts = grind (arith, common_steps, l, later) in
          among_first (get_or cuts j 0) pc pcs
          (cut_there cuts (length p.counts) pc e ∙ ap (λ i. get_or cuts i 0) (sym here))
    ]

pub all_met : (cuts : List ℕ) (n : ℕ) (x : Mips) (k : ℕ) (p : Progress) (pcs : List ℕ) → AreSteps x k pcs
    → AreMet cuts p (pcs_of k x)
    → AreMet cuts (all_passed cuts n p pcs) (pcs_of (grown k pcs) x)
unfolding all_passed AreSteps grown pcs_of
all_met cuts n x k p [] steps met = met
all_met cuts n x k p (pc ∷ pcs) steps met =
    let one = one_met cuts n p pc (pcs_of k x) met in
    let At : ℕ → Type 0 = λ a. AreMet cuts (passed cuts n p pc) (a ∷ pcs_of k x) in
    all_met cuts n x (suc k) (passed cuts n p pc) pcs steps.2 (subst At steps.1 one)

-- the addresses of a cycle, one after the other
pub pass_step : (cuts : List ℕ) (n : ℕ) (p q : Progress) (pcs : List ℕ) (i : ℕ) → i < length pcs
    → q ≡ passed cuts n p (get_or pcs i 0)
    → all_passed cuts n q (drop (i + 1) pcs) ≡ all_passed cuts n p (drop i pcs)
unfolding all_passed
pass_step cuts n p q pcs i below e =
    let next : i + 1 ≡ suc i = omega arith in
    (λ k. all_passed cuts n (e k) (drop (next k) pcs)) ∙ ap (λ l. all_passed cuts n p l) (sym (drop-cons pcs i 0 below))

pub pass_end : (cuts : List ℕ) (n : ℕ) (p : Progress) (pcs : List ℕ) (i : ℕ) → length pcs ≤ i
    → all_passed cuts n p (drop i pcs) ≡ p
unfolding all_passed
pass_end cuts n p pcs i past = ap (λ l. all_passed cuts n p l) (drop_all i pcs past)
