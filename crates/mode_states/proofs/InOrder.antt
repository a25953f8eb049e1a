-- A job of an admitted task passes its cuts in order, so the sub-task under way is the one that it is inside.
use Rattle.std.proofs.Common.{◌≡◌, refl, sym, ap, subst, ◌∙◌, inl, inr, ℕ, zero, suc, ◌+◌, ◌-◌, ◌≤◌, ◌<◌, Bool, true, false, ◌||◌, ◌⊎◌, List, [], ◌∷◌, length, get_or, eqb-true, eq-eqb, arith, length-append}
use Rattle.std.proofs.lemmas.Bool.{cases_lt}
use Rattle.std.specs.Prelude.{if◌then◌else◌, ◌==◌, slice_get}
use Rattle.mips_ref.specs.Job.{after}
use Rattle.mips_ref.specs.Mips.{Mips}
use Rattle.ooo_clock.specs.Along.{AllWent, AreSteps, grown}
use Rattle.remaining_wcet.specs.Runs.{cuts_met, is_among}
use Rattle.timed_jobs.specs.Pace.{pcs_of}
use Rattle.mode_states.specs.Progress.{Progress, all_passed, ended_in, is_cut, passed}

-- the cuts from the sub-task under way on aren't among these addresses
abbrev pub AreUnmet : List ℕ → Progress → List ℕ → Type 0
AreUnmet cuts p pcs = (j : ℕ) → length p.counts ≤ j → j < length cuts → is_among (get_or cuts j 0) pcs ≡ true → ⊥

-- a job comes to a cut only after the cut before it, and doesn't open at one
pub record IsOrdered (cuts : List ℕ) (x : Mips) : Type 0 where
  pub opens : (j : ℕ) → j < length cuts → get_or cuts j 0 ≡ x.pc → ⊥
  pub order : (k : ℕ) → AllWent (suc k) x → (j : ℕ) → suc j < length cuts → get_or cuts (suc j) 0 ≡ (after (suc k) x).pc
      → is_among (get_or cuts j 0) (pcs_of k x) ≡ true

or_cases : (a b : Bool) → a || b ≡ true → (a ≡ true) ⊎ (b ≡ true)
or_cases true b e = inl refl
or_cases false b e = inr e

is_cut_there : (cuts : List ℕ) (j pc : ℕ) → j < length cuts → get_or cuts j 0 ≡ pc → is_cut (slice_get cuts j) pc ≡ true
is_cut_there [] j pc below e = absurd (omega (arith, below))
is_cut_there (c ∷ cuts) zero pc below e = eq-eqb c pc e
is_cut_there (c ∷ cuts) (suc j) pc below e = is_cut_there cuts j pc (omega (arith, below)) e

one_unmet : (cuts : List ℕ) (n : ℕ) (p : Progress) (pc : ℕ) (pcs : List ℕ) → AreUnmet cuts p pcs
    → ((j : ℕ) → j < length cuts → get_or cuts j 0 ≡ pc → j ≤ length p.counts)
    → AreUnmet cuts (passed cuts n p pc) (pc ∷ pcs)
one_unmet cuts n p pc pcs unmet first = by (is_cut (slice_get cuts (length p.counts)) pc) refl
  where
    by : (b : Bool) → is_cut (slice_get cuts (length p.counts)) pc ≡ b
        → AreUnmet cuts (if b then ended_in n p else p) (pc ∷ pcs)
    by true e = λ j past below among. elim (or_cases (pc == get_or cuts j 0) (is_among (get_or cuts j 0) pcs) among) [
      | inl here ↦
          let low = first j below (sym (eqb-true pc (get_or cuts j 0) here)) in
          omega (arith, low, past, length-append p.counts ((n - p.last) ∷ []))
      | inr earlier ↦ unmet j (omega (arith, past, length-append p.counts ((n - p.last) ∷ []))) below earlier
    ]
    by false e = λ j past below among. elim (or_cases (pc == get_or cuts j 0) (is_among (get_or cuts j 0) pcs) among) [
      | inl here ↦
          let at : get_or cuts j 0 ≡ pc = sym (eqb-true pc (get_or cuts j 0) here) in
          let low = first j below at in
          let same : j ≡ length p.counts = omega (arith, low, past) in
          let no : false ≡ true = sym e ∙ is_cut_there cuts (length p.counts) pc (omega (arith, below, same))
          (ap (λ i. get_or cuts i 0) (sym same) ∙ at) in
          cc
      | inr earlier ↦ unmet j past below earlier
    ]

-- the first of the cuts that are left comes next
next_first : (cuts : List ℕ) (x : Mips) (k : ℕ) (p : Progress) → IsOrdered cuts x → AllWent (suc k) x
    → AreUnmet cuts p (pcs_of k x)
    → (j : ℕ) → j < length cuts → get_or cuts j 0 ≡ (after (suc k) x).pc → j ≤ length p.counts
next_first cuts x k p o went unmet zero below here = omega arith
next_first cuts x k p o went unmet (suc j) below here = elim (cases_lt j (length p.counts)) [
  | inl early ↦ omega (arith, early)
  | inr late ↦ absurd (unmet j late (omega (arith, below)) (o.order k went j below here))
]

more_grown : (k : ℕ) (pcs : List ℕ) → k ≤ grown k pcs
unfolding grown
more_grown k [] = omega arith
more_grown k (pc ∷ pcs) = omega (arith, more_grown (suc k) pcs)

pub all_unmet : (cuts : List ℕ) (n : ℕ) (x : Mips) (k : ℕ) (p : Progress) (pcs : List ℕ) → IsOrdered cuts x
    → AreSteps x k pcs → AllWent (grown k pcs) x
    → AreUnmet cuts p (pcs_of k x) → AreUnmet cuts (all_passed cuts n p pcs) (pcs_of (grown k pcs) x)
unfolding all_passed AreSteps grown pcs_of
all_unmet cuts n x k p [] o steps went unmet = unmet
all_unmet cuts n x k p (pc ∷ pcs) o steps went unmet =
    let some = more_grown (suc k) pcs in
    let first = next_first cuts x k p o (λ i l. went i (omega (arith, l, some))) unmet in
    let one = one_unmet cuts n p pc (pcs_of k x) unmet (λ j below at. first j below (at ∙ steps.1)) in
    let At : ℕ → Type 0 = λ a. AreUnmet cuts (passed cuts n p pc) (a ∷ pcs_of k x) in
    all_unmet cuts n x (suc k) (passed cuts n p pc) pcs o steps.2 went (subst At steps.1 one)

-- as the job opens none is met
pub none_met : (cuts : List ℕ) (x : Mips) (p : Progress) → IsOrdered cuts x → AreUnmet cuts p (pcs_of 0 x)
unfolding pcs_of
none_met cuts x p o j past below among = elim (or_cases (x.pc == get_or cuts j 0) false among) [
  | inl here ↦ o.opens j below (sym (eqb-true x.pc (get_or cuts j 0) here))
  | inr other ↦ cc
]

-- so exactly as many cuts are met
pub exact_count : (cuts pcs : List ℕ) (m : ℕ) → m ≤ length cuts
    → ((j : ℕ) → j < m → is_among (get_or cuts j 0) pcs ≡ true)
    → ((j : ℕ) → m ≤ j → j < length cuts → is_among (get_or cuts j 0) pcs ≡ true → ⊥) → m ≡ cuts_met cuts pcs
exact_count [] pcs m l met unmet = omega (arith, l)
exact_count (c ∷ cuts) pcs zero l met unmet =
    let later = exact_count cuts pcs 0 (omega arith) (λ j low. absurd (omega (arith, low)))
    (λ j low below. unmet (suc j) (omega arith) (omega (arith, below))) in
    by (is_among c pcs) (unmet 0 (omega arith) (omega arith)) (cuts_met cuts pcs) later
  where
    by : (b : Bool) → (b ≡ true → ⊥) → (n : ℕ) → 0 ≡ n → 0 ≡ (if b then 1 else 0) + n
    by true absent n e = absurd (absent refl)
    by false absent n e = omega (arith, e)
exact_count (c ∷ cuts) pcs (suc m) l met unmet =
    let first : is_among c pcs ≡ true = met 0 (omega arith) in
    let later = exact_count cuts pcs m (omega (arith, l)) (λ j low. met (suc j) (omega (arith, low)))
    (λ j low below. unmet (suc j) (omega (arith, low)) (omega (arith, below))) in
    let one = ap (λ (b : Bool). let n : ℕ = if b then 1 else 0 in n) first in
    omega (arith, later, one)

-- an address at which a job stood is among those that it passed
pub stood_among : (x : Mips) (k m c : ℕ) → m ≤ k → (after m x).pc ≡ c → is_among c (pcs_of k x) ≡ true
unfolding pcs_of after
stood_among x zero m c l e =
    let same : m ≡ 0 = omega (arith, l) in
    let here : x.pc ≡ c = sym (ap (λ i. (after i x).pc) same) ∙ e in
    ap (λ b. b || false) (eq-eqb x.pc c here)
stood_among x (suc k) m c l e = elim (cases_lt m (suc k)) [
  | inl before ↦ later ((after (suc k) x).pc == c) (is_among c (pcs_of k x))
      (stood_among x k m c (omega (arith, before)) e)
  | inr last ↦
      let same : m ≡ suc k = omega (arith, l, last) in
      ap (λ b. b || is_among c (pcs_of k x)) (eq-eqb ((after (suc k) x).pc) c (sym (ap (λ i. (after i x).pc) same) ∙ e))
]
  where
    later : (a b : Bool) → b ≡ true → a || b ≡ true
    later true b h = refl
    later false b h = h
