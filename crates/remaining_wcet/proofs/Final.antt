-- The law of suffixes in the form that the modes need.
use Rattle.std.proofs.Common.{◌≡◌, refl, sym, ap, subst, ◌∙◌, inl, inr, ℕ, zero, suc, ◌+◌, ◌-◌, ◌≤◌, ◌<◌, Bool, true, false, List, [], ◌∷◌, length, drop, arith}
use Rattle.std.specs.Prelude.{if◌then◌else◌}
use Rattle.std.proofs.lemmas.Bool.{cases_lt}
use Rattle.loop_regions.specs.Costs.{Prices}
use Rattle.remaining_wcet.specs.Executed.{Clock, total_cost}
use Rattle.remaining_wcet.specs.SubTasks.{SubTasks, AreCovered, IsInside, first_of_sub}
use Rattle.remaining_wcet.specs.Ways.{Words, Done, executed_of}
use Rattle.remaining_wcet.specs.Bounds.{sum_of}
use Rattle.remaining_wcet.specs.Runs.{IsOver, IsKnownJob, EndsAfter, cuts_met, done_by, done_ending, done_ats, oldest_done, after}
use Rattle.remaining_wcet.specs.Admitted.{IsAnalysed, IsPriced}
use Rattle.remaining_wcet.proofs.Every.{every_suffix}
use Rattle.remaining_wcet.proofs.Ends.{job_ends}
use Rattle.remaining_wcet.proofs.Jobs.{after_add}
use Rattle.remaining_wcet.proofs.Count.{inside_count}

oldest_by : {S : Type 0} (step : S → S) (done : S → Done) (k a : ℕ) (y : S)
    → oldest_done a (done_by step done (suc k) y) ≡ (done y).at
unfolding done_by after
oldest_by step done zero a y = refl
oldest_by step done (suc k) a y = oldest_by step done k (done (after step (suc k) y)).at y

-- the oldest instruction of a run stands at the pc of its first state
oldest_ending : {S : Type 0} (step : S → S) (done : S → Done) (traps : S → Bool) (k : ℕ) (y : S) (d : Done) (rest : List Done)
    → done_ending step done traps k y ≡ d ∷ rest → oldest_done 0 (d ∷ rest) ≡ (done y).at
unfolding done_ending done_by after
oldest_ending step done traps zero y d rest e = by_trap (traps y) e
  where
    by_trap : (b : Bool) → (if b then done y ∷ [] else []) ≡ d ∷ rest → oldest_done 0 (d ∷ rest) ≡ (done y).at
    by_trap true e = sym (ap (λ q. oldest_done 0 q) e)
    by_trap false e = cc
oldest_ending step done traps (suc k) y d rest e = by_trap (traps (after step (suc k) y)) e
  where
    by_trap : (b : Bool)
        → (if b then done (after step (suc k) y) ∷ done_by step done (suc k) y else done_by step done (suc k) y) ≡ d ∷ rest
        → oldest_done 0 (d ∷ rest) ≡ (done y).at
    by_trap true e = sym (ap (λ q. oldest_done 0 q) e) ∙ oldest_by step done k (done (after step (suc k) y)).at y
    by_trap false e = sym (ap (λ q. oldest_done 0 q) e) ∙ oldest_by step done k 0 y

-- a run that ends, seen from a later state
later_end : {S : Type 0} (step : S → S) (went : S → Bool) (x : S) (k n : ℕ) → EndsAfter step went x (k + n)
    → EndsAfter step went (after step n x) k
later_end step went x k n e = record {
  all = λ j below. ap went (sym (after_add step j n x)) ∙ e.all (j + n) (omega (arith, below));
  ended = ap went (sym (after_add step k n x)) ∙ e.ended;
}

not_before : {S : Type 0} (step : S → S) (went : S → Bool) (x : S) (m n : ℕ) → EndsAfter step went x m
    → ((k : ℕ) → k < n → went (after step k x) ≡ true) → n ≤ m
not_before step went x m n e all = elim (cases_lt m n) [
  | inl l ↦ let clash : true ≡ false = sym (all m l) ∙ e.ended in cc
  | inr g ↦ omega (arith, g)
]

by_rest : (t : SubTasks) (units : ℕ → List ℕ) (w : Words) (slow fast : Prices) (cap : ℕ) (bounds fast_bounds : List ℕ) (c : Clock)
    → IsAnalysed t units w → IsPriced t w slow fast cap bounds fast_bounds
    → ((k : ℕ) → AreCovered t c.hits k) → (entry : ℕ) (cuts : List ℕ) → t.firsts ≡ entry ∷ cuts
    → {S : Type 0} (step : S → S) (done : S → Done) (traps went : S → Bool) (x : S)
    → IsKnownJob t w slow c step done traps went x
    → (k n : ℕ) → EndsAfter step went x (k + n) → (ds : List Done) → done_ending step done traps k (after step n x) ≡ ds
    → total_cost c slow (executed_of w ds) ≤ slow.miss + sum_of (drop (cuts_met cuts ((done (after step n x)).at ∷ done_ats (done_by step done n x))) bounds)
by_rest t units w slow fast cap bounds fast_bounds c a p kept entry cuts is step done traps went x job k n ends [] e =
    omega arith
by_rest t units w slow fast cap bounds fast_bounds c a p kept entry cuts is step done traps went x job k n ends
    (d ∷ rest) e =
    let s = every_suffix t units w slow fast cap bounds fast_bounds c a p kept _ step done traps x k n
    (job.whole (k + n) ends) d rest e (job.cheap (d ∷ rest)) in
    let at = oldest_ending step done traps k (after step n x) d rest e in
    let pcs = done_ats (done_by step done n x) in
    let count = inside_count t entry cuts s.sub ((done (after step n x)).at ∷ pcs) is s.is_sub
    (subst (λ b. IsInside t s.sub (b ∷ pcs)) at s.inside) in
    let same = ap (λ j. sum_of (drop j bounds)) count in
    omega (arith, s.cost, same)

-- from any state that its steps lead to, an admitted job ends, and costs at most one miss and the bounds of the
-- sub-tasks that remain
pub suffix_ends : (t : SubTasks) (units : ℕ → List ℕ) (w : Words) (slow fast : Prices) (cap : ℕ) (bounds fast_bounds : List ℕ) (c : Clock)
    → IsAnalysed t units w → IsPriced t w slow fast cap bounds fast_bounds
    → ((k : ℕ) → AreCovered t c.hits k) → (entry : ℕ) (cuts : List ℕ) → t.firsts ≡ entry ∷ cuts
    → {S : Type 0} (step : S → S) (done : S → Done) (traps went : S → Bool) (x : S)
    → IsKnownJob t w slow c step done traps went x
    → (n : ℕ) → ((k : ℕ) → k < n → went (after step k x) ≡ true)
    → IsOver w slow c step done traps went (after step n x) (slow.miss + sum_of (drop (cuts_met cuts ((done (after step n x)).at ∷ done_ats (done_by step done n x))) bounds))
suffix_ends t units w slow fast cap bounds fast_bounds c a p kept entry cuts is step done traps went x job n all =
    let whole = job_ends t units w slow fast cap bounds fast_bounds a p job.costly step done went x job.prefix in
    let below = not_before step went x whole.0 n whole.1 all in
    let k : ℕ = whole.0 - n in
    let sum : whole.0 ≡ k + n = omega (arith, below) in
    let ends = subst (EndsAfter step went x) sum whole.1 in
    record {
      rest = k;
      ends = later_end step went x k n ends;
      cost =
          by_rest t units w slow fast cap bounds fast_bounds c a p kept entry cuts is step done traps went x job k n
          ends (done_ending step done traps k (after step n x)) refl;
    }

at_opening : (t : SubTasks) (units : ℕ → List ℕ) (w : Words) → IsAnalysed t units w → (sub at : ℕ)
    → sub < length t.firsts → at ≡ first_of_sub t 0 → IsInside t sub (at ∷ []) → sub ≡ 0
at_opening t units w a zero at below is inside = refl
at_opening t units w a (suc sub) at below is inside =
    let one : 1 < length t.firsts = omega (arith, below) in
    elim (inside.met 1 (first_of_sub t 1) (omega arith) (omega arith) (one, refl)) [
      | inl e ↦ let clash = a.cuts.different 1 0 (first_of_sub t 1) (one, refl) (a.cuts.some, sym is ∙ e) in absurd (omega (arith, clash))
      | inr never ↦ absurd never
    ]

opening_rest : (t : SubTasks) (units : ℕ → List ℕ) (w : Words) (slow fast : Prices) (cap : ℕ) (bounds fast_bounds : List ℕ) (c : Clock)
    → IsAnalysed t units w → IsPriced t w slow fast cap bounds fast_bounds
    → ((k : ℕ) → AreCovered t c.hits k) → {S : Type 0} (step : S → S) (done : S → Done) (traps went : S → Bool) (x : S)
    → IsKnownJob t w slow c step done traps went x → (done x).at ≡ first_of_sub t 0
    → (m : ℕ) → EndsAfter step went x m → (ds : List Done) → done_ending step done traps m x ≡ ds
    → total_cost c slow (executed_of w ds) ≤ sum_of bounds
unfolding after done_by
opening_rest t units w slow fast cap bounds fast_bounds c a p kept step done traps went x job opens m ends [] e =
    omega arith
opening_rest t units w slow fast cap bounds fast_bounds c a p kept step done traps went x job opens m ends (d ∷ rest) e
    =
    let none : m ≡ m + 0 = omega arith in
    let s = every_suffix t units w slow fast cap bounds fast_bounds c a p kept _ step done traps x m 0
    (job.whole (m + 0) (subst (EndsAfter step went x) none ends)) d rest e (job.cheap (d ∷ rest)) in
    let at = oldest_ending step done traps m x d rest e ∙ opens in
    let zero_sub = at_opening t units w a s.sub (oldest_done 0 (d ∷ rest)) s.is_sub at s.inside in
    let cost = s.at_first (at ∙ ap (first_of_sub t) (sym zero_sub)) in
    let same = ap (λ j. sum_of (drop j bounds)) zero_sub in
    omega (arith, cost, same)

-- from its opening an admitted job ends, and costs at most the bounds of the sub-tasks
pub opening_ends : (t : SubTasks) (units : ℕ → List ℕ) (w : Words) (slow fast : Prices) (cap : ℕ) (bounds fast_bounds : List ℕ) (c : Clock)
    → IsAnalysed t units w → IsPriced t w slow fast cap bounds fast_bounds
    → ((k : ℕ) → AreCovered t c.hits k) → {S : Type 0} (step : S → S) (done : S → Done) (traps went : S → Bool) (x : S)
    → IsKnownJob t w slow c step done traps went x → (done x).at ≡ first_of_sub t 0
    → IsOver w slow c step done traps went x (sum_of bounds)
opening_ends t units w slow fast cap bounds fast_bounds c a p kept step done traps went x job opens =
    let whole = job_ends t units w slow fast cap bounds fast_bounds a p job.costly step done went x job.prefix in
    record
    { rest = whole.0; ends = whole.1; cost = opening_rest t units w slow fast cap bounds fast_bounds c a p kept step done traps went x job opens whole.0 whole.1 (done_ending step done traps whole.0 x) refl }
