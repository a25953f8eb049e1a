-- From any state that its steps lead to, a job makes at most as many steps as the bounds of the sub-tasks that remain.
use Rattle.std.proofs.Common.{◌≡◌, ◌∙◌, refl, ap, subst, ℕ, zero, suc, ◌+◌, ◌≤◌, ◌<◌, List, ◌∷◌, ◌++◌, length, drop, get_or, arith, inl, inr}
use Rattle.std.proofs.lemmas.Bool.{cases_lt}
use Rattle.std.proofs.lemmas.List.{drop_all}
use Rattle.mips_ref.specs.Mips.{Mips}
use Rattle.loop_regions.specs.Costs.{Prices}
use Rattle.remaining_wcet.specs.Admitted.{IsAnalysed, IsPriced}
use Rattle.remaining_wcet.specs.Bounds.{sum_of}
use Rattle.remaining_wcet.specs.Runs as runs
use Rattle.remaining_wcet.specs.Runs.{IsRun, cuts_met, done_ats, done_by, oldest_done}
use Rattle.remaining_wcet.specs.SubTasks.{IsInside, SubTasks, first_of_sub}
use Rattle.remaining_wcet.specs.Ways.{Done}
use Rattle.remaining_wcet.proofs.Count.{inside_count}
use Rattle.remaining_wcet.proofs.Ends.{few_from}
use Rattle.remaining_wcet.proofs.Jobs.{done_add}
use Rattle.run_law.specs.Program.{Passed, Program}
use Rattle.run_law.specs.Runs.{Opens}
use Rattle.walked_jobs.specs.Machine.{done_at, next_state, words_of}
use Rattle.walked_jobs.proofs.Running.{prefix}
use Rattle.timed_jobs.specs.Pace.{pcs_of}
use Rattle.timed_jobs.proofs.Ends.{goes_of, same_pcs}
use Rattle.admitted_jobs.specs.Jobs.{AllWent}

steps_done : (k : ℕ) (y : Mips) → length (done_by next_state done_at k y) ≡ k
unfolding done_by
steps_done zero y = refl
steps_done (suc k) y = ap suc (steps_done k y)

-- the oldest instruction of some steps stands at the first state's pc
oldest_at : (k a : ℕ) (y : Mips) → oldest_done a (done_by next_state done_at (suc k) y) ≡ (done_at y).at
unfolding done_by runs.after
oldest_at zero a y = refl
oldest_at (suc k) a y = oldest_at k (done_at (runs.after next_state (suc k) y)).at y

-- the part of a run from a state on
run_from : (p : Program) (t : SubTasks) (x : Mips) → Passed p → Opens p x → t.flow ≡ p.graph
    → first_of_sub t 0 ≡ p.entry → (n j : ℕ)
    → AllWent (suc j + n) x
    → IsRun t (words_of p.code) ((done_at (runs.after next_state j (runs.after next_state n x)) ∷ done_by next_state
    done_at j (runs.after next_state n x)) ++ done_by next_state done_at n x)
unfolding done_by
run_from p t x passed opens flow first n j went =
    subst (λ ds. IsRun t (words_of p.code) ds) (done_add next_state done_at (suc j) n x)
    (prefix p t x passed opens flow first (suc j + n) (goes_of x (suc j + n) went))

-- the sub-task is one of the task's: else there would be no bound left
within : (t : SubTasks) (bounds : List ℕ) (sub k : ℕ) → length bounds ≡ length t.firsts → 0 < k
    → k ≤ sum_of (drop sub bounds) → sub < length t.firsts
within t bounds sub k long some few = elim (cases_lt sub (length t.firsts)) [
  | inl below ↦ below
  | inr past ↦ absurd (let none = ap sum_of (drop_all sub bounds (omega (arith, past, long))) in omega
      (arith, few, none, some))
]

pub steps_few : (p : Program) (t : SubTasks) (units : ℕ → List ℕ) (slow fast : Prices) (cap : ℕ)
    (bounds fast_bounds cuts : List ℕ) (x : Mips)
    → Passed p → Opens p x → t.flow ≡ p.graph → t.firsts ≡ p.entry ∷ cuts → IsAnalysed t units (words_of p.code)
    → IsPriced t (words_of p.code) slow fast cap bounds fast_bounds → ((a : ℕ) → 1 ≤ slow.base a) → (n k : ℕ)
    → AllWent (k + n) x
    → k ≤ sum_of (drop (cuts_met cuts (pcs_of n x)) bounds)
unfolding done_by
steps_few p t units slow fast cap bounds fast_bounds cuts x passed opens flow firsts analysed priced costly n zero
    went = omega arith
steps_few p t units slow fast cap bounds fast_bounds cuts x passed opens flow firsts analysed priced costly n (suc j)
    went =
    let first : first_of_sub t 0 ≡ p.entry = ap (λ (l : List ℕ). get_or l 0 0) firsts in
    let y = runs.after next_state n x in
    let d : Done = done_at (runs.after next_state j y) in
    let rest : List Done = done_by next_state done_at j y in
    let f = few_from t units (words_of p.code) slow fast cap bounds fast_bounds analysed priced costly d rest
    (done_by next_state done_at n x) (run_from p t x passed opens flow first n j went) in
    let steps : length (d ∷ rest) ≡ suc j = steps_done (suc j) y in
    let below = within t bounds f.sub (length (d ∷ rest)) priced.long (omega (arith, steps)) f.few in
    let at : oldest_done 0 (d ∷ rest) ≡ (done_at y).at = oldest_at j 0 y in
    let pcs = ap (λ a. a ∷ done_ats (done_by next_state done_at n x)) at ∙ same_pcs n x in
    let count = inside_count t p.entry cuts f.sub (pcs_of n x) firsts below
    (subst (λ l. IsInside t f.sub l) pcs f.inside) in
    let same = ap (λ s. sum_of (drop s bounds)) count in
    omega (arith, f.few, steps, same)
