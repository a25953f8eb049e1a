-- What remains of a job in simple mode, in time.
use Rattle.std.proofs.lemmas.Bool.{cases_lt}
use Rattle.std.proofs.Common.{◌≡◌, ◌∙◌, sym, ap, subst, inl, inr, ℕ, zero, suc, ◌+◌, ◌-◌, ◌≤◌, ◌<◌, true, List, [], ◌∷◌, drop, get_or, arith}
use Rattle.std.specs.Prelude.{Option, Some, None}
use Rattle.visa_io.specs.declared.records.Code.{Code}
use Rattle.mips_isa.specs.declared.instr.Instr.{Instr}
use Rattle.mips_ref.specs.Job.{EndsAfter as JobEnds, after as after_steps}
use Rattle.mips_ref.specs.Mips.{Mips}
use Rattle.mips_ref.specs.Ran.{ran}
use Rattle.mips_ref.specs.Step.{step_of}
use Rattle.mips_ref.specs.declared.records.Step.TheVariants.{Went}
use Rattle.mips_ref.proofs.Rans.{after_add}
use Rattle.flow_graph.specs.Code.{instr_at}
use Rattle.loop_regions.specs.Costs.{Prices}
use Rattle.simple_pipe.specs.Pace.{static_cost}
use Rattle.simple_pipe.specs.Simple.{Caches, executed_of as timed_of}
use Rattle.simple_pipe.specs.declared.pace.Pace.{Pace}
use Rattle.simple_pipe.proofs.Potential.{left-bound}
use Rattle.remaining_wcet.specs.Admitted.{IsAnalysed, IsPriced}
use Rattle.remaining_wcet.specs.Bounds.{sum_of}
use Rattle.remaining_wcet.specs.Executed.{total_cost}
use Rattle.remaining_wcet.specs.Runs.{IsKnownJob, IsOver, after, cuts_met, done_ats, done_by}
use Rattle.remaining_wcet.specs.SubTasks.{SubTasks, AreCovered, first_of_sub}
use Rattle.remaining_wcet.specs.Ways.{Done, AreCheap, executed_of}
use Rattle.remaining_wcet.proofs.Final.{opening_ends, suffix_ends}
use Rattle.run_law.specs.Program.{Passed, Program}
use Rattle.run_law.specs.Runs.{Opens}
use Rattle.run_law.proofs.Coded.{ran_pc}
use Rattle.walked_jobs.specs.Machine.{done_at, goes_at, is_went, next_state, traps_at, words_of}
use Rattle.walked_jobs.proofs.Running.{prefix, same_after, same_ending, stays_is, went_steps, whole_job}
use Rattle.timed_jobs.specs.Pace.{EndsWithin, IsPaced, base_if, clock_of, pcs_of}
use Rattle.timed_jobs.proofs.Coded.{rest_of_code}
use Rattle.timed_jobs.proofs.Costs.{costs_no_more}

pub costs_one : (pace : Pace) (o : Option Instr) → 1 ≤ base_if pace o
unfolding static_cost
costs_one pace None = omega arith
costs_one pace (Some i) = omega arith

cheap : (pace : Pace) (caches : Caches) (code : Code) (p : Prices) → IsPaced pace code p → (ds : List Done)
    → AreCheap (clock_of pace caches code) p (executed_of (words_of code) ds)
cheap pace caches code p paced [] = tt
cheap pace caches code p paced (d ∷ ds) =
    (λ older. let same = ap (λ f. f d.at) paced.base_is in omega (arith, same), cheap pace caches code p paced ds)

known : (p : Program) (t : SubTasks) (pace : Pace) (caches : Caches) (slow : Prices) (x : Mips) → Passed p → Opens p x
    → t.flow ≡ p.graph
    → first_of_sub t 0 ≡ p.entry → IsPaced pace p.code slow
    → IsKnownJob t (words_of p.code) slow (clock_of pace caches p.code) next_state done_at traps_at goes_at x
known p t pace caches slow x passed opens flow first paced = record {
  prefix = prefix p t x passed opens flow first;
  whole = whole_job p t x passed opens flow first;
  costly =
      λ a. let one =
      costs_one pace (instr_at p.code a) in let same = ap (λ f. f a) paced.base_is in omega (arith, one, same);
  cheap = cheap pace caches p.code slow paced;
}

-- where a run ends, from a later state
goes_on : (p : Program) (q : Passed p) (x : Mips) → Opens p x → (n : ℕ)
    → ((k : ℕ) → k < n → (step_of (after_steps k x)).answer ≡ Went)
    → (k : ℕ) → JobEnds (after_steps n x) k → (j : ℕ) → j < k + n → (step_of (after_steps j x)).answer ≡ Went
goes_on p q x opens n went k ends j below = elim (cases_lt j n) [
  | inl early ↦ went j early
  | inr later ↦
      let i : ℕ = j - n in
      let sum : i + n ≡ j = omega (arith, later) in
      ap (λ m. (step_of (after_steps m x)).answer) (sym sum) ∙ ap (λ y. (step_of y).answer)
      (after_add i n x) ∙ ends.went i (omega (arith, below, later))
]

-- what is over in the words of walks, is over in time
over_in_time : (p : Program) (t : SubTasks) (pace : Pace) (caches : Caches) (slow : Prices) (x : Mips) → Passed p
    → Opens p x
    → IsPaced pace p.code slow → (n limit : ℕ) → ((k : ℕ) → k < n → (step_of (after_steps k x)).answer ≡ Went)
    → IsOver (words_of p.code) slow (clock_of pace caches p.code) next_state done_at traps_at goes_at (after_steps n x) limit
    → EndsWithin pace caches (after_steps n x) (5 + limit)
over_in_time p t pace caches slow x passed opens paced n limit went over =
    let y = after_steps n x in
    let k = over.rest in
    let ends : JobEnds y k = record {
      went = went_steps y k over.ends.all;
      ended = stays_is (step_of (after_steps k y)).answer (ap goes_at (sym (same_after k y)) ∙ over.ends.ended);
    } in
    let are = rest_of_code p passed x opens n k (goes_on p passed x opens n went k ends) in
    let counted = costs_no_more pace caches p.code slow (ran k y) paced are in
    let same = ap (λ ds. total_cost (clock_of pace caches p.code) slow (executed_of (words_of p.code) ds))
    (same_ending k y) in
    let left = left-bound (timed_of pace caches (ran k y)) in
    record { steps = k; ends = ends; within = omega (arith, over.cost, counted, same, left) }

-- the addresses passed
pub same_pcs : (n : ℕ) (x : Mips)
    → (done_at (after next_state n x)).at ∷ done_ats (done_by next_state done_at n x) ≡ pcs_of n x
unfolding done_by pcs_of after
same_pcs zero x = ap (λ a. a ∷ []) (ran_pc x)
same_pcs (suc n) x =
    let here : (done_at (after next_state (suc n) x)).at ≡ (after_steps (suc n) x).pc = ran_pc
    (after next_state (suc n) x) ∙ ap (λ y. y.pc) (same_after (suc n) x) in
    (λ i. here i ∷ same_pcs n x i)

pub goes_of : (x : Mips) (n : ℕ) → ((k : ℕ) → k < n → (step_of (after_steps k x)).answer ≡ Went) → (k : ℕ) → k < n
    → goes_at (after next_state k x) ≡ true
goes_of x n went k below = ap goes_at (same_after k x) ∙ ap is_went (went k below)

-- from any state that its steps lead to, a job ends within five cycles, one miss and the bounds of the sub-tasks that
-- remain
pub suffix_in_time : (p : Program) (t : SubTasks) (units : ℕ → List ℕ) (slow fast : Prices) (cap : ℕ) (bounds fast_bounds cuts : List ℕ) (pace : Pace)
    (caches : Caches) (x : Mips) → Passed p → Opens p x → t.flow ≡ p.graph → t.firsts ≡ p.entry ∷ cuts
    → IsAnalysed t units (words_of p.code)
    → IsPriced t (words_of p.code) slow fast cap bounds fast_bounds → IsPaced pace p.code slow
    → ((k : ℕ) → AreCovered t caches.fetch_hits k)
    → (n : ℕ) → ((k : ℕ) → k < n → (step_of (after_steps k x)).answer ≡ Went)
    → EndsWithin pace caches (after_steps n x) (5 + (pace.miss + sum_of (drop (cuts_met cuts (pcs_of n x)) bounds)))
suffix_in_time p t units slow fast cap bounds fast_bounds cuts pace caches x passed opens flow firsts analysed priced
    paced covered n went =
    let clock = clock_of pace caches p.code in
    let first : first_of_sub t 0 ≡ p.entry = ap (λ (l : List ℕ). get_or l 0 0) firsts in
    let job = known p t pace caches slow x passed opens flow first paced in
    let over = suffix_ends t units (words_of p.code) slow fast cap bounds fast_bounds clock analysed priced covered
    p.entry cuts firsts
    next_state done_at traps_at goes_at x job n (goes_of x n went) in
    let limit = λ (l : List ℕ). slow.miss + sum_of (drop (cuts_met cuts l) bounds) in
    let there = subst
    (λ y. IsOver (words_of p.code) slow clock next_state done_at traps_at goes_at y (limit ((done_at (after next_state n x)).at ∷ done_ats (done_by next_state done_at n x))))
    (same_after n x) over in
    let same : limit ((done_at (after next_state n x)).at ∷ done_ats (done_by next_state done_at n x)) ≡ pace.miss +
    sum_of (drop (cuts_met cuts (pcs_of n x)) bounds) =
    (λ i. paced.miss_is i + sum_of (drop (cuts_met cuts (same_pcs n x i)) bounds)) in
    over_in_time p t pace caches slow x passed opens paced n
    (pace.miss + sum_of (drop (cuts_met cuts (pcs_of n x)) bounds)) went
    (subst (λ l. IsOver (words_of p.code) slow clock next_state done_at traps_at goes_at (after_steps n x) l) same there)

-- from its opening it ends within five cycles and the bounds
pub job_in_time : (p : Program) (t : SubTasks) (units : ℕ → List ℕ) (slow fast : Prices) (cap : ℕ) (bounds fast_bounds cuts : List ℕ) (pace : Pace)
    (caches : Caches) (x : Mips) → Passed p → Opens p x → t.flow ≡ p.graph → t.firsts ≡ p.entry ∷ cuts
    → IsAnalysed t units (words_of p.code)
    → IsPriced t (words_of p.code) slow fast cap bounds fast_bounds → IsPaced pace p.code slow
    → ((k : ℕ) → AreCovered t caches.fetch_hits k)
    → EndsWithin pace caches x (5 + sum_of bounds)
unfolding after_steps
job_in_time p t units slow fast cap bounds fast_bounds cuts pace caches x passed opens flow firsts analysed priced paced
    covered =
    let first : first_of_sub t 0 ≡ p.entry = ap (λ (l : List ℕ). get_or l 0 0) firsts in
    let job = known p t pace caches slow x passed opens flow first paced in
    let over = opening_ends t units (words_of p.code) slow fast cap bounds fast_bounds (clock_of pace caches p.code)
    analysed priced covered
    next_state done_at traps_at goes_at x job (ran_pc x ∙ opens.pc ∙ sym first) in
    over_in_time p t pace caches slow x passed opens paced 0 (sum_of bounds) (λ k below. absurd (omega (arith, below)))
    over
