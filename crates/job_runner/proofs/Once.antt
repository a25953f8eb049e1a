-- A job has one run, and so have so many jobs.
use Rattle.std.proofs.Common.{◌≡◌, refl, sym, ap, subst, ◌∙◌, inl, inr, ℕ, ◌+◌, ◌*◌, ◌<◌, List, [], ◌∷◌, length, Option, Some, None, arith}
use Rattle.mips_ref.specs.Job.{after}
use Rattle.mips_ref.specs.Mips.{Mips}
use Rattle.mips_ref.specs.Step.{step_of}
use Rattle.mips_ref.specs.declared.records.Step.{Step}
use Rattle.simple_pipe.proofs.Ending.{ends_once}
use Rattle.simple_pipe.specs.Simple.{simple_time}
use Rattle.admission.specs.declared.mode.Mode.{Mode}
use Rattle.admission.specs.declared.mode.Mode.TheVariants as admitted
use Rattle.ooo_clock.specs.Along.{EndsWith}
use Rattle.log_text.specs.declared.record.JobMode.{JobMode}
use Rattle.log_text.specs.declared.record.JobMode.TheVariants.{Missed}
use Rattle.mode_states.specs.Course.{Course, IsMissed, clock_at, ending_at, progress_at, sub_at}
use Rattle.mode_states.specs.Kept.{caches, fastest, pace_at, period_at}
use Rattle.mode_states.specs.Progress.{ended_in}
use Rattle.job_runner.specs.Job.{Before, EndsFast, EndsMissed, RanJob, RunsFast, RunsSimple, Setting, course_in, opening_of, pair_of, switch_at}
use Rattle.job_runner.specs.Run.{AreRun, Runs, before}

-- a run from a state ends after one number of steps, with one answer
pub record OneEnd (n m : ℕ) (a b : Step) : Type 0 where
  pub steps : n ≡ m
  pub answer : a ≡ b

pub ends_with_once : (x : Mips) (n m : ℕ) (a b : Step) → EndsWith x n a → EndsWith x m b → OneEnd n m a b
ends_with_once x n m a b e f =
    let same = ends_once x n m e.ends f.ends in
    record { steps = same; answer = sym e.answer_is ∙ ap (λ k. (step_of (after k x)).answer) same ∙ f.answer_is }

-- the least number of which something holds is one
least_once : (P : ℕ → Type 0) (n m : ℕ) → P n → P m → ((k : ℕ) → k < n → ¬ (P k)) → ((k : ℕ) → k < m → ¬ (P k)) → n ≡ m
least_once P n m here there first other =
    let not_before : m < n → ⊥ = λ l. first m l there in
    let not_after : n < m → ⊥ = λ l. other n l here in
    omega (arith, not_before, not_after)

some_once : (o : Option Step) (a b : Step) → o ≡ Some a → o ≡ Some b → a ≡ b
some_once o a b e f = cc

not_both : (o : Option Step) (a : Step) → o ≡ None → o ≡ Some a → ⊥
not_both o a e f = let no : ◌≡◌ {A = Option Step} None (Some a) = sym e ∙ f in cc

-- what a job left is its record, state, counts and data
same_ran : (r o : RanJob) → r.job.number ≡ o.job.number → r.job.mode ≡ o.job.mode → r.job.end_ps ≡ o.job.end_ps
    → r.job.step ≡ o.job.step → r.state ≡ o.state → r.counts ≡ o.counts → r.numbers ≡ o.numbers → r ≡ o
same_ran r o number mode end step state counts numbers = λ i. record {
  job = record { number = number i; mode = mode i; end_ps = end i; step = step i };
  state = state i;
  counts = counts i;
  numbers = numbers i;
}

pub simple_once : (s : Setting) (b : Before) (input : List ℕ) (r o : RanJob) → RunsSimple s b input r
    → RunsSimple s b input o → r ≡ o
simple_once s b input r o p q =
    let x = opening_of s b input in
    let one = ends_with_once x p.steps q.steps r.job.step o.job.step p.ends q.ends in
    let at = fastest s.kept in
    let end_at : ℕ → ℕ = λ n. s.kept.machine.start_ps
    + simple_time (pace_at s.kept at) (caches s.kept) n x * period_at s.kept at in
    same_ran r o (p.number_is ∙ sym q.number_is) (p.mode_is ∙ sym q.mode_is)
    (p.end_is ∙ ap end_at one.steps ∙ sym q.end_is) one.answer
    (p.state_is ∙ ap (λ n. after n x) one.steps ∙ sym q.state_is)
    (p.counts_are ∙ sym q.counts_are) (p.numbers_are ∙ sym q.numbers_are)

-- a course ends in one cycle, with one answer
ended_once : (c : Course) (n m : ℕ) (a b : Step) → ending_at c n ≡ Some a → ending_at c m ≡ Some b
    → ((k : ℕ) → k < n → ending_at c k ≡ None) → ((k : ℕ) → k < m → ending_at c k ≡ None) → OneEnd n m a b
ended_once c n m a b e f first other =
    let not_before : m < n → ⊥ = λ l. not_both (ending_at c m) b (first m l) f in
    let not_after : n < m → ⊥ = λ l. not_both (ending_at c n) a (other n l) e in
    let same : n ≡ m = omega (arith, not_before, not_after) in
    record { steps = same; answer = some_once (ending_at c m) a b (ap (ending_at c) (sym same) ∙ e) f }

fast_once : (s : Setting) (b : Before) (input : List ℕ) (r o : RanJob) → r.job.number ≡ o.job.number
    → EndsFast s b input r → EndsFast s b input o → r ≡ o
fast_once s b input r o number p q =
    let c = course_in s b input in
    let one = ended_once c p.cycles q.cycles r.job.step o.job.step p.ended q.ended p.least q.least in
    let n = one.steps in
    let end_at : ℕ → ℕ = λ k. s.kept.machine.start_ps + k * period_at s.kept (pair_of s b).a in
    same_ran r o number (p.mode_is ∙ sym q.mode_is) (p.end_is ∙ ap end_at n ∙ sym q.end_is) one.answer
    (p.state_is ∙ ap (λ k. (clock_at c k).state) n ∙ sym q.state_is)
    (p.counts_are ∙ ap (λ k. (ended_in k (progress_at c k)).counts) n ∙ sym q.counts_are)
    (p.numbers_are ∙ ap (λ k. (clock_at c k).numbers) n ∙ sym q.numbers_are)

missed_once : (s : Setting) (b : Before) (input : List ℕ) (r o : RanJob) → r.job.number ≡ o.job.number
    → EndsMissed s b input r → EndsMissed s b input o → r ≡ o
missed_once s b input r o number p q =
    let c = course_in s b input in
    let pair = pair_of s b in
    let n : p.at ≡ q.at = least_once (IsMissed c) p.at q.at p.missed q.missed p.least q.least in
    let X : ℕ → Mips = λ k. (clock_at c k).state in
    let there : EndsWith (X q.at) p.steps r.job.step = subst (λ k. EndsWith (X k) p.steps r.job.step) n p.ends in
    let one = ends_with_once (X q.at) p.steps q.steps r.job.step o.job.step there q.ends in
    let m = one.steps in
    let mode_at : ℕ → JobMode = λ k. Missed (sub_at c k + 1) pair k (switch_at s b input k) in
    let end_at : ℕ → ℕ → ℕ = λ k j. (s.kept.machine.start_ps + k * period_at s.kept pair.a + switch_at s b input k)
    + simple_time (pace_at s.kept pair.b) (caches s.kept) j (X k) * period_at s.kept pair.b in
    same_ran r o number (p.mode_is ∙ ap mode_at n ∙ sym q.mode_is)
    (p.end_is ∙ (λ i. end_at (n i) (m i)) ∙ sym q.end_is) one.answer
    (p.state_is ∙ (λ i. after (m i) (X (n i))) ∙ sym q.state_is)
    (p.counts_are ∙ ap (λ k. (progress_at c k).counts) n ∙ sym q.counts_are)
    (p.numbers_are ∙ ap (λ k. (clock_at c k).numbers) n ∙ sym q.numbers_are)

pub job_once : (s : Setting) (b : Before) (input : List ℕ) (r o : RanJob) → RunsFast s b input r → RunsFast s b input o
    → r ≡ o
job_once s b input r o p q =
    let number = p.number_is ∙ sym q.number_is in
    elim p.ends [
      | inl early ↦ elim q.ends [
        | inl also ↦ fast_once s b input r o number early also
        | inr missed ↦ absurd (early.never missed.at missed.missed)
      ]
      | inr missed ↦ elim q.ends [
        | inl early ↦ absurd (early.never missed.at missed.missed)
        | inr also ↦ missed_once s b input r o number missed also
      ]
    ]

runs_once : (mode : Mode) (s : Setting) (b : Before) (input : List ℕ) (r o : RanJob) → Runs mode s b input r
    → Runs mode s b input o → r ≡ o
runs_once admitted.Simple s b input r o p q = simple_once s b input r o p q
runs_once admitted.Fast s b input r o p q = job_once s b input r o p q

pub run_once : (mode : Mode) (s : Setting) (inputs : ℕ → List ℕ) (jobs others : List RanJob) → AreRun mode s inputs jobs
    → AreRun mode s inputs others → length jobs ≡ length others → jobs ≡ others
run_once mode s inputs [] [] p q long = refl
run_once mode s inputs [] (o ∷ os) p q long = absurd (omega (arith, long))
run_once mode s inputs (r ∷ rs) [] p q long = absurd (omega (arith, long))
run_once mode s inputs (r ∷ rs) (o ∷ os) p q long =
    let older = run_once mode s inputs rs os p.1 q.1 (omega (arith, long)) in
    let there : Runs mode s (before s rs) (inputs (length rs)) o =
    subst (λ (l : List RanJob). Runs mode s (before s l) (inputs (length l)) o) (sym older) q.0 in
    let first = runs_once mode s (before s rs) (inputs (length rs)) r o p.0 there in
    λ i. first i ∷ older i
