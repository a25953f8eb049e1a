-- A run of an admitted task has all its jobs, each in time.
use Rattle.std.proofs.Common.{◌≡◌, refl, ap, ℕ, zero, suc, ◌≤◌, List, [], ◌∷◌, length}
use Rattle.std.specs.List.{AllByRecursion}
use Rattle.admission.specs.declared.mode.Mode.{Mode}
use Rattle.admission.specs.declared.mode.Mode.TheVariants.{Simple, Fast}
use Rattle.job_runner.specs.Job.{Before, RanJob, Setting}
use Rattle.job_runner.specs.Opens.{AllFit, CanOpen, IsInTime, IsRunnable}
use Rattle.job_runner.specs.Run.{AreRun, Runs, before}
use Rattle.job_runner.proofs.FastJobs.{fast_in_time_once, fast_runs}
use Rattle.job_runner.proofs.Planned.{pair_planned}
use Rattle.job_runner.proofs.SimpleJobs.{simple_in_time_once, simple_runs}

-- the next job of a run in this mode
next_runs : (mode : Mode) (s : Setting) (b : Before) (input : List ℕ) → IsRunnable mode s → CanOpen s b.memory
    → length input ≤ s.kept.input_len → (r : RanJob) × Runs mode s b input r × IsInTime s r
next_runs Simple s b input h can fits = simple_runs s b input can fits
next_runs Fast s b input h can fits = fast_runs s b input can fits (pair_planned s b h)

next_in_time : (mode : Mode) (s : Setting) (b : Before) (input : List ℕ) (r : RanJob) → IsRunnable mode s
    → CanOpen s b.memory → length input ≤ s.kept.input_len → Runs mode s b input r → IsInTime s r
next_in_time Simple s b input r h can fits runs = simple_in_time_once s b input r can fits runs
next_in_time Fast s b input r h can fits runs = fast_in_time_once s b input r can fits (pair_planned s b h) runs

-- after jobs in time the next one can open
next_opens : (mode : Mode) (s : Setting) (jobs : List RanJob) → IsRunnable mode s → AllByRecursion (IsInTime s) jobs
    → CanOpen s (before s jobs).memory
unfolding before
next_opens mode s [] h all = h.opens
next_opens mode s (r ∷ older) h all = all.0.next

-- so many jobs of a run, each in time
record Jobs (mode : Mode) (s : Setting) (inputs : ℕ → List ℕ) (n : ℕ) : Type 0 where
  jobs : List RanJob
  run : AreRun mode s inputs jobs
  long : length jobs ≡ n
  all : AllByRecursion (IsInTime s) jobs

has_all : (mode : Mode) (s : Setting) (inputs : ℕ → List ℕ) → IsRunnable mode s → AllFit s inputs → (n : ℕ)
    → Jobs mode s inputs n
has_all mode s inputs h fit zero = record { jobs = []; run = tt; long = refl; all = tt }
has_all mode s inputs h fit (suc n) =
    let o = has_all mode s inputs h fit n in
    let b = before s o.jobs in
    let input = inputs (length o.jobs) in
    let r = next_runs mode s b input h (next_opens mode s o.jobs h o.all) (fit (length o.jobs)) in
    record { jobs = r.0 ∷ o.jobs; run = (r.1, o.run); long = ap suc o.long; all = (r.2, o.all) }

pub run_has : (mode : Mode) (s : Setting) (inputs : ℕ → List ℕ) (n : ℕ) → IsRunnable mode s → AllFit s inputs
    → (jobs : List RanJob) × AreRun mode s inputs jobs × (length jobs ≡ n)
run_has mode s inputs n h fit = let o = has_all mode s inputs h fit n in (o.jobs, o.run, o.long)

pub run_in_time : (mode : Mode) (s : Setting) (inputs : ℕ → List ℕ) (jobs : List RanJob) → IsRunnable mode s
    → AllFit s inputs → AreRun mode s inputs jobs → AllByRecursion (IsInTime s) jobs
run_in_time mode s inputs [] h fit run = tt
run_in_time mode s inputs (r ∷ older) h fit run =
    let all = run_in_time mode s inputs older h fit run.1 in
    let opens = next_opens mode s older h all in
    (next_in_time mode s (before s older) (inputs (length older)) r h opens (fit (length older)) run.0, all)
