-- Jobs are summed up one after the other.
use Rattle.std.proofs.Common.{◌≡◌, ◌∙◌, refl, sym, ap, subst, ℕ, ◌+◌, ◌%◌, ◌^◌, ◌<◌, ◌≤◌, Bool, true, false, List, [], ◌∷◌, length, arith}
use Rattle.std.specs.Prelude.{max}
use Rattle.std.specs.List.{sum}
use Rattle.log_text.specs.declared.demo.Summary.{Summary}
use Rattle.log_text.specs.declared.record.JobMode.{JobMode}
use Rattle.log_text.specs.declared.record.JobRecord.{JobRecord}
use Rattle.command_line.specs.declared.forms.PredictorKind.TheVariants.{Static}
use Rattle.task_text.specs.JobInputs.{input_of}
use Rattle.job_runner.specs.Job.{RanJob}
use Rattle.job_runner.specs.Run.{before}
use Rattle.job_runner.specs.Running.{HasRun, Running, StandsAt, ran_by}
use Rattle.visa_cli.specs.Demo.{count_of, is_fast, is_missed, latest_end, one_if, output_sum, summary_of}
use Rattle.visa_cli.specs.Run.{builtin_predicts, setting_of}
use Rattle.visa_cli.specs.Running.{HasSummary, HasSummed, with_job}
use Rattle.visa_cli.specs.declared.plan.Plan.{Plan}
use Rattle.visa_cli.proofs.Logged.{next_run}

-- before the first job
no_jobs_yet : (seed : ℕ) → summary_of seed [] ≡ record { seed = seed; jobs = 0; fast = 0; missed = 0; latest_ps = 0; sum = 0 }
unfolding summary_of count_of latest_end output_sum
no_jobs_yet seed = refl

pub first_summed : (seed : ℕ) (p : Plan) (r : Running) (numbers : List ℕ) (s : Summary) → StandsAt (setting_of Static p) (before (setting_of Static p) []) r numbers
    → s ≡ record { seed = seed; jobs = 0; fast = 0; missed = 0; latest_ps = 0; sum = 0 } → HasSummed seed p 0 r numbers s
first_summed seed p r numbers s stands is = record { jobs = []; are_run = tt; all = refl; stands = stands; summary_is = is ∙ sym (no_jobs_yet seed) }

-- one job more
rests_added : (a b : ℕ) → (a % 2 ^ 32 + b % 2 ^ 32) % 2 ^ 32 ≡ (a + b) % 2 ^ 32
rests_added a b = omega arith

job_added : (seed : ℕ) (r : RanJob) (older : List RanJob) → with_job (summary_of seed older) r.job r.state.output ≡ summary_of seed (r ∷ older)
unfolding summary_of count_of latest_end output_sum
job_added seed r older =
    λ i. record {
      seed = seed;
      jobs = one_longer i;
      fast = count_of is_fast older + one_if (is_fast r.job.mode);
      missed = count_of is_missed older + one_if (is_missed r.job.mode);
      latest_ps = max (latest_end older) r.job.end_ps;
      sum = rests_added (output_sum older) (sum r.state.output) i;
    }
  where
    one_longer : length older + 1 ≡ length (r ∷ older)
    one_longer = omega arith

-- no more jobs ran so than ran
one_at_most : (yes : Bool) → one_if yes ≤ 1
one_at_most true = omega arith
one_at_most false = omega arith

count_few : (ran_so : JobMode → Bool) (jobs : List RanJob) → count_of ran_so jobs ≤ length jobs
unfolding count_of
count_few ran_so [] = omega arith
count_few ran_so (r ∷ older) = omega (arith, count_few ran_so older, one_at_most (ran_so r.job.mode))

fast_few : (seed : ℕ) (jobs : List RanJob) → (summary_of seed jobs).fast ≤ (summary_of seed jobs).jobs
unfolding summary_of
fast_few seed jobs = count_few is_fast jobs

missed_few : (seed : ℕ) (jobs : List RanJob) → (summary_of seed jobs).missed ≤ (summary_of seed jobs).jobs
unfolding summary_of
missed_few seed jobs = count_few is_missed jobs

jobs_counted : (seed : ℕ) (jobs : List RanJob) → (summary_of seed jobs).jobs ≡ length jobs
unfolding summary_of
jobs_counted seed jobs = refl

pub jobs_few : (seed : ℕ) (p : Plan) (k : ℕ) (r : Running) (numbers : List ℕ) (s : Summary) → HasSummed seed p k r numbers s → k < 2 ^ 32 → s.jobs < 2 ^ 32
jobs_few seed p k r numbers s is few = omega (arith, ap (λ (x : Summary). x.jobs) is.summary_is, jobs_counted seed is.jobs, is.all, few)

pub some_fast : (seed : ℕ) (p : Plan) (k : ℕ) (r : Running) (numbers : List ℕ) (s : Summary) → HasSummed seed p k r numbers s → s.fast ≤ s.jobs
some_fast seed p k r numbers s is =
    let Few : Summary → Type 0 = λ x. x.fast ≤ x.jobs in subst Few (sym is.summary_is) (fast_few seed is.jobs)

pub some_missed : (seed : ℕ) (p : Plan) (k : ℕ) (r : Running) (numbers : List ℕ) (s : Summary) → HasSummed seed p k r numbers s → s.missed ≤ s.jobs
some_missed seed p k r numbers s is =
    let Few : Summary → Type 0 = λ x. x.missed ≤ x.jobs in subst Few (sym is.summary_is) (missed_few seed is.jobs)

pub next_summed : (seed : ℕ) (p : Plan) (k : ℕ) (old new : Running) (job : JobRecord) (was is input output : List ℕ) (s more : Summary)
    → HasSummed seed p k old was s → input ≡ input_of p.jobs k → HasRun p.mode builtin_predicts old was input new job is
    → output ≡ new.idle.state.mips.output → more ≡ with_job s job output → HasSummed seed p (k + 1) new is more
next_summed seed p k old new job was is input output s more summed same runs put added =
    let following = next_run Static p k old new job was is input summed.jobs summed.are_run summed.all summed.stands same runs in
    record {
      jobs = ran_by new job is ∷ summed.jobs;
      are_run = following.are_run;
      all = omega (arith, summed.all);
      stands = following.stands;
      summary_is = added ∙ ap (λ xs. with_job s job xs) put ∙ ap (λ x. with_job x job new.idle.state.mips.output) summed.summary_is
          ∙ job_added seed (ran_by new job is) summed.jobs;
    }

-- all jobs
pub all_summed : (seed : ℕ) (p : Plan) (k : ℕ) (r : Running) (numbers : List ℕ) (s : Summary) → HasSummed seed p k r numbers s
    → k ≡ length p.jobs.inputs → HasSummary seed p s
all_summed seed p k r numbers s summed all = record { jobs = summed.jobs; are_run = summed.are_run; all = summed.all ∙ all; summary_is = summed.summary_is }
