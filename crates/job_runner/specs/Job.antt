-- One job of a run: what it finds, and how it runs. This project's own, after the VISA paper.
use Rattle.std.specs.Prelude.{◌≡◌, ◌<◌, ◌⊎◌, ℕ, suc, ◌+◌, ◌*◌, ◌-◌, ◌^◌, min, List, [], Some, None}
use Rattle.mips_ref.specs.Job.{after, opening}
use Rattle.mips_ref.specs.Memory.{Flat}
use Rattle.mips_ref.specs.Mips.{Mips}
use Rattle.checkpoint_plan.specs.Plan.{switch_of}
use Rattle.frequency_pick.specs.Choice.{choice}
use Rattle.frequency_pick.specs.Counts.{Count}
use Rattle.frequency_pick.specs.declared.plans.Pair.{Pair}
use Rattle.ooo_clock.specs.Along.{EndsWith}
use Rattle.ooo_clock.specs.Clock.{Predicts, in_flight_of}
use Rattle.simple_pipe.specs.Simple.{simple_time}
use Rattle.log_text.specs.declared.record.JobMode.TheVariants.{Simple, Fast, Missed}
use Rattle.log_text.specs.declared.record.JobRecord.{JobRecord}
use Rattle.mode_states.specs.Course.{Course, IsMissed, clock_at, ending_at, progress_at, sub_at}
use Rattle.mode_states.specs.Ends.{EndsAs, course_of}
use Rattle.mode_states.specs.Kept.{caches, fastest, pace_at, period_at}
use Rattle.mode_states.specs.Progress.{ended_in}
use Rattle.mode_states.specs.Views.{Released}
use Rattle.mode_states.specs.declared.kept.Kept.{Kept}

-- what all jobs of a run share: what is kept of their admitted task, how many words a job may put out, the predictor; and what the
-- first job finds: the memory, the predictor's data, and the counts that were told, newest first
pub record Setting : Type 0 where
  pub kept : Kept
  pub output_max : ℕ
  pub predicts : Predicts
  pub memory : Flat
  pub numbers : List ℕ
  pub past : List Count

-- what a job finds: how many ran before it, the memory and the predictor's data that they left, and all counts so far, newest first
pub record Before : Type 0 where
  pub jobs : ℕ
  pub memory : Flat
  pub numbers : List ℕ
  pub counts : List Count

-- a job that ran: its record, the state in which it ended, the cycles of its sub-tasks that ended in fast mode, and the predictor's
-- data after it
pub record RanJob : Type 0 where
  pub job : JobRecord
  pub state : Mips
  pub counts : List ℕ
  pub numbers : List ℕ

-- the state in which a job opens with an input, on the memory that it finds
abbrev pub opening_of : Setting → Before → List ℕ → Mips
opening_of s b input =
    opening s.kept.entry s.kept.stack s.kept.input_at s.kept.input_len input b.memory s.output_max

-- jobs are numbered from 1; the numbers end at the last of 64 bits
abbrev pub number_of : Before → ℕ
number_of b = min (suc b.jobs) (2 ^ 64 - 1)

-- In simple mode: the state and the answer are the last ones of the reference's job, and the end is the start and what its steps take in
-- the pipeline from empty caches, at the fastest point.
pub record RunsSimple (s : Setting) (b : Before) (input : List ℕ) (r : RanJob) : Type 0 where
  pub number_is : r.job.number ≡ number_of b
  pub mode_is : r.job.mode ≡ Simple
  pub steps : ℕ
  pub ends : EndsWith (opening_of s b input) steps r.job.step
  pub state_is : r.state ≡ after steps (opening_of s b input)
  pub end_is : r.job.end_ps ≡ s.kept.machine.start_ps
      + simple_time (pace_at s.kept (fastest s.kept)) (caches s.kept) steps (opening_of s b input) * period_at s.kept (fastest s.kept)
  pub counts_are : r.counts ≡ []
  pub numbers_are : r.numbers ≡ b.numbers

-- the pair of operating points at which a job is released in fast mode: it is chosen by the counts so far
abbrev pub pair_of : Setting → Before → Pair
pair_of s b = choice s.kept.admitted.plans b.counts

abbrev pub released_of : Setting → Before → List ℕ → Released
released_of s b input =
    record { kept = s.kept; state = record { mips = opening_of s b input; computed = 0 }; pair = pair_of s b }

-- its course on the fast core, cycle by cycle
abbrev pub course_in : Setting → Before → List ℕ → Course
course_in s b input = course_of s.predicts (released_of s b input) b.numbers

-- It ended in fast mode: no checkpoint is missed after any number of cycles. It performed the least number of cycles within which it
-- ends, and its end is the start and their time at the speculative point.
pub record EndsFast (s : Setting) (b : Before) (input : List ℕ) (r : RanJob) : Type 0 where
  pub mode_is : r.job.mode ≡ Fast (pair_of s b)
  pub cycles : ℕ
  pub ended : ending_at (course_in s b input) cycles ≡ Some r.job.step
  pub least : (m : ℕ) → m < cycles → ending_at (course_in s b input) m ≡ None
  pub never : (m : ℕ) → ¬ (IsMissed (course_in s b input) m)
  pub end_is : r.job.end_ps ≡ s.kept.machine.start_ps + cycles * period_at s.kept (pair_of s b).a
  pub state_is : r.state ≡ (clock_at (course_in s b input) cycles).state
  pub counts_are : r.counts ≡ (ended_in cycles (progress_at (course_in s b input) cycles)).counts
  pub numbers_are : r.numbers ≡ (clock_at (course_in s b input) cycles).numbers

-- what the switch to simple mode takes after so many cycles, ps
abbrev pub switch_at : Setting → Before → List ℕ → ℕ → ℕ
switch_at s b input at =
    switch_of s.kept.machine (in_flight_of (clock_at (course_in s b input) at)) (period_at s.kept (pair_of s b).a)
    (period_at s.kept (pair_of s b).b)

-- A checkpoint was missed: after `at` cycles, and after no fewer; of the first sub-task that hadn't ended. The rest ran in simple mode
-- from the committed state, from empty caches, at the recovery point.
pub record EndsMissed (s : Setting) (b : Before) (input : List ℕ) (r : RanJob) : Type 0 where
  pub at : ℕ
  pub missed : IsMissed (course_in s b input) at
  pub least : (m : ℕ) → m < at → ¬ (IsMissed (course_in s b input) m)
  pub mode_is : r.job.mode ≡ Missed (sub_at (course_in s b input) at + 1) (pair_of s b) at (switch_at s b input at)
  pub steps : ℕ
  pub ends : EndsWith (clock_at (course_in s b input) at).state steps r.job.step
  pub state_is : r.state ≡ after steps (clock_at (course_in s b input) at).state
  pub end_is : r.job.end_ps ≡ (s.kept.machine.start_ps + at * period_at s.kept (pair_of s b).a + switch_at s b input at)
      + simple_time (pace_at s.kept (pair_of s b).b) (caches s.kept) steps (clock_at (course_in s b input) at).state
      * period_at s.kept (pair_of s b).b
  pub counts_are : r.counts ≡ (progress_at (course_in s b input) at).counts
  pub numbers_are : r.numbers ≡ (clock_at (course_in s b input) at).numbers

-- In fast mode: whether a checkpoint was missed or not, the state and the answer are the last ones of the reference's job.
pub record RunsFast (s : Setting) (b : Before) (input : List ℕ) (r : RanJob) : Type 0 where
  pub number_is : r.job.number ≡ number_of b
  pub reference : EndsAs (opening_of s b input) r.state r.job.step
  pub ends : EndsFast s b input r ⊎ EndsMissed s b input r
