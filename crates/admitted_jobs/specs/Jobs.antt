-- The jobs of a task, and how they end in simple mode. This project's own.
use Rattle.std.specs.Prelude.{◌≡◌, ◌<◌, ◌≤◌, ℕ, ◌+◌, List, length, slice_index}
use Rattle.visa_io.specs.ImageCode.{code_of_image}
use Rattle.visa_io.specs.declared.records.Image.{Image}
use Rattle.task_text.specs.declared.task.Task.{Task}
use Rattle.mips_ref.specs.Job.{EndsAfter, after, opening}
use Rattle.mips_ref.specs.Memory.{Flat}
use Rattle.mips_ref.specs.Mips.{Mips}
use Rattle.mips_ref.specs.Step.{step_of}
use Rattle.mips_ref.specs.declared.records.Step.TheVariants.{Went}
use Rattle.run_law.specs.Advance.{MayAnswer}
use Rattle.simple_pipe.specs.Pace.{pace_of}
use Rattle.simple_pipe.specs.Simple.{Caches, caches_of, simple_time}
use Rattle.simple_pipe.specs.declared.pace.Pace.{Pace}
use Rattle.remaining_wcet.specs.Runs.{cuts_met}
use Rattle.timed_jobs.specs.Pace.{pcs_of}
use Rattle.admission.specs.Found.{entry_of}
use Rattle.admitted_jobs.specs.Ready.{IsReady}

-- a job as it opens, on a memory with an input
abbrev pub job_of : Task → Image → Flat → List ℕ → Mips
job_of t i m input = opening (entry_of t i) t.stack t.input_at t.input_len input m t.out_max

-- a state in which a job of a task opens: on some memory that is ready, with an input that fits its buffer
pub record IsJob (t : Task) (i : Image) (x : Mips) : Type 0 where
  pub memory : Flat
  pub input : List ℕ
  pub ready : IsReady t (code_of_image i) memory
  pub fits : length input ≤ t.input_len
  pub opens : x ≡ job_of t i memory input

-- its first so many steps go
abbrev pub AllWent : ℕ → Mips → Type 0
AllWent n x = (k : ℕ) → k < n → (step_of (after k x)).answer ≡ Went

-- the sub-task of a job after so many steps, counted from 0: as many as cuts were met
abbrev pub inside : List ℕ → Mips → ℕ → ℕ
inside cuts x n = cuts_met cuts (pcs_of n x)

-- a job stood at an address after fewer steps
pub record StoodAt (x : Mips) (n a : ℕ) : Type 0 where
  pub steps : ℕ
  pub earlier : steps < n
  pub at : (after steps x).pc ≡ a

-- the cycles of accesses and of slow instructions at a point, and the caches
abbrev pub pace_at : Task → ℕ → Pace
pace_at t point =
    pace_of t.machine.mem_ps t.machine.store_ps t.machine.mul t.machine.div (slice_index t.points point)

abbrev pub caches_in : Task → Caches
caches_in t = caches_of t.machine.icache t.machine.dcache

-- From a state a job ends, in none of the traps that admission excludes, after at most so many steps. In simple mode
-- at a point, from an empty pipeline and empty caches, it takes no more cycles than that, five, and those of a first
-- fetch.
pub record EndsBy (t : Task) (point : ℕ) (y : Mips) (first most : ℕ) : Type 0 where
  pub steps : ℕ
  pub ends : EndsAfter y steps
  pub answer : MayAnswer (step_of (after steps y)).answer
  pub few : steps ≤ most
  pub within : simple_time (pace_at t point) (caches_in t) steps y ≤ 5 + (first + most)
