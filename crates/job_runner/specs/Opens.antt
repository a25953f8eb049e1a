-- On which memories the jobs of a run open, and what they leave. This project's own.
use Rattle.std.specs.Prelude.{◌≡◌, ◌≤◌, ℕ, List, length, map}
use Rattle.mips_ref.specs.Memory.{Flat}
use Rattle.mips_ref.specs.Mips.{Mips, blank}
use Rattle.mips_ref.specs.declared.records.Step.{Step}
use Rattle.admission.specs.declared.mode.Mode.{Mode}
use Rattle.mode_states.specs.Kept.{IsKept}
use Rattle.job_runner.specs.Job.{RanJob, Setting}

-- what is kept is of an admitted task, and a job of it can open on this memory
abbrev pub CanOpen : Setting → Flat → Type 0
CanOpen s m = IsKept s.kept (record { mips = blank m s.output_max; computed = 0 })

-- a job ended by its deadline, and the next one can open on the memory that it left
pub record IsInTime (s : Setting) (r : RanJob) : Type 0 where
  pub in_time : r.job.end_ps ≤ s.kept.deadline_ps
  pub next : CanOpen s r.state.memory

-- the task was admitted in this mode, and its first job can open
pub record IsRunnable (mode : Mode) (s : Setting) : Type 0 where
  pub opens : CanOpen s s.memory
  pub mode_is : opens.made.mode ≡ mode

-- every input fits the buffer
abbrev pub AllFit : Setting → (ℕ → List ℕ) → Type 0
AllFit s inputs = (n : ℕ) → length (inputs n) ≤ s.kept.input_len

-- jobs of two settings open alike: from one entry, on one memory, with one stack, input buffer and room for output
pub record OpenAlike (s o : Setting) : Type 0 where
  pub entry : s.kept.entry ≡ o.kept.entry
  pub stack : s.kept.stack ≡ o.kept.stack
  pub input_at : s.kept.input_at ≡ o.kept.input_at
  pub input_len : s.kept.input_len ≡ o.kept.input_len
  pub room : s.output_max ≡ o.output_max
  pub memory : s.memory ≡ o.memory

-- the states in which jobs ended, and their answers
abbrev pub states_of : List RanJob → List Mips
states_of jobs = map (λ r. r.state) jobs

abbrev pub answers_of : List RanJob → List Step
answers_of jobs = map (λ r. r.job.step) jobs
