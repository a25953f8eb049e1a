-- What the modes keep of an admitted task, and on which memory its jobs open. This project's own.
use Rattle.std.specs.Prelude.{◌≡◌, ◌≤◌, ◌<◌, ℕ, ◌+◌, ◌*◌, ◌-◌, List, [], length, slice_index, Option, Some, None, All}
use Rattle.visa_io.specs.ImageCode.{code_of_image}
use Rattle.visa_io.specs.declared.records.Image.{Image}
use Rattle.mips_ref.specs.Job.{EndsAfter, opening}
use Rattle.mips_ref.specs.Memory.{Flat}
use Rattle.mips_ref.specs.Mips.{Held, Mips}
use Rattle.simple_pipe.specs.Pace.{pace_of}
use Rattle.simple_pipe.specs.Simple.{Caches, caches_of, simple_time}
use Rattle.simple_pipe.specs.declared.pace.Pace.{Pace}
use Rattle.task_text.specs.Limits.{KeepsLimits}
use Rattle.task_text.specs.declared.task.Task.{Task}
use Rattle.checkpoint_plan.specs.declared.plan.Plan.{Plan}
use Rattle.frequency_pick.specs.Choice.{IsFitting, plan_of}
use Rattle.frequency_pick.specs.declared.plans.Pair.{Pair}
use Rattle.admission.specs.Admitted.{IsAdmitted, Times}
use Rattle.admission.specs.Found.{bounds_at, entry_of}
use Rattle.admission.specs.declared.mode.Mode.{Mode}
use Rattle.admitted_jobs.specs.Ready.{IsReady}
use Rattle.mode_states.specs.declared.kept.Kept.{Kept}

-- what is kept of a task with its entry and what its admission found
abbrev pub kept_of : Task → ℕ → Times → Kept
kept_of t entry times =
    record {
      machine = t.machine;
      points = t.points;
      deadline_ps = t.deadline_ps;
      entry = entry;
      stack = t.stack;
      input_at = t.input_at;
      input_len = t.input_len;
      cuts = t.cuts;
      show = t.show;
      admitted = times;
    }

-- an admission was made of this task and entry, and of the code in this memory, on which a job can open
pub record IsMadeOf (t : Task) (entry : ℕ) (times : Times) (m : Flat) : Type 0 where
  pub mode : Mode
  pub image : Image
  pub limits : KeepsLimits t
  pub admitted : IsAdmitted mode t image times
  pub entry_is : entry ≡ entry_of t image
  pub ready : IsReady t (code_of_image image) m

-- what is kept is of some admitted task, and a job of it can open on the memory of this state
pub record IsKept (k : Kept) (x : Held) : Type 0 where
  pub task : Task
  pub is : k ≡ kept_of task k.entry k.admitted
  pub made : IsMadeOf task k.entry k.admitted x.mips.memory
  pub room : x.mips.output_max ≡ task.out_max

-- the clock period of a point, ps
abbrev pub period_at : Kept → ℕ → ℕ
period_at k point = slice_index k.points point

abbrev pub fastest : Kept → ℕ
fastest k = length k.points - 1

-- the simple pipeline at a point
abbrev pub pace_at : Kept → ℕ → Pace
pace_at k point = pace_of k.machine.mem_ps k.machine.store_ps k.machine.mul k.machine.div (period_at k point)

abbrev pub caches : Kept → Caches
caches k = caches_of k.machine.icache k.machine.dcache

-- From a state the reference's job ends after at most so many steps, and these take no more cycles in simple mode at
-- a point, from an empty pipeline and empty caches.
pub record EndsSoon (k : Kept) (point : ℕ) (y : Mips) (limit : ℕ) : Type 0 where
  pub steps : ℕ
  pub ends : EndsAfter y steps
  pub few : steps ≤ limit
  pub within : simple_time (pace_at k point) (caches k) steps y ≤ limit

-- a pair of points has a plan
pub record IsPlanned (k : Kept) (pair : Pair) : Type 0 where
  pub speculative : pair.a < length k.points
  pub recovery : pair.b < length k.points
  pub plan : Plan
  pub is : plan_of k.admitted.plans pair ≡ Some plan

-- at each of some points there is a bound of each sub-task, and the plans of their pairs are for these sub-tasks
pub record AreTimesOf (k : Kept) : Type 0 where
  pub some : 0 < length k.points
  pub points : k.admitted.plans.points ≡ length k.points
  pub plans : All (IsFitting (length k.cuts + 1)) k.admitted.plans.plans
  pub long : length k.admitted.plans.plans ≡ length k.points * length k.points
  pub rows : length k.admitted.bounds ≡ length k.points
  pub subs : (point : ℕ) → point < length k.points
      → length (bounds_at k.admitted.bounds point) ≡ length k.cuts + 1

abbrev pub watchdogs_in : Option Plan → List ℕ
watchdogs_in None = []
watchdogs_in (Some p) = p.watchdog

-- the watchdogs of a pair's plan
abbrev pub watchdogs_of : Kept → Pair → List ℕ
watchdogs_of k pair = watchdogs_in (plan_of k.admitted.plans pair)

-- the state in which a job opens with an input, after a state of the job before it
abbrev pub opened_on : Kept → List ℕ → Held → Held
opened_on k input x =
    record {
      mips = opening k.entry k.stack k.input_at k.input_len input x.mips.memory x.mips.output_max;
      computed = 0;
    }

-- a job opens in this state: it is so after some state and input
pub record IsOpening (k : Kept) (x : Held) : Type 0 where
  pub before : Held
  pub input : List ℕ
  pub fits : length input ≤ k.input_len
  pub kept : IsKept k before
  pub is : x ≡ opened_on k input before
