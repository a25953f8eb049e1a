-- Checkpoints: by when each sub-task has to end in fast mode, so that a switch leaves time for the rest in simple mode. Times are in
-- ps, and a bound in cycles. After the VISA paper; the exact form is this project's own.
use Rattle.std.specs.Prelude.{◌≡◌, ◌≤◌, ◌<◌, ℕ, ◌+◌, ◌-◌, ◌*◌, ◌/◌, max, List, [], ◌∷◌, map, sum, slice_index, Option, Some, None, Result, Ok, Err}
use Rattle.std.specs.Int.{div_ceil}
use Rattle.visa_io.specs.declared.records.Machine.{Machine}
use Rattle.visa_io.specs.declared.records.Shape.{Shape}
use Rattle.task_text.specs.declared.task.Task.{Task}
use Rattle.checkpoint_plan.specs.declared.plan.Plan.{Plan}
use Rattle.checkpoint_plan.specs.declared.plan.PlanFault.{PlanFault}
use Rattle.checkpoint_plan.specs.declared.plan.PlanFault.TheVariants.{Negative, Memory}

-- the lines of a cache
abbrev pub lines_of : Option Shape → ℕ
lines_of None = 0
lines_of (Some shape) = shape.sets * shape.ways

-- the longest that an access in flight is waited for, in cycles
abbrev pub wait_of : Machine → ℕ → ℕ
wait_of m period = max (div_ceil m.mem_ps period) (div_ceil m.store_ps period)

-- the cycles that are spent at the recovery point before the simple pipeline starts, and for a first fetch in mid-line: 34 registers,
-- and each line of the caches, in a cycle each
abbrev pub handover_of : Machine → ℕ
handover_of m = 34 + lines_of m.icache + lines_of m.dcache

-- the overhead of a switch from a point to another, given their periods
unfoldable pub overhead_of : Machine → ℕ → ℕ → ℕ
overhead_of m pa pb = wait_of m pa * pa + (handover_of m + div_ceil m.mem_ps pb) * pb + m.settle_ps

-- the time of a switch, with an access in flight for so many cycles of the speculative point
unfoldable pub switch_of : Machine → ℕ → ℕ → ℕ → ℕ
switch_of m flight pa pb = flight * pa + m.settle_ps + handover_of m * pb

-- the time that sub-tasks with these bounds need in simple mode
unfoldable pub rem_of : List ℕ → ℕ → ℕ
rem_of bounds pb = (5 + sum bounds) * pb

-- of each sub-task the time that it and those after it need
unfoldable pub rems_of : List ℕ → ℕ → List ℕ
rems_of [] pb = []
rems_of (bound ∷ rest) pb = rem_of (bound ∷ rest) pb ∷ rems_of rest pb

-- what has to be left before the deadline at a checkpoint, where these bounds remain
unfoldable pub owed_of : Machine → ℕ → ℕ → List ℕ → ℕ
owed_of m pa pb bounds = m.start_ps + overhead_of m pa pb + rem_of bounds pb

-- a checkpoint counts from the first cycle of a job
abbrev pub checkpoint_of : Task → ℕ → ℕ → ℕ → ℕ
checkpoint_of t pa pb rem = t.deadline_ps - (t.machine.start_ps + overhead_of t.machine pa pb + rem)

-- the watchdog of a checkpoint: the cycles at the speculative point that fit before it
abbrev pub watchdog_of : ℕ → ℕ → ℕ
watchdog_of pa checkpoint = checkpoint / pa

-- the plan for a speculative and a recovery point
pub record IsPlan (t : Task) (bounds : List ℕ) (a b pa pb : ℕ) (p : Plan) : Type 0 where
  pub owed : owed_of t.machine pa pb bounds ≤ t.deadline_ps
  pub a_is : p.a ≡ a
  pub b_is : p.b ≡ b
  pub period_is : p.period_ps ≡ pa
  pub overhead_is : p.overhead_ps ≡ overhead_of t.machine pa pb
  pub rems_are : p.rem_ps ≡ rems_of bounds pb
  pub checkpoints_are : p.checkpoint_ps ≡ map (checkpoint_of t pa pb) (rems_of bounds pb)
  pub watchdogs_are : p.watchdog ≡ map (watchdog_of pa) p.checkpoint_ps

-- the plan, where the first checkpoint isn't negative; else how far below 0 it is. The first is the least
abbrev pub IsAnswer : Task → List ℕ → ℕ → ℕ → ℕ → ℕ → Result Plan PlanFault → Type 0
IsAnswer t bounds a b pa pb (Ok p) = IsPlan t bounds a b pa pb p
IsAnswer t bounds a b pa pb (Err (Negative short_by)) =
    (t.deadline_ps < owed_of t.machine pa pb bounds) × (short_by ≡ owed_of t.machine pa pb bounds - t.deadline_ps)
IsAnswer t bounds a b pa pb (Err Memory) = Unit {0}

-- the same at numbers of points
abbrev pub IsPlanned : Task → List ℕ → ℕ → ℕ → Result Plan PlanFault → Type 0
IsPlanned t bounds a b r = IsAnswer t bounds a b (slice_index t.points a) (slice_index t.points b) r
