-- The lines of a check: the bounds of an admitted task's sub-tasks at each operating point, and the plan of each pair
-- of points. This project's own.
use Rattle.std.specs.Prelude.{◌≡◌, ℕ, ◌-◌, List, ◌∷◌, ◌++◌, length, map, slice_index, Option, Some, None}
use Rattle.std.specs.List.{flat_map, range_with_len}
use Rattle.checkpoint_plan.specs.Plan.{owed_of}
use Rattle.checkpoint_plan.specs.declared.plan.Plan.{Plan}
use Rattle.frequency_pick.specs.Choice.{plan_of}
use Rattle.log_text.specs.Check.{bound_lines, check_header, plan_line, short_line}
use Rattle.task_text.specs.declared.task.Task.{Task}
use Rattle.admission.specs.Admitted.{Times}
use Rattle.admission.specs.Found.{bounds_at}
use Rattle.visa_cli.specs.declared.admit.AdmittedTask.{AdmittedTask}

-- the numbers of a task's points
abbrev pub points_of : Task → List ℕ
points_of t = range_with_len 0 (length t.points)

-- how far the first checkpoint of a pair of points is below 0, ps
abbrev pub short_by : Task → List (List ℕ) → ℕ → ℕ → ℕ
short_by t bounds a b =
    owed_of t.machine (slice_index t.points a) (slice_index t.points b) (bounds_at bounds b) - t.deadline_ps

-- the line of a pair of points: its plan, or how far it is from having one
abbrev pub plan_or_short : Task → List (List ℕ) → ℕ → ℕ → Option Plan → List ℕ
plan_or_short t bounds a b (Some p) = plan_line p
plan_or_short t bounds a b None = short_line a b (short_by t bounds a b)

unfoldable pub pair_line : Task → Times → ℕ → ℕ → List ℕ
pair_line t times a b = plan_or_short t times.bounds a b (plan_of times.plans (record { a = a; b = b }))

-- the bounds at each point, and the pairs of points by rising first and then by rising second point
unfoldable pub all_bound_lines : Task → Times → List (List ℕ)
all_bound_lines t times = flat_map (λ point. bound_lines point (bounds_at times.bounds point)) (points_of t)

unfoldable pub all_pair_lines : Task → Times → List (List ℕ)
all_pair_lines t times = flat_map (λ a. map (pair_line t times a) (points_of t)) (points_of t)

-- the lines of the check of a task
abbrev pub check_lines : Task → Times → List (List ℕ)
check_lines t times = check_header ∷ (all_bound_lines t times ++ all_pair_lines t times)

abbrev pub IsCheck : AdmittedTask → List (List ℕ) → Type 0
IsCheck a lines = lines ≡ check_lines a.task a.times
