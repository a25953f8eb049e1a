-- The lines that tell the bounds and the plans of a task that passed its check. This project's own.
use Rattle.std.specs.Prelude.{ℕ, ◌+◌, List, ◌++◌, codes, length, map, slice_index}
use Rattle.std.specs.Fmt.{decimal}
use Rattle.std.specs.List.{flat_map, range_with_len}
use Rattle.checkpoint_plan.specs.declared.plan.Plan.{Plan}
use Rattle.log_text.specs.Lines.{line}

-- the first line
abbrev pub check_header : List ℕ
check_header = line (codes "visa 1 check")

-- numbers, each behind a space
abbrev pub numbers_behind : List ℕ → List ℕ
numbers_behind numbers = flat_map (λ n. codes " " ++ decimal n) numbers

-- the bound (cycles) of a sub-task, which is numbered from 1, at a point, which is numbered from 0
unfoldable pub bound_line : ℕ → ℕ → ℕ → List ℕ
bound_line point sub bound = codes "bound " ++ (decimal point ++ (codes " " ++ (decimal sub ++ (codes " " ++ line (decimal bound)))))

-- the bounds of all sub-tasks at a point
unfoldable pub bound_lines : ℕ → List ℕ → List (List ℕ)
bound_lines point bounds = map (λ k. bound_line point (k + 1) (slice_index bounds k)) (range_with_len 0 (length bounds))

-- the plan of a pair of points: the overhead of a switch (ps), and the watchdogs (cycles of the first point)
unfoldable pub plan_line : Plan → List ℕ
plan_line p = codes "plan " ++ (decimal p.a ++ (codes " " ++ (decimal p.b ++ (codes " " ++ (decimal p.overhead_ps ++ line (numbers_behind p.watchdog))))))

-- a pair of points without a plan: how far its first checkpoint is below 0 (ps)
unfoldable pub short_line : ℕ → ℕ → ℕ → List ℕ
short_line a b by = codes "short " ++ (decimal a ++ (codes " " ++ (decimal b ++ (codes " " ++ line (decimal by)))))
