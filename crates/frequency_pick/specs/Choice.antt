-- The choice of a pair of operating points. After the VISA paper; the exact rule is this project's own.
use Rattle.std.specs.Prelude.{◌≡◌, ◌<◌, ◌≤◌, ℕ, ◌+◌, ◌-◌, ◌*◌, ◌/◌, ◌%◌, Bool, true, false, ◌&&◌, nat_le, List, [], ◌∷◌, length, slice_index_or, position, Option, Some, None}
use Rattle.checkpoint_plan.specs.declared.plan.Plan.{Plan}
use Rattle.frequency_pick.specs.Counts.{Count, prediction}
use Rattle.frequency_pick.specs.declared.plans.Pair.{Pair}

-- the plans of all pairs of points, by rising speculative point and then by rising recovery point; none where a pair has no plan
pub record PlanTable : Type 0 where
  pub points : ℕ
  pub plans : List (Option Plan)

-- the place of a pair, and the pair of a place
abbrev pub place_of : ℕ → ℕ → ℕ → ℕ
place_of points a b = a * points + b

abbrev pub pair_at : ℕ → ℕ → Pair
pair_at points k = record { a = k / points; b = k % points }

abbrev pub plan_of : PlanTable → Pair → Option Plan
plan_of t p = slice_index_or t.plans (place_of t.points p.a p.b) None

-- the last point twice
abbrev pub fastest : ℕ → Pair
fastest points = record { a = points - 1; b = points - 1 }

-- a sub-task ends by its checkpoint where those before it take so many cycles: it has a prediction, and with it ends in time; and then
-- the rest does
abbrev pub is_in_time : ℕ → ℕ → ℕ → Option ℕ → (ℕ → Bool) → Bool
is_in_time period before checkpoint None rest = false
is_in_time period before checkpoint (Some n) rest = nat_le ((before + n) * period) checkpoint && rest (before + n)

-- sub-task i and those after it end by their checkpoints
abbrev pub all_in_time : (ℕ → Option ℕ) → ℕ → ℕ → ℕ → List ℕ → Bool
all_in_time predicted period i before [] = true
all_in_time predicted period i before (checkpoint ∷ later) =
    is_in_time period before checkpoint (predicted i) (λ sum. all_in_time predicted period (i + 1) sum later)

-- a pair is feasible that has a plan whose sub-tasks are all predicted to end by their checkpoints
unfoldable pub is_feasible : (ℕ → Option ℕ) → Option Plan → Bool
is_feasible predicted None = false
is_feasible predicted (Some p) = all_in_time predicted p.period_ps 1 0 p.checkpoint_ps

abbrev pub pair_or_fastest : ℕ → Option ℕ → Pair
pair_or_fastest points None = fastest points
pair_or_fastest points (Some k) = pair_at points k

-- the first feasible pair, or the fastest where none is
abbrev pub first_feasible : PlanTable → (ℕ → Option ℕ) → Pair
first_feasible t predicted = pair_or_fastest t.points (position (is_feasible predicted) t.plans)

-- the choice after these counts, newest first
abbrev pub choice : PlanTable → List Count → Pair
choice t cs = first_feasible t (prediction cs)

-- one place for each pair
pub record IsTable (t : PlanTable) : Type 0 where
  pub long : length t.plans ≡ t.points * t.points
  pub some : 0 < t.points
  pub few : t.points ≤ 8

-- a plan of so many sub-tasks
abbrev pub IsFitting : ℕ → Option Plan → Type 0
IsFitting subs None = Unit {0}
IsFitting subs (Some p) = (length p.checkpoint_ps ≡ subs) × (0 < p.period_ps)
