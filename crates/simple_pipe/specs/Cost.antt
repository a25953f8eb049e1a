-- What an executed instruction costs in cycles, as the analysis of worst-case times counts it. This project's own.
use Rattle.std.specs.Prelude.{ℕ, ◌+◌, List, [], ◌∷◌, if◌then◌else◌}
use Rattle.simple_pipe.specs.declared.executed.Executed.{Executed}

-- one cycle, the cycles beyond the first in three stages, and one for a load
abbrev pub cost_of : Executed → ℕ
cost_of e = 1 + e.fetch_excess + e.execute_excess + e.memory_excess + (if e.is_load then 1 else 0)

-- the two cycles that the instruction after a list, newest first, waits where the last but one redirects
abbrev pub wait_after : List Executed → ℕ
wait_after [] = 0
wait_after (e ∷ []) = 0
wait_after (e ∷ r ∷ older) = if r.redirects then 2 else 0

-- the cost of each, and two cycles for each redirect that an instruction waited for
abbrev pub total_cost : List Executed → ℕ
total_cost [] = 0
total_cost (e ∷ older) = cost_of e + wait_after older + total_cost older
