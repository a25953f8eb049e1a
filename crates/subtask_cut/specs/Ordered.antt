-- What cuts keep that have no fault, by where sub-tasks begin: the entry and the cuts, in order. This project's own.
use Rattle.std.specs.Prelude.{◌≡◌, ℕ, suc, List, Some}
use Rattle.std.specs.List.{Contains}
use Rattle.flow_graph.specs.Reached.{is_inner}
use Rattle.flow_graph.specs.declared.parts.Edge.{Edge}
use Rattle.loop_regions.specs.Walks.{IsFirst}
use Rattle.subtask_cut.specs.Ways.{IsReached}

-- cuts are different and not the entry, units of the entry's function alone, and none is reached without the one before
pub record ArePassed (edges : List Edge) (units : ℕ → List ℕ) (firsts : List ℕ) (main : ℕ) : Type 0 where
  pub begins : IsFirst firsts 0 main
  pub different : (j k u : ℕ) → IsFirst firsts j u → IsFirst firsts k u → j ≡ k
  pub own : (k u : ℕ) → IsFirst firsts (suc k) u → (f : ℕ) → Contains (units f) u → f ≡ main
  pub order : (j u v : ℕ) → IsFirst firsts (suc (suc j)) u → IsFirst firsts (suc j) v
      → IsReached edges is_inner (Some v) main u → ⊥
