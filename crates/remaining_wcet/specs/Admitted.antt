-- An admitted task: all that the lower crates deliver. This project's own.
use Rattle.std.specs.Prelude.{◌≡◌, ◌<◌, ℕ, ◌+◌, true, List, length, get_or}
use Rattle.loop_regions.specs.Walks.{IsFirst}
use Rattle.loop_regions.specs.Costs.{Prices}
use Rattle.remaining_wcet.specs.SubTasks.{SubTasks, first_of_sub}
use Rattle.remaining_wcet.specs.Known.{AreCuts}
use Rattle.subtask_cut.specs.Functions.{AreFunctions}
use Rattle.remaining_wcet.specs.Ways.{Words, AreUnits, edge_cost}
use Rattle.remaining_wcet.specs.Bounds.{IsBound, IsSlower, sum_of}

-- what is known of the code: its functions and units, its cuts, and that a sub-task begins at a covered fetch that is
-- no slot
pub record IsAnalysed (t : SubTasks) (units : ℕ → List ℕ) (w : Words) : Type 0 where
  pub functions : AreFunctions t.flow.edges units (first_of_sub t 0)
  pub cuts : AreCuts t units
  pub kinds : AreUnits t.flow w (first_of_sub t 0)
  pub covered : (k : ℕ) → k < length t.firsts → t.covered k (first_of_sub t k) ≡ true
  pub slots : (j u : ℕ) → IsFirst t.firsts j u → (v : ℕ) → t.flow.is_long v ≡ true → v + 4 ≡ u → ⊥

-- what is known of a point, beside the fastest
pub record IsPriced (t : SubTasks) (w : Words) (slow fast : Prices) (cap : ℕ) (bounds fast_bounds : List ℕ) : Type 0 where
  pub slower : IsSlower slow fast
  pub edges : slow.edge ≡ edge_cost w
  pub as_list : slow.bound ≡ (λ k. get_or bounds k 0)
  pub fast_list : fast.bound ≡ (λ k. get_or fast_bounds k 0)
  pub long : length bounds ≡ length t.firsts
  pub bound : (k : ℕ) → k < length t.firsts → IsBound t slow cap k
  pub fast_bound : (k : ℕ) → k < length t.firsts → IsBound t fast cap k
  pub small : sum_of fast_bounds < cap
