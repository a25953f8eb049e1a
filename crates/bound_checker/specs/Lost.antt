-- The first register whose fact isn't kept along an edge. This project's own.
use Rattle.std.specs.Prelude.{◌≡◌, ◌<◌, ◌*◌, ℕ, Bool, if◌then◌else◌, Option, Some, None, List, length}
use Rattle.std.specs.List.Sorted.{IsStrictlyIncreasing}
use Rattle.flow_graph.specs.Edges.{target_of}
use Rattle.flow_graph.specs.declared.parts.EdgeKind.{EdgeKind}
use Rattle.flow_graph.specs.declared.parts.EdgeKind.TheVariants.{Next, Taken, Call, Return, Over}
use Rattle.flow_graph.specs.declared.parts.Unit.{Unit as FlowUnit}
use Rattle.range_facts.specs.Ranges.{IsWithin, unknown}
use Rattle.range_facts.specs.Transfer.{fact_of}
use Rattle.range_facts.specs.declared.facts.Facts.{Facts}
use Rattle.range_facts.specs.declared.strided.Strided.{Strided}
use Rattle.run_law.specs.Certificate.{masked_if}
use Rattle.bound_checker.specs.Lines.{place_in}
use Rattle.bound_checker.specs.Marks.{mark_at}

-- the function that an Over edge of a unit goes over
abbrev pub callee_of : EdgeKind → FlowUnit → Option ℕ
callee_of Over unit = target_of unit.first unit.at
callee_of Next unit = None
callee_of Taken unit = None
callee_of Call unit = None
callee_of Return unit = None

-- a fact, unknown where the function called may write the register
abbrev pub fact_over : (ℕ → ℕ → Bool) → Option ℕ → Facts → ℕ → Strided
fact_over mask callee f r = if masked_if mask callee r then unknown else fact_of f r

-- the least register whose fact isn't kept, if any
abbrev pub IsLeastLost : (ℕ → ℕ → Bool) → Option ℕ → Facts → Facts → Option ℕ → Type 0
IsLeastLost mask callee f target None = (r : ℕ) → r < 32 → IsWithin (fact_over mask callee f r) (fact_of target r)
IsLeastLost mask callee f target (Some q) =
    (q < 32) × (IsWithin (fact_over mask callee f q) (fact_of target q) → ⊥)
    × ((r : ℕ) → r < q → IsWithin (fact_over mask callee f r) (fact_of target r))

-- what functions may write, as it is kept: the functions by rising address, and for each 32 marks, one row after the other
unfoldable pub mask_of : List ℕ → List Bool → ℕ → ℕ → Bool
mask_of functions marks f r = mark_at marks (place_in functions f) r

pub record AreRows (functions : List ℕ) (marks : List Bool) : Type 0 where
  pub rise : IsStrictlyIncreasing functions
  pub beside : length marks ≡ length functions * 32
