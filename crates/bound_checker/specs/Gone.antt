-- How far edges are gone through. This project's own.
use Rattle.std.specs.Prelude.{◌≡◌, ℕ, Bool, true, false, Option, Some, None, List}
use Rattle.visa_io.specs.declared.records.Code.{Code}
use Rattle.visa_io.specs.declared.records.FactLine.{FactLine}
use Rattle.flow_graph.specs.Flow.{Flow}
use Rattle.flow_graph.specs.declared.parts.Edge.{Edge}
use Rattle.flow_graph.specs.declared.parts.EdgeKind.{EdgeKind}
use Rattle.flow_graph.specs.declared.parts.EdgeKind.TheVariants.{Return}
use Rattle.loop_regions.specs.Walks.{LoopGraph}
use Rattle.range_facts.specs.declared.facts.Facts.{Facts}
use Rattle.run_law.specs.Certificate.{Blocks}
use Rattle.run_law.specs.Program.{Program}
use Rattle.bound_checker.specs.Checked.{AllKept, IsBest, IsFirst, IsLost, earlier_of, outside}
use Rattle.bound_checker.specs.Lines.{blocks_of, program_of}
use Rattle.bound_checker.specs.Lost.{AreRows, mask_of}
use Rattle.bound_checker.specs.declared.masks.Masks.{Masks}
use Rattle.bound_checker.specs.declared.place.Lost.{Lost}

abbrev pub is_return : EdgeKind → Bool
is_return Return = true
is_return k = false

abbrev pub mask_in : Masks → ℕ → ℕ → Bool
mask_in m = mask_of m.functions.items m.marks.items

-- rows for the functions of a graph
pub record AreRowsOf (g : Flow) (m : Masks) : Type 0 where
  pub rows : AreRows m.functions.items m.marks.items
  pub functions_are : m.functions.items ≡ g.functions

-- whatever the regions
abbrev pub IsLostAlong : Code → Flow → List FactLine → Masks → Edge → Option ℕ → Type 0
IsLostAlong code g lines m e lost = (loops : LoopGraph) → IsLost (program_of code g lines loops (mask_in m)) (blocks_of g lines) e lost

abbrev pub IsBestOf : Code → Flow → List FactLine → Masks → List Edge → Option Lost → Type 0
IsBestOf code g lines m es best = (loops : LoopGraph) → IsBest (program_of code g lines loops (mask_in m)) (blocks_of g lines) es best

-- the opening edge too, which loses a register
abbrev pub with_opening : ℕ → Option Lost → Option ℕ → Option Lost
with_opening entry best None = best
with_opening entry best (Some q) = Some (earlier_of best (record { from = outside; to = entry; register = q }))

-- what the check finds: that all facts are kept, or the first place where one isn't
abbrev pub IsFoundAt : Program → Blocks → Facts → Option Lost → Type 0
IsFoundAt p b opening None = AllKept p b opening
IsFoundAt p b opening (Some t) = IsFirst p b opening t.from t.to t.register

abbrev pub IsFaultOf : Code → Flow → List FactLine → Masks → Facts → Option Lost → Type 0
IsFaultOf code g lines m opening fault = (loops : LoopGraph) → IsFoundAt (program_of code g lines loops (mask_in m)) (blocks_of g lines) opening fault
