-- What the check of facts answers. This project's own.
use Rattle.std.specs.Prelude.{◌≡◌, ℕ, Bool, List, Option, Some, None, Result, Ok, Err, length}
use Rattle.visa_io.specs.declared.records.Code.{Code}
use Rattle.visa_io.specs.declared.records.FactLine.{FactLine}
use Rattle.flow_graph.specs.Flow.{Flow}
use Rattle.loop_regions.specs.Walks.{LoopGraph}
use Rattle.range_facts.specs.declared.facts.Facts.{Facts}
use Rattle.run_law.specs.Masks.{AreMasks}
use Rattle.bound_checker.specs.Gone.{AreRowsOf, IsFoundAt, mask_in}
use Rattle.bound_checker.specs.Input.{IsTable}
use Rattle.bound_checker.specs.Room.{IsSized}
use Rattle.bound_checker.specs.Lines.{addresses_of, blocks_of, program_of}
use Rattle.bound_checker.specs.declared.check.Proved.{Proved}
use Rattle.bound_checker.specs.declared.fault.FactFault.{FactFault}
use Rattle.bound_checker.specs.declared.fault.FactFault.TheVariants.{NotHeld, Memory}
use Rattle.bound_checker.specs.declared.place.Lost.{Lost}

-- what is kept of a graph, its code and fact lines
pub record IsProved (code : Code) (g : Flow) (lines : List FactLine) (p : Proved) : Type 0 where
  pub addresses_are : p.addresses.items ≡ addresses_of g
  pub is_table : IsTable lines p.table
  pub rows : AreRowsOf g p.masks
  pub masks_are : AreMasks code g.entry (mask_in p.masks)
  pub room : IsSized (length g.units) p.room

-- by masks that tell what functions may write, and whatever the regions: all facts are kept, or the first place where one isn't
pub record IsCheck (code : Code) (g : Flow) (lines : List FactLine) (opening : Facts) (found : Option Lost) : Type 0 where
  pub mask : ℕ → ℕ → Bool
  pub masks : AreMasks code g.entry mask
  pub is : (loops : LoopGraph) → IsFoundAt (program_of code g lines loops mask) (blocks_of g lines) opening found

abbrev pub place : ℕ → ℕ → ℕ → Lost
place from to r = record { from = from; to = to; register = r }

abbrev pub IsAnswer : Code → Flow → List FactLine → Facts → Result Proved FactFault → Type 0
IsAnswer code g lines opening (Ok p) = IsProved code g lines p × IsCheck code g lines opening None
IsAnswer code g lines opening (Err (NotHeld from to r)) = IsCheck code g lines opening (Some (place from to r))
IsAnswer code g lines opening (Err Memory) = Unit {0}

abbrev pub told_of : Proved → Option Lost → Result Proved FactFault
told_of p None = Ok p
told_of p (Some t) = Err (NotHeld t.from t.to t.register)
