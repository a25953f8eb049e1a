-- What the functions that are called from a region write. This project's own.
use Rattle.std.specs.Prelude.{◌≡◌, ◌<◌, ◌≤◌, ◌+◌, ℕ, true, Option, Some, None, length}
use Rattle.visa_io.specs.declared.records.Code.{Code}
use Rattle.visa_io.specs.declared.records.Region.{Region}
use Rattle.mips_isa.specs.Names.{writes_of}
use Rattle.mips_isa.specs.declared.instr.Instr.{Instr}
use Rattle.flow_graph.specs.Code.{instr_at}
use Rattle.flow_graph.specs.Faults.{is_word_of}
use Rattle.flow_graph.specs.Flow.{Flow}
use Rattle.flow_graph.specs.Own.{lesser}
use Rattle.flow_graph.specs.Reached.{CallsAt}
use Rattle.flow_graph.specs.declared.parts.Unit.{Unit as FlowUnit}
use Rattle.loop_regions.specs.Walks.{holds}
use Rattle.bound_checker.specs.Room.{seen_at}
use Rattle.bound_checker.specs.Tally.{address_at, only_if, writes_counter}
use Rattle.bound_checker.specs.declared.room.Room.{Room}

-- the unit of a number is called from that of another
pub record IsCalledAt (code : Code) (g : Flow) (k j : ℕ) : Type 0 where
  pub within : j < length g.units
  pub calls : CallsAt code (address_at g k) (address_at g j)

pub record IsCalledFrom (code : Code) (g : Flow) (lo hi j : ℕ) : Type 0 where
  pub k : ℕ
  pub from : lo ≤ k
  pub below : k < hi
  pub called : IsCalledAt code g k j

abbrev pub write_if : ℕ → FlowUnit → Option Instr → Option ℕ
write_if c unit None = only_if (writes_counter c unit.first) unit.at
write_if c unit (Some slot) = lesser (only_if (writes_counter c unit.first) unit.at) (only_if (writes_counter c slot) (unit.at + 4))

abbrev pub write_of : ℕ → FlowUnit → Option ℕ
write_of c unit = write_if c unit unit.slot

-- a unit that is found writes a register at an address
pub record IsWritten (code : Code) (g : Flow) (room : Room) (c at : ℕ) : Type 0 where
  pub k : ℕ
  pub seen : seen_at room k ≡ true
  pub word : is_word_of code (address_at g k) at ≡ true
  pub instr : Instr
  pub stands : instr_at code at ≡ Some instr
  pub writes : writes_of instr ≡ Some c

-- the units of these numbers are those of a region
pub record AreOfRegion (g : Flow) (region : Region) (lo hi : ℕ) : Type 0 where
  pub inside : (k : ℕ) → lo ≤ k → k < hi → holds region (address_at g k) ≡ true
  pub all : (k : ℕ) → k < length g.units → holds region (address_at g k) ≡ true → (lo ≤ k) × (k < hi)
