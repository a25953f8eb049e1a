-- The units of a region, gone through. This project's own.
use Rattle.std.specs.Prelude.{◌≡◌, ◌<◌, ◌≤◌, ◌==◌, ℕ, if◌then◌else◌, List, length, slice_index}
use Rattle.visa_io.specs.declared.records.Code.{Code}
use Rattle.visa_io.specs.declared.records.FactLine.{FactLine}
use Rattle.visa_io.specs.declared.records.Region.{Region}
use Rattle.flow_graph.specs.Flow.{Flow}
use Rattle.flow_graph.specs.declared.parts.Unit.{Unit as FlowUnit}
use Rattle.range_facts.specs.Ranges.{IsFact, unknown}
use Rattle.range_facts.specs.Transfer.{fact_of}
use Rattle.range_facts.specs.declared.along.Along.{Along}
use Rattle.range_facts.specs.declared.strided.Strided.{Strided}
use Rattle.run_law.specs.Certificate.{before_nth}
use Rattle.bound_checker.specs.Lines.{blocks_of}
use Rattle.bound_checker.specs.Tally.{IsAmong, IsTally, address_at, empty}
use Rattle.bound_checker.specs.declared.walk.Walked.{Walked}

abbrev pub header_fact : Region → FlowUnit → Along → Strided → Strided
header_fact region unit a fact = if unit.at == region.header then fact_of a.facts region.counter else fact

abbrev pub begun_with : Along → Walked
begun_with a = record { n = 0; along = a; tally = empty; fact = unknown }

-- what the units of some numbers say of a region's counter
pub record IsWalked (code : Code) (g : Flow) (lines : List FactLine) (region : Region) (lo hi : ℕ) (w : Walked) : Type 0 where
  pub says : IsTally region.counter (IsAmong code g lines region.counter lo hi) w.tally
  pub before : (k : ℕ) → lo ≤ k → k < hi → address_at g k ≡ region.header → w.fact ≡ fact_of (before_nth code (blocks_of g lines) k).facts region.counter
  pub fact : IsFact w.fact

-- the number of the first address from one on
pub record IsFirstNumber (addresses : List ℕ) (a i : ℕ) : Type 0 where
  pub within : i ≤ length addresses
  pub earlier : (j : ℕ) → j < i → slice_index addresses j < a
  pub later : (j : ℕ) → i ≤ j → j < length addresses → a ≤ slice_index addresses j
