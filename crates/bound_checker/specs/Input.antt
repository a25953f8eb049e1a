-- What the check of facts is given. This project's own.
use Rattle.std.specs.Prelude.{◌≡◌, ◌<◌, ℕ, List, All, length}
use Rattle.std.specs.BTreeMap.{BTreeMap, get}
use Rattle.std.specs.Option.{unwrap_or}
use Rattle.std.specs.Ordering.{nat_cmp}
use Rattle.visa_io.specs.declared.records.Code.{Code}
use Rattle.visa_io.specs.declared.records.FactLine.{FactLine}
use Rattle.flow_graph.specs.Code.{IsCode}
use Rattle.flow_graph.specs.Flow.{Flow, IsGraph}
use Rattle.range_facts.specs.Ranges.{IsFact}
use Rattle.range_facts.specs.Transfer.{AreFacts}
use Rattle.range_facts.specs.declared.facts.Facts.{Facts}
use Rattle.range_facts.specs.declared.along.Along.{Along}
use Rattle.run_law.specs.Certificate.{before_nth}
use Rattle.bound_checker.specs.Lines.{blocks_of, facts_at, line_range, no_facts}

-- a line names a register that can be written, and a fact
pub record IsLine (line : FactLine) : Type 0 where
  pub some : 0 < line.register
  pub below : line.register < 32
  pub fact : IsFact (line_range line)

-- a table has the facts of lines
abbrev pub IsTable : List FactLine → BTreeMap ℕ Facts → Type 0
IsTable lines table = (a : ℕ) → unwrap_or (get nat_cmp table a) no_facts ≡ facts_at lines a

pub record IsInput (code : Code) (g : Flow) (lines : List FactLine) : Type 0 where
  pub whole : IsCode code
  pub graph : IsGraph code g.entry g
  pub lines_are : All IsLine lines

-- facts before the unit of a number
pub record IsBefore (code : Code) (g : Flow) (lines : List FactLine) (n : ℕ) (a : Along) : Type 0 where
  pub within : n < length g.units
  pub is : a ≡ before_nth code (blocks_of g lines) n
  pub facts : AreFacts a.facts
