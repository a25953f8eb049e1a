-- Registers whose values are those of well-formed facts. This project's
-- own.
use Rattle.std.specs.Prelude.{ℕ, Bool, List, Option, Some, None}
use Rattle.mips_isa.specs.declared.instr.Instr.{Instr}
use Rattle.range_facts.specs.Along.{refined_by}
use Rattle.range_facts.specs.Fit.{Fit}
use Rattle.range_facts.specs.Transfer.{AreFacts}
use Rattle.range_facts.specs.declared.along.Along.{Along}

pub record Fits (a : Along) (registers : List ℕ) : Type 0 where
  pub facts : AreFacts a.facts
  pub fit : Fit a registers

-- what fits the first, fits the second
abbrev pub PassOn : Along → Along → Type 0
PassOn a b = (registers : List ℕ) → Fits a registers → Fits b registers

-- what a branch, taken or not, says of the facts before it, where there is an instruction
abbrev pub refined_if : Option Instr → Bool → Along → Option Along
refined_if None taken a = None
refined_if (Some i) taken a = refined_by i taken a
