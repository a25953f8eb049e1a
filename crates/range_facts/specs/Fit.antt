-- Registers whose values are those of the facts. This project's own.
use Rattle.std.specs.Prelude.{ℕ, ◌^◌, ◌<◌, ◌≡◌, int_lt, List, length, Option, Some, None, slice_index}
use Rattle.mips_isa.specs.Words.{signed}
use Rattle.mips_ref.specs.Act.{flag}
use Rattle.range_facts.specs.Along.{test_of}
use Rattle.range_facts.specs.Ranges.{Holds}
use Rattle.range_facts.specs.Transfer.{fact_of}
use Rattle.range_facts.specs.declared.along.Along.{Along}
use Rattle.range_facts.specs.declared.tests.Test.{Test}

-- a register has the answer of its comparison
abbrev pub IsAnswer : Option Test → ℕ → List ℕ → Type 0
IsAnswer None word registers = Unit {0}
IsAnswer (Some t) word registers = word ≡ flag (int_lt (signed (slice_index registers t.of)) t.bound)

-- 32 words, each read as signed a value of its fact, and each the answer of its comparison
pub record Fit (a : Along) (registers : List ℕ) : Type 0 where
  pub long : length registers ≡ 32
  pub words : (r : ℕ) → slice_index registers r < 2 ^ 32
  pub holds : (r : ℕ) → Holds (fact_of a.facts r) (signed (slice_index registers r))
  pub meant : (r : ℕ) → IsAnswer (test_of a r) (slice_index registers r) registers

-- what fits the first, fits the second
abbrev pub Carries : Along → Along → Type 0
Carries a b = (registers : List ℕ) → Fit a registers → Fit b registers
