-- What is wrong with the count of a region, as conditions on its instructions; and how many visits its steps need.
-- This
-- project's own.
use Rattle.std.specs.Prelude.{◌≡◌, ◌≢◌, ◌⊎◌, ◌≤◌, ◌+◌, ◌/◌, ◌+ℤ◌, ◌-ℤ◌, ℕ, ℤ, pos, Bool, true, false, ◌&&◌, not, ◌==◌, if◌then◌else◌, int_lt, unsigned_abs, List, ◌∷◌, Option, Some, None}
use Rattle.std.specs.Ordering.{int_eq}
use Rattle.visa_io.specs.declared.records.Region.{Region}
use Rattle.mips_isa.specs.Names.{writes_of}
use Rattle.mips_isa.specs.Words.{extended_half, signed}
use Rattle.mips_isa.specs.declared.instr.Instr.{Instr}
use Rattle.mips_isa.specs.declared.instr.Instr.TheVariants.{Imm}
use Rattle.mips_isa.specs.declared.instr.ImmOp.{ImmOp}
use Rattle.mips_isa.specs.declared.instr.ImmOp.TheVariants.{Addiu}
use Rattle.mips_ref.specs.Act.{fits_word}
use Rattle.flow_graph.specs.Code.{instr_at}
use Rattle.flow_graph.specs.Faults.{is_word_of}
use Rattle.flow_graph.specs.Reached.{CallsAt, Reached}
use Rattle.loop_regions.specs.Walks.{holds}
use Rattle.range_facts.specs.Transfer.{fact_of}
use Rattle.range_facts.specs.declared.along.Along.{Along}
use Rattle.range_facts.specs.declared.strided.Strided.{Strided}
use Rattle.run_law.specs.Certificate.{behind}
use Rattle.run_law.specs.Masks.{MayWrite}
use Rattle.run_law.specs.Program.{IsQuietWay, Program}

-- by how much an instruction steps a counter: addiu c,c,s with s not 0
abbrev pub imm_step : ℕ → ImmOp → ℕ → ℕ → ℕ → Option ℤ
imm_step c Addiu rs rt imm =
    if (rs == c) && ((rt == c) && not (int_eq (signed (extended_half imm)) (pos 0))) then Some (signed (extended_half imm))
    else None
imm_step c m rs rt imm = None

abbrev pub step_by : ℕ → Instr → Option ℤ
step_by c (Imm m rs rt imm) = imm_step c m rs rt imm
step_by c i = None

-- an instruction of a region: it is one of a unit that lies there
pub record IsOfRegion (p : Program) (r : Region) (at : ℕ) (i : Instr) : Type 0 where
  pub unit : ℕ
  pub reached : Reached p.code p.entry unit
  pub inside : holds r unit ≡ true
  pub word : is_word_of p.code unit at ≡ true
  pub stands : instr_at p.code at ≡ Some i

-- a step of a region's counter
pub record IsStepAt (p : Program) (r : Region) (at : ℕ) (by : ℤ) : Type 0 where
  pub instr : Instr
  pub of : IsOfRegion p r at instr
  pub steps : step_by r.counter instr ≡ Some by

abbrev pub is_up : ℤ → Bool
is_up by = int_lt (pos 0) by

-- the header lies on a cycle inside the region that has no step
pub record HasNoStep (p : Program) (r : Region) : Type 0 where
  pub last : ℕ
  pub before : List ℕ
  pub way : IsQuietWay p r (r.header ∷ last ∷ before)

-- an instruction of the region writes the counter and is no step
pub record WritesOther (p : Program) (r : Region) (at : ℕ) : Type 0 where
  pub instr : Instr
  pub of : IsOfRegion p r at instr
  pub writes : writes_of instr ≡ Some r.counter
  pub no_step : step_by r.counter instr ≡ None

-- a step has the other sign than the step of the least address
pub record TurnsBack (p : Program) (r : Region) (at : ℕ) : Type 0 where
  pub by : ℤ
  pub step : IsStepAt p r at by
  pub first : ℕ
  pub first_by : ℤ
  pub first_step : IsStepAt p r first first_by
  pub least : (other : ℕ) (other_by : ℤ) → IsStepAt p r other other_by → first ≤ other
  pub differs : is_up by ≢ is_up first_by

-- an instruction of a function that is called from the region, directly or through others, writes the counter
pub record CalleeWrites (p : Program) (r : Region) (at : ℕ) : Type 0 where
  pub unit : ℕ
  pub reached : Reached p.code p.entry unit
  pub inside : holds r unit ≡ true
  pub function : ℕ
  pub calls : CallsAt p.code unit function
  pub writes : MayWrite p.code function r.counter
  pub at_is : writes.at ≡ at

abbrev pub HasOtherWrite : Program → Region → ℕ → Type 0
HasOtherWrite p r at = WritesOther p r at ⊎ TurnsBack p r at ⊎ CalleeWrites p r at

-- the facts before an instruction of a unit: before a slot, those behind the control instruction
abbrev pub before_at : Program → ℕ → ℕ → Along
before_at p unit at = if at == unit then p.before unit else behind (instr_at p.code unit) unit (p.before unit)

-- the counter's fact, moved, stays among the signed words
abbrev pub stays_fit : Strided → ℤ → Bool
stays_fit s by = fits_word (s.lo +ℤ by) && fits_word (s.hi +ℤ by)

-- before a step the counter's fact plus the step leaves the signed words
pub record HasWrap (p : Program) (r : Region) (at : ℕ) : Type 0 where
  pub by : ℤ
  pub step : IsStepAt p r at by
  pub wraps : stays_fit (fact_of (before_at p step.of.unit at).facts r.counter) by ≡ false

-- the way that all steps of a region go, and the least size of one; none where it has no step
pub record Stride : Type 0 where
  pub up : Bool
  pub least : ℕ

abbrev pub AreSteps : Program → Region → Option Stride → Type 0
AreSteps p r None = (at : ℕ) (by : ℤ) → IsStepAt p r at by → ⊥
AreSteps p r (Some stride) =
    ((at : ℕ) (by : ℤ) → IsStepAt p r at by → (is_up by ≡ stride.up) × (stride.least ≤ unsigned_abs by))
    × ((at : ℕ) × (by : ℤ) × IsStepAt p r at by × (unsigned_abs by ≡ stride.least))

-- so many visits of the header are needed at most, by the counter's fact before it
abbrev pub needed_of : Option Stride → Strided → ℕ
needed_of None s = 1
needed_of (Some stride) s = unsigned_abs (s.hi -ℤ s.lo) / stride.least + 1

-- a region's count is right
pub record IsCounted (p : Program) (r : Region) : Type 0 where
  pub stride : Option Stride
  pub steps : AreSteps p r stride
  pub cycles : HasNoStep p r → ⊥
  pub writes : (at : ℕ) → HasOtherWrite p r at → ⊥
  pub wraps : (at : ℕ) → HasWrap p r at → ⊥
  pub enough : needed_of stride (fact_of (p.before r.header).facts r.counter) ≤ r.count
