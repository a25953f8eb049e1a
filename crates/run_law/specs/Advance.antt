-- What one step of the reference machine leaves, as far as the flow of control goes. This project's own.
use Rattle.std.specs.Prelude.{◌≡◌, ◌≢◌, ◌<◌, ◌^◌, ℕ, true, false, List, ◌∷◌, length, slice_index, Some, if◌then◌else◌}
use Rattle.mips_isa.specs.Kinds.{kind_of, is_control}
use Rattle.mips_isa.specs.Names.{writes_of}
use Rattle.mips_isa.specs.Words.{word_sum}
use Rattle.mips_isa.specs.declared.instr.Instr.{Instr}
use Rattle.mips_isa.specs.declared.instr.Kind.TheVariants as kind
use Rattle.mips_ref.specs.Mips.{Mips}
use Rattle.mips_ref.specs.Step.{retired_of}
use Rattle.mips_ref.specs.declared.records.Step.{Step}
use Rattle.mips_ref.specs.declared.records.Step.TheVariants.{Went, Exit, Trap}
use Rattle.mips_ref.specs.declared.records.TrapKind.{TrapKind}
use Rattle.mips_ref.specs.declared.records.TrapKind.TheVariants.{FetchFault, Reserved, ReturnFull}
use Rattle.run_law.specs.Instructions.{target_of}

-- the next instruction acts next, `next` is the address after it, and the return stack is this
pub record Advances (x y : Mips) (next : ℕ) (returns : List ℕ) : Type 0 where
  pub pc : y.pc ≡ x.next_pc
  pub next_pc : y.next_pc ≡ next
  pub returns_are : y.returns ≡ returns

-- a return goes to the newest address of the return stack
pub record Returns (x y : Mips) : Type 0 where
  pub pc : y.pc ≡ x.next_pc
  pub popped : x.returns ≡ y.next_pc ∷ y.returns

-- what a step of an instruction of this kind leaves
pub record StepsBy (i : Instr) (x y : Mips) : Type 0 where
  pub plain : is_control (kind_of i) ≡ false → Advances x y (word_sum x.next_pc 4) x.returns
  pub branch : kind_of i ≡ kind.Branch
      → Advances x y (if (retired_of i x).taken then target_of i x.pc else word_sum x.next_pc 4) x.returns
  pub jump : kind_of i ≡ kind.Jump → Advances x y (target_of i x.pc) x.returns
  pub call : kind_of i ≡ kind.Call → Advances x y (target_of i x.pc) (word_sum x.pc 8 ∷ x.returns)
  pub return : kind_of i ≡ kind.Return → Returns x y
  -- control but a call leaves the registers
  pub unlinked : is_control (kind_of i) ≡ true → kind_of i ≢ kind.Call → y.registers ≡ x.registers
  pub kept : (r : ℕ) → r < 32 → writes_of i ≢ Some r → slice_index y.registers r ≡ slice_index x.registers r

-- 32 words, the first of them zero
pub record AreRegisters (registers : List ℕ) : Type 0 where
  pub length_is : length registers ≡ 32
  pub zero : slice_index registers 0 ≡ 0
  pub words : (r : ℕ) → r < 32 → slice_index registers r < 2 ^ 32

-- the traps that admission excludes
abbrev pub MayTrap : TrapKind → Type 0
MayTrap FetchFault = ⊥
MayTrap Reserved = ⊥
MayTrap ReturnFull = ⊥
MayTrap k = Unit {0}

abbrev pub MayAnswer : Step → Type 0
MayAnswer Went = Unit {0}
MayAnswer Exit = Unit {0}
MayAnswer (Trap k pc) = MayTrap k
