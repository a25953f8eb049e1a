-- What an instruction does with the values of its registers, memory and the return stack aside.
-- Source: MIPS32 Architecture For Programmers, volume II, release 1, "Operation" of each instruction. That a division by zero
-- leaves HI and LO, and that the least number divided by -1 is itself with remainder 0, is this project's own.
use Rattle.std.specs.Prelude.{ℕ, ℤ, pos, negsuc, ◌+◌, ◌-◌, ◌*◌, ◌/◌, ◌%◌, ◌^◌, ◌+ℤ◌, ◌-ℤ◌, ◌*ℤ◌, Bool, true, false, not, nat_lt, nat_le, ◌==◌, if◌then◌else◌, Option, Some, None, bit_and, bit_or, bit_xor, int_div, int_lt, int_rem}
use Rattle.std.specs.Int.{cast_unsigned, int_shr, leading_ones, leading_zeros, bit_not, w32, w64}
use Rattle.mips_isa.specs.Words.{branch_target, extended_half, high_word, jump_target, low_word, pair_of, signed, unsigned, word_difference, word_product, word_sum}
use Rattle.mips_isa.specs.declared.instr.Instr.{Instr}
use Rattle.mips_isa.specs.declared.instr.Instr.TheVariants.{R3, Shift, Acc, HiLo, Count, Imm, Lui, Load, Store, Pref, Branch2, Branch1, Jump, Jr, Jalr, TrapIf, Stop, Sync}
use Rattle.mips_isa.specs.declared.instr.R3Op.{R3Op}
use Rattle.mips_isa.specs.declared.instr.R3Op.TheVariants.{Sllv, Srlv, Srav, Movz, Movn, Add, Addu, Sub, Subu, And, Or, Xor, Nor, Slt, Sltu, Mul}
use Rattle.mips_isa.specs.declared.instr.ShiftOp.{ShiftOp}
use Rattle.mips_isa.specs.declared.instr.ShiftOp.TheVariants.{Sll, Srl, Sra}
use Rattle.mips_isa.specs.declared.instr.AccOp.{AccOp}
use Rattle.mips_isa.specs.declared.instr.AccOp.TheVariants.{Mult, Multu, Div, Divu, Madd, Maddu, Msub, Msubu}
use Rattle.mips_isa.specs.declared.instr.HiLoOp.{HiLoOp}
use Rattle.mips_isa.specs.declared.instr.HiLoOp.TheVariants.{Mfhi, Mflo, Mthi, Mtlo}
use Rattle.mips_isa.specs.declared.instr.CountOp.{CountOp}
use Rattle.mips_isa.specs.declared.instr.CountOp.TheVariants.{Clz, Clo}
use Rattle.mips_isa.specs.declared.instr.ImmOp.{ImmOp}
use Rattle.mips_isa.specs.declared.instr.ImmOp.TheVariants.{Addi, Addiu, Slti, Sltiu, Andi, Ori, Xori}
use Rattle.mips_isa.specs.declared.instr.Branch2Op.{Branch2Op}
use Rattle.mips_isa.specs.declared.instr.Branch2Op.TheVariants.{Beq, Bne}
use Rattle.mips_isa.specs.declared.instr.Branch1Op.{Branch1Op}
use Rattle.mips_isa.specs.declared.instr.Branch1Op.TheVariants.{Blez, Bgtz, Bltz, Bgez, Bltzal, Bgezal}
use Rattle.mips_isa.specs.declared.instr.JumpOp.{JumpOp}
use Rattle.mips_isa.specs.declared.instr.JumpOp.TheVariants.{J, Jal}
use Rattle.mips_isa.specs.declared.instr.TrapIfOp.{TrapIfOp}
use Rattle.mips_isa.specs.declared.instr.TrapIfOp.TheVariants.{Tge, Tgeu, Tlt, Tltu, Teq, Tne}
use Rattle.mips_isa.specs.declared.instr.StopOp.{StopOp}
use Rattle.mips_isa.specs.declared.instr.StopOp.TheVariants.{Syscall, Break as BreakStop}
use Rattle.mips_ref.specs.declared.records.Act.{Act}
use Rattle.mips_ref.specs.declared.records.TrapKind.{TrapKind}
use Rattle.mips_ref.specs.declared.records.TrapKind.TheVariants.{Overflow, TrapInstr, Break, Syscall as SyscallTrap}
use Rattle.mips_ref.specs.declared.records.Values.{Values}

-- an instruction that isn't control goes on after the next one
abbrev pub goes_on : Option ℕ → ℕ → Act
goes_on write npc = record { write = write; next = word_sum npc 4; taken = false; at = None; trap = None }

abbrev pub stops : TrapKind → Act
stops kind = record { write = None; next = 0; taken = false; at = None; trap = Some kind }

abbrev pub goes_to : Option ℕ → Bool → ℕ → ℕ → Act
goes_to write taken target npc =
    record { write = write; next = if taken then target else word_sum npc 4; taken = taken; at = None; trap = None }

abbrev pub reaches : ℕ → ℕ → Act
reaches at npc = record { write = None; next = word_sum npc 4; taken = false; at = Some at; trap = None }

-- the value for a register; register 0 isn't written
abbrev pub to_register : ℕ → ℕ → Option ℕ
to_register r value = if r == 0 then None else Some value

-- a value, or Overflow
abbrev pub unless_overflow : ℕ → ℕ → Option ℕ → Act
unless_overflow r npc None = stops Overflow
unless_overflow r npc (Some value) = goes_on (to_register r value) npc

-- a truth as a number
abbrev pub flag : Bool → ℕ
flag b = if b then 1 else 0

-- a signed number fits a word
abbrev pub fits_word : ℤ → Bool
fits_word (pos n) = nat_lt n (2 ^ 31)
fits_word (negsuc n) = nat_lt n (2 ^ 31)

abbrev pub word_if_fits : ℤ → Option ℕ
word_if_fits z = if fits_word z then Some (unsigned z) else None

abbrev pub less_signed : ℕ → ℕ → Bool
less_signed a b = int_lt (signed a) (signed b)

abbrev pub shifted_left : ℕ → ℕ → ℕ
shifted_left a k = low_word (a * 2 ^ k)

abbrev pub shifted_right : ℕ → ℕ → ℕ
shifted_right a k = a / 2 ^ k

-- the sign bit comes in from the left
abbrev pub shifted_signed : ℕ → ℕ → ℕ
shifted_signed a k = unsigned (int_shr (signed a) k)

unfoldable pub r3_value : R3Op → Values → Option ℕ
r3_value Sllv v = Some (shifted_left v.rt (v.rs % 32))
r3_value Srlv v = Some (shifted_right v.rt (v.rs % 32))
r3_value Srav v = Some (shifted_signed v.rt (v.rs % 32))
r3_value Movz v = Some (if v.rt == 0 then v.rs else v.rd)
r3_value Movn v = Some (if v.rt == 0 then v.rd else v.rs)
r3_value Add v = word_if_fits (signed v.rs +ℤ signed v.rt)
r3_value Addu v = Some (word_sum v.rs v.rt)
r3_value Sub v = word_if_fits (signed v.rs -ℤ signed v.rt)
r3_value Subu v = Some (word_difference v.rs v.rt)
r3_value And v = Some (bit_and v.rs v.rt)
r3_value Or v = Some (bit_or v.rs v.rt)
r3_value Xor v = Some (bit_xor v.rs v.rt)
r3_value Nor v = Some (bit_not w32 (bit_or v.rs v.rt))
r3_value Slt v = Some (flag (less_signed v.rs v.rt))
r3_value Sltu v = Some (flag (nat_lt v.rs v.rt))
r3_value Mul v = Some (word_product v.rs v.rt)

unfoldable pub shift_value : ShiftOp → ℕ → Values → ℕ
shift_value Sll sa v = shifted_left v.rt sa
shift_value Srl sa v = shifted_right v.rt sa
shift_value Sra sa v = shifted_signed v.rt sa

-- a signed product as a number of 64 bits
abbrev pub signed_product : ℕ → ℕ → ℕ
signed_product a b = cast_unsigned w64 (signed a *ℤ signed b)

-- remainder and quotient as HI and LO, which a division by zero leaves
abbrev pub quotient_signed : ℕ → ℕ → ℕ → ℕ
quotient_signed a b pair =
    if b == 0 then pair else pair_of (unsigned (int_rem (signed a) (signed b))) (unsigned (int_div (signed a) (signed b)))

abbrev pub quotient : ℕ → ℕ → ℕ → ℕ
quotient a b pair = if b == 0 then pair else pair_of (a % b) (a / b)

-- the new HI and LO
unfoldable pub acc_value : AccOp → Values → ℕ
acc_value Mult v = signed_product v.rs v.rt
acc_value Multu v = v.rs * v.rt
acc_value Div v = quotient_signed v.rs v.rt v.pair
acc_value Divu v = quotient v.rs v.rt v.pair
acc_value Madd v = (v.pair + signed_product v.rs v.rt) % 2 ^ 64
acc_value Maddu v = (v.pair + v.rs * v.rt) % 2 ^ 64
acc_value Msub v = (v.pair + (2 ^ 64 - signed_product v.rs v.rt)) % 2 ^ 64
acc_value Msubu v = (v.pair + (2 ^ 64 - v.rs * v.rt)) % 2 ^ 64

-- the value for the register rd, or the new HI and LO
unfoldable pub hilo_write : HiLoOp → ℕ → Values → Option ℕ
hilo_write Mfhi rd v = to_register rd (high_word v.pair)
hilo_write Mflo rd v = to_register rd (low_word v.pair)
hilo_write Mthi rd v = Some (pair_of v.rs (low_word v.pair))
hilo_write Mtlo rd v = Some (pair_of (high_word v.pair) v.rs)

unfoldable pub count_value : CountOp → Values → ℕ
count_value Clz v = leading_zeros w32 v.rs
count_value Clo v = leading_ones w32 v.rs

unfoldable pub imm_value : ImmOp → ℕ → Values → Option ℕ
imm_value Addi imm v = word_if_fits (signed v.rs +ℤ signed (extended_half imm))
imm_value Addiu imm v = Some (word_sum v.rs (extended_half imm))
imm_value Slti imm v = Some (flag (less_signed v.rs (extended_half imm)))
imm_value Sltiu imm v = Some (flag (nat_lt v.rs (extended_half imm)))
imm_value Andi imm v = Some (bit_and v.rs imm)
imm_value Ori imm v = Some (bit_or v.rs imm)
imm_value Xori imm v = Some (bit_xor v.rs imm)

unfoldable pub branch2_taken : Branch2Op → Values → Bool
branch2_taken Beq v = v.rs == v.rt
branch2_taken Bne v = not (v.rs == v.rt)

unfoldable pub branch1_taken : Branch1Op → Values → Bool
branch1_taken Blez v = not (less_signed 0 v.rs)
branch1_taken Bgtz v = less_signed 0 v.rs
branch1_taken Bltz v = less_signed v.rs 0
branch1_taken Bgez v = not (less_signed v.rs 0)
branch1_taken Bltzal v = less_signed v.rs 0
branch1_taken Bgezal v = not (less_signed v.rs 0)

-- the return address, for the members that link
unfoldable pub branch1_link : Branch1Op → ℕ → Option ℕ
branch1_link Bltzal pc = Some (word_sum pc 8)
branch1_link Bgezal pc = Some (word_sum pc 8)
branch1_link _ pc = None

unfoldable pub jump_link : JumpOp → ℕ → Option ℕ
jump_link J pc = None
jump_link Jal pc = Some (word_sum pc 8)

unfoldable pub traps_if : TrapIfOp → Values → Bool
traps_if Tge v = not (less_signed v.rs v.rt)
traps_if Tgeu v = nat_le v.rt v.rs
traps_if Tlt v = less_signed v.rs v.rt
traps_if Tltu v = nat_lt v.rs v.rt
traps_if Teq v = v.rs == v.rt
traps_if Tne v = not (v.rs == v.rt)

unfoldable pub stop_trap : StopOp → TrapKind
stop_trap Syscall = SyscallTrap
stop_trap BreakStop = Break

-- the address of a load or store
abbrev pub address : ℕ → ℕ → ℕ
address base off = word_sum base (extended_half off)

-- what an instruction at `pc`, before the one at `npc`, does with these values
unfoldable pub act_of : Instr → ℕ → ℕ → Values → Act
act_of (R3 m rs rt rd) pc npc v = unless_overflow rd npc (r3_value m v)
act_of (Shift m rt rd sa) pc npc v = goes_on (to_register rd (shift_value m sa v)) npc
act_of (Acc m rs rt) pc npc v = goes_on (Some (acc_value m v)) npc
act_of (HiLo m rs rd) pc npc v = goes_on (hilo_write m rd v) npc
act_of (Count m rs rd) pc npc v = goes_on (to_register rd (count_value m v)) npc
act_of (Imm m rs rt imm) pc npc v = unless_overflow rt npc (imm_value m imm v)
act_of (Lui rt imm) pc npc v = goes_on (to_register rt (imm * 2 ^ 16)) npc
act_of (Load m rs rt off) pc npc v = reaches (address v.rs off) npc
act_of (Store m rs rt off) pc npc v = reaches (address v.rs off) npc
act_of (Pref rs hint off) pc npc v = goes_on None npc
act_of (Branch2 m rs rt off) pc npc v = goes_to None (branch2_taken m v) (branch_target pc off) npc
act_of (Branch1 m rs off) pc npc v = goes_to (branch1_link m pc) (branch1_taken m v) (branch_target pc off) npc
act_of (Jump m target) pc npc v = goes_to (jump_link m pc) true (jump_target pc target) npc
act_of (Jr rs) pc npc v = goes_to None true v.rs npc
act_of (Jalr rs rd) pc npc v = goes_to (to_register rd (word_sum pc 8)) true v.rs npc
act_of (TrapIf m rs rt code) pc npc v = if traps_if m v then stops TrapInstr else goes_on None npc
act_of (Stop m code) pc npc v = stops (stop_trap m)
act_of (Sync stype) pc npc v = goes_on None npc
