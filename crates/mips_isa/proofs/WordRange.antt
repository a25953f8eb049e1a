-- An instruction that fits has a word of 32 bits.
use Rattle.std.proofs.Common.{◌<◌, ◌^◌, lit<, arith}
use Rattle.mips_isa.specs.declared.instr.Instr.{Instr}
use Rattle.mips_isa.specs.declared.instr.Instr.TheVariants.{R3, Shift, Acc, HiLo, Count, Imm, Lui, Load, Store, Pref, Branch2, Branch1, Jump, Jr, Jalr, TrapIf, Stop, Sync}
use Rattle.mips_isa.specs.declared.instr.R3Op.{R3Op}
use Rattle.mips_isa.specs.declared.instr.R3Op.TheVariants.{Sllv}
use Rattle.mips_isa.specs.declared.instr.ShiftOp.{ShiftOp}
use Rattle.mips_isa.specs.declared.instr.ShiftOp.TheVariants.{Sll}
use Rattle.mips_isa.specs.declared.instr.AccOp.{AccOp}
use Rattle.mips_isa.specs.declared.instr.AccOp.TheVariants.{Mult}
use Rattle.mips_isa.specs.declared.instr.HiLoOp.{HiLoOp}
use Rattle.mips_isa.specs.declared.instr.HiLoOp.TheVariants.{Mfhi, Mflo, Mthi, Mtlo}
use Rattle.mips_isa.specs.declared.instr.CountOp.{CountOp}
use Rattle.mips_isa.specs.declared.instr.CountOp.TheVariants.{Clz}
use Rattle.mips_isa.specs.declared.instr.ImmOp.{ImmOp}
use Rattle.mips_isa.specs.declared.instr.ImmOp.TheVariants.{Addi}
use Rattle.mips_isa.specs.declared.instr.LoadOp.{LoadOp}
use Rattle.mips_isa.specs.declared.instr.LoadOp.TheVariants.{Lb}
use Rattle.mips_isa.specs.declared.instr.StoreOp.{StoreOp}
use Rattle.mips_isa.specs.declared.instr.StoreOp.TheVariants.{Sb}
use Rattle.mips_isa.specs.declared.instr.Branch2Op.{Branch2Op}
use Rattle.mips_isa.specs.declared.instr.Branch2Op.TheVariants.{Beq}
use Rattle.mips_isa.specs.declared.instr.Branch1Op.{Branch1Op}
use Rattle.mips_isa.specs.declared.instr.Branch1Op.TheVariants.{Blez}
use Rattle.mips_isa.specs.declared.instr.JumpOp.{JumpOp}
use Rattle.mips_isa.specs.declared.instr.JumpOp.TheVariants.{J}
use Rattle.mips_isa.specs.declared.instr.TrapIfOp.{TrapIfOp}
use Rattle.mips_isa.specs.declared.instr.TrapIfOp.TheVariants.{Tge}
use Rattle.mips_isa.specs.declared.instr.StopOp.{StopOp}
use Rattle.mips_isa.specs.declared.instr.StopOp.TheVariants.{Syscall}
use Rattle.mips_isa.specs.Codes.{Code, r3_code, shift_code, acc_code, hi_lo_code, count_code, imm_code, load_code, store_code, branch2_code, branch1_code, jump_code, trap_if_code, stop_code}
use Rattle.mips_isa.specs.Encoding.{encode_of}
use Rattle.mips_isa.specs.Fits.{FieldsFit}

-- op has six bits, and so has the number within it
abbrev CodeFits : Code → Type 0
CodeFits code = (code.0 < 64) × (code.1 < 64)

r3_code_fits : (m : R3Op) → CodeFits (r3_code m)
r3_code_fits Sllv = (lit< tt, lit< tt)
r3_code_fits m = (lit< tt, lit< tt)

shift_code_fits : (m : ShiftOp) → CodeFits (shift_code m)
shift_code_fits Sll = (lit< tt, lit< tt)
shift_code_fits m = (lit< tt, lit< tt)

acc_code_fits : (m : AccOp) → CodeFits (acc_code m)
acc_code_fits Mult = (lit< tt, lit< tt)
acc_code_fits m = (lit< tt, lit< tt)

count_code_fits : (m : CountOp) → CodeFits (count_code m)
count_code_fits Clz = (lit< tt, lit< tt)
count_code_fits m = (lit< tt, lit< tt)

imm_code_fits : (m : ImmOp) → CodeFits (imm_code m)
imm_code_fits Addi = (lit< tt, lit< tt)
imm_code_fits m = (lit< tt, lit< tt)

load_code_fits : (m : LoadOp) → CodeFits (load_code m)
load_code_fits Lb = (lit< tt, lit< tt)
load_code_fits m = (lit< tt, lit< tt)

store_code_fits : (m : StoreOp) → CodeFits (store_code m)
store_code_fits Sb = (lit< tt, lit< tt)
store_code_fits m = (lit< tt, lit< tt)

branch2_code_fits : (m : Branch2Op) → CodeFits (branch2_code m)
branch2_code_fits Beq = (lit< tt, lit< tt)
branch2_code_fits m = (lit< tt, lit< tt)

branch1_code_fits : (m : Branch1Op) → ((branch1_code m).0 < 64) × ((branch1_code m).1 < 32)
branch1_code_fits Blez = (lit< tt, lit< tt)
branch1_code_fits m = (lit< tt, lit< tt)

jump_code_fits : (m : JumpOp) → CodeFits (jump_code m)
jump_code_fits J = (lit< tt, lit< tt)
jump_code_fits m = (lit< tt, lit< tt)

trap_if_code_fits : (m : TrapIfOp) → CodeFits (trap_if_code m)
trap_if_code_fits Tge = (lit< tt, lit< tt)
trap_if_code_fits m = (lit< tt, lit< tt)

stop_code_fits : (m : StopOp) → CodeFits (stop_code m)
stop_code_fits Syscall = (lit< tt, lit< tt)
stop_code_fits m = (lit< tt, lit< tt)

pub encode_of_below : (i : Instr) → FieldsFit i → encode_of i < 2 ^ 32
unfolding encode_of
encode_of_below (R3 m rs rt rd) fits = omega (arith, r3_code_fits m)
encode_of_below (Shift m rt rd sa) fits = omega (arith, shift_code_fits m)
encode_of_below (Acc m rs rt) fits = omega (arith, acc_code_fits m)
encode_of_below (HiLo Mfhi rs rd) fits = omega arith
encode_of_below (HiLo Mflo rs rd) fits = omega arith
encode_of_below (HiLo Mthi rs rd) fits = omega arith
encode_of_below (HiLo Mtlo rs rd) fits = omega arith
encode_of_below (Count m rs rd) fits = omega (arith, count_code_fits m)
encode_of_below (Imm m rs rt imm) fits = omega (arith, imm_code_fits m)
encode_of_below (Lui rt imm) fits = omega arith
encode_of_below (Load m rs rt off) fits = omega (arith, load_code_fits m)
encode_of_below (Store m rs rt off) fits = omega (arith, store_code_fits m)
encode_of_below (Pref rs hint off) fits = omega arith
encode_of_below (Branch2 m rs rt off) fits = omega (arith, branch2_code_fits m)
encode_of_below (Branch1 m rs off) fits = omega (arith, branch1_code_fits m)
encode_of_below (Jump m target) fits = omega (arith, jump_code_fits m)
encode_of_below (Jr rs) fits = omega arith
encode_of_below (Jalr rs rd) fits = omega arith
encode_of_below (TrapIf m rs rt code) fits = omega (arith, trap_if_code_fits m)
encode_of_below (Stop m code) fits = omega (arith, stop_code_fits m)
encode_of_below (Sync stype) fits = omega arith
