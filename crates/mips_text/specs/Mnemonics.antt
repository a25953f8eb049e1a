-- The mnemonics of MIPS32 instructions, release 1. Source: MIPS32 manual, volume II.
use Rattle.std.specs.Prelude.{ℕ, List, codes}
use Rattle.mips_isa.specs.declared.instr.Instr.{Instr}
use Rattle.mips_isa.specs.declared.instr.Instr.TheVariants.{R3, Shift, Acc, HiLo, Count, Imm, Lui, Load, Store, Pref, Branch2, Branch1, Jump, Jr, Jalr, TrapIf, Stop, Sync}
use Rattle.mips_isa.specs.declared.instr.R3Op.{R3Op}
use Rattle.mips_isa.specs.declared.instr.R3Op.TheVariants.{Sllv, Srlv, Srav, Movz, Movn, Add, Addu, Sub, Subu, And, Or, Xor, Nor, Slt, Sltu, Mul}
use Rattle.mips_isa.specs.declared.instr.ShiftOp.{ShiftOp}
use Rattle.mips_isa.specs.declared.instr.ShiftOp.TheVariants.{Sll, Srl, Sra}
use Rattle.mips_isa.specs.declared.instr.AccOp.{AccOp}
use Rattle.mips_isa.specs.declared.instr.AccOp.TheVariants.{Mult, Multu, Div, Divu, Madd, Maddu, Msub, Msubu}
use Rattle.mips_isa.specs.declared.instr.HiLoOp.{HiLoOp}
use Rattle.mips_isa.specs.declared.instr.HiLoOp.TheVariants.{Mfhi, Mflo, Mthi, Mtlo}
use Rattle.mips_isa.specs.declared.instr.CountOp.{CountOp}
use Rattle.mips_isa.specs.declared.instr.CountOp.TheVariants.{Clz, Clo}
use Rattle.mips_isa.specs.declared.instr.ImmOp.{ImmOp}
use Rattle.mips_isa.specs.declared.instr.ImmOp.TheVariants.{Addi, Addiu, Slti, Sltiu, Andi, Ori, Xori}
use Rattle.mips_isa.specs.declared.instr.LoadOp.{LoadOp}
use Rattle.mips_isa.specs.declared.instr.LoadOp.TheVariants.{Lb, Lh, Lwl, Lw, Lbu, Lhu, Lwr}
use Rattle.mips_isa.specs.declared.instr.StoreOp.{StoreOp}
use Rattle.mips_isa.specs.declared.instr.StoreOp.TheVariants.{Sb, Sh, Swl, Sw, Swr}
use Rattle.mips_isa.specs.declared.instr.Branch2Op.{Branch2Op}
use Rattle.mips_isa.specs.declared.instr.Branch2Op.TheVariants.{Beq, Bne}
use Rattle.mips_isa.specs.declared.instr.Branch1Op.{Branch1Op}
use Rattle.mips_isa.specs.declared.instr.Branch1Op.TheVariants.{Blez, Bgtz, Bltz, Bgez, Bltzal, Bgezal}
use Rattle.mips_isa.specs.declared.instr.JumpOp.{JumpOp}
use Rattle.mips_isa.specs.declared.instr.JumpOp.TheVariants.{J, Jal}
use Rattle.mips_isa.specs.declared.instr.TrapIfOp.{TrapIfOp}
use Rattle.mips_isa.specs.declared.instr.TrapIfOp.TheVariants.{Tge, Tgeu, Tlt, Tltu, Teq, Tne}
use Rattle.mips_isa.specs.declared.instr.StopOp.{StopOp}
use Rattle.mips_isa.specs.declared.instr.StopOp.TheVariants.{Syscall, Break}

unfoldable pub r3_name : R3Op → List ℕ
r3_name Sllv = codes "sllv"
r3_name Srlv = codes "srlv"
r3_name Srav = codes "srav"
r3_name Movz = codes "movz"
r3_name Movn = codes "movn"
r3_name Add = codes "add"
r3_name Addu = codes "addu"
r3_name Sub = codes "sub"
r3_name Subu = codes "subu"
r3_name And = codes "and"
r3_name Or = codes "or"
r3_name Xor = codes "xor"
r3_name Nor = codes "nor"
r3_name Slt = codes "slt"
r3_name Sltu = codes "sltu"
r3_name Mul = codes "mul"

unfoldable pub shift_name : ShiftOp → List ℕ
shift_name Sll = codes "sll"
shift_name Srl = codes "srl"
shift_name Sra = codes "sra"

unfoldable pub acc_name : AccOp → List ℕ
acc_name Mult = codes "mult"
acc_name Multu = codes "multu"
acc_name Div = codes "div"
acc_name Divu = codes "divu"
acc_name Madd = codes "madd"
acc_name Maddu = codes "maddu"
acc_name Msub = codes "msub"
acc_name Msubu = codes "msubu"

unfoldable pub hi_lo_name : HiLoOp → List ℕ
hi_lo_name Mfhi = codes "mfhi"
hi_lo_name Mflo = codes "mflo"
hi_lo_name Mthi = codes "mthi"
hi_lo_name Mtlo = codes "mtlo"

unfoldable pub count_name : CountOp → List ℕ
count_name Clz = codes "clz"
count_name Clo = codes "clo"

unfoldable pub imm_name : ImmOp → List ℕ
imm_name Addi = codes "addi"
imm_name Addiu = codes "addiu"
imm_name Slti = codes "slti"
imm_name Sltiu = codes "sltiu"
imm_name Andi = codes "andi"
imm_name Ori = codes "ori"
imm_name Xori = codes "xori"

unfoldable pub load_name : LoadOp → List ℕ
load_name Lb = codes "lb"
load_name Lh = codes "lh"
load_name Lwl = codes "lwl"
load_name Lw = codes "lw"
load_name Lbu = codes "lbu"
load_name Lhu = codes "lhu"
load_name Lwr = codes "lwr"

unfoldable pub store_name : StoreOp → List ℕ
store_name Sb = codes "sb"
store_name Sh = codes "sh"
store_name Swl = codes "swl"
store_name Sw = codes "sw"
store_name Swr = codes "swr"

unfoldable pub branch2_name : Branch2Op → List ℕ
branch2_name Beq = codes "beq"
branch2_name Bne = codes "bne"

unfoldable pub branch1_name : Branch1Op → List ℕ
branch1_name Blez = codes "blez"
branch1_name Bgtz = codes "bgtz"
branch1_name Bltz = codes "bltz"
branch1_name Bgez = codes "bgez"
branch1_name Bltzal = codes "bltzal"
branch1_name Bgezal = codes "bgezal"

unfoldable pub jump_name : JumpOp → List ℕ
jump_name J = codes "j"
jump_name Jal = codes "jal"

unfoldable pub trap_if_name : TrapIfOp → List ℕ
trap_if_name Tge = codes "tge"
trap_if_name Tgeu = codes "tgeu"
trap_if_name Tlt = codes "tlt"
trap_if_name Tltu = codes "tltu"
trap_if_name Teq = codes "teq"
trap_if_name Tne = codes "tne"

unfoldable pub stop_name : StopOp → List ℕ
stop_name Syscall = codes "syscall"
stop_name Break = codes "break"

-- the mnemonic of an instruction
unfoldable pub name_of : Instr → List ℕ
name_of (R3 m rs rt rd) = r3_name m
name_of (Shift m rt rd sa) = shift_name m
name_of (Acc m rs rt) = acc_name m
name_of (HiLo m rs rd) = hi_lo_name m
name_of (Count m rs rd) = count_name m
name_of (Imm m rs rt imm) = imm_name m
name_of (Lui rt imm) = codes "lui"
name_of (Load m rs rt off) = load_name m
name_of (Store m rs rt off) = store_name m
name_of (Pref rs hint off) = codes "pref"
name_of (Branch2 m rs rt off) = branch2_name m
name_of (Branch1 m rs off) = branch1_name m
name_of (Jump m target) = jump_name m
name_of (Jr rs) = codes "jr"
name_of (Jalr rs rd) = codes "jalr"
name_of (TrapIf m rs rt code) = trap_if_name m
name_of (Stop m code) = stop_name m
name_of (Sync stype) = codes "sync"
