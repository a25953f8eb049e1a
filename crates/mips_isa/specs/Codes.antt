-- The codes of the instructions: of each member its op, bits 31 to 26 of the word, and the number that tells
-- it from the others of that op. Source: MIPS32 Architecture For Programmers, volume II, release 1, the
-- encoding of each instruction.
use Rattle.std.specs.Prelude.{ℕ, Bool, Option, List, [], ◌∷◌, ◌==◌, ◌&&◌, find}
use Rattle.mips_isa.specs.declared.instr.R3Op.{R3Op}
use Rattle.mips_isa.specs.declared.instr.R3Op.TheVariants.{Sllv, Srlv, Srav, Movz, Movn, Add, Addu, Sub, Subu, And, Or, Xor, Nor, Slt, Sltu, Mul}
use Rattle.mips_isa.specs.declared.instr.ShiftOp.{ShiftOp}
use Rattle.mips_isa.specs.declared.instr.ShiftOp.TheVariants.{Sll, Srl, Sra}
use Rattle.mips_isa.specs.declared.instr.AccOp.{AccOp}
use Rattle.mips_isa.specs.declared.instr.AccOp.TheVariants.{Mult, Multu, Div, Divu, Madd, Maddu, Msub, Msubu}
use Rattle.mips_isa.specs.declared.instr.HiLoOp.{HiLoOp}
use Rattle.mips_isa.specs.declared.instr.HiLoOp.TheVariants.{Mfhi, Mflo, Mthi, Mtlo}
use Rattle.mips_isa.specs.declared.instr.CountOp.{CountOp}
use Rattle.mips_isa.specs.declared.instr.CountOp.TheVariants.{Clz, Clo}
use Rattle.mips_isa.specs.declared.instr.ImmOp.{ImmOp}
use Rattle.mips_isa.specs.declared.instr.ImmOp.TheVariants.{Addi, Addiu, Slti, Sltiu, Andi, Ori, Xori}
use Rattle.mips_isa.specs.declared.instr.LoadOp.{LoadOp}
use Rattle.mips_isa.specs.declared.instr.LoadOp.TheVariants.{Lb, Lh, Lwl, Lw, Lbu, Lhu, Lwr}
use Rattle.mips_isa.specs.declared.instr.StoreOp.{StoreOp}
use Rattle.mips_isa.specs.declared.instr.StoreOp.TheVariants.{Sb, Sh, Swl, Sw, Swr}
use Rattle.mips_isa.specs.declared.instr.Branch2Op.{Branch2Op}
use Rattle.mips_isa.specs.declared.instr.Branch2Op.TheVariants.{Beq, Bne}
use Rattle.mips_isa.specs.declared.instr.Branch1Op.{Branch1Op}
use Rattle.mips_isa.specs.declared.instr.Branch1Op.TheVariants.{Blez, Bgtz, Bltz, Bgez, Bltzal, Bgezal}
use Rattle.mips_isa.specs.declared.instr.JumpOp.{JumpOp}
use Rattle.mips_isa.specs.declared.instr.JumpOp.TheVariants.{J, Jal}
use Rattle.mips_isa.specs.declared.instr.TrapIfOp.{TrapIfOp}
use Rattle.mips_isa.specs.declared.instr.TrapIfOp.TheVariants.{Tge, Tgeu, Tlt, Tltu, Teq, Tne}
use Rattle.mips_isa.specs.declared.instr.StopOp.{StopOp}
use Rattle.mips_isa.specs.declared.instr.StopOp.TheVariants.{Syscall, Break}

-- an op and a number within it: funct in SPECIAL (op 00) and SPECIAL2 (op 1c), the field rt in REGIMM (op 01)
-- and for blez and bgtz, else 0
abbrev pub Code : Type 0
Code = ℕ × ℕ

abbrev pub has_code : ℕ → ℕ → Code → Bool
has_code op part code = (code.0 == op) && (code.1 == part)

-- three registers: SPECIAL, and mul in SPECIAL2
abbrev pub r3_code : R3Op → Code
r3_code Sllv = (0x00, 0x04)
r3_code Srlv = (0x00, 0x06)
r3_code Srav = (0x00, 0x07)
r3_code Movz = (0x00, 0x0a)
r3_code Movn = (0x00, 0x0b)
r3_code Add = (0x00, 0x20)
r3_code Addu = (0x00, 0x21)
r3_code Sub = (0x00, 0x22)
r3_code Subu = (0x00, 0x23)
r3_code And = (0x00, 0x24)
r3_code Or = (0x00, 0x25)
r3_code Xor = (0x00, 0x26)
r3_code Nor = (0x00, 0x27)
r3_code Slt = (0x00, 0x2a)
r3_code Sltu = (0x00, 0x2b)
r3_code Mul = (0x1c, 0x02)

abbrev pub r3_members : List R3Op
r3_members = Sllv ∷ Srlv ∷ Srav ∷ Movz ∷ Movn ∷ Add ∷ Addu ∷ Sub ∷ Subu ∷ And ∷ Or ∷ Xor ∷ Nor ∷ Slt ∷ Sltu ∷ Mul ∷ []

abbrev pub r3_at : ℕ → ℕ → Option R3Op
r3_at op part = find (λ m. has_code op part (r3_code m)) r3_members

-- shifts by a constant: SPECIAL
abbrev pub shift_code : ShiftOp → Code
shift_code Sll = (0x00, 0x00)
shift_code Srl = (0x00, 0x02)
shift_code Sra = (0x00, 0x03)

abbrev pub shift_members : List ShiftOp
shift_members = Sll ∷ Srl ∷ Sra ∷ []

abbrev pub shift_at : ℕ → ℕ → Option ShiftOp
shift_at op part = find (λ m. has_code op part (shift_code m)) shift_members

-- products and quotients into the pair: SPECIAL, and those added to it or subtracted from it in SPECIAL2
abbrev pub acc_code : AccOp → Code
acc_code Mult = (0x00, 0x18)
acc_code Multu = (0x00, 0x19)
acc_code Div = (0x00, 0x1a)
acc_code Divu = (0x00, 0x1b)
acc_code Madd = (0x1c, 0x00)
acc_code Maddu = (0x1c, 0x01)
acc_code Msub = (0x1c, 0x04)
acc_code Msubu = (0x1c, 0x05)

abbrev pub acc_members : List AccOp
acc_members = Mult ∷ Multu ∷ Div ∷ Divu ∷ Madd ∷ Maddu ∷ Msub ∷ Msubu ∷ []

abbrev pub acc_at : ℕ → ℕ → Option AccOp
acc_at op part = find (λ m. has_code op part (acc_code m)) acc_members

-- moves from and to HI and LO: SPECIAL
abbrev pub hi_lo_code : HiLoOp → Code
hi_lo_code Mfhi = (0x00, 0x10)
hi_lo_code Mflo = (0x00, 0x12)
hi_lo_code Mthi = (0x00, 0x11)
hi_lo_code Mtlo = (0x00, 0x13)

abbrev pub hi_lo_members : List HiLoOp
hi_lo_members = Mfhi ∷ Mflo ∷ Mthi ∷ Mtlo ∷ []

abbrev pub hi_lo_at : ℕ → ℕ → Option HiLoOp
hi_lo_at op part = find (λ m. has_code op part (hi_lo_code m)) hi_lo_members

-- counts of leading zeros and ones: SPECIAL2
abbrev pub count_code : CountOp → Code
count_code Clz = (0x1c, 0x20)
count_code Clo = (0x1c, 0x21)

abbrev pub count_members : List CountOp
count_members = Clz ∷ Clo ∷ []

abbrev pub count_at : ℕ → ℕ → Option CountOp
count_at op part = find (λ m. has_code op part (count_code m)) count_members

-- a register and a constant of sixteen bits
abbrev pub imm_code : ImmOp → Code
imm_code Addi = (0x08, 0x00)
imm_code Addiu = (0x09, 0x00)
imm_code Slti = (0x0a, 0x00)
imm_code Sltiu = (0x0b, 0x00)
imm_code Andi = (0x0c, 0x00)
imm_code Ori = (0x0d, 0x00)
imm_code Xori = (0x0e, 0x00)

abbrev pub imm_members : List ImmOp
imm_members = Addi ∷ Addiu ∷ Slti ∷ Sltiu ∷ Andi ∷ Ori ∷ Xori ∷ []

abbrev pub imm_at : ℕ → ℕ → Option ImmOp
imm_at op part = find (λ m. has_code op part (imm_code m)) imm_members

-- loads
abbrev pub load_code : LoadOp → Code
load_code Lb = (0x20, 0x00)
load_code Lh = (0x21, 0x00)
load_code Lwl = (0x22, 0x00)
load_code Lw = (0x23, 0x00)
load_code Lbu = (0x24, 0x00)
load_code Lhu = (0x25, 0x00)
load_code Lwr = (0x26, 0x00)

abbrev pub load_members : List LoadOp
load_members = Lb ∷ Lh ∷ Lwl ∷ Lw ∷ Lbu ∷ Lhu ∷ Lwr ∷ []

abbrev pub load_at : ℕ → ℕ → Option LoadOp
load_at op part = find (λ m. has_code op part (load_code m)) load_members

-- stores
abbrev pub store_code : StoreOp → Code
store_code Sb = (0x28, 0x00)
store_code Sh = (0x29, 0x00)
store_code Swl = (0x2a, 0x00)
store_code Sw = (0x2b, 0x00)
store_code Swr = (0x2e, 0x00)

abbrev pub store_members : List StoreOp
store_members = Sb ∷ Sh ∷ Swl ∷ Sw ∷ Swr ∷ []

abbrev pub store_at : ℕ → ℕ → Option StoreOp
store_at op part = find (λ m. has_code op part (store_code m)) store_members

-- branches that compare two registers
abbrev pub branch2_code : Branch2Op → Code
branch2_code Beq = (0x04, 0x00)
branch2_code Bne = (0x05, 0x00)

abbrev pub branch2_members : List Branch2Op
branch2_members = Beq ∷ Bne ∷ []

abbrev pub branch2_at : ℕ → ℕ → Option Branch2Op
branch2_at op part = find (λ m. has_code op part (branch2_code m)) branch2_members

-- branches that compare with zero: two ops of their own, and REGIMM
abbrev pub branch1_code : Branch1Op → Code
branch1_code Blez = (0x06, 0x00)
branch1_code Bgtz = (0x07, 0x00)
branch1_code Bltz = (0x01, 0x00)
branch1_code Bgez = (0x01, 0x01)
branch1_code Bltzal = (0x01, 0x10)
branch1_code Bgezal = (0x01, 0x11)

abbrev pub branch1_members : List Branch1Op
branch1_members = Blez ∷ Bgtz ∷ Bltz ∷ Bgez ∷ Bltzal ∷ Bgezal ∷ []

abbrev pub branch1_at : ℕ → ℕ → Option Branch1Op
branch1_at op part = find (λ m. has_code op part (branch1_code m)) branch1_members

-- jumps with a target
abbrev pub jump_code : JumpOp → Code
jump_code J = (0x02, 0x00)
jump_code Jal = (0x03, 0x00)

abbrev pub jump_members : List JumpOp
jump_members = J ∷ Jal ∷ []

abbrev pub jump_at : ℕ → ℕ → Option JumpOp
jump_at op part = find (λ m. has_code op part (jump_code m)) jump_members

-- traps where a comparison holds: SPECIAL
abbrev pub trap_if_code : TrapIfOp → Code
trap_if_code Tge = (0x00, 0x30)
trap_if_code Tgeu = (0x00, 0x31)
trap_if_code Tlt = (0x00, 0x32)
trap_if_code Tltu = (0x00, 0x33)
trap_if_code Teq = (0x00, 0x34)
trap_if_code Tne = (0x00, 0x36)

abbrev pub trap_if_members : List TrapIfOp
trap_if_members = Tge ∷ Tgeu ∷ Tlt ∷ Tltu ∷ Teq ∷ Tne ∷ []

abbrev pub trap_if_at : ℕ → ℕ → Option TrapIfOp
trap_if_at op part = find (λ m. has_code op part (trap_if_code m)) trap_if_members

-- stops: SPECIAL
abbrev pub stop_code : StopOp → Code
stop_code Syscall = (0x00, 0x0c)
stop_code Break = (0x00, 0x0d)

abbrev pub stop_members : List StopOp
stop_members = Syscall ∷ Break ∷ []

abbrev pub stop_at : ℕ → ℕ → Option StopOp
stop_at op part = find (λ m. has_code op part (stop_code m)) stop_members

-- the groups of one member
abbrev pub lui_code : Code
lui_code = (0x0f, 0x00)

abbrev pub pref_code : Code
pref_code = (0x33, 0x00)

abbrev pub jr_code : Code
jr_code = (0x00, 0x08)

abbrev pub jalr_code : Code
jalr_code = (0x00, 0x09)

abbrev pub sync_code : Code
sync_code = (0x00, 0x0f)
