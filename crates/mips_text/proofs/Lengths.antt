-- No text of an instruction is longer than 48 bytes.
use Rattle.std.proofs.Common.{◌≡◌, ap, ◌∙◌, ℕ, suc, Bool, true, false, ◌-◌, ◌≤◌, ◌<◌, ◌^◌, List, [], ◌∷◌, ◌++◌, length, length-append, pos, negsuc, arith}
use Rattle.std.specs.Fmt.{signed_decimal}
use Rattle.std.proofs.lemmas.Fmt.{length-decimal-le, length_signed_le}
use Rattle.text_fields.specs.Numbers.{hex_text}
use Rattle.mips_isa.specs.Fits.{FieldsFit}
use Rattle.mips_isa.specs.Words.{branch_target, jump_target}
use Rattle.mips_isa.specs.declared.instr.Instr.{Instr}
use Rattle.mips_isa.specs.declared.instr.Instr.TheVariants.{R3, Shift, Acc, HiLo, Count, Imm, Lui, Load, Store, Pref, Branch2, Branch1, Jump, Jr, Jalr, TrapIf, Stop, Sync}
use Rattle.mips_isa.specs.declared.instr.R3Op.{R3Op}
use Rattle.mips_isa.specs.declared.instr.R3Op.TheVariants.{Sllv, Srlv, Srav, Movz, Movn, Add, Addu, Sub, Subu, And, Or, Xor, Nor, Slt, Sltu, Mul}
use Rattle.mips_isa.specs.declared.instr.ShiftOp.{ShiftOp}
use Rattle.mips_isa.specs.declared.instr.ShiftOp.TheVariants.{Sll, Srl, Sra}
use Rattle.mips_isa.specs.declared.instr.AccOp.{AccOp}
use Rattle.mips_isa.specs.declared.instr.AccOp.TheVariants.{Mult, Multu, Div, Divu, Madd, Maddu, Msub, Msubu}
use Rattle.mips_isa.specs.declared.instr.HiLoOp.{HiLoOp}
use Rattle.mips_isa.specs.declared.instr.HiLoOp.TheVariants.{Mfhi, Mflo, Mthi, Mtlo}
use Rattle.mips_isa.specs.declared.instr.CountOp.{CountOp}
use Rattle.mips_isa.specs.declared.instr.CountOp.TheVariants.{Clz, Clo}
use Rattle.mips_isa.specs.declared.instr.ImmOp.{ImmOp}
use Rattle.mips_isa.specs.declared.instr.ImmOp.TheVariants.{Addi, Addiu, Slti, Sltiu, Andi, Ori, Xori}
use Rattle.mips_isa.specs.declared.instr.LoadOp.{LoadOp}
use Rattle.mips_isa.specs.declared.instr.LoadOp.TheVariants.{Lb, Lh, Lwl, Lw, Lbu, Lhu, Lwr}
use Rattle.mips_isa.specs.declared.instr.StoreOp.{StoreOp}
use Rattle.mips_isa.specs.declared.instr.StoreOp.TheVariants.{Sb, Sh, Swl, Sw, Swr}
use Rattle.mips_isa.specs.declared.instr.Branch2Op.{Branch2Op}
use Rattle.mips_isa.specs.declared.instr.Branch2Op.TheVariants.{Beq, Bne}
use Rattle.mips_isa.specs.declared.instr.Branch1Op.{Branch1Op}
use Rattle.mips_isa.specs.declared.instr.Branch1Op.TheVariants.{Blez, Bgtz, Bltz, Bgez, Bltzal, Bgezal}
use Rattle.mips_isa.specs.declared.instr.JumpOp.{JumpOp}
use Rattle.mips_isa.specs.declared.instr.JumpOp.TheVariants.{J, Jal}
use Rattle.mips_isa.specs.declared.instr.TrapIfOp.{TrapIfOp}
use Rattle.mips_isa.specs.declared.instr.TrapIfOp.TheVariants.{Tge, Tgeu, Tlt, Tltu, Teq, Tne}
use Rattle.mips_isa.specs.declared.instr.StopOp.{StopOp}
use Rattle.mips_isa.specs.declared.instr.StopOp.TheVariants.{Syscall, Break}
use Rattle.mips_text.specs.declared.piece.Piece.{Piece}
use Rattle.mips_text.specs.declared.piece.Piece.TheVariants.{Register, Number, Signed, Address}
use Rattle.std.proofs.lemmas.List.{take_all}
use Rattle.mips_text.specs.Room.{joined}
use Rattle.mips_text.proofs.Rooms.{joined-joined}
use Rattle.mips_text.specs.Mnemonics.{name_of, r3_name, shift_name, acc_name, hi_lo_name, count_name, imm_name, load_name, store_name, branch2_name, branch1_name, jump_name, trap_if_name, stop_name}
use Rattle.mips_text.specs.Operands.{based, immediate, instr_text, operands, piece_text, pieces_text, r3_operands, three, two}

r3_short : (m : R3Op) → length (r3_name m) ≤ 8
unfolding r3_name
r3_short Sllv = omega arith
r3_short Srlv = omega arith
r3_short Srav = omega arith
r3_short Movz = omega arith
r3_short Movn = omega arith
r3_short Add = omega arith
r3_short Addu = omega arith
r3_short Sub = omega arith
r3_short Subu = omega arith
r3_short And = omega arith
r3_short Or = omega arith
r3_short Xor = omega arith
r3_short Nor = omega arith
r3_short Slt = omega arith
r3_short Sltu = omega arith
r3_short Mul = omega arith

shift_short : (m : ShiftOp) → length (shift_name m) ≤ 8
unfolding shift_name
shift_short Sll = omega arith
shift_short Srl = omega arith
shift_short Sra = omega arith

acc_short : (m : AccOp) → length (acc_name m) ≤ 8
unfolding acc_name
acc_short Mult = omega arith
acc_short Multu = omega arith
acc_short Div = omega arith
acc_short Divu = omega arith
acc_short Madd = omega arith
acc_short Maddu = omega arith
acc_short Msub = omega arith
acc_short Msubu = omega arith

hi_lo_short : (m : HiLoOp) → length (hi_lo_name m) ≤ 8
unfolding hi_lo_name
hi_lo_short Mfhi = omega arith
hi_lo_short Mflo = omega arith
hi_lo_short Mthi = omega arith
hi_lo_short Mtlo = omega arith

count_short : (m : CountOp) → length (count_name m) ≤ 8
unfolding count_name
count_short Clz = omega arith
count_short Clo = omega arith

imm_short : (m : ImmOp) → length (imm_name m) ≤ 8
unfolding imm_name
imm_short Addi = omega arith
imm_short Addiu = omega arith
imm_short Slti = omega arith
imm_short Sltiu = omega arith
imm_short Andi = omega arith
imm_short Ori = omega arith
imm_short Xori = omega arith

load_short : (m : LoadOp) → length (load_name m) ≤ 8
unfolding load_name
load_short Lb = omega arith
load_short Lh = omega arith
load_short Lwl = omega arith
load_short Lw = omega arith
load_short Lbu = omega arith
load_short Lhu = omega arith
load_short Lwr = omega arith

store_short : (m : StoreOp) → length (store_name m) ≤ 8
unfolding store_name
store_short Sb = omega arith
store_short Sh = omega arith
store_short Swl = omega arith
store_short Sw = omega arith
store_short Swr = omega arith

branch2_short : (m : Branch2Op) → length (branch2_name m) ≤ 8
unfolding branch2_name
branch2_short Beq = omega arith
branch2_short Bne = omega arith

branch1_short : (m : Branch1Op) → length (branch1_name m) ≤ 8
unfolding branch1_name
branch1_short Blez = omega arith
branch1_short Bgtz = omega arith
branch1_short Bltz = omega arith
branch1_short Bgez = omega arith
branch1_short Bltzal = omega arith
branch1_short Bgezal = omega arith

jump_short : (m : JumpOp) → length (jump_name m) ≤ 8
unfolding jump_name
jump_short J = omega arith
jump_short Jal = omega arith

trap_if_short : (m : TrapIfOp) → length (trap_if_name m) ≤ 8
unfolding trap_if_name
trap_if_short Tge = omega arith
trap_if_short Tgeu = omega arith
trap_if_short Tlt = omega arith
trap_if_short Tltu = omega arith
trap_if_short Teq = omega arith
trap_if_short Tne = omega arith

stop_short : (m : StopOp) → length (stop_name m) ≤ 8
unfolding stop_name
stop_short Syscall = omega arith
stop_short Break = omega arith

name_short : (i : Instr) → length (name_of i) ≤ 8
unfolding name_of
name_short (R3 m rs rt rd) = r3_short m
name_short (Shift m rt rd sa) = shift_short m
name_short (Acc m rs rt) = acc_short m
name_short (HiLo m rs rd) = hi_lo_short m
name_short (Count m rs rd) = count_short m
name_short (Imm m rs rt imm) = imm_short m
name_short (Lui rt imm) = omega arith
name_short (Load m rs rt off) = load_short m
name_short (Store m rs rt off) = store_short m
name_short (Pref rs hint off) = omega arith
name_short (Branch2 m rs rt off) = branch2_short m
name_short (Branch1 m rs off) = branch1_short m
name_short (Jump m target) = jump_short m
name_short (Jr rs) = omega arith
name_short (Jalr rs rd) = omega arith
name_short (TrapIf m rs rt code) = trap_if_short m
name_short (Stop m code) = stop_short m
name_short (Sync stype) = omega arith

-- an operand of at most ten bytes
abbrev IsShort : Piece → Type 0
IsShort piece = length (piece_text piece) ≤ 10

register_short : (n : ℕ) → n < 2 ^ 26 → IsShort (Register n)
unfolding piece_text
register_short n h = omega (arith, length-decimal-le 9 n (omega arith) (omega arith) (omega arith))

number_short : (n : ℕ) → n < 2 ^ 26 → IsShort (Number n)
unfolding piece_text
number_short n h = omega (arith, length-decimal-le 9 n (omega arith) (omega arith) (omega arith))

signed_case : (b : Bool) (n m : ℕ) → n < 2 ^ 16 → m < 2 ^ 16 → length (signed_decimal (mir.Val.sel b (pos n) (negsuc m))) ≤ 10
signed_case true n m h k = omega (arith, length_signed_le 8 (pos n) (omega arith) (omega arith))
signed_case false n m h k = omega (arith, length_signed_le 8 (negsuc m) (omega arith) (omega arith))

signed_short : (bits : ℕ) → bits < 2 ^ 16 → IsShort (Signed bits)
unfolding piece_text
signed_short bits h = signed_case (lib.Dec.is_le (Prim.Native.Nat.compare (suc bits) 32768)) bits (65536 - suc bits) h (omega arith)

address_short : (a : ℕ) → IsShort (Address a)
unfolding piece_text hex_text
address_short a = omega arith

one_short : (a : Piece) → IsShort a → length (pieces_text (a ∷ [])) ≤ 32
one_short a h = omega (arith, length-append (piece_text a) [])

two_short : (a b : Piece) → IsShort a → IsShort b → length (pieces_text (two a b)) ≤ 32
unfolding piece_text
two_short a b h k = omega (arith, length-append (piece_text a) (44 ∷ (piece_text b ++ [])), length-append (piece_text b) [])

three_short : (a b c : Piece) → IsShort a → IsShort b → IsShort c → length (pieces_text (three a b c)) ≤ 32
unfolding piece_text
three_short a b c h k l =
    omega (arith, length-append (piece_text a) (44 ∷ (piece_text b ++ (44 ∷ (piece_text c ++ [])))), length-append (piece_text b) (44 ∷ (piece_text c ++ [])), length-append (piece_text c) [])

based_short : (a : Piece) (off base : ℕ) → IsShort a → off < 2 ^ 16 → base < 2 ^ 26 → length (pieces_text (based a off base)) ≤ 34
unfolding piece_text
based_short a off base h k l =
    let o = signed_short off k in
    let r = register_short base l in
    omega (arith, o, r, length-append (piece_text a) (44 ∷ (piece_text (Signed off) ++ (40 ∷ (piece_text (Register base) ++ (41 ∷ []))))), length-append (piece_text (Signed off)) (40 ∷ (piece_text (Register base) ++ (41 ∷ []))), length-append (piece_text (Register base)) (41 ∷ []))

r3_short_operands : (m : R3Op) (rs rt rd : ℕ) → rs < 32 → rt < 32 → rd < 32 → length (pieces_text (r3_operands m rs rt rd)) ≤ 32
r3_short_operands Sllv rs rt rd s t d = three_short (Register rd) (Register rt) (Register rs) (register_short rd (omega arith)) (register_short rt (omega arith)) (register_short rs (omega arith))
r3_short_operands Srlv rs rt rd s t d = three_short (Register rd) (Register rt) (Register rs) (register_short rd (omega arith)) (register_short rt (omega arith)) (register_short rs (omega arith))
r3_short_operands Srav rs rt rd s t d = three_short (Register rd) (Register rt) (Register rs) (register_short rd (omega arith)) (register_short rt (omega arith)) (register_short rs (omega arith))
r3_short_operands m rs rt rd s t d = three_short (Register rd) (Register rs) (Register rt) (register_short rd (omega arith)) (register_short rs (omega arith)) (register_short rt (omega arith))

immediate_short : (m : ImmOp) (imm : ℕ) → imm < 2 ^ 16 → IsShort (immediate m imm)
immediate_short Andi imm h = number_short imm (omega arith)
immediate_short Ori imm h = number_short imm (omega arith)
immediate_short Xori imm h = number_short imm (omega arith)
immediate_short m imm h = signed_short imm h

operands_short : (i : Instr) (at : ℕ) → FieldsFit i → length (pieces_text (operands i at)) ≤ 34
unfolding operands
operands_short (R3 m rs rt rd) at f = omega (arith, r3_short_operands m rs rt rd f.0 f.1 f.2)
operands_short (Shift m rt rd sa) at f = omega (arith, three_short (Register rd) (Register rt) (Number sa) (register_short rd (omega (arith, f.1))) (register_short rt (omega (arith, f.0))) (number_short sa (omega (arith, f.2))))
operands_short (Acc m rs rt) at f = omega (arith, two_short (Register rs) (Register rt) (register_short rs (omega (arith, f.0))) (register_short rt (omega (arith, f.1))))
operands_short (HiLo Mfhi rs rd) at f = omega (arith, one_short (Register rd) (register_short rd (omega (arith, f.1))))
operands_short (HiLo Mflo rs rd) at f = omega (arith, one_short (Register rd) (register_short rd (omega (arith, f.1))))
operands_short (HiLo Mthi rs rd) at f = omega (arith, one_short (Register rs) (register_short rs (omega (arith, f.0))))
operands_short (HiLo Mtlo rs rd) at f = omega (arith, one_short (Register rs) (register_short rs (omega (arith, f.0))))
operands_short (Count m rs rd) at f = omega (arith, two_short (Register rd) (Register rs) (register_short rd (omega (arith, f.1))) (register_short rs (omega (arith, f.0))))
operands_short (Imm m rs rt imm) at f = omega (arith, three_short (Register rt) (Register rs) (immediate m imm) (register_short rt (omega (arith, f.1))) (register_short rs (omega (arith, f.0))) (immediate_short m imm f.2))
operands_short (Lui rt imm) at f = omega (arith, two_short (Register rt) (Number imm) (register_short rt (omega (arith, f.0))) (number_short imm (omega (arith, f.1))))
operands_short (Load m rs rt off) at f = based_short (Register rt) off rs (register_short rt (omega (arith, f.1))) f.2 (omega (arith, f.0))
operands_short (Store m rs rt off) at f = based_short (Register rt) off rs (register_short rt (omega (arith, f.1))) f.2 (omega (arith, f.0))
operands_short (Pref rs hint off) at f = based_short (Number hint) off rs (number_short hint (omega (arith, f.1))) f.2 (omega (arith, f.0))
operands_short (Branch2 m rs rt off) at f =
    omega (arith, three_short (Register rs) (Register rt) (Address (branch_target at off)) (register_short rs (omega (arith, f.0))) (register_short rt (omega (arith, f.1))) (address_short (branch_target at off)))
operands_short (Branch1 m rs off) at f = omega (arith, two_short (Register rs) (Address (branch_target at off)) (register_short rs (omega (arith, f.0))) (address_short (branch_target at off)))
operands_short (Jump m target) at f = omega (arith, one_short (Address (jump_target at target)) (address_short (jump_target at target)))
operands_short (Jr rs) at f = omega (arith, one_short (Register rs) (register_short rs (omega (arith, f))))
operands_short (Jalr rs rd) at f = omega (arith, two_short (Register rd) (Register rs) (register_short rd (omega (arith, f.1))) (register_short rs (omega (arith, f.0))))
operands_short (TrapIf m rs rt code) at f = omega (arith, three_short (Register rs) (Register rt) (Number code) (register_short rs (omega (arith, f.0))) (register_short rt (omega (arith, f.1))) (number_short code (omega (arith, f.2))))
operands_short (Stop m code) at f = omega (arith, one_short (Number code) (number_short code (omega (arith, f))))
operands_short (Sync stype) at f = omega (arith, one_short (Number stype) (number_short stype (omega (arith, f))))

-- so each text of an instruction fits
pub text_short : (i : Instr) (at : ℕ) → FieldsFit i → length (instr_text i at) ≤ 48
unfolding instr_text
text_short i at f = omega (arith, name_short i, operands_short i at f, length-append (name_of i) (32 ∷ pieces_text (operands i at)))

-- and what is put together is the whole text
pub printed : (i : Instr) (at : ℕ) (a b c d name : List ℕ) → FieldsFit i → a ≡ [] → b ≡ joined a name → name ≡ name_of i → c ≡ joined b (32 ∷ []) → d ≡ joined c (pieces_text (operands i at)) → d ≡ instr_text i at
unfolding instr_text
printed i at a b c d name f opens named is spaced put =
    put ∙ ap (λ q. joined q (pieces_text (operands i at))) spaced ∙ joined-joined b (32 ∷ []) (pieces_text (operands i at)) ∙ ap (λ q. joined q (32 ∷ pieces_text (operands i at))) (named ∙ ap (λ q. joined q name) opens)
    ∙ joined-joined [] name (32 ∷ pieces_text (operands i at)) ∙ ap (λ q. joined [] (q ++ 32 ∷ pieces_text (operands i at))) is ∙ take_all 48 (instr_text i at) (text_short i at f)
