-- The word of an instruction that fits is decoded to that instruction. For each group: the row of its
-- members' fields is found, and no row before it.
use Rattle.std.proofs.Common.{◌≡◌, ℕ, ◌<◌, Some, refl, ap, ◌∙◌, lit<, arith}
use Rattle.std.proofs.lemmas.Bool.{eq-eqb}
use Rattle.mips_isa.specs.declared.fields.Fields.{Fields}
use Rattle.mips_isa.specs.declared.instr.Instr.{Instr}
use Rattle.mips_isa.specs.declared.instr.Instr.TheVariants.{R3, Shift, Acc, HiLo, Count, Imm, Lui, Load, Store, Pref, Branch2, Branch1, Jump, Jr, Jalr, TrapIf, Stop, Sync}
use Rattle.mips_isa.specs.declared.instr.R3Op.{R3Op}
use Rattle.mips_isa.specs.declared.instr.R3Op.TheVariants.{Sllv}
use Rattle.mips_isa.specs.declared.instr.ShiftOp.{ShiftOp}
use Rattle.mips_isa.specs.declared.instr.ShiftOp.TheVariants.{Sll}
use Rattle.mips_isa.specs.declared.instr.AccOp.{AccOp}
use Rattle.mips_isa.specs.declared.instr.AccOp.TheVariants.{Mult}
use Rattle.mips_isa.specs.declared.instr.HiLoOp.{HiLoOp}
use Rattle.mips_isa.specs.declared.instr.HiLoOp.TheVariants.{Mfhi, Mflo, Mthi, Mtlo}
use Rattle.mips_isa.specs.declared.instr.CountOp.{CountOp}
use Rattle.mips_isa.specs.declared.instr.CountOp.TheVariants.{Clz}
use Rattle.mips_isa.specs.declared.instr.ImmOp.{ImmOp}
use Rattle.mips_isa.specs.declared.instr.ImmOp.TheVariants.{Addi}
use Rattle.mips_isa.specs.declared.instr.LoadOp.{LoadOp}
use Rattle.mips_isa.specs.declared.instr.LoadOp.TheVariants.{Lb}
use Rattle.mips_isa.specs.declared.instr.StoreOp.{StoreOp}
use Rattle.mips_isa.specs.declared.instr.StoreOp.TheVariants.{Sb}
use Rattle.mips_isa.specs.declared.instr.Branch2Op.{Branch2Op}
use Rattle.mips_isa.specs.declared.instr.Branch2Op.TheVariants.{Beq}
use Rattle.mips_isa.specs.declared.instr.Branch1Op.{Branch1Op}
use Rattle.mips_isa.specs.declared.instr.Branch1Op.TheVariants.{Blez}
use Rattle.mips_isa.specs.declared.instr.JumpOp.{JumpOp}
use Rattle.mips_isa.specs.declared.instr.JumpOp.TheVariants.{J}
use Rattle.mips_isa.specs.declared.instr.TrapIfOp.{TrapIfOp}
use Rattle.mips_isa.specs.declared.instr.TrapIfOp.TheVariants.{Tge}
use Rattle.mips_isa.specs.declared.instr.StopOp.{StopOp}
use Rattle.mips_isa.specs.declared.instr.StopOp.TheVariants.{Syscall}
use Rattle.mips_isa.specs.Codes.{r3_code, shift_code, acc_code, hi_lo_code, count_code, imm_code, lui_code, load_code, store_code, pref_code, branch2_code, branch1_code, jump_code, jr_code, jalr_code, trap_if_code, stop_code, sync_code}
use Rattle.mips_isa.specs.Rows.{read_of, instr_of, r3_row, shift_row, acc_row, hi_lo_row, count_row, imm_row, lui_row, load_row, store_row, pref_row, branch2_row, branch1_row, jump_row, jr_row, jalr_row, trap_if_row, stop_row, sync_row}
use Rattle.mips_isa.specs.Encoding.{encode_of}
use Rattle.mips_isa.specs.Fits.{FieldsFit}
use Rattle.mips_isa.proofs.Splitting.{fields_of-register_word, fields_of-half_word, fields_of-jump, fields_of-trap, fields_of-stop}

pub r3_part_fits : (m : R3Op) → (r3_code m).1 < 64
r3_part_fits Sllv = lit< tt
r3_part_fits m = lit< tt

pub shift_part_fits : (m : ShiftOp) → (shift_code m).1 < 64
shift_part_fits Sll = lit< tt
shift_part_fits m = lit< tt

pub acc_part_fits : (m : AccOp) → (acc_code m).1 < 64
acc_part_fits Mult = lit< tt
acc_part_fits m = lit< tt

pub hi_lo_part_fits : (m : HiLoOp) → (hi_lo_code m).1 < 64
hi_lo_part_fits Mfhi = lit< tt
hi_lo_part_fits m = lit< tt

pub count_part_fits : (m : CountOp) → (count_code m).1 < 64
count_part_fits Clz = lit< tt
count_part_fits m = lit< tt

pub trap_if_part_fits : (m : TrapIfOp) → (trap_if_code m).1 < 64
trap_if_part_fits Tge = lit< tt
trap_if_part_fits m = lit< tt

pub stop_part_fits : (m : StopOp) → (stop_code m).1 < 64
stop_part_fits Syscall = lit< tt
stop_part_fits m = lit< tt

pub branch1_part_fits : (m : Branch1Op) → (branch1_code m).1 < 32
branch1_part_fits Blez = lit< tt
branch1_part_fits m = lit< tt

r3_found : (m : R3Op) (rs rt rd : ℕ) (f : Fields) → instr_of (record f { op = (r3_code m).0; rs = rs; rt = rt; rd = rd; sa = 0; funct = (r3_code m).1 }) ≡ Some (R3 m rs rt rd)
unfolding instr_of r3_row shift_row acc_row hi_lo_row count_row imm_row lui_row load_row store_row pref_row branch2_row branch1_row jump_row jr_row jalr_row trap_if_row stop_row sync_row
r3_found Sllv rs rt rd f = refl
r3_found m rs rt rd f = refl

shift_found : (m : ShiftOp) (rt rd sa : ℕ) (f : Fields) → instr_of (record f { op = (shift_code m).0; rs = 0; rt = rt; rd = rd; sa = sa; funct = (shift_code m).1 }) ≡ Some (Shift m rt rd sa)
unfolding instr_of r3_row shift_row acc_row hi_lo_row count_row imm_row lui_row load_row store_row pref_row branch2_row branch1_row jump_row jr_row jalr_row trap_if_row stop_row sync_row
shift_found Sll rt rd sa f = refl
shift_found m rt rd sa f = refl

acc_found : (m : AccOp) (rs rt : ℕ) (f : Fields) → instr_of (record f { op = (acc_code m).0; rs = rs; rt = rt; rd = 0; sa = 0; funct = (acc_code m).1 }) ≡ Some (Acc m rs rt)
unfolding instr_of r3_row shift_row acc_row hi_lo_row count_row imm_row lui_row load_row store_row pref_row branch2_row branch1_row jump_row jr_row jalr_row trap_if_row stop_row sync_row
acc_found Mult rs rt f = refl
acc_found m rs rt f = refl

count_found : (m : CountOp) (rs rd : ℕ) (f : Fields) → instr_of (record f { op = (count_code m).0; rs = rs; rt = rd; rd = rd; sa = 0; funct = (count_code m).1 }) ≡ Some (Count m rs rd)
unfolding instr_of r3_row shift_row acc_row hi_lo_row count_row imm_row lui_row load_row store_row pref_row branch2_row branch1_row jump_row jr_row jalr_row trap_if_row stop_row sync_row
count_found Clz rs rd f = rw (eq-eqb rd rd refl)
count_found m rs rd f = rw (eq-eqb rd rd refl)

imm_found : (m : ImmOp) (rs rt imm : ℕ) (f : Fields) → instr_of (record f { op = (imm_code m).0; rs = rs; rt = rt; half = imm }) ≡ Some (Imm m rs rt imm)
unfolding instr_of r3_row shift_row acc_row hi_lo_row count_row imm_row lui_row load_row store_row pref_row branch2_row branch1_row jump_row jr_row jalr_row trap_if_row stop_row sync_row
imm_found Addi rs rt imm f = refl
imm_found m rs rt imm f = refl

lui_found : (rt imm : ℕ) (f : Fields) → instr_of (record f { op = lui_code.0; rs = 0; rt = rt; half = imm }) ≡ Some (Lui rt imm)
unfolding instr_of r3_row shift_row acc_row hi_lo_row count_row imm_row lui_row load_row store_row pref_row branch2_row branch1_row jump_row jr_row jalr_row trap_if_row stop_row sync_row
lui_found rt imm f = refl

load_found : (m : LoadOp) (rs rt off : ℕ) (f : Fields) → instr_of (record f { op = (load_code m).0; rs = rs; rt = rt; half = off }) ≡ Some (Load m rs rt off)
unfolding instr_of r3_row shift_row acc_row hi_lo_row count_row imm_row lui_row load_row store_row pref_row branch2_row branch1_row jump_row jr_row jalr_row trap_if_row stop_row sync_row
load_found Lb rs rt off f = refl
load_found m rs rt off f = refl

store_found : (m : StoreOp) (rs rt off : ℕ) (f : Fields) → instr_of (record f { op = (store_code m).0; rs = rs; rt = rt; half = off }) ≡ Some (Store m rs rt off)
unfolding instr_of r3_row shift_row acc_row hi_lo_row count_row imm_row lui_row load_row store_row pref_row branch2_row branch1_row jump_row jr_row jalr_row trap_if_row stop_row sync_row
store_found Sb rs rt off f = refl
store_found m rs rt off f = refl

pref_found : (rs hint off : ℕ) (f : Fields) → instr_of (record f { op = pref_code.0; rs = rs; rt = hint; half = off }) ≡ Some (Pref rs hint off)
unfolding instr_of r3_row shift_row acc_row hi_lo_row count_row imm_row lui_row load_row store_row pref_row branch2_row branch1_row jump_row jr_row jalr_row trap_if_row stop_row sync_row
pref_found rs hint off f = refl

branch2_found : (m : Branch2Op) (rs rt off : ℕ) (f : Fields) → instr_of (record f { op = (branch2_code m).0; rs = rs; rt = rt; half = off }) ≡ Some (Branch2 m rs rt off)
unfolding instr_of r3_row shift_row acc_row hi_lo_row count_row imm_row lui_row load_row store_row pref_row branch2_row branch1_row jump_row jr_row jalr_row trap_if_row stop_row sync_row
branch2_found Beq rs rt off f = refl
branch2_found m rs rt off f = refl

branch1_found : (m : Branch1Op) (rs off : ℕ) (f : Fields) → instr_of (record f { op = (branch1_code m).0; rs = rs; rt = (branch1_code m).1; half = off }) ≡ Some (Branch1 m rs off)
unfolding instr_of r3_row shift_row acc_row hi_lo_row count_row imm_row lui_row load_row store_row pref_row branch2_row branch1_row jump_row jr_row jalr_row trap_if_row stop_row sync_row
branch1_found Blez rs off f = refl
branch1_found m rs off f = refl

jr_found : (rs : ℕ) (f : Fields) → instr_of (record f { op = jr_code.0; rs = rs; rt = 0; rd = 0; sa = 0; funct = jr_code.1 }) ≡ Some (Jr rs)
unfolding instr_of r3_row shift_row acc_row hi_lo_row count_row imm_row lui_row load_row store_row pref_row branch2_row branch1_row jump_row jr_row jalr_row trap_if_row stop_row sync_row
jr_found rs f = refl

jalr_found : (rs rd : ℕ) (f : Fields) → instr_of (record f { op = jalr_code.0; rs = rs; rt = 0; rd = rd; sa = 0; funct = jalr_code.1 }) ≡ Some (Jalr rs rd)
unfolding instr_of r3_row shift_row acc_row hi_lo_row count_row imm_row lui_row load_row store_row pref_row branch2_row branch1_row jump_row jr_row jalr_row trap_if_row stop_row sync_row
jalr_found rs rd f = refl

sync_found : (stype : ℕ) (f : Fields) → instr_of (record f { op = sync_code.0; rs = 0; rt = 0; rd = 0; sa = stype; funct = sync_code.1 }) ≡ Some (Sync stype)
unfolding instr_of r3_row shift_row acc_row hi_lo_row count_row imm_row lui_row load_row store_row pref_row branch2_row branch1_row jump_row jr_row jalr_row trap_if_row stop_row sync_row
sync_found stype f = refl

jump_found : (m : JumpOp) (target : ℕ) (f : Fields) → instr_of (record f { op = (jump_code m).0; target = target }) ≡ Some (Jump m target)
unfolding instr_of r3_row shift_row acc_row hi_lo_row count_row imm_row lui_row load_row store_row pref_row branch2_row branch1_row jump_row jr_row jalr_row trap_if_row stop_row sync_row
jump_found J target f = refl
jump_found m target f = refl

trap_if_found : (m : TrapIfOp) (rs rt code : ℕ) (f : Fields) → instr_of (record f { op = (trap_if_code m).0; rs = rs; rt = rt; trap_code = code; funct = (trap_if_code m).1 }) ≡ Some (TrapIf m rs rt code)
unfolding instr_of r3_row shift_row acc_row hi_lo_row count_row imm_row lui_row load_row store_row pref_row branch2_row branch1_row jump_row jr_row jalr_row trap_if_row stop_row sync_row
trap_if_found Tge rs rt code f = refl
trap_if_found m rs rt code f = refl

stop_found : (m : StopOp) (code : ℕ) (f : Fields) → instr_of (record f { op = (stop_code m).0; stop_code = code; funct = (stop_code m).1 }) ≡ Some (Stop m code)
unfolding instr_of r3_row shift_row acc_row hi_lo_row count_row imm_row lui_row load_row store_row pref_row branch2_row branch1_row jump_row jr_row jalr_row trap_if_row stop_row sync_row
stop_found Syscall code f = refl
stop_found m code f = refl

hi_lo_found : (m : HiLoOp) (rs rd : ℕ) (f : Fields) → FieldsFit (HiLo m rs rd) → instr_of (record f { op = (hi_lo_code m).0; rs = rs; rt = 0; rd = rd; sa = 0; funct = (hi_lo_code m).1 }) ≡ Some (HiLo m rs rd)
unfolding instr_of r3_row shift_row acc_row hi_lo_row count_row imm_row lui_row load_row store_row pref_row branch2_row branch1_row jump_row jr_row jalr_row trap_if_row stop_row sync_row
hi_lo_found Mfhi rs rd f fits = rw (eq-eqb rs 0 fits.0)
hi_lo_found Mflo rs rd f fits = rw (eq-eqb rs 0 fits.0)
hi_lo_found Mthi rs rd f fits = rw (eq-eqb rd 0 fits.1)
hi_lo_found Mtlo rs rd f fits = rw (eq-eqb rd 0 fits.1)

-- a register's move from or to the pair has both fields below 32
pub hi_lo_fits : (m : HiLoOp) (rs rd : ℕ) → FieldsFit (HiLo m rs rd) → (rs < 32) × (rd < 32)
hi_lo_fits Mfhi rs rd fits = (omega (arith, fits.0), fits.1)
hi_lo_fits Mflo rs rd fits = (omega (arith, fits.0), fits.1)
hi_lo_fits Mthi rs rd fits = (fits.0, omega (arith, fits.1))
hi_lo_fits Mtlo rs rd fits = (fits.0, omega (arith, fits.1))

pub read_of-encode_of : (i : Instr) → FieldsFit i → read_of (encode_of i) ≡ Some i
unfolding read_of encode_of
read_of-encode_of (R3 m rs rt rd) fits =
    let split = fields_of-register_word (r3_code m).0 (r3_code m).1 rs rt rd 0 (r3_part_fits m) fits.0 fits.1 fits.2 (lit< tt) in
    ap instr_of split.1 ∙ r3_found m rs rt rd split.0
read_of-encode_of (Shift m rt rd sa) fits =
    let split = fields_of-register_word (shift_code m).0 (shift_code m).1 0 rt rd sa (shift_part_fits m) (lit< tt) fits.0 fits.1 fits.2 in
    ap instr_of split.1 ∙ shift_found m rt rd sa split.0
read_of-encode_of (Acc m rs rt) fits =
    let split = fields_of-register_word (acc_code m).0 (acc_code m).1 rs rt 0 0 (acc_part_fits m) fits.0 fits.1 (lit< tt) (lit< tt) in
    ap instr_of split.1 ∙ acc_found m rs rt split.0
read_of-encode_of (HiLo m rs rd) fits =
    let both = hi_lo_fits m rs rd fits in
    let split = fields_of-register_word (hi_lo_code m).0 (hi_lo_code m).1 rs 0 rd 0 (hi_lo_part_fits m) both.0 (lit< tt) both.1 (lit< tt) in
    ap instr_of split.1 ∙ hi_lo_found m rs rd split.0 fits
read_of-encode_of (Count m rs rd) fits =
    let split = fields_of-register_word (count_code m).0 (count_code m).1 rs rd rd 0 (count_part_fits m) fits.0 fits.1 fits.1 (lit< tt) in
    ap instr_of split.1 ∙ count_found m rs rd split.0
read_of-encode_of (Imm m rs rt imm) fits =
    let split = fields_of-half_word (imm_code m).0 rs rt imm fits.0 fits.1 fits.2 in
    ap instr_of split.1 ∙ imm_found m rs rt imm split.0
read_of-encode_of (Lui rt imm) fits =
    let split = fields_of-half_word lui_code.0 0 rt imm (lit< tt) fits.0 fits.1 in
    ap instr_of split.1 ∙ lui_found rt imm split.0
read_of-encode_of (Load m rs rt off) fits =
    let split = fields_of-half_word (load_code m).0 rs rt off fits.0 fits.1 fits.2 in
    ap instr_of split.1 ∙ load_found m rs rt off split.0
read_of-encode_of (Store m rs rt off) fits =
    let split = fields_of-half_word (store_code m).0 rs rt off fits.0 fits.1 fits.2 in
    ap instr_of split.1 ∙ store_found m rs rt off split.0
read_of-encode_of (Pref rs hint off) fits =
    let split = fields_of-half_word pref_code.0 rs hint off fits.0 fits.1 fits.2 in
    ap instr_of split.1 ∙ pref_found rs hint off split.0
read_of-encode_of (Branch2 m rs rt off) fits =
    let split = fields_of-half_word (branch2_code m).0 rs rt off fits.0 fits.1 fits.2 in
    ap instr_of split.1 ∙ branch2_found m rs rt off split.0
read_of-encode_of (Branch1 m rs off) fits =
    let split = fields_of-half_word (branch1_code m).0 rs (branch1_code m).1 off fits.0 (branch1_part_fits m) fits.1 in
    ap instr_of split.1 ∙ branch1_found m rs off split.0
read_of-encode_of (Jump m target) fits =
    let split = fields_of-jump (jump_code m).0 target fits in
    ap instr_of split.1 ∙ jump_found m target split.0
read_of-encode_of (Jr rs) fits =
    let split = fields_of-register_word jr_code.0 jr_code.1 rs 0 0 0 (lit< tt) fits (lit< tt) (lit< tt) (lit< tt) in
    ap instr_of split.1 ∙ jr_found rs split.0
read_of-encode_of (Jalr rs rd) fits =
    let split = fields_of-register_word jalr_code.0 jalr_code.1 rs 0 rd 0 (lit< tt) fits.0 (lit< tt) fits.1 (lit< tt) in
    ap instr_of split.1 ∙ jalr_found rs rd split.0
read_of-encode_of (TrapIf m rs rt code) fits =
    let split = fields_of-trap (trap_if_code m).0 rs rt code (trap_if_code m).1 fits.0 fits.1 fits.2 (trap_if_part_fits m) in
    ap instr_of split.1 ∙ trap_if_found m rs rt code split.0
read_of-encode_of (Stop m code) fits =
    let split = fields_of-stop (stop_code m).0 code (stop_code m).1 fits (stop_part_fits m) in
    ap instr_of split.1 ∙ stop_found m code split.0
read_of-encode_of (Sync stype) fits =
    let split = fields_of-register_word sync_code.0 sync_code.1 0 0 0 stype (lit< tt) (lit< tt) (lit< tt) (lit< tt) fits in
    ap instr_of split.1 ∙ sync_found stype split.0
