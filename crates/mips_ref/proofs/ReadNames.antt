-- What an instruction does depends on the names that it reads alone.
use Rattle.std.proofs.Common.{◌≡◌, ℕ, ◌<◌, Bool, true, false, cond, eqb, [], ◌∷◌, Some, None, refl, sym, ap, ap₂, ◌∙◌, arith}
use Rattle.std.proofs.lemmas.Grind.{common_steps}
use Rattle.mips_isa.specs.Fits.{FieldsFit}
use Rattle.mips_isa.specs.Names.{may_keep, moves_from_pair, name_if, pair_name, reads_of, reads_pair}
use Rattle.mips_isa.specs.Words.{branch_target, pair_of}
use Rattle.mips_isa.specs.declared.instr.Instr.{Instr}
use Rattle.mips_isa.specs.declared.instr.Instr.TheVariants.{R3, Shift, Acc, HiLo, Count, Imm, Lui, Load, Store, Pref, Branch2, Branch1, Jump, Jr, Jalr, TrapIf, Stop, Sync}
use Rattle.mips_isa.specs.declared.instr.R3Op.{R3Op}
use Rattle.mips_isa.specs.declared.instr.R3Op.TheVariants.{Sllv, Srlv, Srav, Movz, Movn, Add, Addu, Sub, Subu, And, Or, Xor, Nor, Slt, Sltu, Mul}
use Rattle.mips_isa.specs.declared.instr.ShiftOp.{ShiftOp}
use Rattle.mips_isa.specs.declared.instr.ShiftOp.TheVariants.{Sll, Srl, Sra}
use Rattle.mips_isa.specs.declared.instr.AccOp.{AccOp}
use Rattle.mips_isa.specs.declared.instr.AccOp.TheVariants.{Mult, Multu, Div, Divu, Madd, Maddu, Msub, Msubu}
use Rattle.mips_isa.specs.declared.instr.HiLoOp.{HiLoOp}
use Rattle.mips_isa.specs.declared.instr.HiLoOp.TheVariants.{Mfhi, Mflo, Mthi, Mtlo}
use Rattle.mips_isa.specs.declared.instr.CountOp.{CountOp}
use Rattle.mips_isa.specs.declared.instr.CountOp.TheVariants.{Clz, Clo}
use Rattle.mips_isa.specs.declared.instr.ImmOp.{ImmOp}
use Rattle.mips_isa.specs.declared.instr.ImmOp.TheVariants.{Addi, Addiu, Slti, Sltiu, Andi, Ori, Xori}
use Rattle.mips_isa.specs.declared.instr.Branch2Op.{Branch2Op}
use Rattle.mips_isa.specs.declared.instr.Branch2Op.TheVariants.{Beq, Bne}
use Rattle.mips_isa.specs.declared.instr.Branch1Op.{Branch1Op}
use Rattle.mips_isa.specs.declared.instr.Branch1Op.TheVariants.{Blez, Bgtz, Bltz, Bgez, Bltzal, Bgezal}
use Rattle.mips_isa.specs.declared.instr.TrapIfOp.{TrapIfOp}
use Rattle.mips_isa.specs.declared.instr.TrapIfOp.TheVariants.{Tge, Tgeu, Tlt, Tltu, Teq, Tne}
use Rattle.mips_ref.specs.Act.{acc_value, act_of, branch1_link, branch1_taken, branch2_taken, count_value, goes_on, goes_to, hilo_write, imm_value, r3_value, shift_value, stops, to_register, traps_if, unless_overflow}
use Rattle.mips_ref.specs.Facts.{AgreeOn}
use Rattle.mips_ref.specs.Mips.{Mips, name_value, register_of}
use Rattle.mips_ref.specs.Step.{acted, operands_of, values_of}
use Rattle.mips_ref.specs.declared.records.TrapKind.TheVariants.{TrapInstr}
use Rattle.mips_ref.specs.declared.records.Values.{Values}

abbrev pub only : ℕ → ℕ → ℕ → ℕ → Values
only rs rt rd pair = record { rs = rs; rt = rt; rd = rd; pair = pair }

pub only-same : (a b c d a' b' c' d' : ℕ) → a ≡ a' → b ≡ b' → c ≡ c' → d ≡ d' → only a b c d ≡ only a' b' c' d'
only-same a b c d a' b' c' d' e f g h = ap₂ (λ s t. only s t c d) e f ∙ ap₂ (λ s t. only a' b' s t) g h

-- the values that an instruction uses as it acts; the others are zero
unfoldable pub used : Instr → Values → Values
used (R3 m rs rt rd) v = only v.rs v.rt (cond (may_keep m) v.rd 0) 0
used (Shift m rt rd sa) v = only 0 v.rt 0 0
used (Acc m rs rt) v = only v.rs v.rt 0 (cond (reads_pair m) v.pair 0)
used (HiLo m rs rd) v = only (cond (moves_from_pair m) 0 v.rs) 0 0 v.pair
used (Count m rs rd) v = only v.rs 0 0 0
used (Imm m rs rt imm) v = only v.rs 0 0 0
used (Lui rt imm) v = only 0 0 0 0
used (Load m rs rt off) v = only v.rs 0 0 0
used (Store m rs rt off) v = only v.rs 0 0 0
used (Pref rs hint off) v = only 0 0 0 0
used (Branch2 m rs rt off) v = only v.rs v.rt 0 0
used (Branch1 m rs off) v = only v.rs 0 0 0
used (Jump m target) v = only 0 0 0 0
used (Jr rs) v = only v.rs 0 0 0
used (Jalr rs rd) v = only v.rs 0 0 0
used (TrapIf m rs rt code) v = only v.rs v.rt 0 0
used (Stop m code) v = only 0 0 0 0
used (Sync stype) v = only 0 0 0 0

r3_used : (m : R3Op) (v : Values) → r3_value m v ≡ r3_value m (only v.rs v.rt (cond (may_keep m) v.rd 0) 0)
unfolding r3_value
r3_used Sllv v = refl
r3_used Srlv v = refl
r3_used Srav v = refl
r3_used Movz v = refl
r3_used Movn v = refl
r3_used Add v = refl
r3_used Addu v = refl
r3_used Sub v = refl
r3_used Subu v = refl
r3_used And v = refl
r3_used Or v = refl
r3_used Xor v = refl
r3_used Nor v = refl
r3_used Slt v = refl
r3_used Sltu v = refl
r3_used Mul v = refl

shift_used : (m : ShiftOp) (sa : ℕ) (v : Values) → shift_value m sa v ≡ shift_value m sa (only 0 v.rt 0 0)
unfolding shift_value
shift_used Sll sa v = refl
shift_used Srl sa v = refl
shift_used Sra sa v = refl

acc_used : (m : AccOp) (v : Values) → acc_value m v ≡ acc_value m (only v.rs v.rt 0 (cond (reads_pair m) v.pair 0))
unfolding acc_value
acc_used Mult v = refl
acc_used Multu v = refl
acc_used Div v = refl
acc_used Divu v = refl
acc_used Madd v = refl
acc_used Maddu v = refl
acc_used Msub v = refl
acc_used Msubu v = refl

hilo_used : (m : HiLoOp) (rd : ℕ) (v : Values) → hilo_write m rd v ≡ hilo_write m rd (only (cond (moves_from_pair m) 0 v.rs) 0 0 v.pair)
unfolding hilo_write
hilo_used Mfhi rd v = refl
hilo_used Mflo rd v = refl
hilo_used Mthi rd v = refl
hilo_used Mtlo rd v = refl

count_used : (m : CountOp) (v : Values) → count_value m v ≡ count_value m (only v.rs 0 0 0)
unfolding count_value
count_used Clz v = refl
count_used Clo v = refl

imm_used : (m : ImmOp) (imm : ℕ) (v : Values) → imm_value m imm v ≡ imm_value m imm (only v.rs 0 0 0)
unfolding imm_value
imm_used Addi imm v = refl
imm_used Addiu imm v = refl
imm_used Slti imm v = refl
imm_used Sltiu imm v = refl
imm_used Andi imm v = refl
imm_used Ori imm v = refl
imm_used Xori imm v = refl

branch2_used : (m : Branch2Op) (v : Values) → branch2_taken m v ≡ branch2_taken m (only v.rs v.rt 0 0)
unfolding branch2_taken
branch2_used Beq v = refl
branch2_used Bne v = refl

branch1_used : (m : Branch1Op) (v : Values) → branch1_taken m v ≡ branch1_taken m (only v.rs 0 0 0)
unfolding branch1_taken
branch1_used Blez v = refl
branch1_used Bgtz v = refl
branch1_used Bltz v = refl
branch1_used Bgez v = refl
branch1_used Bltzal v = refl
branch1_used Bgezal v = refl

trap_used : (m : TrapIfOp) (v : Values) → traps_if m v ≡ traps_if m (only v.rs v.rt 0 0)
unfolding traps_if
trap_used Tge v = refl
trap_used Tgeu v = refl
trap_used Tlt v = refl
trap_used Tltu v = refl
trap_used Teq v = refl
trap_used Tne v = refl

-- an instruction acts on the values that it uses
pub act-used : (i : Instr) (pc npc : ℕ) (v : Values) → act_of i pc npc v ≡ act_of i pc npc (used i v)
unfolding act_of used
act-used (R3 m rs rt rd) pc npc v = ap (λ o. unless_overflow rd npc o) (r3_used m v)
act-used (Shift m rt rd sa) pc npc v = ap (λ n. goes_on (to_register rd n) npc) (shift_used m sa v)
act-used (Acc m rs rt) pc npc v = ap (λ n. goes_on (Some n) npc) (acc_used m v)
act-used (HiLo m rs rd) pc npc v = ap (λ o. goes_on o npc) (hilo_used m rd v)
act-used (Count m rs rd) pc npc v = ap (λ n. goes_on (to_register rd n) npc) (count_used m v)
act-used (Imm m rs rt imm) pc npc v = ap (λ o. unless_overflow rt npc o) (imm_used m imm v)
act-used (Lui rt imm) pc npc v = refl
act-used (Load m rs rt off) pc npc v = refl
act-used (Store m rs rt off) pc npc v = refl
act-used (Pref rs hint off) pc npc v = refl
act-used (Branch2 m rs rt off) pc npc v = ap (λ b. goes_to None b (branch_target pc off) npc) (branch2_used m v)
act-used (Branch1 m rs off) pc npc v = ap (λ b. goes_to (branch1_link m pc) b (branch_target pc off) npc) (branch1_used m v)
act-used (Jump m target) pc npc v = refl
act-used (Jr rs) pc npc v = refl
act-used (Jalr rs rd) pc npc v = refl
act-used (TrapIf m rs rt code) pc npc v = ap (λ b. cond b (stops TrapInstr) (goes_on None npc)) (trap_used m v)
act-used (Stop m code) pc npc v = refl
act-used (Sync stype) pc npc v = refl

name_step : (b : Bool) (p q r s : ℕ) → b ≡ false → cond b p r ≡ cond b q s → r ≡ s
name_step true p q r s e f = cc
name_step false p q r s e f = f

pub reg : (x y : Mips) (r : ℕ) → r < 32 → name_value x r ≡ name_value y r → register_of x r ≡ register_of y r
reg x y r below same =
    let other : eqb r 32 ≡ false = grind (arith, common_steps) in
    name_step (eqb r 32) (pair_of x.hi x.lo) (pair_of y.hi y.lo) (register_of x r) (register_of y r) other same

kept : (x y : Mips) (b : Bool) (r : ℕ) → r < 32 → AgreeOn (name_if b r ∷ []) x y → cond b (register_of x r) 0 ≡ cond b (register_of y r) 0
kept x y true r below same = reg x y r below same.0
kept x y false r below same = refl

pair_kept : (x y : Mips) (b : Bool) → AgreeOn (name_if b pair_name ∷ []) x y → cond b (pair_of x.hi x.lo) 0 ≡ cond b (pair_of y.hi y.lo) 0
pair_kept x y true same = same.0
pair_kept x y false same = refl

hilo_same : (x y : Mips) (m : HiLoOp) (rs rd : ℕ) → FieldsFit (HiLo m rs rd) → AgreeOn (reads_of (HiLo m rs rd)) x y
    → used (HiLo m rs rd) (values_of (HiLo m rs rd) x) ≡ used (HiLo m rs rd) (values_of (HiLo m rs rd) y)
unfolding used values_of operands_of reads_of
hilo_same x y Mfhi rs rd fits same = only-same _ _ _ _ _ _ _ _ refl refl refl same.0
hilo_same x y Mflo rs rd fits same = only-same _ _ _ _ _ _ _ _ refl refl refl same.0
hilo_same x y Mthi rs rd fits same = only-same _ _ _ _ _ _ _ _ (reg x y rs fits.0 same.0) refl refl same.1.0
hilo_same x y Mtlo rs rd fits same = only-same _ _ _ _ _ _ _ _ (reg x y rs fits.0 same.0) refl refl same.1.0

-- states that agree on what an instruction reads give it the same values to use
used_same : (i : Instr) (x y : Mips) → FieldsFit i → AgreeOn (reads_of i) x y → used i (values_of i x) ≡ used i (values_of i y)
unfolding used values_of operands_of reads_of
used_same (R3 m rs rt rd) x y fits same =
    only-same _ _ _ _ _ _ _ _ (reg x y rs fits.0 same.0) (reg x y rt fits.1 same.1.0) (kept x y (may_keep m) rd fits.2 same.1.1) refl
used_same (Shift m rt rd sa) x y fits same = only-same _ _ _ _ _ _ _ _ refl (reg x y rt fits.0 same.0) refl refl
used_same (Acc m rs rt) x y fits same =
    only-same _ _ _ _ _ _ _ _ (reg x y rs fits.0 same.0) (reg x y rt fits.1 same.1.0) refl (pair_kept x y (reads_pair m) same.1.1)
used_same (HiLo m rs rd) x y fits same = hilo_same x y m rs rd fits same
used_same (Count m rs rd) x y fits same = only-same _ _ _ _ _ _ _ _ (reg x y rs fits.0 same.0) refl refl refl
used_same (Imm m rs rt imm) x y fits same = only-same _ _ _ _ _ _ _ _ (reg x y rs fits.0 same.0) refl refl refl
used_same (Lui rt imm) x y fits same = refl
used_same (Load m rs rt off) x y fits same = only-same _ _ _ _ _ _ _ _ (reg x y rs fits.0 same.0) refl refl refl
used_same (Store m rs rt off) x y fits same = only-same _ _ _ _ _ _ _ _ (reg x y rs fits.0 same.0) refl refl refl
used_same (Pref rs hint off) x y fits same = refl
used_same (Branch2 m rs rt off) x y fits same =
    only-same _ _ _ _ _ _ _ _ (reg x y rs fits.0 same.0) (reg x y rt fits.1 same.1.0) refl refl
used_same (Branch1 m rs off) x y fits same = only-same _ _ _ _ _ _ _ _ (reg x y rs fits.0 same.0) refl refl refl
used_same (Jump m target) x y fits same = refl
used_same (Jr rs) x y fits same = only-same _ _ _ _ _ _ _ _ (reg x y rs fits same.0) refl refl refl
used_same (Jalr rs rd) x y fits same = only-same _ _ _ _ _ _ _ _ (reg x y rs fits.0 same.0) refl refl refl
used_same (TrapIf m rs rt code) x y fits same =
    only-same _ _ _ _ _ _ _ _ (reg x y rs fits.0 same.0) (reg x y rt fits.1 same.1.0) refl refl
used_same (Stop m code) x y fits same = refl
used_same (Sync stype) x y fits same = refl

-- an instruction does the same in two states at the same place that agree on what it reads
pub acted-reads : (i : Instr) (x y : Mips) → FieldsFit i → x.pc ≡ y.pc → x.next_pc ≡ y.next_pc → AgreeOn (reads_of i) x y → acted i x ≡ acted i y
acted-reads i x y fits pc npc same =
    act-used i x.pc x.next_pc (values_of i x) ∙ ap₂ (λ p n. act_of i p n (used i (values_of i x))) pc npc
    ∙ ap (λ v. act_of i y.pc y.next_pc v) (used_same i x y fits same) ∙ sym (act-used i y.pc y.next_pc (values_of i y))
