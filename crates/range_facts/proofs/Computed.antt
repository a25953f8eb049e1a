-- An instruction whose registers are constants computes the value of these constants.
use Rattle.std.proofs.Common.{◌≡◌, ◌∙◌, refl, sym, ap, ap₂, subst, ℕ, Bool, true, false, cond, eqb, List, [], ◌∷◌, Option, Some, None}
use Rattle.std.specs.Prelude.{◌&&◌, IfSome, slice_index}
use Rattle.std.proofs.lemmas.Bool.{and_parts}
use Rattle.mips_isa.specs.Names.{may_keep, name_if, reads_of}
use Rattle.mips_isa.specs.Words.{low_word, pair_of, signed, unsigned}
use Rattle.mips_isa.specs.declared.instr.Instr.{Instr}
use Rattle.mips_isa.specs.declared.instr.Instr.TheVariants.{R3, Shift, Acc, HiLo, Count, Imm, Lui, Load, Store, Pref, Branch2, Branch1, Jump, Jr, Jalr, TrapIf, Stop, Sync}
use Rattle.mips_isa.specs.declared.instr.R3Op.{R3Op}
use Rattle.mips_isa.specs.declared.instr.R3Op.TheVariants.{Sllv, Srlv, Srav, Movz, Movn, Add, Addu, Sub, Subu, And, Or, Xor, Nor, Slt, Sltu, Mul}
use Rattle.mips_isa.specs.declared.instr.ShiftOp.{ShiftOp}
use Rattle.mips_isa.specs.declared.instr.ShiftOp.TheVariants.{Sll, Srl, Sra}
use Rattle.mips_isa.specs.declared.instr.ImmOp.{ImmOp}
use Rattle.mips_isa.specs.declared.instr.ImmOp.TheVariants.{Addi, Addiu, Slti, Sltiu, Andi, Ori, Xori}
use Rattle.mips_isa.specs.declared.instr.CountOp.{CountOp}
use Rattle.mips_isa.specs.declared.instr.CountOp.TheVariants.{Clz, Clo}
use Rattle.mips_ref.proofs.ReadNames.{only}
use Rattle.mips_ref.specs.Act.{act_of, count_value, imm_value, r3_value, shift_value, to_register, unless_overflow}
use Rattle.mips_ref.specs.Mips.{Mips}
use Rattle.mips_ref.specs.Step.{operands_of, parts_of, retired_of, values_of, write_of}
use Rattle.range_facts.specs.Fit.{Fit}
use Rattle.range_facts.specs.Ranges.{Holds, is_constant}
use Rattle.range_facts.specs.Transfer.{all_constant, computed_fact, constant_at, fact_of, is_computed, least_values, value_fact}
use Rattle.range_facts.specs.declared.facts.Facts.{Facts}
use Rattle.range_facts.specs.declared.along.Along.{Along}
use Rattle.range_facts.proofs.Sets.{constant_holds, eq_holds, only_value}
use Rattle.range_facts.proofs.Words.{unsigned_signed}

-- the value of a register whose fact is a constant
pub constant_word : (a : Along) (registers : List ℕ) (r : ℕ) → Fit a registers → is_constant (fact_of a.facts r) ≡ true → unsigned (fact_of a.facts r).lo ≡ slice_index registers r
constant_word a registers r fit is =
    let value : signed (slice_index registers r) ≡ (fact_of a.facts r).lo = only_value (fact_of a.facts r) (signed (slice_index registers r)) (eq_holds (fact_of a.facts r).lo (fact_of a.facts r).hi is) (fit.holds r) in
    ap unsigned (sym value) ∙ unsigned_signed (slice_index registers r) (fit.words r)

-- the write of an instruction doesn't depend on where it stands
overflow_write : (r p q : ℕ) (o : Option ℕ) → (unless_overflow r p o).write ≡ (unless_overflow r q o).write
overflow_write r p q None = refl
overflow_write r p q (Some v) = refl

-- nor does a value on what isn't read
r3_used : (m : R3Op) (s t d e p q : ℕ) → (may_keep m ≡ true → d ≡ e) → r3_value m (only s t d p) ≡ r3_value m (only s t e q)
unfolding r3_value
r3_used Movz s t d e p q same = ap (λ n. Some (cond (eqb t 0) s n)) (same refl)
r3_used Movn s t d e p q same = ap (λ n. Some (cond (eqb t 0) n s)) (same refl)
r3_used Sllv s t d e p q same = refl
r3_used Srlv s t d e p q same = refl
r3_used Srav s t d e p q same = refl
r3_used Add s t d e p q same = refl
r3_used Addu s t d e p q same = refl
r3_used Sub s t d e p q same = refl
r3_used Subu s t d e p q same = refl
r3_used And s t d e p q same = refl
r3_used Or s t d e p q same = refl
r3_used Xor s t d e p q same = refl
r3_used Nor s t d e p q same = refl
r3_used Slt s t d e p q same = refl
r3_used Sltu s t d e p q same = refl
r3_used Mul s t d e p q same = refl

shift_used : (m : ShiftOp) (sa s t d a b p q : ℕ) → shift_value m sa (only s t a p) ≡ shift_value m sa (only d t b q)
unfolding shift_value
shift_used Sll sa s t d a b p q = refl
shift_used Srl sa s t d a b p q = refl
shift_used Sra sa s t d a b p q = refl

imm_used : (m : ImmOp) (imm s t u a b p q : ℕ) → imm_value m imm (only s t a p) ≡ imm_value m imm (only s u b q)
unfolding imm_value
imm_used Addi imm s t u a b p q = refl
imm_used Addiu imm s t u a b p q = refl
imm_used Slti imm s t u a b p q = refl
imm_used Sltiu imm s t u a b p q = refl
imm_used Andi imm s t u a b p q = refl
imm_used Ori imm s t u a b p q = refl
imm_used Xori imm s t u a b p q = refl

count_used : (m : CountOp) (s t u a b p q : ℕ) → count_value m (only s t a p) ≡ count_value m (only s u b q)
unfolding count_value
count_used Clz s t u a b p q = refl
count_used Clo s t u a b p q = refl

name_there : (f : Facts) (b : Bool) (rd : ℕ) → constant_at f (name_if b rd) ≡ true → b ≡ true → is_constant (fact_of f rd) ≡ true
name_there f true rd is yes_is = is
name_there f false rd is yes_is = absurd (cc)

-- what is read is constant
pub record AllThree (f : Facts) (one two three : Option ℕ) : Type 0 where
  pub first : constant_at f one ≡ true
  pub second : constant_at f two ≡ true
  pub last : constant_at f three ≡ true

all_three : (f : Facts) (one two three : Option ℕ) → all_constant f (one ∷ two ∷ three ∷ []) ≡ true → AllThree f one two three
all_three f one two three is =
    let p = and_parts (constant_at f one) (constant_at f two && (constant_at f three && true)) is in
    let q = and_parts (constant_at f two) (constant_at f three && true) p.1 in
    let r = and_parts (constant_at f three) true q.1 in
    record { first = p.0; second = q.0; last = r.0 }

-- the same write from the constants
same_write : (i : Instr) (x : Mips) (a : Along) → Fit a x.registers → is_computed i ≡ true → all_constant a.facts (reads_of i) ≡ true
    → (act_of i 0 0 (least_values i a.facts)).write ≡ (retired_of i x).write
unfolding act_of values_of operands_of reads_of retired_of parts_of write_of
same_write (R3 m rs rt rd) x a fit computes is =
    let all = all_three a.facts (Some rs) (Some rt) (name_if (may_keep m) rd) is in
    let word : ℕ → ℕ = λ r. unsigned (fact_of a.facts r).lo in
    let at : ℕ → ℕ = λ r. slice_index x.registers r in
    let first = ap₂ (λ s t. r3_value m (only s t (word rd) 0)) (constant_word a x.registers rs fit all.first) (constant_word a x.registers rt fit all.second) in
    let rest = r3_used m (at rs) (at rt) (word rd) (at rd) 0 (pair_of x.hi x.lo)
    (λ keeps. constant_word a x.registers rd fit (name_there a.facts (may_keep m) rd all.last keeps)) in
    ap (λ o. (unless_overflow rd 0 o).write) (first ∙ rest) ∙ overflow_write rd 0 x.next_pc (r3_value m (only (at rs) (at rt) (at rd) (pair_of x.hi x.lo)))
same_write (Shift m rt rd sa) x a fit computes is =
    let all = all_three a.facts None (Some rt) None is in
    let zero_at : ℕ = unsigned (fact_of a.facts 0).lo in
    ap (λ n. to_register rd n)
    (ap (λ t. shift_value m sa (only zero_at t zero_at 0)) (constant_word a x.registers rt fit all.second)
    ∙ shift_used m sa zero_at (slice_index x.registers rt) (slice_index x.registers 0) zero_at (slice_index x.registers rd) 0 (pair_of x.hi x.lo))
same_write (Imm m rs rt imm) x a fit computes is =
    let all = all_three a.facts (Some rs) None None is in
    let zero_at : ℕ = unsigned (fact_of a.facts 0).lo in
    let first = ap (λ s. imm_value m imm (only s zero_at zero_at 0)) (constant_word a x.registers rs fit all.first) in
    let rest = imm_used m imm (slice_index x.registers rs) zero_at (slice_index x.registers rt) zero_at (slice_index x.registers 0) 0 (pair_of x.hi x.lo) in
    ap (λ o. (unless_overflow rt 0 o).write) (first ∙ rest)
    ∙ overflow_write rt 0 x.next_pc (imm_value m imm (only (slice_index x.registers rs) (slice_index x.registers rt) (slice_index x.registers 0) (pair_of x.hi x.lo)))
same_write (Count m rs rd) x a fit computes is =
    let all = all_three a.facts (Some rs) None None is in
    let zero_at : ℕ = unsigned (fact_of a.facts 0).lo in
    ap (λ n. to_register rd n)
    (ap (λ s. count_value m (only s zero_at zero_at 0)) (constant_word a x.registers rs fit all.first)
    ∙ count_used m (slice_index x.registers rs) zero_at (slice_index x.registers 0) zero_at (slice_index x.registers rd) 0 (pair_of x.hi x.lo))
same_write (Lui rt imm) x a fit computes is = refl
same_write (Acc m rs rt) x a fit computes is = absurd (cc)
same_write (HiLo m rs rd) x a fit computes is = absurd (cc)
same_write (Load m rs rt off) x a fit computes is = absurd (cc)
same_write (Store m rs rt off) x a fit computes is = absurd (cc)
same_write (Pref rs hint off) x a fit computes is = absurd (cc)
same_write (Branch2 m rs rt off) x a fit computes is = absurd (cc)
same_write (Branch1 m rs off) x a fit computes is = absurd (cc)
same_write (Jump m target) x a fit computes is = absurd (cc)
same_write (Jr rs) x a fit computes is = absurd (cc)
same_write (Jalr rs rd) x a fit computes is = absurd (cc)
same_write (TrapIf m rs rt code) x a fit computes is = absurd (cc)
same_write (Stop m code) x a fit computes is = absurd (cc)
same_write (Sync stype) x a fit computes is = absurd (cc)

value_holds : (o : Option ℕ) → IfSome o (λ v. Holds (value_fact o) (signed (low_word v)))
value_holds None = tt
value_holds (Some v) = constant_holds (signed (low_word v))

pub computed_sound : (i : Instr) (x : Mips) (a : Along) → Fit a x.registers → is_computed i ≡ true → all_constant a.facts (reads_of i) ≡ true
    → IfSome (retired_of i x).write (λ v. Holds (computed_fact i a.facts) (signed (low_word v)))
unfolding computed_fact
computed_sound i x a fit computes is =
    let same = same_write i x a fit computes is in
    subst (λ o. IfSome o (λ v. Holds (value_fact (act_of i 0 0 (least_values i a.facts)).write) (signed (low_word v)))) same (value_holds (act_of i 0 0 (least_values i a.facts)).write)
