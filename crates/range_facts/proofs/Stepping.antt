-- Registers that fit before a step fit after it.
use Rattle.std.proofs.Common.{◌≡◌, ◌∙◌, refl, sym, ap, subst, ℕ, zero, suc, ◌^◌, ◌<◌, ◌≤◌, Bool, true, false, cond, eqb, ltb, arith, List, [], ◌∷◌, ◌⊎◌, inl, inr, pos, ℤ, Option, Some, None, length, get_or, map}
use Rattle.std.specs.Prelude.{◌&&◌, ◌≤ℤ◌, IfSome, int_lt, slice_index, slice_set}
use Rattle.std.specs.Int.{cast_signed, w16}
use Rattle.std.proofs.lemmas.Bool.{and_parts, cases_eq, cases_lt, eqb-true, eqb-false, ltb-true, ltb-false}
use Rattle.std.proofs.lemmas.Int.{ints}
use Rattle.std.proofs.lemmas.List.{get_or-set_other, get_or-set_same, get_or_past, length-set, set_past}
use Rattle.mips_isa.specs.Fits.{FieldsFit}
use Rattle.mips_isa.specs.Names.{register_written, writes_of}
use Rattle.mips_isa.specs.Words.{extended_half, low_word, signed}
use Rattle.mips_isa.specs.declared.instr.Instr.{Instr}
use Rattle.mips_isa.specs.declared.instr.Instr.TheVariants.{R3, Shift, Acc, HiLo, Count, Imm, Lui, Load, Store, Pref, Branch2, Branch1, Jump, Jr, Jalr, TrapIf, Stop, Sync}
use Rattle.mips_isa.specs.declared.instr.R3Op.{R3Op}
use Rattle.mips_isa.specs.declared.instr.R3Op.TheVariants.{Sllv, Srlv, Srav, Movz, Movn, Add, Addu, Sub, Subu, And, Or, Xor, Nor, Slt, Sltu, Mul}
use Rattle.mips_isa.specs.declared.instr.ImmOp.{ImmOp}
use Rattle.mips_isa.specs.declared.instr.ImmOp.TheVariants.{Addi, Addiu, Slti, Sltiu, Andi, Ori, Xori}
use Rattle.mips_isa.specs.declared.instr.HiLoOp.TheVariants.{Mfhi, Mflo, Mthi, Mtlo}
use Rattle.mips_isa.specs.declared.instr.Branch1Op.TheVariants.{Blez, Bgtz, Bltz, Bgez, Bltzal, Bgezal}
use Rattle.mips_isa.specs.declared.instr.JumpOp.TheVariants.{J, Jal}
use Rattle.mips_ref.proofs.Names.{IsName, writes_named}
use Rattle.mips_ref.specs.Act.{act_of, branch1_link, flag, hilo_write, imm_value, jump_link, r3_value, to_register, unless_overflow}
use Rattle.mips_ref.specs.Mips.{Mips}
use Rattle.mips_ref.specs.Step.{Stepped, acted, changed, step_of, operands_of, parts_of, registers_after, retired_of, values_of, write_of}
use Rattle.range_facts.specs.Along.{after_instr, imm_test, is_natural, made_test, r3_test, test_if, test_of, tests_after, unless_of}
use Rattle.range_facts.specs.Fit.{Fit, IsAnswer}
use Rattle.range_facts.specs.Ranges.{Holds, is_constant, unknown}
use Rattle.range_facts.specs.Transfer.{AreFacts, fact_of, register_of, transfer_of, with_fact, written_fact}
use Rattle.range_facts.specs.declared.strided.Strided.{Strided}
use Rattle.range_facts.specs.declared.along.Along.{Along}
use Rattle.range_facts.specs.declared.tests.Test.{Test}
use Rattle.mips_isa.proofs.Relation.{decode_of_fits}
use Rattle.mips_isa.specs.Decoding.{decode_of}
use Rattle.mips_ref.proofs.Next.{acted-trap}
use Rattle.mips_ref.proofs.Steps.{step-went}
use Rattle.mips_ref.specs.Facts.{WentBy}
use Rattle.range_facts.proofs.Kept.{transfer_keeps}
use Rattle.range_facts.proofs.Writes.{written_sound}
use Rattle.range_facts.proofs.Sets.{eq_holds, le_holds, only_value}
use Rattle.range_facts.proofs.Words.{extended_half_below, low_below, natural_order, signed_half}

-- a truth as a word
flag_low : (b : Bool) → low_word (flag b) ≡ flag b
flag_low true = refl
flag_low false = refl

-- what a write says of a comparison
abbrev pub Tells : Option Test → Option ℕ → List ℕ → Type 0
Tells made write registers = IfSome made (λ t. IfSome write (λ v. low_word v ≡ flag (int_lt (signed (slice_index registers t.of)) t.bound)))

register_tells : (r w : ℕ) (P : ℕ → Type 0) → P w → IfSome (to_register r w) P
register_tells r w P holds = by_zero (eqb r 0)
  where
    by_zero : (b : Bool) → IfSome (cond b None (Some w)) P
    by_zero true = tt
    by_zero false = holds

-- the answer of a comparison in place of a word
answered : (t : Test) (registers : List ℕ) (b : Bool) (x : ℤ) → b ≡ int_lt x t.bound → signed (slice_index registers t.of) ≡ x → low_word (flag b) ≡ flag (int_lt (signed (slice_index registers t.of)) t.bound)
answered t registers b x is same = flag_low b ∙ ap flag (is ∙ ap (λ z. int_lt z t.bound) (sym same))

tells_if : (b : Bool) (rd w : ℕ) (of : ℕ) (bound : ℤ) (registers : List ℕ) → (b ≡ true → low_word w ≡ flag (int_lt (signed (slice_index registers of)) bound)) → Tells (test_if b of bound) (to_register rd w) registers
tells_if true rd w of bound registers holds = register_tells rd w (λ v. low_word v ≡ flag (int_lt (signed (slice_index registers of)) bound)) (holds refl)
tells_if false rd w of bound registers holds = tt

constant_signed : (a : Along) (registers : List ℕ) (r : ℕ) → Fit a registers → is_constant (fact_of a.facts r) ≡ true → signed (slice_index registers r) ≡ (fact_of a.facts r).lo
constant_signed a registers r fit is = only_value (fact_of a.facts r) (signed (slice_index registers r)) (eq_holds (fact_of a.facts r).lo (fact_of a.facts r).hi is) (fit.holds r)

natural_signed : (a : Along) (registers : List ℕ) (r : ℕ) → Fit a registers → is_natural (fact_of a.facts r).lo ≡ true → pos 0 ≤ℤ signed (slice_index registers r)
natural_signed a registers r fit is =
    let h = fit.holds r in
    omega (arith, ints, le_holds (pos 0) (fact_of a.facts r).lo is, h.place)

r3_tells : (m : R3Op) (rs rt rd : ℕ) (x : Mips) (a : Along) → Fit a x.registers → Tells (r3_test m rs rt a.facts) (retired_of (R3 m rs rt rd) x).write x.registers
unfolding retired_of parts_of write_of act_of values_of operands_of r3_value
r3_tells Slt rs rt rd x a fit =
    tells_if (is_constant (fact_of a.facts rt)) rd _ rs (fact_of a.facts rt).lo x.registers
    (λ is. flag_low _ ∙ ap (λ z. flag (int_lt (signed (slice_index x.registers rs)) z)) (constant_signed a x.registers rt fit is))
r3_tells Sltu rs rt rd x a fit =
    tells_if (is_constant (fact_of a.facts rt) && is_natural (fact_of a.facts rt).lo && is_natural (fact_of a.facts rs).lo) rd _ rs (fact_of a.facts rt).lo x.registers
    (λ is.
    let p = and_parts (is_constant (fact_of a.facts rt) && is_natural (fact_of a.facts rt).lo) (is_natural (fact_of a.facts rs).lo) is in
    let q = and_parts (is_constant (fact_of a.facts rt)) (is_natural (fact_of a.facts rt).lo) p.0 in
    let s = slice_index x.registers rs in
    let t = slice_index x.registers rt in
    flag_low _
    ∙ ap flag (natural_order s t (fit.words rs) (fit.words rt) (natural_signed a x.registers rs fit p.1) (natural_signed a x.registers rt fit q.1)
    ∙ ap (λ z. int_lt (signed s) z) (constant_signed a x.registers rt fit q.0)))
r3_tells Sllv rs rt rd x a fit = tt
r3_tells Srlv rs rt rd x a fit = tt
r3_tells Srav rs rt rd x a fit = tt
r3_tells Movz rs rt rd x a fit = tt
r3_tells Movn rs rt rd x a fit = tt
r3_tells Add rs rt rd x a fit = tt
r3_tells Addu rs rt rd x a fit = tt
r3_tells Sub rs rt rd x a fit = tt
r3_tells Subu rs rt rd x a fit = tt
r3_tells And rs rt rd x a fit = tt
r3_tells Or rs rt rd x a fit = tt
r3_tells Xor rs rt rd x a fit = tt
r3_tells Nor rs rt rd x a fit = tt
r3_tells Mul rs rt rd x a fit = tt

imm_tells : (m : ImmOp) (rs rt imm : ℕ) (x : Mips) (a : Along) → imm < 2 ^ 16 → Fit a x.registers → Tells (imm_test m rs imm a.facts) (retired_of (Imm m rs rt imm) x).write x.registers
unfolding retired_of parts_of write_of act_of values_of operands_of imm_value
imm_tells Slti rs rt imm x a small fit =
    tells_if true rt _ rs (cast_signed w16 imm) x.registers (λ is. flag_low _ ∙ ap (λ z. flag (int_lt (signed (slice_index x.registers rs)) z)) (signed_half imm small))
imm_tells Sltiu rs rt imm x a small fit =
    tells_if (is_natural (cast_signed w16 imm) && is_natural (fact_of a.facts rs).lo) rt _ rs (cast_signed w16 imm) x.registers
    (λ is.
    let p = and_parts (is_natural (cast_signed w16 imm)) (is_natural (fact_of a.facts rs).lo) is in
    let s = slice_index x.registers rs in
    let t = extended_half imm in
    let natural : pos 0 ≤ℤ signed t = subst (λ z. pos 0 ≤ℤ z) (sym (signed_half imm small)) (le_holds (pos 0) (cast_signed w16 imm) p.0) in
    flag_low _
    ∙ ap flag (natural_order s t (fit.words rs) (extended_half_below imm small) (natural_signed a x.registers rs fit p.1) natural ∙ ap (λ z. int_lt (signed s) z) (signed_half imm small)))
imm_tells Addi rs rt imm x a small fit = tt
imm_tells Addiu rs rt imm x a small fit = tt
imm_tells Andi rs rt imm x a small fit = tt
imm_tells Ori rs rt imm x a small fit = tt
imm_tells Xori rs rt imm x a small fit = tt

pub made_tells : (i : Instr) (x : Mips) (a : Along) → FieldsFit i → Fit a x.registers → Tells (made_test i a.facts) (retired_of i x).write x.registers
unfolding made_test
made_tells (R3 m rs rt rd) x a fits fit = r3_tells m rs rt rd x a fit
made_tells (Imm m rs rt imm) x a fits fit = imm_tells m rs rt imm x a fits.2 fit
made_tells (Shift m rt rd sa) x a fits fit = tt
made_tells (Acc m rs rt) x a fits fit = tt
made_tells (HiLo m rs rd) x a fits fit = tt
made_tells (Count m rs rd) x a fits fit = tt
made_tells (Lui rt imm) x a fits fit = tt
made_tells (Load m rs rt off) x a fits fit = tt
made_tells (Store m rs rt off) x a fits fit = tt
made_tells (Pref rs hint off) x a fits fit = tt
made_tells (Branch2 m rs rt off) x a fits fit = tt
made_tells (Branch1 m rs off) x a fits fit = tt
made_tells (Jump m target) x a fits fit = tt
made_tells (Jr rs) x a fits fit = tt
made_tells (Jalr rs rd) x a fits fit = tt
made_tells (TrapIf m rs rt code) x a fits fit = tt
made_tells (Stop m code) x a fits fit = tt
made_tells (Sync stype) x a fits fit = tt

-- a test that isn't forgotten has its answer still
kept_answer : (r : ℕ) (o : Option Test) (word w : ℕ) (registers : List ℕ) → IsAnswer o word registers → IsAnswer (unless_of r o) word (slice_set registers r w)
kept_answer r None word w registers answer = tt
kept_answer r (Some t) word w registers answer = by_same (eqb t.of r) refl
  where
    by_same : (b : Bool) → eqb t.of r ≡ b → IsAnswer (cond b None (Some t)) word (slice_set registers r w)
    by_same true is = tt
    by_same false is = answer ∙ ap (λ n. flag (int_lt (signed n) t.bound)) (sym (get_or-set_other registers r t.of w 0 (eqb-false t.of r is)))

new_answer : (r : ℕ) (made : Option Test) (w : ℕ) (registers : List ℕ) → IfSome made (λ t. w ≡ flag (int_lt (signed (slice_index registers t.of)) t.bound)) → IsAnswer (unless_of r made) w (slice_set registers r w)
new_answer r None w registers tells = tt
new_answer r (Some t) w registers tells = by_same (eqb t.of r) refl
  where
    by_same : (b : Bool) → eqb t.of r ≡ b → IsAnswer (cond b None (Some t)) w (slice_set registers r w)
    by_same true is = tt
    by_same false is = tells ∙ ap (λ n. flag (int_lt (signed n) t.bound)) (sym (get_or-set_other registers r t.of w 0 (eqb-false t.of r is)))

mapped_test : (r : ℕ) (tests : List (Option Test)) (q : ℕ) → get_or (map (unless_of r) tests) q None ≡ unless_of r (get_or tests q None)
mapped_test r [] q = refl
mapped_test r (t ∷ tests) zero = refl
mapped_test r (t ∷ tests) (suc q) = mapped_test r tests q

-- registers with a new word of one
put_fits : (a : Along) (registers : List ℕ) (r w : ℕ) (s : Strided) (made : Option Test) → AreFacts a.facts → Fit a registers → r < 32 → w < 2 ^ 32 → Holds s (signed w)
    → IfSome made (λ t. w ≡ flag (int_lt (signed (slice_index registers t.of)) t.bound))
    → Fit (record { facts = with_fact a.facts (Some r) s; tests = tests_after a.tests (Some r) made }) (slice_set registers r w)
put_fits a registers r w s made are fit below small holds tells =
    record {
      long = length-set registers r w ∙ fit.long;
      words = λ q. elim (cases_eq q r) [
        | inl same ↦ subst (λ k. get_or (slice_set registers r w) k 0 < 2 ^ 32) (sym same) (subst (λ n. n < 2 ^ 32) (sym put_word) small)
        | inr other ↦ subst (λ n. n < 2 ^ 32) (sym (get_or-set_other registers r q w 0 other)) (fit.words q)
      ];
      holds = λ q. elim (cases_eq q r) [
        | inl same ↦ subst (λ k. Holds (get_or (slice_set a.facts.ranges r s) k unknown) (signed (get_or (slice_set registers r w) k 0))) (sym same)
            (subst (λ t. Holds t (signed (get_or (slice_set registers r w) r 0))) (sym (get_or-set_same a.facts.ranges r s unknown (omega (arith, are.long, below))))
            (subst (λ n. Holds s (signed n)) (sym put_word) holds))
        | inr other ↦ subst (λ t. Holds t (signed (get_or (slice_set registers r w) q 0))) (sym (get_or-set_other a.facts.ranges r q s unknown other))
            (subst (λ n. Holds (fact_of a.facts q) (signed n)) (sym (get_or-set_other registers r q w 0 other)) (fit.holds q))
      ];
      meant = λ q. elim (cases_eq q r) [
        | inl same ↦ subst (λ k. IsAnswer (get_or (tests_after a.tests (Some r) made) k None) (get_or (slice_set registers r w) k 0) (slice_set registers r w)) (sym same)
            (subst (λ n. IsAnswer (get_or (tests_after a.tests (Some r) made) r None) n (slice_set registers r w)) (sym put_word) (at_place (cases_lt r (length (map (unless_of r) a.tests)))))
        | inr other ↦ subst (λ t. IsAnswer t (get_or (slice_set registers r w) q 0) (slice_set registers r w))
            (sym (get_or-set_other (map (unless_of r) a.tests) r q (unless_of r made) None other ∙ mapped_test r a.tests q))
            (subst (λ n. IsAnswer (unless_of r (test_of a q)) n (slice_set registers r w)) (sym (get_or-set_other registers r q w 0 other))
            (kept_answer r (test_of a q) (slice_index registers q) w registers (fit.meant q)))
      ];
    }
  where
    put_word : get_or (slice_set registers r w) r 0 ≡ w
    put_word = get_or-set_same registers r w 0 (omega (arith, fit.long, below))

    at_place : (r < length (map (unless_of r) a.tests)) ⊎ (length (map (unless_of r) a.tests) ≤ r) → IsAnswer (get_or (tests_after a.tests (Some r) made) r None) w (slice_set registers r w)
    at_place (inl within) =
        subst (λ t. IsAnswer t w (slice_set registers r w)) (sym (get_or-set_same (map (unless_of r) a.tests) r (unless_of r made) None within)) (new_answer r made w registers tells)
    at_place (inr past) =
        subst (λ t. IsAnswer t w (slice_set registers r w))
        (sym (ap (λ l. get_or l r None) (set_past (map (unless_of r) a.tests) r (unless_of r made) past) ∙ get_or_past (map (unless_of r) a.tests) r None past)) tt

-- after the write of a name
after_write : (o v : Option ℕ) (a : Along) (registers : List ℕ) (s : Strided) (made : Option Test) → AreFacts a.facts → Fit a registers → IfSome o IsName
    → IfSome v (λ w. Holds s (signed (low_word w))) → Tells made v registers → ((r : ℕ) → register_of o ≡ Some r → v ≡ None → ⊥)
    → Fit (record { facts = with_fact a.facts (register_of o) s; tests = tests_after a.tests (register_of o) made }) (registers_after o v registers)
after_write None v a registers s made are fit named holds tells writes = fit
after_write (Some name) None a registers s made are fit named holds tells writes = by_size (ltb name 32) refl
  where
    by_size : (b : Bool) → ltb name 32 ≡ b
        → Fit (record { facts = with_fact a.facts (cond b (Some name) None) s; tests = tests_after a.tests (cond b (Some name) None) made }) registers
    by_size true is = absurd (writes name (ap (λ b. cond b (Some name) None) is) refl)
    by_size false is = fit
after_write (Some name) (Some v) a registers s made are fit named holds tells writes = by_size (ltb name 32) (eqb name 32) refl refl
  where
    by_made : (m : Option Test) → Tells m (Some v) registers → IfSome m (λ t. low_word v ≡ flag (int_lt (signed (slice_index registers t.of)) t.bound))
    by_made None t = tt
    by_made (Some k) t = t

    by_size : (b c : Bool) → ltb name 32 ≡ b → eqb name 32 ≡ c
        → Fit (record { facts = with_fact a.facts (cond b (Some name) None) s; tests = tests_after a.tests (cond b (Some name) None) made }) (cond c registers (slice_set registers name (low_word v)))
    by_size true true small pair = let n = ltb-true name 32 small in let e = eqb-true name 32 pair in absurd (omega (arith, n, e))
    by_size true false small pair = put_fits a registers name (low_word v) s made are fit (ltb-true name 32 small) (low_below v) holds (by_made made tells)
    by_size false true small pair = fit
    by_size false false small pair = let n = ltb-false name 32 small in let e = eqb-false name 32 pair in absurd (omega (arith, n, e, named.1))

-- what a step that goes writes to a register has a value
register_some : (r w q : ℕ) (b : Bool) → register_of (cond b None (Some r)) ≡ Some q → cond b None (Some w) ≡ None → ⊥
register_some r w q true is none = cc
register_some r w q false is none = cc

overflow_some : (r npc q : ℕ) (o : Option ℕ) → (unless_overflow r npc o).trap ≡ None → register_of (register_written r) ≡ Some q → (unless_overflow r npc o).write ≡ None → ⊥
overflow_some r npc q None goes is none = cc
overflow_some r npc q (Some w) goes is none = register_some r w q (eqb r 0) is none

nothing_named : (q : ℕ) → register_of None ≡ Some q → ⊥
nothing_named q is = cc

pair_named : (q : ℕ) → register_of (Some 32) ≡ Some q → ⊥
pair_named q is = cc

pub writes_some : (i : Instr) (x : Mips) (q : ℕ) → (acted i x).trap ≡ None → register_of (writes_of i) ≡ Some q → (retired_of i x).write ≡ None → ⊥
unfolding retired_of act_of write_of parts_of values_of operands_of hilo_write branch1_link jump_link writes_of
writes_some (R3 m rs rt rd) x q goes is none = overflow_some rd x.next_pc q (r3_value m (values_of (R3 m rs rt rd) x)) goes is none
writes_some (Imm m rs rt imm) x q goes is none = overflow_some rt x.next_pc q (imm_value m imm (values_of (Imm m rs rt imm) x)) goes is none
writes_some (Shift m rt rd sa) x q goes is none = register_some rd _ q (eqb rd 0) is none
writes_some (Count m rs rd) x q goes is none = register_some rd _ q (eqb rd 0) is none
writes_some (Lui rt imm) x q goes is none = register_some rt _ q (eqb rt 0) is none
writes_some (Load m rs rt off) x q goes is none = register_some rt _ q (eqb rt 0) is none
writes_some (Acc m rs rt) x q goes is none = pair_named q is
writes_some (HiLo Mfhi rs rd) x q goes is none = register_some rd _ q (eqb rd 0) is none
writes_some (HiLo Mflo rs rd) x q goes is none = register_some rd _ q (eqb rd 0) is none
writes_some (HiLo Mthi rs rd) x q goes is none = pair_named q is
writes_some (HiLo Mtlo rs rd) x q goes is none = pair_named q is
writes_some (Branch1 Bltzal rs off) x q goes is none = cc
writes_some (Branch1 Bgezal rs off) x q goes is none = cc
writes_some (Branch1 Blez rs off) x q goes is none = nothing_named q is
writes_some (Branch1 Bgtz rs off) x q goes is none = nothing_named q is
writes_some (Branch1 Bltz rs off) x q goes is none = nothing_named q is
writes_some (Branch1 Bgez rs off) x q goes is none = nothing_named q is
writes_some (Jump J target) x q goes is none = nothing_named q is
writes_some (Jump Jal target) x q goes is none = cc
writes_some (Jalr rs rd) x q goes is none = register_some rd _ q (eqb rd 0) is none
writes_some (Store m rs rt off) x q goes is none = nothing_named q is
writes_some (Pref rs hint off) x q goes is none = nothing_named q is
writes_some (Branch2 m rs rt off) x q goes is none = nothing_named q is
writes_some (Jr rs) x q goes is none = nothing_named q is
writes_some (TrapIf m rs rt code) x q goes is none = nothing_named q is
writes_some (Stop m code) x q goes is none = nothing_named q is
writes_some (Sync stype) x q goes is none = nothing_named q is

-- the parts of a step, applied to registers that fit
parts_fit : (i : Instr) (x : Mips) (a : Along) → FieldsFit i → AreFacts a.facts → Fit a x.registers → (acted i x).trap ≡ None → Fit (after_instr i x.pc a) (registers_after (writes_of i) (retired_of i x).write x.registers)
unfolding after_instr transfer_of
parts_fit i x a fits are fit goes =
    after_write (writes_of i) (retired_of i x).write a x.registers (written_fact i x.pc a.facts) (made_test i a.facts) are fit (writes_named i fits)
    (written_sound i x a fits are fit) (made_tells i x a fits fit) (λ r is none. writes_some i x r goes is none)

pub step_fits : (x : Mips) (word : ℕ) (i : Instr) (a : Along) → WentBy x word i → AreFacts a.facts → Fit a x.registers → Fit (after_instr i x.pc a) (step_of x).state.registers
unfolding changed
step_fits x word i a went are fit =
    let fits = decode_of_fits word i went.decoded in
    subst (λ (s : Stepped). Fit (after_instr i x.pc a) s.state.registers) (sym (step-went x word i went))
    (parts_fit i x a fits are fit (acted-trap i x went.no_trap))

-- facts after an instruction that may be decoded
pub after_keeps : (word : ℕ) (i : Instr) (at : ℕ) (a : Along) → decode_of word ≡ Some i → AreFacts a.facts → AreFacts (after_instr i at a).facts
unfolding after_instr
after_keeps word i at a decoded are = transfer_keeps i at a.facts (decode_of_fits word i decoded) are
