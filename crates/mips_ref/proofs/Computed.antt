-- The short way through a step comes to the same.
use Rattle.std.proofs.Common.{◌≡◌, ℕ, ◌<◌, ◌*◌, ◌^◌, Bool, true, false, cond, eqb, List, set, Option, Some, None, refl, ap, sym, subst, ◌∙◌, arith}
use Rattle.std.proofs.lemmas.Grind.{common_steps}
use Rattle.std.proofs.lemmas.Option.{same_Some}
use Rattle.mips_isa.specs.Fits.{FieldsFit}
use Rattle.mips_isa.specs.Names.{register_written, writes_of}
use Rattle.mips_isa.specs.Words.{low_word, word_sum}
use Rattle.mips_isa.specs.declared.instr.ImmOp.{ImmOp}
use Rattle.mips_isa.specs.declared.instr.R3Op.{R3Op}
use Rattle.mips_isa.specs.declared.instr.Instr.{Instr}
use Rattle.mips_isa.specs.declared.instr.Instr.TheVariants.{R3, Shift, Acc, HiLo, Count, Imm, Lui, Load, Store, Pref, Branch2, Branch1, Jump, Jr, Jalr, TrapIf, Stop, Sync}
use Rattle.mips_ref.specs.Act.{act_of, count_value, goes_on, imm_value, r3_value, shift_value, to_register, unless_overflow}
use Rattle.mips_ref.specs.Access.{stored_of}
use Rattle.mips_ref.specs.Computed.{computed, computes, unless_overflown, with_register}
use Rattle.mips_ref.specs.Mips.{Mips}
use Rattle.mips_ref.specs.Step.{Stepped, acted, applied, changed, executed, hi_after, late_trap, lo_after, pair_after, parts_of, registers_after, retired_of, trap_in, trap_of, trapped, unless_trapped, values_of, write_of}
use Rattle.mips_ref.specs.declared.records.Act.{Act}
use Rattle.mips_ref.specs.declared.records.Step.TheVariants.{Went}
use Rattle.mips_ref.specs.declared.records.TrapKind.{TrapKind}

-- a step that goes on with a value for a register, as the whole step has it
abbrev long : ℕ → ℕ → Mips → Stepped
long r v x = record {
  answer = Went;
  state = record {
    registers = registers_after (register_written r) (to_register r v) x.registers;
    hi = hi_after (register_written r) (to_register r v) x.hi;
    lo = lo_after (register_written r) (to_register r v) x.lo;
    pc = x.next_pc;
    next_pc = word_sum x.next_pc 4;
    memory = x.memory;
    returns = x.returns;
    output = x.output;
    output_max = x.output_max;
  };
}

registers_settle : (r v : ℕ) (regs : List ℕ) (z : Bool) → eqb r 32 ≡ false → eqb r 0 ≡ z
    → registers_after (cond z None (Some r)) (cond z None (Some v)) regs ≡ with_register r (cond z None (Some v)) regs
registers_settle r v regs true e f = refl
registers_settle r v regs false e f = ap (λ p. cond p regs (set regs r (low_word v))) (e ∙ sym f)

pair_settle : (r v new old : ℕ) (z : Bool) → eqb r 32 ≡ false → pair_after (cond z None (Some r)) (cond z None (Some v)) new old ≡ old
pair_settle r v new old true e = refl
pair_settle r v new old false e = ap (λ p. cond p new old) e

-- the pair isn't written, nor is register 0
settled : (r v : ℕ) (x : Mips) → r < 32 → long r v x ≡ computed r (goes_on (to_register r v) x.next_pc) x
settled r v x low =
    let e : eqb r 32 ≡ false = grind (arith, common_steps, low) in
    rw (registers_settle r v x.registers (eqb r 0) e refl, pair_settle r v _ x.hi (eqb r 0) e, pair_settle r v _ x.lo (eqb r 0) e) refl

-- a step by what its instruction does
abbrev through : Option TrapKind → Instr → Act → Mips → Stepped
through (Some kind) i a x = trapped kind x
through None i a x = applied i (parts_of i a x) x

abbrev run_by : Instr → Act → Mips → Stepped
run_by i a x = through (trap_in i a x) i a x

through_same : (o : Option TrapKind) (i : Instr) (x : Mips) → unless_trapped o i x ≡ through o i (acted i x) x
unfolding retired_of
through_same (Some kind) i x = refl
through_same None i x = refl

executed-run : (i : Instr) (x : Mips) → executed i x ≡ run_by i (acted i x) x
unfolding executed trap_of
executed-run i x = through_same (trap_in i (acted i x) x) i x

r3_by : (m : R3Op) (rs rt rd : ℕ) (x : Mips) (o : Option ℕ) → rd < 32
    → run_by (R3 m rs rt rd) (unless_overflow rd x.next_pc o) x ≡ computed rd (unless_overflow rd x.next_pc o) x
unfolding parts_of write_of stored_of applied late_trap changed writes_of
r3_by m rs rt rd x None low = refl
r3_by m rs rt rd x (Some v) low = settled rd v x low

imm_by : (m : ImmOp) (rs rt imm : ℕ) (x : Mips) (o : Option ℕ) → rt < 32
    → run_by (Imm m rs rt imm) (unless_overflow rt x.next_pc o) x ≡ computed rt (unless_overflow rt x.next_pc o) x
unfolding parts_of write_of stored_of applied late_trap changed writes_of
imm_by m rs rt imm x None low = refl
imm_by m rs rt imm x (Some v) low = settled rt v x low

run-computed : (i : Instr) (r : ℕ) (x : Mips) → FieldsFit i → computes i ≡ Some r → run_by i (acted i x) x ≡ computed r (acted i x) x
unfolding parts_of write_of stored_of applied late_trap changed act_of writes_of
run-computed (R3 m rs rt rd) r x fits is =
    subst (λ q. run_by (R3 m rs rt rd) (acted (R3 m rs rt rd) x) x ≡ computed q (acted (R3 m rs rt rd) x) x) (same_Some rd r is) (r3_by m rs rt rd x _ fits.2)
run-computed (Shift m rt rd sa) r x fits is =
    subst (λ q. run_by (Shift m rt rd sa) (acted (Shift m rt rd sa) x) x ≡ computed q (acted (Shift m rt rd sa) x) x) (same_Some rd r is) (settled rd (shift_value m sa (values_of (Shift m rt rd sa) x)) x fits.1)
run-computed (Count m rs rd) r x fits is =
    subst (λ q. run_by (Count m rs rd) (acted (Count m rs rd) x) x ≡ computed q (acted (Count m rs rd) x) x) (same_Some rd r is) (settled rd (count_value m (values_of (Count m rs rd) x)) x fits.1)
run-computed (Imm m rs rt imm) r x fits is =
    subst (λ q. run_by (Imm m rs rt imm) (acted (Imm m rs rt imm) x) x ≡ computed q (acted (Imm m rs rt imm) x) x) (same_Some rt r is) (imm_by m rs rt imm x _ fits.1)
run-computed (Lui rt imm) r x fits is =
    subst (λ q. run_by (Lui rt imm) (acted (Lui rt imm) x) x ≡ computed q (acted (Lui rt imm) x) x) (same_Some rt r is) (settled rt (imm * 2 ^ 16) x fits.0)
run-computed (Acc m rs rt) r x fits is = cc
run-computed (HiLo m rs rd) r x fits is = cc
run-computed (Load m rs rt off) r x fits is = cc
run-computed (Store m rs rt off) r x fits is = cc
run-computed (Pref rs hint off) r x fits is = cc
run-computed (Branch2 m rs rt off) r x fits is = cc
run-computed (Branch1 m rs off) r x fits is = cc
run-computed (Jump m target) r x fits is = cc
run-computed (Jr rs) r x fits is = cc
run-computed (Jalr rs rd) r x fits is = cc
run-computed (TrapIf m rs rt code) r x fits is = cc
run-computed (Stop m code) r x fits is = cc
run-computed (Sync stype) r x fits is = cc

-- a step that computes a register
pub executed-computed : (i : Instr) (r : ℕ) (x : Mips) → FieldsFit i → computes i ≡ Some r → executed i x ≡ computed r (acted i x) x
executed-computed i r x fits is = executed-run i x ∙ run-computed i r x fits is

pub computes_fits : (i : Instr) (r : ℕ) → FieldsFit i → computes i ≡ Some r → r < 32
computes_fits (R3 m rs rt rd) r fits is = omega (arith, same_Some rd r is, fits.2)
computes_fits (Shift m rt rd sa) r fits is = omega (arith, same_Some rd r is, fits.1)
computes_fits (Count m rs rd) r fits is = omega (arith, same_Some rd r is, fits.1)
computes_fits (Imm m rs rt imm) r fits is = omega (arith, same_Some rt r is, fits.1)
computes_fits (Lui rt imm) r fits is = omega (arith, same_Some rt r is, fits.0)
computes_fits (Acc m rs rt) r fits is = cc
computes_fits (HiLo m rs rd) r fits is = cc
computes_fits (Load m rs rt off) r fits is = cc
computes_fits (Store m rs rt off) r fits is = cc
computes_fits (Pref rs hint off) r fits is = cc
computes_fits (Branch2 m rs rt off) r fits is = cc
computes_fits (Branch1 m rs off) r fits is = cc
computes_fits (Jump m target) r fits is = cc
computes_fits (Jr rs) r fits is = cc
computes_fits (Jalr rs rd) r fits is = cc
computes_fits (TrapIf m rs rt code) r fits is = cc
computes_fits (Stop m code) r fits is = cc
computes_fits (Sync stype) r fits is = cc

-- as the code has it
pub compute-trap : (x : Mips) (i : Instr) (r : ℕ) (a : Act) (kind : TrapKind) → FieldsFit i → computes i ≡ Some r → a ≡ acted i x → a.trap ≡ Some kind
    → executed i x ≡ trapped kind x
compute-trap x i r a kind fits is acts trap =
    executed-computed i r x fits is ∙ ap (λ b. computed r b x) (sym acts) ∙ ap (λ t. unless_overflown t r a x) trap

pub compute-went : (x : Mips) (i : Instr) (r : ℕ) (a : Act) → FieldsFit i → computes i ≡ Some r → a ≡ acted i x → a.trap ≡ None
    → executed i x ≡ unless_overflown None r a x
compute-went x i r a fits is acts trap =
    executed-computed i r x fits is ∙ ap (λ b. computed r b x) (sym acts) ∙ ap (λ t. unless_overflown t r a x) trap
