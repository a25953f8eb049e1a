-- What an instruction writes is a value of the new fact of its register.
use Rattle.std.proofs.Common.{◌≡◌, refl, ℕ, ◌*◌, ◌^◌, Bool, true, false, cond, eqb, List, Option, Some, None}
use Rattle.std.specs.Prelude.{◌&&◌, IfSome, slice_index}
use Rattle.std.proofs.lemmas.Bool.{and_parts}
use Rattle.mips_isa.specs.Fits.{FieldsFit}
use Rattle.mips_isa.specs.Names.{reads_of}
use Rattle.mips_isa.specs.Words.{low_word, signed, word_sum}
use Rattle.mips_isa.specs.declared.instr.Instr.{Instr}
use Rattle.mips_isa.specs.declared.instr.Instr.TheVariants.{R3, Shift, Acc, HiLo, Count, Imm, Lui, Load, Store, Pref, Branch2, Branch1, Jump, Jr, Jalr, TrapIf, Stop, Sync}
use Rattle.mips_isa.specs.declared.instr.HiLoOp.TheVariants.{Mfhi, Mflo, Mthi, Mtlo}
use Rattle.mips_isa.specs.declared.instr.Branch1Op.TheVariants.{Blez, Bgtz, Bltz, Bgez, Bltzal, Bgezal}
use Rattle.mips_isa.specs.declared.instr.JumpOp.TheVariants.{J, Jal}
use Rattle.mips_ref.specs.Access.{loaded_of}
use Rattle.mips_ref.specs.Act.{act_of, branch1_link, hilo_write, imm_value, jump_link, r3_value, shift_value, count_value, goes_on, stops, to_register, traps_if, unless_overflow}
use Rattle.mips_ref.specs.Mips.{Mips}
use Rattle.mips_ref.specs.Step.{operands_of, retired_of, values_of, write_of, parts_of}
use Rattle.mips_ref.specs.declared.records.TrapKind.TheVariants.{TrapInstr}
use Rattle.range_facts.specs.Fit.{Fit}
use Rattle.range_facts.specs.Ranges.{Holds}
use Rattle.range_facts.specs.Transfer.{AreFacts, all_constant, computed_fact, fact_of, is_computed, ruled_fact, written_fact}
use Rattle.range_facts.specs.declared.along.Along.{Along}
use Rattle.range_facts.proofs.Computed.{computed_sound}
use Rattle.range_facts.proofs.RuleLaws.{Operand, imm_sound, load_sound, r3_sound, shift_sound}
use Rattle.range_facts.proofs.Sets.{constant_holds}
use Rattle.range_facts.proofs.Values.{any_holds}

pub operand : (a : Along) (registers : List ℕ) (r : ℕ) → AreFacts a.facts → Fit a registers → Operand (fact_of a.facts r) (slice_index registers r)
operand a registers r are fit = record { fact = are.each r; below = fit.words r; holds = fit.holds r }

-- what holds of a value holds of a write of it
register_write : (r w : ℕ) (P : ℕ → Type 0) → P w → IfSome (to_register r w) P
register_write r w P holds = by_zero (eqb r 0)
  where
    by_zero : (b : Bool) → IfSome (cond b None (Some w)) P
    by_zero true = tt
    by_zero false = holds

overflow_write : (r npc : ℕ) (o : Option ℕ) (P : ℕ → Type 0) → IfSome o P → IfSome (unless_overflow r npc o).write P
overflow_write r npc None P holds = tt
overflow_write r npc (Some w) P holds = register_write r w P holds

trap_write : (b : Bool) (npc : ℕ) (P : ℕ → Type 0) → IfSome (cond b (stops TrapInstr) (goes_on None npc)).write P
trap_write true npc P = tt
trap_write false npc P = tt

ruled_sound : (i : Instr) (x : Mips) (a : Along) → FieldsFit i → AreFacts a.facts → Fit a x.registers → IfSome (retired_of i x).write (λ v. Holds (ruled_fact i x.pc a.facts) (signed (low_word v)))
unfolding ruled_fact retired_of act_of write_of parts_of values_of operands_of hilo_write branch1_link jump_link loaded_of
ruled_sound (R3 m rs rt rd) x a fits are fit =
    overflow_write rd x.next_pc (r3_value m (values_of (R3 m rs rt rd) x)) _
    (r3_sound m (fact_of a.facts rs) (fact_of a.facts rt) (values_of (R3 m rs rt rd) x) (operand a x.registers rs are fit) (operand a x.registers rt are fit))
ruled_sound (Shift m rt rd sa) x a fits are fit =
    register_write rd (shift_value m sa (values_of (Shift m rt rd sa) x)) _ (shift_sound m sa (fact_of a.facts rt) (values_of (Shift m rt rd sa) x) fits.2 (operand a x.registers rt are fit))
ruled_sound (Imm m rs rt imm) x a fits are fit =
    overflow_write rt x.next_pc (imm_value m imm (values_of (Imm m rs rt imm) x)) _ (imm_sound m imm (fact_of a.facts rs) (values_of (Imm m rs rt imm) x) fits.2 (operand a x.registers rs are fit))
ruled_sound (Load m rs rt off) x a fits are fit = register_write rt _ (λ v. Holds (ruled_fact (Load m rs rt off) x.pc a.facts) (signed (low_word v))) (load_sound m _ _ _)
ruled_sound (Count m rs rd) x a fits are fit = register_write rd (count_value m (values_of (Count m rs rd) x)) _ (any_holds _)
ruled_sound (Lui rt imm) x a fits are fit = register_write rt (imm * 2 ^ 16) _ (any_holds _)
ruled_sound (Acc m rs rt) x a fits are fit = any_holds _
ruled_sound (HiLo Mfhi rs rd) x a fits are fit = register_write rd _ _ (any_holds _)
ruled_sound (HiLo Mflo rs rd) x a fits are fit = register_write rd _ _ (any_holds _)
ruled_sound (HiLo Mthi rs rd) x a fits are fit = any_holds _
ruled_sound (HiLo Mtlo rs rd) x a fits are fit = any_holds _
ruled_sound (Branch1 Bltzal rs off) x a fits are fit = constant_holds (signed (low_word (word_sum x.pc 8)))
ruled_sound (Branch1 Bgezal rs off) x a fits are fit = constant_holds (signed (low_word (word_sum x.pc 8)))
ruled_sound (Branch1 Blez rs off) x a fits are fit = tt
ruled_sound (Branch1 Bgtz rs off) x a fits are fit = tt
ruled_sound (Branch1 Bltz rs off) x a fits are fit = tt
ruled_sound (Branch1 Bgez rs off) x a fits are fit = tt
ruled_sound (Jump J target) x a fits are fit = tt
ruled_sound (Jump Jal target) x a fits are fit = constant_holds (signed (low_word (word_sum x.pc 8)))
ruled_sound (Jalr rs rd) x a fits are fit = register_write rd (word_sum x.pc 8) _ (constant_holds (signed (low_word (word_sum x.pc 8))))
ruled_sound (Store m rs rt off) x a fits are fit = tt
ruled_sound (Pref rs hint off) x a fits are fit = tt
ruled_sound (Branch2 m rs rt off) x a fits are fit = tt
ruled_sound (Jr rs) x a fits are fit = tt
ruled_sound (TrapIf m rs rt code) x a fits are fit =
    trap_write (traps_if m (values_of (TrapIf m rs rt code) x)) x.next_pc (λ v. Holds (ruled_fact (TrapIf m rs rt code) x.pc a.facts) (signed (low_word v)))
ruled_sound (Stop m code) x a fits are fit = tt
ruled_sound (Sync stype) x a fits are fit = tt

pub written_sound : (i : Instr) (x : Mips) (a : Along) → FieldsFit i → AreFacts a.facts → Fit a x.registers → IfSome (retired_of i x).write (λ v. Holds (written_fact i x.pc a.facts) (signed (low_word v)))
unfolding written_fact
written_sound i x a fits are fit = by_rule (is_computed i && all_constant a.facts (reads_of i)) refl
  where
    by_rule : (b : Bool) → (is_computed i && all_constant a.facts (reads_of i)) ≡ b
        → IfSome (retired_of i x).write (λ v. Holds (cond b (computed_fact i a.facts) (ruled_fact i x.pc a.facts)) (signed (low_word v)))
    by_rule true is =
        let parts = and_parts (is_computed i) (all_constant a.facts (reads_of i)) is in
        computed_sound i x a fit parts.0 parts.1
    by_rule false is = ruled_sound i x a fits are fit
