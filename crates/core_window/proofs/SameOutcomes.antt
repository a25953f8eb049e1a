-- What an instruction comes to is the same where what it reads is, and before another next address but for where it goes.
use Rattle.std.proofs.Common.{◌≡◌, ℕ, false, true, Option, Some, None, refl, sym, ap, ap₂, ◌∙◌}
use Rattle.mips_isa.specs.Fits.{FieldsFit}
use Rattle.mips_isa.specs.Kinds.{is_control, kind_of}
use Rattle.mips_isa.specs.Names.{reads_of}
use Rattle.mips_isa.specs.Words.{word_sum}
use Rattle.mips_isa.specs.declared.instr.Instr.{Instr}
use Rattle.mips_ref.proofs.CodeKept.{SameSpans}
use Rattle.mips_ref.proofs.StepNext.{parts-plain, trap-plain}
use Rattle.mips_ref.proofs.StepReads as reads
use Rattle.mips_ref.specs.Facts.{AgreeOn}
use Rattle.mips_ref.specs.Mips.{Mips}
use Rattle.mips_ref.specs.Step.{retired_of, trap_of}
use Rattle.mips_ref.specs.declared.records.Retired.{Retired}
use Rattle.mips_ref.specs.declared.records.TrapKind.{TrapKind}
use Rattle.core_window.specs.Events.{going_to}
use Rattle.core_window.specs.Outcomes.{is_load, outcome_from, outcome_in, placed}
use Rattle.core_window.specs.declared.records.Outcome.{Outcome}
use Rattle.core_window.specs.declared.records.Outcome.TheVariants.{Trapped, Parts}

-- an outcome by its trap and its parts
outcome_with : Option TrapKind → Retired → Outcome
outcome_with None r = Parts r
outcome_with (Some k) r = Trapped k

outcome-with : (t : Option TrapKind) (i : Instr) (x : Mips) → outcome_from t i x ≡ outcome_with t (retired_of i x)
unfolding outcome_with
outcome-with None i x = refl
outcome-with (Some k) i x = refl

pub outcome-same : (i : Instr) (x y : Mips) → FieldsFit i → x.pc ≡ y.pc → x.next_pc ≡ y.next_pc → AgreeOn (reads_of i) x y
    → SameSpans x.memory y.memory → (is_load i ≡ true → x.memory ≡ y.memory) → outcome_in i x ≡ outcome_in i y
unfolding outcome_in
outcome-same i x y fits pc npc same s mem =
    let both = reads.outcome-same i x y fits pc npc same s mem in
    outcome-with (trap_of i x) i x ∙ ap₂ outcome_with both.trap both.parts ∙ sym (outcome-with (trap_of i y) i y)

by-trap : (i : Instr) (x y : Mips) (n : ℕ) (t : Option TrapKind) → trap_of i x ≡ t → trap_of i y ≡ t
    → (t ≡ None → retired_of i y ≡ record (retired_of i x) { next = n }) → outcome_from (trap_of i y) i y ≡ going_to n (outcome_from (trap_of i x) i x)
by-trap i x y n None e f parts =
    ap (λ t. outcome_from t i y) f ∙ ap Parts (parts refl) ∙ sym (ap (λ t. going_to n (outcome_from t i x)) e)
by-trap i x y n (Some k) e f parts = ap (λ t. outcome_from t i y) f ∙ sym (ap (λ t. going_to n (outcome_from t i x)) e)

pub outcome-plain : (i : Instr) (x : Mips) (npc other : ℕ) → is_control (kind_of i) ≡ false
    → outcome_in i (placed x x.pc other) ≡ going_to (word_sum other 4) (outcome_in i (placed x x.pc npc))
unfolding outcome_in
outcome-plain i x npc other plain =
    by-trap i (placed x x.pc npc) (placed x x.pc other) (word_sum other 4) (trap_of i (placed x x.pc npc)) refl (trap-plain i x npc other plain)
    (λ e. parts-plain i x npc other plain e)
