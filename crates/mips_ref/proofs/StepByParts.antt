-- A step by its parts.
use Rattle.std.proofs.Common.{◌≡◌, sym, ap, ◌∙◌}
use Rattle.mips_isa.proofs.Relation.{decode_of_fits}
use Rattle.mips_isa.specs.Fits.{FieldsFit}
use Rattle.mips_isa.specs.declared.instr.Instr.{Instr}
use Rattle.mips_ref.proofs.Steps.{step-retires}
use Rattle.mips_ref.specs.Facts.{Retires}
use Rattle.mips_ref.specs.Memory.{IsMemory}
use Rattle.mips_ref.specs.Mips.{Mips}
use Rattle.mips_ref.specs.Step.{Stepped, applied, step_of}
use Rattle.mips_ref.specs.declared.records.Retired.{Retired}
use Rattle.mips_ref.specs.declared.records.Step.{Step}

pub retires_fits : (x : Mips) (i : Instr) (r : Retired) → Retires x i r → FieldsFit i
retires_fits x i r w = decode_of_fits w.code.0 i w.code.2

pub retired_answer : (x : Mips) (i : Instr) (r : Retired) (answer : Step) → IsMemory x.memory → Retires x i r → answer ≡ (applied i r x).answer
    → answer ≡ (step_of x).answer
retired_answer x i r answer kept w is = is ∙ sym (ap (λ (s : Stepped). s.answer) (step-retires x i r kept.laid_out w))

pub retired_state : (x y : Mips) (i : Instr) (r : Retired) → IsMemory x.memory → Retires x i r → y ≡ (applied i r x).state → y ≡ (step_of x).state
retired_state x y i r kept w is = is ∙ sym (ap (λ (s : Stepped). s.state) (step-retires x i r kept.laid_out w))
