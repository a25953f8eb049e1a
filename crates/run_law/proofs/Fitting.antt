-- Registers that fit facts, over a step.
use Rattle.std.proofs.Common.{◌≡◌, ℕ, Bool, Some}
use Rattle.mips_isa.specs.Kinds.{kind_of}
use Rattle.mips_isa.specs.declared.instr.Instr.{Instr}
use Rattle.mips_isa.specs.declared.instr.Kind.TheVariants as kind
use Rattle.mips_ref.specs.Facts.{WentBy}
use Rattle.mips_ref.specs.Mips.{Mips}
use Rattle.mips_ref.specs.Step.{retired_of, step_of}
use Rattle.range_facts.specs.Along.{after_instr, refined_by}
use Rattle.range_facts.specs.declared.along.Along.{Along}
use Rattle.range_facts.proofs.Stated.{facts_kept, turns}
use Rattle.range_facts.proofs.Stepping.{step_fits as fits_after}
use Rattle.run_law.specs.Fits.{Fits}

-- values that fit before a step fit behind it
pub step_fits : (x : Mips) (word : ℕ) (i : Instr) (a : Along) → WentBy x word i → Fits a x.registers
    → Fits (after_instr i x.pc a) (step_of x).state.registers
step_fits x word i a w fits = record { facts = facts_kept x word i a w fits.facts; fit = fits_after x word i a w fits.facts fits.fit }

-- those with which an instruction goes fit what the facts are refined to
pub turn_fits : (x : Mips) (i : Instr) (taken : Bool) (a : Along)
    → (kind_of i ≡ kind.Branch → (retired_of i x).taken ≡ taken)
    → Fits a x.registers → (b : Along) × (refined_by i taken a ≡ Some b) × Fits b x.registers
turn_fits x i taken a went fits = let t = turns i x a taken fits.facts fits.fit went in (t.0, t.1, record { facts = t.2; fit = t.3 })
