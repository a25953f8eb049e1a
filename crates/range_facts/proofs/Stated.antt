-- The laws in the words of their clauses.
use Rattle.std.proofs.Common.{◌≡◌, ℕ, Bool, Some}
use Rattle.mips_isa.specs.Kinds.{kind_of}
use Rattle.mips_isa.specs.declared.instr.Instr.{Instr}
use Rattle.mips_isa.specs.declared.instr.Kind.TheVariants as kind
use Rattle.mips_ref.specs.Facts.{WentBy}
use Rattle.mips_ref.specs.Mips.{Mips}
use Rattle.mips_ref.specs.Step.{retired_of}
use Rattle.range_facts.specs.Along.{after_instr, refined_by}
use Rattle.range_facts.specs.Fit.{Fit}
use Rattle.range_facts.specs.Transfer.{AreFacts}
use Rattle.range_facts.specs.declared.along.Along.{Along}
use Rattle.range_facts.proofs.Stepping.{after_keeps}
use Rattle.range_facts.proofs.Turning.{turn_fits}

pub facts_kept : (x : Mips) (word : ℕ) (i : Instr) (a : Along) → WentBy x word i → AreFacts a.facts → AreFacts (after_instr i x.pc a).facts
facts_kept x word i a went are = after_keeps word i x.pc a went.decoded are

pub turns : (i : Instr) (x : Mips) (a : Along) (taken : Bool) → AreFacts a.facts → Fit a x.registers → (kind_of i ≡ kind.Branch → (retired_of i x).taken ≡ taken)
    → (b : Along) × (refined_by i taken a ≡ Some b) × AreFacts b.facts × Fit b x.registers
turns i x a taken are fit went = let g = turn_fits i x a taken are fit went in (g.along, g.is, g.facts, g.fit)
