-- The reference machine and its code, as what remains of a job sees them. This project's own.
use Rattle.std.specs.Prelude.{Bool, true, false, Option, Some, None}
use Rattle.visa_io.specs.declared.records.Code.{Code}
use Rattle.mips_isa.specs.Kinds.{kind_of}
use Rattle.mips_isa.specs.Prediction.{predicted_taken_of}
use Rattle.mips_isa.specs.declared.instr.Instr.{Instr}
use Rattle.mips_isa.specs.declared.instr.Kind.{Kind}
use Rattle.mips_isa.specs.declared.instr.Kind.TheVariants as kind
use Rattle.mips_ref.specs.Mips.{Mips}
use Rattle.mips_ref.specs.Ran.{is_trap, ran_at}
use Rattle.mips_ref.specs.Step.{step_of}
use Rattle.mips_ref.specs.declared.records.Ran.{Ran}
use Rattle.mips_ref.specs.declared.records.Step.{Step}
use Rattle.mips_ref.specs.declared.records.Step.TheVariants.{Went}
use Rattle.flow_graph.specs.Code.{instr_at}
use Rattle.remaining_wcet.specs.Ways.{Done, Words}

-- the kind of the instruction at an address; where there is none, it doesn't matter
abbrev pub kind_if : Option Instr → Kind
kind_if None = kind.Plain
kind_if (Some i) = kind_of i

abbrev pub predicted_if : Option Instr → Bool
predicted_if None = false
predicted_if (Some i) = predicted_taken_of i

abbrev pub words_of : Code → Words
words_of code = record { sort = λ a. kind_if (instr_at code a); predicted = λ a. predicted_if (instr_at code a) }

-- what a step executes, as far as a walk tells
abbrev pub done_of : Ran → Done
done_of r = record { at = r.at; taken = r.taken }

abbrev pub next_state : Mips → Mips
next_state x = (step_of x).state

abbrev pub done_at : Mips → Done
done_at x = done_of (ran_at x)

abbrev pub is_went : Step → Bool
is_went Went = true
is_went other = false

abbrev pub goes_at : Mips → Bool
goes_at x = is_went (step_of x).answer

abbrev pub traps_at : Mips → Bool
traps_at x = is_trap (step_of x).answer
