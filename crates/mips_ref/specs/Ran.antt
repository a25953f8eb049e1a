-- What a run executes, apart from what it costs: a record for each step. This project's own.
use Rattle.std.specs.Prelude.{ℕ, zero, suc, Bool, true, false, ◌&&◌, not, Option, Some, None, List, [], ◌∷◌, if◌then◌else◌}
use Rattle.mips_isa.specs.Decoding.{decode_of}
use Rattle.mips_isa.specs.declared.instr.Instr.{Instr}
use Rattle.mips_ref.specs.Access.{is_load}
use Rattle.mips_ref.specs.Job.{after}
use Rattle.mips_ref.specs.Memory.{code_word_at}
use Rattle.mips_ref.specs.Mips.{Mips}
use Rattle.mips_ref.specs.Step.{step_of, acted, at_exit}
use Rattle.mips_ref.specs.declared.records.Act.{Act}
use Rattle.mips_ref.specs.declared.records.Ran.{Ran}
use Rattle.mips_ref.specs.declared.records.Step.{Step}
use Rattle.mips_ref.specs.declared.records.Step.TheVariants.{Exit, Trap}
use Rattle.mips_ref.specs.declared.records.TrapKind.TheVariants.{FetchFault}

abbrev pub is_trap : Step → Bool
is_trap (Trap kind pc) = true
is_trap other = false

-- an address that is no code, and a word that is no instruction
abbrev pub ran_nothing : ℕ → Bool → Ran
ran_nothing at is_code = record { at = at; is_code = is_code; instr = None; trapped = true; taken = false; load = None }

-- an instruction at an address that acts so; a load that traps has no access
abbrev pub ran_as : ℕ → Instr → Act → Bool → Ran
ran_as at i a trapped =
    record { at = at; is_code = true; instr = Some i; trapped = trapped; taken = a.taken; load = if is_load i && not trapped then a.at else None }

abbrev pub ran_instr : Mips → Option Instr → Ran
ran_instr x None = ran_nothing x.pc true
ran_instr x (Some i) = ran_as x.pc i (acted i x) (is_trap (step_of x).answer)

abbrev pub ran_word : Mips → Option ℕ → Ran
ran_word x None = ran_nothing x.pc false
ran_word x (Some word) = ran_instr x (decode_of word)

-- what a state's step executes
unfoldable pub ran_at : Mips → Ran
ran_at x = ran_word x (code_word_at x.memory x.pc)

-- what a step answers where there is no code
abbrev pub off_code_answer : Mips → Step
off_code_answer x = if at_exit x then Exit else Trap FetchFault x.pc

-- what the first n steps from a state execute, newest first
unfoldable pub ran_by : ℕ → Mips → List Ran
ran_by zero x = []
ran_by (suc n) x = ran_at (after n x) ∷ ran_by n x

-- what a job executes that ends after n steps: an instruction that traps comes last; at its exit it executes nothing more
abbrev pub ran_ending : ℕ → Mips → Step → List Ran
ran_ending n x (Trap kind pc) = ran_at (after n x) ∷ ran_by n x
ran_ending n x other = ran_by n x

unfoldable pub ran : ℕ → Mips → List Ran
ran n x = ran_ending n x (step_of (after n x)).answer
