-- What an instruction comes to in a state: its trap, or the parts of its step. Source: MIPS32 Architecture For Programmers, volume II,
-- release 1.
use Rattle.std.specs.Prelude.{Bool, false, Option, Some, None}
use Rattle.mips_isa.specs.Kinds.{is_control, kind_of}
use Rattle.mips_isa.specs.declared.instr.Instr.{Instr}
pub use Rattle.mips_ref.specs.Access.{is_load, is_store}
pub use Rattle.mips_ref.specs.Facts.{placed}
use Rattle.mips_ref.specs.Mips.{Mips}
use Rattle.mips_ref.specs.Step.{retired_of, trap_of}
use Rattle.mips_ref.specs.declared.records.TrapKind.{TrapKind}
use Rattle.core_window.specs.declared.records.Outcome.{Outcome}
use Rattle.core_window.specs.declared.records.Outcome.TheVariants.{Trapped, Parts}
use Rattle.core_window.specs.declared.records.Status.{Status}
use Rattle.core_window.specs.declared.records.Status.TheVariants.{Waiting, Running, Done}

-- an instruction that decides what follows its delay slot
abbrev pub controls : Option Instr → Bool
controls None = false
controls (Some i) = is_control (kind_of i)

abbrev pub outcome_from : Option TrapKind → Instr → Mips → Outcome
outcome_from (Some k) i x = Trapped k
outcome_from None i x = Parts (retired_of i x)

-- the traps that only a commit finds aside, which no instruction has by itself
unfoldable pub outcome_in : Instr → Mips → Outcome
outcome_in i x = outcome_from (trap_of i x) i x

-- the outcome that a status has
abbrev pub outcome_of : Status → Option Outcome
outcome_of Waiting = None
outcome_of (Running r) = Some r
outcome_of (Done r) = Some r
