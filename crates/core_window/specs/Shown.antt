-- An entry as it is shown. This project's own.
use Rattle.std.specs.Prelude.{ℕ, Bool, false, Option, Some, None}
use Rattle.mips_ref.specs.declared.records.Retired.{Retired}
use Rattle.mips_ref.specs.declared.records.TrapKind.{TrapKind}
use Rattle.core_window.specs.Outcomes.{outcome_of}
use Rattle.core_window.specs.declared.records.Entry.{Entry}
use Rattle.core_window.specs.declared.records.EntryView.{EntryView}
use Rattle.core_window.specs.declared.records.Outcome.{Outcome}
use Rattle.core_window.specs.declared.records.Outcome.TheVariants.{Trapped, Parts}
use Rattle.core_window.specs.declared.records.Status.{Status}
use Rattle.core_window.specs.declared.records.Status.TheVariants.{Waiting, Running, Done}
use Rattle.core_window.specs.declared.records.Status3.{Status3}
use Rattle.core_window.specs.declared.records.Status3.TheVariants as shown

abbrev pub stage_of : Status → Status3
stage_of Waiting = shown.Waiting
stage_of (Running r) = shown.Running
stage_of (Done r) = shown.Done

abbrev pub parts_of_outcome : Outcome → Option Retired
parts_of_outcome (Parts r) = Some r
parts_of_outcome (Trapped k) = None

abbrev pub trap_of_outcome : Outcome → Option TrapKind
trap_of_outcome (Parts r) = None
trap_of_outcome (Trapped k) = Some k

abbrev pub next_of : Option Retired → ℕ
next_of None = 0
next_of (Some r) = r.next

abbrev pub taken_of : Option Retired → Bool
taken_of None = false
taken_of (Some r) = r.taken

abbrev pub address_of : Option Retired → Option ℕ
address_of None = None
address_of (Some r) = r.at

abbrev pub faced : Entry → Option Retired → Option TrapKind → EntryView
faced e parts trap =
    record {
      pc = e.pc;
      npc = e.npc;
      guess = e.guess;
      instr = e.instr;
      status = stage_of e.status;
      next = next_of parts;
      taken = taken_of parts;
      at = address_of parts;
      trap = trap;
    }

-- with an outcome its parts or its trap; where there are no parts, no address after the next one, nothing taken and no address of a
-- load or store
abbrev pub shown_by : Entry → Option Outcome → EntryView
shown_by e None = faced e None None
shown_by e (Some r) = faced e (parts_of_outcome r) (trap_of_outcome r)

unfoldable pub shown_of : Entry → EntryView
shown_of e = shown_by e (outcome_of e.status)
