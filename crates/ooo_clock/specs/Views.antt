-- What a shown entry says. This project's own.
use Rattle.std.specs.Prelude.{ℕ, ◌+◌, if◌then◌else◌, Bool, true, false, not, ◌&&◌, ◌||◌, nat_le, is_some, List, [], ◌∷◌, Option, Some, None}
use Rattle.mips_isa.specs.Kinds.{kind_of}
use Rattle.mips_isa.specs.declared.instr.Instr.{Instr}
use Rattle.mips_ref.specs.declared.records.Step.{Step}
use Rattle.mips_ref.specs.declared.records.Step.TheVariants.{Trap}
use Rattle.core_window.specs.Core.{Core}
use Rattle.core_window.specs.Outcomes.{is_store}
use Rattle.core_window.specs.declared.records.Entry.{Entry}
use Rattle.core_window.specs.declared.records.EntryView.{EntryView}
use Rattle.core_window.specs.declared.records.Status3.{Status3}
use Rattle.core_window.specs.declared.records.Status3.TheVariants as shown
use Rattle.ooo_clock.specs.Clock.{Clock, Predicts, Speeds}
use Rattle.ooo_clock.specs.Moves.{ends_after, latency_of, learnt_kind, load_with, loads, stores_by}
use Rattle.ooo_clock.specs.declared.clock.Times.{Times}

abbrev pub is_done : Status3 → Bool
is_done shown.Done = true
is_done _ = false

abbrev pub is_running : Status3 → Bool
is_running shown.Running = true
is_running _ = false

-- done without a trap
abbrev pub has_parts : EntryView → Bool
has_parts v = is_done v.status && not (is_some v.trap)

abbrev pub stores_instr : Option Instr → Bool → Bool
stores_instr None done = false
stores_instr (Some i) done = is_store i && done

abbrev pub stores : EntryView → Bool
stores v = stores_instr v.instr (has_parts v)

abbrev pub taught_instr : Predicts → List ℕ → EntryView → Option Instr → Bool → List ℕ
taught_instr p numbers v (Some i) true = learnt_kind p (kind_of i) numbers v.pc i v.taken v.next
taught_instr p numbers v _ _ = numbers

abbrev pub taught : Predicts → List ℕ → EntryView → List ℕ
taught p numbers v = taught_instr p numbers v v.instr (has_parts v)

-- the oldest entry is a store that stores hold back
abbrev pub store_waits : List Entry → ℕ → ℕ → Bool
store_waits [] free cycle = false
store_waits (e ∷ rest) free cycle = stores_by e.instr e.status && not (nat_le free cycle)

abbrev pub is_trap : Option Step → Bool
is_trap (Some (Trap kind pc)) = true
is_trap _ = false

-- its time to issue has come, its operands aside
abbrev pub in_time : EntryView → Times → ℕ → ℕ → Bool
in_time v t load_free cycle = nat_le (t.fetched + 2) cycle && (not (loads v.instr) || nat_le load_free cycle)

abbrev pub is_waiting : Status3 → Bool
is_waiting shown.Waiting = true
is_waiting _ = false

-- a load that has run into no trap
abbrev pub loads_now : EntryView → Bool
loads_now v = loads v.instr && (not (is_waiting v.status) && not (is_some v.trap))

abbrev pub latency_instr : Speeds → Option Instr → Bool → ℕ
latency_instr s (Some i) false = latency_of s (kind_of i)
latency_instr s _ _ = 1

abbrev pub latency : Speeds → EntryView → ℕ
latency s v = latency_instr s v.instr (is_waiting v.status)

-- what an issue leaves, by what is shown of the entry
abbrev pub issued_view : Speeds → Clock → ℕ → Times → Core → EntryView → Clock
issued_view s q k t core v = if loads_now v then load_with s q k t core v.at else ends_after q k t core (latency s v)
