-- What the older entries owe to the younger ones. This project's own.
use Rattle.std.specs.Prelude.{◌≡◌, ℕ, Bool, true, false, not, ◌&&◌, ◌||◌, nat_lt, if◌then◌else◌, List, length, slice_get, slice_set, Option, Some, None}
use Rattle.mips_isa.specs.declared.instr.Instr.{Instr}
use Rattle.mips_ref.specs.Mips.{Mips}
use Rattle.core_window.specs.Operands.{is_given, operand, stores_done, written}
use Rattle.core_window.specs.Outcomes.{is_store}
use Rattle.core_window.specs.declared.records.Entry.{Entry}
use Rattle.core_window.specs.declared.records.EntryView.{EntryView}
use Rattle.ooo_clock.specs.Views.{has_parts, is_done}
use Rattle.ooo_clock.specs.declared.pending.Pending.{Pending}

-- a name that is owed isn't there past the older entries, and where stores are owed, these aren't all done
pub record Owes (p : Pending) (older : List Entry) (x : Mips) : Type 0 where
  pub names : (n : ℕ) → slice_get p.names n ≡ Some true → is_given (operand older x n) ≡ false
  pub stores : p.stores ≡ true → stores_done older ≡ false

-- a name is owed or not
abbrev pub marked : Option ℕ → Bool → List Bool → List Bool
marked None owed names = names
marked (Some n) owed names = if nat_lt n (length names) then slice_set names n owed else names

-- a store that isn't done
abbrev pub blocks_instr : Option Instr → Bool → Bool
blocks_instr None done = false
blocks_instr (Some i) done = is_store i && not done

abbrev pub blocks : EntryView → Bool
blocks v = blocks_instr v.instr (is_done v.status)

-- what is owed past one more entry
unfoldable pub past_view : Pending → EntryView → Pending
past_view p v = record { names = marked (written v.instr) (not (has_parts v)) p.names; stores = p.stores || blocks v }
