-- The window of an out-of-order core: a list of entries, oldest first. This project's own.
use Rattle.std.specs.Prelude.{ℕ, List, [], Option, None}
use Rattle.mips_ref.specs.Mips.{Mips}
use Rattle.mips_ref.specs.declared.records.Step.{Step}
use Rattle.core_window.specs.declared.records.Entry.{Entry}

pub record Core : Type 0 where
  -- how many entries there may be (the size of the reorder buffer)
  pub rob : ℕ
  -- oldest first
  pub entries : List Entry
  -- the addresses of the next fetch and of the one after it
  pub fetch_pc : ℕ
  pub fetch_next : ℕ
  -- what ended the window
  pub ending : Option Step

-- with no entry
abbrev pub empty : ℕ → ℕ → ℕ → Core
empty rob pc next = record { rob = rob; entries = []; fetch_pc = pc; fetch_next = next; ending = None }

-- a window as it opens on a state
abbrev pub opened : ℕ → Mips → Core
opened rob x = empty rob x.pc x.next_pc

-- a window, and the committed state beside it
pub record Pair : Type 0 where
  pub core : Core
  pub state : Mips

abbrev pub paired : Core → Mips → Pair
paired c x = record { core = c; state = x }

-- a window as it opens, beside its state
abbrev pub on_opening : ℕ → Mips → Pair
on_opening rob x = paired (opened rob x) x
