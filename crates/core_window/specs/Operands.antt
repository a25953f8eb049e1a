-- What an entry reads: of each name the value of the nearest older entry that writes it, else the committed one; and the committed
-- memory overlaid by the older stores, from the oldest to the youngest. This project's own.
use Rattle.std.specs.Prelude.{ℕ, Bool, true, false, not, ◌&&◌, ◌||◌, ◌==◌, if◌then◌else◌, List, map, reverse, Option, Some, None}
use Rattle.std.specs.List.{find, fold, list_all, range_with_len}
use Rattle.mips_isa.specs.Names.{reads_of, writes_of}
use Rattle.mips_isa.specs.Words.{high_word, low_word}
use Rattle.mips_isa.specs.declared.instr.Instr.{Instr}
use Rattle.mips_ref.specs.Memory.{Flat, or_zero}
use Rattle.mips_ref.specs.Mips.{Mips, name_value}
use Rattle.mips_ref.specs.Step.{memory_after, store_at}
use Rattle.core_window.specs.Outcomes.{is_load, is_store}
use Rattle.core_window.specs.declared.records.Entry.{Entry}
use Rattle.core_window.specs.declared.records.Outcome.TheVariants.{Parts}
use Rattle.core_window.specs.declared.records.Status.{Status}
use Rattle.core_window.specs.declared.records.Status.TheVariants.{Done}

abbrev pub is_name : Option ℕ → ℕ → Bool
is_name None n = false
is_name (Some m) n = m == n

-- the name that an entry's instruction writes
abbrev pub written : Option Instr → Option ℕ
written None = None
written (Some i) = writes_of i

abbrev pub writes_name : Option Instr → ℕ → Bool
writes_name instr n = is_name (written instr) n

-- of the older entries the youngest that writes a name
abbrev pub nearest_writer : List Entry → ℕ → Option Entry
nearest_writer older n = find (λ (e : Entry). writes_name e.instr n) (reverse older)

-- a register has the low word of what is written, the pair HI and LO (name 32) both words
abbrev pub as_name : ℕ → Option ℕ → Option ℕ
as_name n None = None
as_name n (Some w) = Some (if n == 32 then w else low_word w)

-- what an entry gives of a name that it writes: nothing unless it is done without a trap
abbrev pub given : Status → ℕ → Option ℕ
given (Done (Parts r)) n = as_name n r.write
given _ n = None

abbrev pub from_writer : Option Entry → ℕ → Option ℕ → Option ℕ
from_writer None n committed = committed
from_writer (Some e) n committed = given e.status n

-- the value of a name past the older entries, if it is there
abbrev pub operand : List Entry → Mips → ℕ → Option ℕ
operand older x n = from_writer (nearest_writer older n) n (Some (name_value x n))

-- whether a store doesn't hold a load up
abbrev pub is_done : Status → Bool
is_done (Done r) = true
is_done _ = false

abbrev pub no_store : Option Instr → Bool
no_store None = true
no_store (Some i) = not (is_store i)

abbrev pub passes_loads : Entry → Bool
passes_loads e = no_store e.instr || is_done e.status

abbrev pub stores_done : List Entry → Bool
stores_done older = list_all passes_loads older

-- memory with an entry's store; one with a trap or to the port changes none
abbrev pub with_store : Option Instr → Status → Flat → Flat
with_store (Some i) (Done (Parts r)) m = memory_after (store_at i r.at) r.mask r.word m
with_store _ _ m = m

abbrev pub overlaid : List Entry → Flat → Flat
overlaid older m = fold (λ (n : Flat) (e : Entry). with_store e.instr e.status n) m older

abbrev pub is_given : Option ℕ → Bool
is_given None = false
is_given (Some v) = true

-- whether a name that is read, if there is one, has its value
abbrev pub has_operand : List Entry → Mips → Option ℕ → Bool
has_operand older x None = true
has_operand older x (Some n) = is_given (operand older x n)

-- an instruction can be issued: its operands are there and, for a load, the older stores are done
abbrev pub is_ready : List Entry → Mips → Instr → Bool
is_ready older x i = list_all (has_operand older x) (reads_of i) && (not (is_load i) || stores_done older)

-- the state that an entry at a place sees
unfoldable pub seen : List Entry → Mips → ℕ → ℕ → Mips
seen older x pc npc =
    record x {
      registers = map (λ n. or_zero (operand older x n)) (range_with_len 0 32);
      hi = high_word (or_zero (operand older x 32));
      lo = low_word (or_zero (operand older x 32));
      pc = pc;
      next_pc = npc;
      memory = overlaid older x.memory;
    }
