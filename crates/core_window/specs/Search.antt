-- How the operands of an instruction are found along the older entries, from the oldest on.
use Rattle.std.specs.Prelude.{◌≡◌, ◌≤◌, ◌<◌, ◌^◌, ℕ, Bool, ◌&&◌, not, ◌||◌, if◌then◌else◌, List, [], ◌∷◌, Option, Some, None, IfSome}
use Rattle.mips_isa.specs.Words.{low_word}
use Rattle.mips_isa.specs.declared.instr.Instr.{Instr}
use Rattle.mips_isa.specs.declared.instr.Instr.TheVariants.{Load}
use Rattle.mips_ref.specs.Access.{loaded_of, stored_of, word_start}
use Rattle.mips_ref.specs.Act.{act_of, to_register}
use Rattle.mips_ref.specs.Memory.{Flat, lanes_at, or_zero}
use Rattle.mips_ref.specs.Mips.{Mips}
use Rattle.mips_ref.specs.Step.{access_trap, first_trap}
use Rattle.mips_ref.specs.declared.records.Act.{Act}
use Rattle.mips_ref.specs.declared.records.TrapKind.{TrapKind}
use Rattle.mips_ref.specs.declared.records.Values.{Values}
use Rattle.core_window.specs.Operands.{given, is_given, is_name, operand, overlaid, stores_done, written}
use Rattle.core_window.specs.Outcomes.{is_load}
use Rattle.core_window.specs.declared.records.Entry.{Entry}
use Rattle.core_window.specs.declared.records.Outcome.{Outcome}
use Rattle.core_window.specs.declared.records.Outcome.TheVariants.{Trapped, Parts}
use Rattle.core_window.specs.declared.search.Found.{Found}
use Rattle.core_window.specs.declared.search.Names.{Names}

-- the names of the three places as a list
abbrev pub names_list : Names → List (Option ℕ)
names_list n = n.first ∷ n.second ∷ n.third ∷ []

-- a place has what its name has; one without a name has zero
abbrev pub place_value : List Entry → Mips → Option ℕ → Option ℕ
place_value older x None = Some 0
place_value older x (Some n) = operand older x n

unfoldable pub found_in : List Entry → Mips → Names → Found
found_in older x n =
    record {
      first = place_value older x n.first;
      second = place_value older x n.second;
      third = place_value older x n.third;
      stores_done = stores_done older;
    }

-- a place past one more entry
abbrev pub past_place : Entry → Option ℕ → Option ℕ → Option ℕ
past_place e None value = value
past_place e (Some n) value = if is_name (written e.instr) n then given e.status n else value

-- the value of a register, if it is there, is a word
abbrev pub IsSmall : Option ℕ → Option ℕ → Type 0
IsSmall None value = value ≡ Some 0
IsSmall (Some n) value = (n ≡ 32 → ⊥) → IfSome value (λ w. w < 2 ^ 32)

pub record AreSmall (n : Names) (f : Found) : Type 0 where
  pub first : IsSmall n.first f.first
  pub second : IsSmall n.second f.second
  pub third : IsSmall n.third f.third

-- each name is one of the registers or the pair
pub record AreNames (n : Names) : Type 0 where
  pub first : IfSome n.first (λ m. m ≤ 32)
  pub second : IfSome n.second (λ m. m ≤ 32)
  pub third : IfSome n.third (λ m. m ≤ 32)

-- all that an instruction reads is there
abbrev pub all_found : Instr → Found → Bool
all_found i f = is_given f.first && is_given f.second && is_given f.third && (not (is_load i) || f.stores_done)

-- the values of the places, zero where they aren't there
abbrev pub values_found : Found → Values
values_found f =
    record {
      rs = low_word (or_zero f.first);
      rt = low_word (or_zero f.second);
      rd = low_word (or_zero f.third);
      pair = or_zero f.third;
    }

-- the value for the name that an instruction writes
unfoldable pub write_by : Instr → Act → ℕ → Flat → Bool → Option ℕ
write_by (Load m rs rt off) a value memory big =
    to_register rt (loaded_of (Load m rs rt off) (or_zero a.at) value (lanes_at memory (word_start (or_zero a.at))) big)
write_by i a value memory big = a.write

-- what an instruction with these values comes to, over memory and the older stores
abbrev pub outcome_with : Option TrapKind → List Entry → Instr → Act → ℕ → Flat → Outcome
outcome_with (Some k) older i a value memory = Trapped k
outcome_with None older i a value memory =
    Parts (record {
      write = write_by i a value (overlaid older memory) memory.big;
      next = a.next;
      taken = a.taken;
      at = a.at;
      mask = (stored_of i (or_zero a.at) value memory.big).0;
      word = (stored_of i (or_zero a.at) value memory.big).1;
    })

unfoldable pub outcome_by : List Entry → Instr → ℕ → ℕ → Values → Flat → Outcome
outcome_by older i pc npc v memory =
    outcome_with (first_trap (act_of i pc npc v).trap (access_trap memory i (act_of i pc npc v).at)) older i (act_of i pc npc v) v.rt memory
