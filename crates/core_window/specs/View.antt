-- What is known before an entry of a window: the committed state with what the older entries do, as far as they are done. It is passed
-- from entry to entry, the oldest first; what a reader believes at once stands in `Operands`, and a law joins the two. This project's own.
use Rattle.std.specs.Prelude.{ℕ, Bool, true, false, not, ◌&&◌, ◌||◌, ◌==◌, if◌then◌else◌, List, [], ◌∷◌, Option, Some, None}
use Rattle.mips_isa.specs.Names.{reads_of, writes_of}
use Rattle.mips_isa.specs.declared.instr.Instr.{Instr}
use Rattle.mips_ref.specs.Mips.{Mips, name_value}
use Rattle.mips_ref.specs.Step.{changed}
use Rattle.core_window.specs.Outcomes.{is_load, is_store, outcome_in, placed}
use Rattle.core_window.specs.declared.records.Entry.{Entry}
use Rattle.core_window.specs.declared.records.Outcome.{Outcome}
use Rattle.core_window.specs.declared.records.Outcome.TheVariants.{Trapped, Parts}
use Rattle.core_window.specs.declared.records.Status.{Status}
use Rattle.core_window.specs.declared.records.Status.TheVariants.{Waiting, Running, Done}

-- a state, the names whose values in it are known, and whether its memory is
pub record View : Type 0 where
  pub state : Mips
  pub known : ℕ → Bool
  pub memory_known : Bool

-- all is known of a committed state
abbrev pub all_known : Mips → View
all_known x = record { state = x; known = λ n. true; memory_known = true }

-- what becomes known of the name that an instruction writes; the others stay
abbrev pub learned : Option ℕ → Bool → (ℕ → Bool) → ℕ → Bool
learned None now known n = known n
learned (Some m) now known n = if m == n then now else known n

-- past an entry: its name is known where it is done without a trap, and then memory has its store; memory past a store that isn't
-- done is unknown
unfoldable pub past_by : Option Instr → Status → View → View
past_by None s v = v
past_by (Some i) (Done (Parts r)) v =
    record { state = changed i r v.state; known = learned (writes_of i) true v.known; memory_known = v.memory_known }
past_by (Some i) (Done (Trapped k)) v =
    record { state = v.state; known = learned (writes_of i) false v.known; memory_known = v.memory_known }
past_by (Some i) (Running r) v =
    record { state = v.state; known = learned (writes_of i) false v.known; memory_known = not (is_store i) && v.memory_known }
past_by (Some i) Waiting v =
    record { state = v.state; known = learned (writes_of i) false v.known; memory_known = not (is_store i) && v.memory_known }

abbrev pub past : View → Entry → View
past v e = past_by e.instr e.status v

-- the view past entries, oldest first
unfoldable pub view_past : List Entry → View → View
view_past [] v = v
view_past (e ∷ rest) v = view_past rest (past v e)

-- each of these names is known
unfoldable pub all_names : List (Option ℕ) → (ℕ → Bool) → Bool
all_names [] known = true
all_names (None ∷ names) known = all_names names known
all_names (Some n ∷ names) known = known n && all_names names known

-- what an instruction reads is known
abbrev pub knows_operands : View → Instr → Bool
knows_operands v i = all_names (reads_of i) v.known && (not (is_load i) || v.memory_known)

-- what an instruction at a place comes to by a view, where what it reads is known
unfoldable pub known_outcome : View → Instr → ℕ → ℕ → Option Outcome
known_outcome v i pc npc = if knows_operands v i then Some (outcome_in i (placed v.state pc npc)) else None

-- the value of a name that a view knows
abbrev pub if_known : View → ℕ → Option ℕ
if_known v n = if v.known n then Some (name_value v.state n) else None
