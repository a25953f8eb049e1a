-- A window stands beside a state. This project's own.
use Rattle.std.specs.Prelude.{◌≡◌, ◌≤◌, ℕ, false, List, [], ◌∷◌, length, Option, Some, None}
use Rattle.mips_isa.specs.Decoding.{decode_of}
use Rattle.mips_isa.specs.Words.{word_sum}
use Rattle.mips_isa.specs.declared.instr.Instr.{Instr}
use Rattle.mips_ref.specs.Memory.{LaidOut, code_word_at}
use Rattle.mips_ref.specs.Mips.{Mips}
use Rattle.mips_ref.specs.Step.{step_of}
use Rattle.mips_ref.specs.declared.records.Step.{Step}
use Rattle.mips_ref.specs.declared.records.TrapKind.TheVariants.{Reserved}
use Rattle.core_window.specs.Core.{Core}
use Rattle.core_window.specs.Outcomes.{controls}
use Rattle.core_window.specs.View.{View, all_known, known_outcome, past}
use Rattle.core_window.specs.declared.records.Entry.{Entry}
use Rattle.core_window.specs.declared.records.Outcome.TheVariants.{Trapped}
use Rattle.core_window.specs.declared.records.Status.{Status}
use Rattle.core_window.specs.declared.records.Status.TheVariants.{Waiting, Running, Done}

-- an outcome that an entry has is the one by what is known before it; a word that is no instruction is done with its trap
unfoldable pub StatusFits : Option Instr → View → ℕ → ℕ → Status → Type 0
StatusFits None v pc npc s = s ≡ Done (Trapped Reserved)
StatusFits (Some i) v pc npc Waiting = Unit {0}
StatusFits (Some i) v pc npc (Running r) = known_outcome v i pc npc ≡ Some r
StatusFits (Some i) v pc npc (Done r) = known_outcome v i pc npc ≡ Some r

-- an entry at this place, over this code, past this view
pub record EntryFits (code : ℕ → Option ℕ) (v : View) (pc npc : ℕ) (e : Entry) : Type 0 where
  pub pc_is : e.pc ≡ pc
  pub npc_is : e.npc ≡ npc
  pub code_is : (word : ℕ) × (code e.pc ≡ Some word) × (decode_of word ≡ e.instr)
  pub guess_is : controls e.instr ≡ false → e.guess ≡ word_sum e.npc 4
  pub status_is : StatusFits e.instr v e.pc e.npc e.status

-- each entry fits, and each goes on where the one before it leads; at the end stands the fetch pair
unfoldable pub AllFit : (ℕ → Option ℕ) → View → ℕ → ℕ → List Entry → ℕ → ℕ → Type 0
AllFit code v pc npc [] fetch_pc fetch_next = (fetch_pc ≡ pc) × (fetch_next ≡ npc)
AllFit code v pc npc (e ∷ rest) fetch_pc fetch_next =
    EntryFits code v pc npc e × AllFit code (past v e) npc e.guess rest fetch_pc fetch_next

-- a window has ended with what the state's step answers
unfoldable pub EndingFits : Option Step → Mips → Type 0
EndingFits None x = Unit {0}
EndingFits (Some s) x = (step_of x).answer ≡ s

-- a window stands beside a state, which has 32 registers and ranges by rising address, as every state of the machine
pub record Stands (c : Core) (x : Mips) : Type 0 where
  pub registers : length x.registers ≡ 32
  pub laid_out : LaidOut 0 x.memory.spans
  pub room : length c.entries ≤ c.rob
  pub fit : AllFit (code_word_at x.memory) (all_known x) x.pc x.next_pc c.entries c.fetch_pc c.fetch_next
  pub ending_is : EndingFits c.ending x
