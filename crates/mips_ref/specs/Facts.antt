-- Facts on one step that the layers above use.
use Rattle.std.specs.Prelude.{◌≡◌, ◌<◌, ℕ, ◌+◌, true, false, List, [], ◌∷◌, Option, Some, None, ◌==◌, if◌then◌else◌}
use Rattle.mips_isa.specs.Decoding.{decode_of}
use Rattle.mips_isa.specs.Words.{low_word, word_sum}
use Rattle.mips_isa.specs.declared.instr.Instr.{Instr}
use Rattle.mips_ref.specs.Access.{word_start}
use Rattle.mips_ref.specs.Act.{act_of}
use Rattle.mips_ref.specs.Memory.{code_word_at, masks}
use Rattle.mips_ref.specs.Mips.{Mips, name_value}
use Rattle.mips_ref.specs.Step.{at_exit, late_trap, retired_of, store_at, trap_of}
use Rattle.mips_ref.specs.declared.records.Act.{Act}
use Rattle.mips_ref.specs.declared.records.Retired.{Retired}
use Rattle.mips_ref.specs.declared.records.TrapKind.{TrapKind}
use Rattle.mips_ref.specs.declared.records.TrapKind.TheVariants.{Overflow, TrapInstr, Break, Syscall, ReturnMismatch, ReturnFull, OutputFull}
use Rattle.mips_ref.specs.declared.records.Values.{Values}

-- the next step of a state is that of this word and instruction, and it goes
pub record WentBy (x : Mips) (word : ℕ) (i : Instr) : Type 0 where
  pub not_exit : at_exit x ≡ false
  pub found : code_word_at x.memory x.pc ≡ Some word
  pub decoded : decode_of word ≡ Some i
  pub no_trap : trap_of i x ≡ None
  pub no_late_trap : late_trap i (retired_of i x) x ≡ None

-- a step's store writes the byte at this address: it is one of those that its mask names in the word around the store's address
pub record Writes (i : Instr) (r : Retired) (a : ℕ) : Type 0 where
  pub at : ℕ
  pub stores : store_at i r.at ≡ Some at
  pub lane : ℕ
  pub below : lane < 4
  pub masked : masks r.mask lane ≡ true
  pub address : word_start at + lane ≡ a

-- two outcomes of an instruction are the same but for where it goes after the next one
pub record SameButNext (a b : Act) : Type 0 where
  pub write : a.write ≡ b.write
  pub taken : a.taken ≡ b.taken
  pub at : a.at ≡ b.at
  pub trap : a.trap ≡ b.trap

-- an instruction goes on after the next one, and reads the next one's address for nothing else
pub record GoesOn (i : Instr) (pc : ℕ) (v : Values) : Type 0 where
  pub next : (npc : ℕ) → (act_of i pc npc v).trap ≡ None → (act_of i pc npc v).next ≡ word_sum npc 4
  pub same : (npc other : ℕ) → SameButNext (act_of i pc npc v) (act_of i pc other v)

-- the parts of a state's next step: the word at the pc is this instruction, which has no trap of its own, and these are what it
-- does (`write`, `next`, `taken` and `at` as it acts, a load's value from the bytes around its address, the mask and word of a store)
pub record Retires (x : Mips) (i : Instr) (r : Retired) : Type 0 where
  pub code : (word : ℕ) × (code_word_at x.memory x.pc ≡ Some word) × (decode_of word ≡ Some i)
  pub no_trap : trap_of i x ≡ None
  pub parts : r ≡ retired_of i x

-- a trap that only the parts of a step find, and one that an instruction finds by itself
abbrev pub IsLate : TrapKind → Type 0
IsLate ReturnFull = Unit {0}
IsLate ReturnMismatch = Unit {0}
IsLate OutputFull = Unit {0}
IsLate k = ⊥

abbrev pub IsOwn : TrapKind → Type 0
IsOwn Overflow = Unit {0}
IsOwn TrapInstr = Unit {0}
IsOwn Break = Unit {0}
IsOwn Syscall = Unit {0}
IsOwn k = ⊥

-- an instruction in a state comes to the same as in another one: the same trap, or the same parts
pub record SameOutcome (i : Instr) (x y : Mips) : Type 0 where
  pub trap : trap_of i x ≡ trap_of i y
  pub parts : retired_of i x ≡ retired_of i y

-- a state at another place
abbrev pub placed : Mips → ℕ → ℕ → Mips
placed x pc npc = record x { pc = pc; next_pc = npc }

-- a value, where there is a name for it
abbrev pub Gives : Option ℕ → Option ℕ → Type 0
Gives None value = Unit {0}
Gives (Some name) None = ⊥
Gives (Some name) (Some value) = Unit {0}

-- the value of a name once it is written: a register has the low word
abbrev pub as_name : ℕ → ℕ → ℕ
as_name name value = if name == 32 then value else low_word value

-- two states have the same values of these names
abbrev pub AgreeOn : List (Option ℕ) → Mips → Mips → Type 0
AgreeOn [] x y = Unit {0}
AgreeOn (None ∷ names) x y = AgreeOn names x y
AgreeOn (Some n ∷ names) x y = (name_value x n ≡ name_value y n) × AgreeOn names x y
