-- What each event does to a window and the committed state beside it. This project's own.
use Rattle.std.specs.Prelude.{ℕ, ◌+◌, Bool, true, false, not, ◌&&◌, ◌||◌, nat_lt, ◌==◌, if◌then◌else◌, List, [], ◌∷◌, ◌++◌, length, take, slice_get, slice_set, Option, Some, None}
use Rattle.mips_isa.specs.Decoding.{decode_of}
use Rattle.mips_isa.specs.Words.{word_sum}
use Rattle.mips_isa.specs.declared.instr.Instr.{Instr}
use Rattle.mips_ref.specs.Memory.{code_word_at}
use Rattle.mips_ref.specs.Mips.{Mips}
use Rattle.mips_ref.specs.Step.{at_exit, step_of}
use Rattle.mips_ref.specs.declared.records.Step.{Step}
use Rattle.mips_ref.specs.declared.records.Step.TheVariants.{Went, Exit, Trap}
use Rattle.mips_ref.specs.declared.records.TrapKind.TheVariants.{Reserved}
use Rattle.core_window.specs.Core.{Core, Pair, paired}
use Rattle.core_window.specs.Operands.{is_ready, seen}
use Rattle.core_window.specs.Outcomes.{controls, outcome_in}
use Rattle.core_window.specs.declared.records.Entry.{Entry}
use Rattle.core_window.specs.declared.records.Event.{Event}
use Rattle.core_window.specs.declared.records.Event.TheVariants.{Fetch, Issue, Finish, Commit, Squash}
use Rattle.core_window.specs.declared.records.Outcome.{Outcome}
use Rattle.core_window.specs.declared.records.Outcome.TheVariants.{Trapped, Parts}
use Rattle.core_window.specs.declared.records.Status.{Status}
use Rattle.core_window.specs.declared.records.Status.TheVariants.{Waiting, Running, Done}

abbrev pub is_open : Option Step → Bool
is_open None = true
is_open (Some s) = false

-- Fetch: the entry at the fetch pair; a word that is no instruction is done at once
abbrev pub first_status : Option Instr → Status
first_status None = Done (Trapped Reserved)
first_status (Some i) = Waiting

abbrev pub entry_at : ℕ → ℕ → ℕ → Option Instr → Entry
entry_at pc npc guess instr = record { pc = pc; npc = npc; guess = guess; instr = instr; status = first_status instr }

abbrev pub with_entry : Core → ℕ → Option Instr → Core
with_entry c guess instr =
    record c {
      entries = c.entries ++ entry_at c.fetch_pc c.fetch_next guess instr ∷ [];
      fetch_pc = c.fetch_next;
      fetch_next = guess;
    }

-- the guess is the address after the next one, unless the instruction is control
abbrev pub may_guess : Option Instr → ℕ → ℕ → Bool
may_guess instr npc guess = controls instr || (guess == word_sum npc 4)

-- a window that hasn't ended and has room takes an instruction with such a guess
abbrev pub takes : Core → ℕ → Option Instr → Bool
takes c guess instr = is_open c.ending && (nat_lt (length c.entries) c.rob && may_guess instr c.fetch_next guess)

abbrev pub fetched : Core → ℕ → Option ℕ → Option Core
fetched c guess None = None
fetched c guess (Some word) = if takes c guess (decode_of word) then Some (with_entry c guess (decode_of word)) else None

-- an entry goes on to another status
abbrev pub with_status : Core → ℕ → Entry → Status → Core
with_status c k e s = record c { entries = slice_set c.entries k (record e { status = s }) }

-- Issue: a waiting entry that is ready runs; its outcome is that of the state that it sees
abbrev pub issued_by : Option Instr → Status → List Entry → Mips → Entry → Option Status
issued_by (Some i) Waiting older x e =
    if is_ready older x i then Some (Running (outcome_in i (seen older x e.pc e.npc))) else None
issued_by _ _ older x e = None

abbrev pub to_status : Core → ℕ → Entry → Option Status → Option Core
to_status c k e None = None
to_status c k e (Some s) = Some (with_status c k e s)

abbrev pub issued : Core → Mips → ℕ → Option Entry → Option Core
issued c x k None = None
issued c x k (Some e) = to_status c k e (issued_by e.instr e.status (take k c.entries) x e)

-- Finish: a running entry is done
abbrev pub finished_by : Status → Option Status
finished_by (Running r) = Some (Done r)
finished_by _ = None

abbrev pub finished : Core → ℕ → Option Entry → Option Core
finished c k None = None
finished c k (Some e) = to_status c k e (finished_by e.status)

-- an outcome of an instruction that isn't control, with another address after the next one
abbrev pub going_to : ℕ → Outcome → Outcome
going_to next (Trapped k) = Trapped k
going_to next (Parts r) = Parts (record r { next = next })

abbrev pub status_to : ℕ → Status → Status
status_to next Waiting = Waiting
status_to next (Running r) = Running (going_to next r)
status_to next (Done r) = Done (going_to next r)

-- the delay slot before another next address
abbrev pub slot_to : ℕ → Entry → Entry
slot_to next s = record s { npc = next; guess = word_sum next 4; status = status_to (word_sum next 4) s.status }

-- the first entries of a window, then these, and a fetch pair
abbrev pub cut_to : Core → ℕ → List Entry → ℕ → ℕ → Core
cut_to c k tail pc next = record c { entries = take k c.entries ++ tail; fetch_pc = pc; fetch_next = next }

-- Squash: entry k is followed by what its outcome says. Its delay slot stays, if it is there and isn't control; all after it goes
abbrev pub cut_at_slot : Core → ℕ → Entry → ℕ → Entry → Bool → Core
cut_at_slot c k e next s true = cut_to c k (record e { guess = next } ∷ []) e.npc next
cut_at_slot c k e next s false = cut_to c k (record e { guess = next } ∷ slot_to next s ∷ []) next (word_sum next 4)

abbrev pub cut_after : Core → ℕ → Entry → ℕ → Option Entry → Core
cut_after c k e next None = cut_to c k (record e { guess = next } ∷ []) e.npc next
cut_after c k e next (Some s) = cut_at_slot c k e next s (controls s.instr)

-- a control instruction that is done without a trap has guessed wrong
abbrev pub squashed_by : Core → ℕ → Entry → Status → Option Core
squashed_by c k e (Done (Parts r)) =
    if controls e.instr && not (r.next == e.guess) then Some (cut_after c k e r.next (slice_get c.entries (k + 1))) else None
squashed_by c k e _ = None

abbrev pub squashed : Core → ℕ → Option Entry → Option Core
squashed c k None = None
squashed c k (Some e) = squashed_by c k e e.status

-- Commit: the oldest entry is done, and has a trap or went on as guessed
abbrev pub may_commit : Status → ℕ → Bool
may_commit (Done (Trapped k)) guess = true
may_commit (Done (Parts r)) guess = r.next == guess
may_commit _ guess = false

-- a state at its exit ends the window
abbrev pub ending_at : Mips → Option Step
ending_at x = if at_exit x then Some Exit else None

-- the state makes one step and the entry goes; where the step doesn't go, the window has ended with its answer and all else stays
abbrev pub after_step : Core → List Entry → Mips → Step → Mips → Pair
after_step c rest x Went y = paired (record c { entries = rest; ending = ending_at y }) y
after_step c rest x Exit y = paired (record c { ending = Some Exit }) x
after_step c rest x (Trap kind pc) y = paired (record c { ending = Some (Trap kind pc) }) x

abbrev pub committed : Core → Mips → List Entry → Option Pair
committed c x [] = None
committed c x (e ∷ rest) =
    if is_open c.ending && may_commit e.status e.guess
    then Some (after_step c rest x (step_of x).answer (step_of x).state) else None

abbrev pub beside : Mips → Option Core → Option Pair
beside x None = None
beside x (Some c) = Some (paired c x)

-- an event's effect, none where it isn't enabled
unfoldable pub attempt : Core → Mips → Event → Option Pair
attempt c x (Fetch guess) = beside x (fetched c guess (code_word_at x.memory c.fetch_pc))
attempt c x (Issue k) = beside x (issued c x k (slice_get c.entries k))
attempt c x (Finish k) = beside x (finished c k (slice_get c.entries k))
attempt c x Commit = committed c x c.entries
attempt c x (Squash k) = beside x (squashed c k (slice_get c.entries k))

-- an event that isn't enabled changes nothing
abbrev pub or_same : Pair → Option Pair → Pair
or_same p None = p
or_same p (Some q) = q

unfoldable pub happens : Pair → Event → Pair
happens p e = or_same p (attempt p.core p.state e)

-- the events of a list, one after the other
unfoldable pub all_happen : Pair → List Event → Pair
all_happen p [] = p
all_happen p (e ∷ rest) = all_happen (happens p e) rest

-- the window after what is enabled, or as it was
abbrev pub or_core : Core → Option Core → Core
or_core c None = c
or_core c (Some d) = d

-- the outcome that a commit is made by
abbrev pub committable : Status → ℕ → Option Outcome
committable (Done (Trapped k)) guess = Some (Trapped k)
committable (Done (Parts r)) guess = if r.next == guess then Some (Parts r) else None
committable _ guess = None

-- the address that a wrong guess goes to
abbrev pub surprise : Option Instr → Status → ℕ → Option ℕ
surprise instr (Done (Parts r)) guess = if controls instr && not (r.next == guess) then Some r.next else None
surprise instr _ guess = None

-- 1 for a commit that is made and whose step goes, and how many there are in a list of events
abbrev pub goes : Step → ℕ
goes Went = 1
goes _ = 0

abbrev pub one_if_made : Mips → Option Pair → ℕ
one_if_made x None = 0
one_if_made x (Some q) = goes (step_of x).answer

abbrev pub steps_by : Pair → Event → ℕ
steps_by p Commit = one_if_made p.state (attempt p.core p.state Commit)
steps_by p _ = 0

unfoldable pub commits : Pair → List Event → ℕ
commits p [] = 0
commits p (e ∷ rest) = steps_by p e + commits (happens p e) rest
