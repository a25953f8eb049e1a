-- The moves of a cycle. A move is made where it is due, and is given by the events that it performs and the clock that it leaves; its
-- due is a number of cycles that doesn't look at the number of the cycle. This project's own.
use Rattle.std.specs.Prelude.{ℕ, ◌+◌, max, Bool, true, false, nat_le, ◌==◌, if◌then◌else◌, List, [], ◌∷◌, ◌++◌, drop, length, slice_get, slice_set, take, is_some, Option, Some, None}
use Rattle.std.specs.List.{find, range_with_len}
use Rattle.mips_isa.specs.Decoding.{decode_of}
use Rattle.mips_isa.specs.Kinds.{is_control, kind_of}
use Rattle.mips_isa.specs.Words.{jump_target, branch_target, word_sum}
use Rattle.mips_isa.specs.declared.instr.Instr.{Instr}
use Rattle.mips_isa.specs.declared.instr.Instr.TheVariants as instr
use Rattle.mips_isa.specs.declared.instr.Kind.{Kind}
use Rattle.mips_isa.specs.declared.instr.Kind.TheVariants as kind
use Rattle.mips_ref.specs.Memory.{code_word_at, in_port}
use Rattle.mips_ref.specs.Step.{step_of}
use Rattle.mips_ref.specs.declared.records.Step.{Step}
use Rattle.mips_ref.specs.declared.records.Step.TheVariants.{Went}
use Rattle.cache_lru.specs.Recency.{hits_at}
use Rattle.core_window.specs.Core.{Core, Pair}
use Rattle.core_window.specs.Events.{attempt}
use Rattle.core_window.specs.Outcomes.{is_load, is_store, outcome_of}
use Rattle.core_window.specs.declared.records.Entry.{Entry}
use Rattle.core_window.specs.declared.records.Event.{Event}
use Rattle.core_window.specs.declared.records.Event.TheVariants.{Fetch, Issue, Finish, Commit, Squash}
use Rattle.core_window.specs.declared.records.Outcome.{Outcome}
use Rattle.core_window.specs.declared.records.Outcome.TheVariants.{Trapped, Parts}
use Rattle.core_window.specs.declared.records.Status.{Status}
use Rattle.core_window.specs.declared.records.Status.TheVariants.{Running, Done}
use Rattle.ooo_clock.specs.Clock.{Clock, Predicts, Speeds}
use Rattle.ooo_clock.specs.declared.clock.Times.{Times}

pub record Move : Type 0 where
  pub events : List Event
  pub clock : Clock

abbrev pub makes : List Event → Clock → Move
makes events q = record { events = events; clock = q }

-- what is due at a cycle is due in it
abbrev pub is_due : Option ℕ → ℕ → Bool
is_due None cycle = false
is_due (Some due) cycle = nat_le due cycle

-- the first of so many entries that is due
abbrev pub first_due : (ℕ → Option ℕ) → ℕ → ℕ → Option ℕ
first_due due count cycle = find (λ k. is_due (due k) cycle) (range_with_len 0 count)

-- Commit: where it is enabled, and a store without a trap once stores are free
abbrev pub stores_by : Option Instr → Status → Bool
stores_by (Some i) (Done (Parts r)) = is_store i
stores_by _ _ = false

abbrev pub commit_due_of : Clock → List Entry → Bool → Option ℕ
commit_due_of q (e ∷ rest) true = Some (if stores_by e.instr e.status then q.store_free else 0)
commit_due_of q _ _ = None

abbrev pub commit_due : Clock → Option ℕ
commit_due q = commit_due_of q q.core.entries (is_some (attempt q.core q.state Commit))

-- a branch, a return and an indirect jump teach the predictor
abbrev pub learnt_kind : Predicts → Kind → List ℕ → ℕ → Instr → Bool → ℕ → List ℕ
learnt_kind p kind.Branch numbers pc i taken next = p.learnt numbers pc i taken next
learnt_kind p kind.Return numbers pc i taken next = p.learnt numbers pc i true next
learnt_kind p kind.Indirect numbers pc i taken next = p.learnt numbers pc i true next
learnt_kind p other numbers pc i taken next = numbers

abbrev pub learnt_by : Predicts → List ℕ → ℕ → Option Instr → Status → List ℕ
learnt_by p numbers pc (Some i) (Done (Parts r)) = learnt_kind p (kind_of i) numbers pc i r.taken r.next
learnt_by p numbers pc _ _ = numbers

-- a commit whose step goes takes the entry's times out, sets when the next store may go, and teaches
abbrev pub committed_entry : Speeds → Predicts → Clock → Entry → Step → Pair → Clock
committed_entry s p q e Went after =
    record q {
      core = after.core;
      state = after.state;
      times = drop 1 q.times;
      store_free = if stores_by e.instr e.status then q.cycle + 1 + s.store else q.store_free;
      numbers = learnt_by p q.numbers e.pc e.instr e.status;
    }
committed_entry s p q e _ after = record q { core = after.core; state = after.state }

abbrev pub commit_first : Speeds → Predicts → Clock → List Entry → Option Pair → Option Move
commit_first s p q (e ∷ rest) (Some after) = Some (makes (Commit ∷ []) (committed_entry s p q e (step_of q.state).answer after))
commit_first s p q _ _ = None

unfoldable pub commit_move : Speeds → Predicts → Clock → Option Move
commit_move s p q =
    if is_due (commit_due q) q.cycle then commit_first s p q q.core.entries (attempt q.core q.state Commit) else None

-- Finish: a running entry at its end
abbrev pub finish_due_by : Status → Option Times → Option ℕ
finish_due_by (Running r) (Some t) = Some t.ends
finish_due_by _ _ = None

abbrev pub finish_due_of : Option Entry → Option Times → Option ℕ
finish_due_of None t = None
finish_due_of (Some e) t = finish_due_by e.status t

abbrev pub finish_due : Clock → ℕ → Option ℕ
finish_due q k = finish_due_of (slice_get q.core.entries k) (slice_get q.times k)

-- where its guess was wrong the squash follows at once
abbrev pub squashed_too : Clock → ℕ → Core → Option Pair → Move
squashed_too q k finished None = makes (Finish k ∷ []) (record q { core = finished })
squashed_too q k finished (Some after) =
    makes (Finish k ∷ Squash k ∷ []) (record q { core = after.core; times = take (length after.core.entries) q.times })

abbrev pub finish_entry : Clock → ℕ → Option Pair → Option Move
finish_entry q k None = None
finish_entry q k (Some after) = Some (squashed_too q k after.core (attempt after.core q.state (Squash k)))

abbrev pub finish_at : Clock → Option ℕ → Option Move
finish_at q None = None
finish_at q (Some k) = finish_entry q k (attempt q.core q.state (Finish k))

unfoldable pub finish_move : Clock → Option Move
finish_move q = finish_at q (first_due (finish_due q) (length q.core.entries) q.cycle)

-- Issue: from two cycles after the fetch on, and a load once loads are free
abbrev pub loads : Option Instr → Bool
loads None = false
loads (Some i) = is_load i

abbrev pub issue_due_of : ℕ → Option Entry → Option Times → Bool → Option ℕ
issue_due_of load_free (Some e) (Some t) true = Some (max (t.fetched + 2) (if loads e.instr then load_free else 0))
issue_due_of load_free _ _ _ = None

abbrev pub issue_due : Clock → ℕ → Option ℕ
issue_due q k = issue_due_of q.load_free (slice_get q.core.entries k) (slice_get q.times k) (is_some (attempt q.core q.state (Issue k)))

-- the cycles of an instruction that loads nothing
abbrev pub latency_of : Speeds → Kind → ℕ
latency_of s kind.Mul = s.mul
latency_of s kind.Div = s.div
latency_of s other = 1

-- an entry runs until some cycles have passed
abbrev pub ends_after : Clock → ℕ → Times → Core → ℕ → Clock
ends_after q k t core latency = record q { core = core; times = slice_set q.times k (record t { ends = q.cycle + latency }) }

-- a load keeps the next one back: for a cycle where it hits, and for a miss longer
abbrev pub load_hits : Clock → ℕ → Times → Core → ℕ → Clock
load_hits q k t core at =
    record (ends_after q k t core 2) { load_free = q.cycle + 1; loaded = at ∷ q.loaded }

abbrev pub load_misses : Speeds → Clock → ℕ → Times → Core → List ℕ → Clock
load_misses s q k t core loaded =
    record (ends_after q k t core (2 + s.miss)) { load_free = q.cycle + 1 + s.miss; loaded = loaded }

-- a load of the port misses and asks no cache
abbrev pub load_at : Speeds → Clock → ℕ → Times → Core → ℕ → Clock
load_at s q k t core at =
    if in_port at then load_misses s q k t core q.loaded
    else (if hits_at s.dcache at q.loaded then load_hits q k t core at else load_misses s q k t core (at ∷ q.loaded))

abbrev pub load_with : Speeds → Clock → ℕ → Times → Core → Option ℕ → Clock
load_with s q k t core None = ends_after q k t core 1
load_with s q k t core (Some at) = load_at s q k t core at

-- a load with a trap takes a cycle and keeps none back
abbrev pub issued_by : Speeds → Clock → ℕ → Times → Core → Instr → Outcome → Clock
issued_by s q k t core i (Trapped kind) = ends_after q k t core (latency_of s (kind_of i))
issued_by s q k t core i (Parts r) =
    if is_load i then load_with s q k t core r.at else ends_after q k t core (latency_of s (kind_of i))

abbrev pub issued_status : Speeds → Clock → ℕ → Times → Core → Option Instr → Option Outcome → Clock
issued_status s q k t core (Some i) (Some r) = issued_by s q k t core i r
issued_status s q k t core _ _ = ends_after q k t core 1

abbrev pub issued_entry : Speeds → Clock → ℕ → Core → Option Entry → Option Times → Clock
issued_entry s q k core (Some e) (Some t) = issued_status s q k t core e.instr (outcome_of e.status)
issued_entry s q k core _ _ = record q { core = core }

abbrev pub issue_entry : Speeds → Clock → ℕ → Option Pair → Option Move
issue_entry s q k None = None
issue_entry s q k (Some after) =
    Some (makes (Issue k ∷ []) (issued_entry s q k after.core (slice_get after.core.entries k) (slice_get q.times k)))

abbrev pub issue_at : Speeds → Clock → Option ℕ → Option Move
issue_at s q None = None
issue_at s q (Some k) = issue_entry s q k (attempt q.core q.state (Issue k))

unfoldable pub issue_move : Speeds → Clock → Option Move
issue_move s q = issue_at s q (first_due (issue_due q) (length q.core.entries) q.cycle)

abbrev pub is_call : Kind → Bool
is_call kind.Call = true
is_call other = false

-- Fetch: a jump or call with an address of its own goes there, other control instructions go where the predictor says, all else goes on
abbrev pub guess_kind : Predicts → List ℕ → ℕ → ℕ → Instr → Bool → ℕ
guess_kind p numbers pc npc i true = p.guess numbers pc npc i
guess_kind p numbers pc npc i false = word_sum npc 4

abbrev pub own_address : Instr → ℕ → Option ℕ
own_address (instr.Jump m target) pc = Some (jump_target pc target)
own_address (instr.Branch1 m rs off) pc = if is_call (kind_of (instr.Branch1 m rs off)) then Some (branch_target pc off) else None
own_address _ pc = None

abbrev pub guess_by : Predicts → List ℕ → ℕ → ℕ → Instr → Option ℕ → ℕ
guess_by p numbers pc npc i (Some target) = target
guess_by p numbers pc npc i None = guess_kind p numbers pc npc i (is_control (kind_of i))

abbrev pub guess_instr : Predicts → List ℕ → ℕ → ℕ → Option Instr → ℕ
guess_instr p numbers pc npc None = word_sum npc 4
guess_instr p numbers pc npc (Some i) = guess_by p numbers pc npc i (own_address i pc)

abbrev pub guess_word : Predicts → List ℕ → ℕ → ℕ → Option ℕ → ℕ
guess_word p numbers pc npc None = 0
guess_word p numbers pc npc (Some word) = guess_instr p numbers pc npc (decode_of word)

abbrev pub guess_at : Predicts → Clock → ℕ
guess_at p q = guess_word p q.numbers q.core.fetch_pc q.core.fetch_next (code_word_at q.state.memory q.core.fetch_pc)

abbrev pub fetch_due : Predicts → Clock → Option ℕ
fetch_due p q = if is_some (attempt q.core q.state (Fetch (guess_at p q))) then Some q.fetch_free else None

-- an entry enters, fetched in this cycle
abbrev pub enters : Clock → ℕ → Core → Option ℕ → List ℕ → Move
enters q guess core arrived fetched =
    makes (Fetch guess ∷ []) (record q {
      core = core;
      times = q.times ++ record { fetched = q.cycle; ends = 0 } ∷ [];
      arrived = arrived;
      fetched = fetched;
    })

-- a miss ends the fetches of the cycle, since it takes a cycle at least
abbrev pub misses : Speeds → Clock → Option ℕ → List ℕ → Move
misses s q arrived fetched = makes [] (record q { fetch_free = q.cycle + s.miss; arrived = arrived; fetched = fetched })

abbrev pub is_there : Option ℕ → ℕ → Bool
is_there None at = false
is_there (Some a) at = a == at

-- with a cache its answer decides; without one an address arrives by a miss, and is fetched once
abbrev pub fetch_by : Speeds → Clock → ℕ → Core → Bool → Move
fetch_by s q guess core true =
    if hits_at s.icache q.core.fetch_pc q.fetched then enters q guess core q.arrived (q.core.fetch_pc ∷ q.fetched)
    else misses s q q.arrived (q.core.fetch_pc ∷ q.fetched)
fetch_by s q guess core false =
    if is_there q.arrived q.core.fetch_pc then enters q guess core None q.fetched else misses s q (Some q.core.fetch_pc) q.fetched

abbrev pub fetch_first : Speeds → Clock → ℕ → Option Pair → Option Move
fetch_first s q guess None = None
fetch_first s q guess (Some after) = Some (fetch_by s q guess after.core (is_some s.icache))

unfoldable pub fetch_move : Speeds → Predicts → Clock → Option Move
fetch_move s p q =
    if is_due (fetch_due p q) q.cycle then fetch_first s q (guess_at p q) (attempt q.core q.state (Fetch (guess_at p q))) else None
