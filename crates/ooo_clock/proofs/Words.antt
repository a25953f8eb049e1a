-- No access is held back beyond a miss or a store.
use Rattle.std.proofs.Common.{◌≡◌, ◌≤◌, ◌+◌, ℕ, zero, suc, Bool, true, false, cond, List, [], ◌∷◌, length, Option, Some, None, refl, arith}
use Rattle.std.specs.Prelude.{IfSome, is_some, max, slice_get}
use Rattle.mips_isa.specs.declared.instr.Instr.{Instr}
use Rattle.mips_ref.specs.Memory.{in_port}
use Rattle.mips_ref.specs.Step.{step_of}
use Rattle.mips_ref.specs.declared.records.Step.{Step}
use Rattle.mips_ref.specs.declared.records.Step.TheVariants.{Went, Exit, Trap}
use Rattle.cache_lru.specs.Recency.{hits_at}
use Rattle.core_window.specs.Core.{Core, Pair}
use Rattle.core_window.specs.Events.{attempt, is_open}
use Rattle.core_window.specs.Outcomes.{is_load, outcome_of}
use Rattle.core_window.specs.declared.records.Entry.{Entry}
use Rattle.core_window.specs.declared.records.Event.TheVariants.{Fetch, Issue, Finish, Commit, Squash}
use Rattle.core_window.specs.declared.records.Outcome.{Outcome}
use Rattle.core_window.specs.declared.records.Outcome.TheVariants.{Trapped, Parts}
use Rattle.ooo_clock.specs.Clock.{Clock, Predicts, Speeds, in_flight_of}
use Rattle.ooo_clock.specs.Cycle.{and_made, commits_in, cycle_of, finishes_in, issues_in, repeat, unless_ended}
use Rattle.ooo_clock.specs.Moves.{Move, commit_due, commit_first, commit_move, committed_entry, enters, fetch_by, fetch_due, fetch_first, fetch_move, finish_at, finish_due, finish_entry, finish_move, first_due, guess_at, is_due, is_there, issue_at, issue_due, issue_entry, issue_move, issued_by, issued_entry, issued_status, load_with, misses, squashed_too, stores_by}
use Rattle.ooo_clock.specs.Within.{IsWithin, IsWithinFrom}
use Rattle.ooo_clock.specs.declared.clock.Times.{Times}

-- a clock that a move leaves: the same cycle, and words within the next one
pub record Keeps (s : Speeds) (n : ℕ) (q : Clock) : Type 0 where
  pub within : IsWithinFrom s n q
  pub cycle : q.cycle + 1 ≡ n

keep-if : (s : Speeds) (n : ℕ) (b : Bool) (q r : Clock) → Keeps s n q → Keeps s n r → Keeps s n (cond b q r)
keep-if s n true q r h k = h
keep-if s n false q r h k = k

move-if : (s : Speeds) (n : ℕ) (b : Bool) (m r : Move) → Keeps s n m.clock → Keeps s n r.clock → Keeps s n (cond b m r).clock
move-if s n true m r h k = h
move-if s n false m r h k = k

-- Commit
store-if : (b : Bool) (old cycle store n : ℕ) → old ≤ n + store → cycle + 1 ≡ n → cond b (cycle + 1 + store) old ≤ n + store
store-if true old cycle store n h e = omega (arith, e)
store-if false old cycle store n h e = h

commit-entry : (s : Speeds) (p : Predicts) (n : ℕ) (q : Clock) (e : Entry) (a : Step) (after : Pair) → Keeps s n q → Keeps s n (committed_entry s p q e a after)
commit-entry s p n q e Went after h =
    record {
      within = record {
        fetch = h.within.fetch;
        load = h.within.load;
        store = store-if (stores_by e.instr e.status) q.store_free q.cycle s.store n h.within.store h.cycle;
      };
      cycle = h.cycle;
    }
commit-entry s p n q e Exit after h =
    record { within = record { fetch = h.within.fetch; load = h.within.load; store = h.within.store }; cycle = h.cycle }
commit-entry s p n q e (Trap k pc) after h =
    record { within = record { fetch = h.within.fetch; load = h.within.load; store = h.within.store }; cycle = h.cycle }

commit-first : (s : Speeds) (p : Predicts) (n : ℕ) (q : Clock) (es : List Entry) (o : Option Pair) → Keeps s n q
    → IfSome (commit_first s p q es o) (λ m. Keeps s n m.clock)
commit-first s p n q [] o h = tt
commit-first s p n q (e ∷ rest) None h = tt
commit-first s p n q (e ∷ rest) (Some after) h = commit-entry s p n q e (step_of q.state).answer after h

if-move : (b : Bool) (o : Option Move) (P : Move → Type 0) → IfSome o P → IfSome (cond b o None) P
if-move true o P h = h
if-move false o P h = tt

commit-keeps : (s : Speeds) (p : Predicts) (n : ℕ) (q : Clock) → Keeps s n q → IfSome (commit_move s p q) (λ m. Keeps s n m.clock)
unfolding commit_move
commit-keeps s p n q h =
    if-move (is_due (commit_due q) q.cycle) (commit_first s p q q.core.entries (attempt q.core q.state Commit)) (λ m. Keeps s n m.clock)
    (commit-first s p n q q.core.entries (attempt q.core q.state Commit) h)

-- Finish
squash-too : (s : Speeds) (n : ℕ) (q : Clock) (k : ℕ) (c : Core) (o : Option Pair) → Keeps s n q → Keeps s n (squashed_too q k c o).clock
squash-too s n q k c None h =
    record { within = record { fetch = h.within.fetch; load = h.within.load; store = h.within.store }; cycle = h.cycle }
squash-too s n q k c (Some after) h =
    record { within = record { fetch = h.within.fetch; load = h.within.load; store = h.within.store }; cycle = h.cycle }

finish-entry : (s : Speeds) (n : ℕ) (q : Clock) (k : ℕ) (o : Option Pair) → Keeps s n q → IfSome (finish_entry q k o) (λ m. Keeps s n m.clock)
finish-entry s n q k None h = tt
finish-entry s n q k (Some after) h = squash-too s n q k after.core (attempt after.core q.state (Squash k)) h

finish-at : (s : Speeds) (n : ℕ) (q : Clock) (o : Option ℕ) → Keeps s n q → IfSome (finish_at q o) (λ m. Keeps s n m.clock)
finish-at s n q None h = tt
finish-at s n q (Some k) h = finish-entry s n q k (attempt q.core q.state (Finish k)) h

finish-keeps : (s : Speeds) (n : ℕ) (q : Clock) → Keeps s n q → IfSome (finish_move q) (λ m. Keeps s n m.clock)
unfolding finish_move
finish-keeps s n q h = finish-at s n q (first_due (finish_due q) (length q.core.entries) q.cycle) h

-- Issue
load-keeps : (s : Speeds) (n : ℕ) (q : Clock) (k : ℕ) (t : Times) (c : Core) (o : Option ℕ) → Keeps s n q → Keeps s n (load_with s q k t c o)
load-keeps s n q k t c None h =
    record { within = record { fetch = h.within.fetch; load = h.within.load; store = h.within.store }; cycle = h.cycle }
load-keeps s n q k t c (Some at) h =
    keep-if s n (in_port at) _ _
    (record { within = record { fetch = h.within.fetch; load = omega (arith, h.cycle); store = h.within.store }; cycle = h.cycle })
    (keep-if s n (hits_at s.dcache at q.loaded) _ _
    (record { within = record { fetch = h.within.fetch; load = omega (arith, h.cycle); store = h.within.store }; cycle = h.cycle })
    (record { within = record { fetch = h.within.fetch; load = omega (arith, h.cycle); store = h.within.store }; cycle = h.cycle }))

outcome-keeps : (s : Speeds) (n : ℕ) (q : Clock) (k : ℕ) (t : Times) (c : Core) (i : Instr) (r : Outcome) → Keeps s n q
    → Keeps s n (issued_by s q k t c i r)
outcome-keeps s n q k t c i (Trapped kind) h =
    record { within = record { fetch = h.within.fetch; load = h.within.load; store = h.within.store }; cycle = h.cycle }
outcome-keeps s n q k t c i (Parts r) h =
    keep-if s n (is_load i) _ _ (load-keeps s n q k t c r.at h)
    (record { within = record { fetch = h.within.fetch; load = h.within.load; store = h.within.store }; cycle = h.cycle })

status-keeps : (s : Speeds) (n : ℕ) (q : Clock) (k : ℕ) (t : Times) (c : Core) (o : Option Instr) (r : Option Outcome) → Keeps s n q
    → Keeps s n (issued_status s q k t c o r)
status-keeps s n q k t c None r h =
    record { within = record { fetch = h.within.fetch; load = h.within.load; store = h.within.store }; cycle = h.cycle }
status-keeps s n q k t c (Some i) None h =
    record { within = record { fetch = h.within.fetch; load = h.within.load; store = h.within.store }; cycle = h.cycle }
status-keeps s n q k t c (Some i) (Some r) h = outcome-keeps s n q k t c i r h

entry-keeps : (s : Speeds) (n : ℕ) (q : Clock) (k : ℕ) (c : Core) (e : Option Entry) (t : Option Times) → Keeps s n q
    → Keeps s n (issued_entry s q k c e t)
entry-keeps s n q k c None t h =
    record { within = record { fetch = h.within.fetch; load = h.within.load; store = h.within.store }; cycle = h.cycle }
entry-keeps s n q k c (Some e) None h =
    record { within = record { fetch = h.within.fetch; load = h.within.load; store = h.within.store }; cycle = h.cycle }
entry-keeps s n q k c (Some e) (Some t) h = status-keeps s n q k t c e.instr (outcome_of e.status) h

issue-entry : (s : Speeds) (n : ℕ) (q : Clock) (k : ℕ) (o : Option Pair) → Keeps s n q → IfSome (issue_entry s q k o) (λ m. Keeps s n m.clock)
issue-entry s n q k None h = tt
issue-entry s n q k (Some after) h = entry-keeps s n q k after.core (slice_get after.core.entries k) (slice_get q.times k) h

issue-at : (s : Speeds) (n : ℕ) (q : Clock) (o : Option ℕ) → Keeps s n q → IfSome (issue_at s q o) (λ m. Keeps s n m.clock)
issue-at s n q None h = tt
issue-at s n q (Some k) h = issue-entry s n q k (attempt q.core q.state (Issue k)) h

issue-keeps : (s : Speeds) (n : ℕ) (q : Clock) → Keeps s n q → IfSome (issue_move s q) (λ m. Keeps s n m.clock)
unfolding issue_move
issue-keeps s n q h = issue-at s n q (first_due (issue_due q) (length q.core.entries) q.cycle) h

-- Fetch
enters-keep : (s : Speeds) (n : ℕ) (q : Clock) (guess : ℕ) (c : Core) (arrived : Option ℕ) (fetched : List ℕ) → Keeps s n q
    → Keeps s n (enters q guess c arrived fetched).clock
enters-keep s n q guess c arrived fetched h =
    record { within = record { fetch = h.within.fetch; load = h.within.load; store = h.within.store }; cycle = h.cycle }

misses-keep : (s : Speeds) (n : ℕ) (q : Clock) (arrived : Option ℕ) (fetched : List ℕ) → Keeps s n q → Keeps s n (misses s q arrived fetched).clock
misses-keep s n q arrived fetched h =
    record { within = record { fetch = omega (arith, h.cycle); load = h.within.load; store = h.within.store }; cycle = h.cycle }

fetch-by : (s : Speeds) (n : ℕ) (q : Clock) (guess : ℕ) (c : Core) (b : Bool) → Keeps s n q → Keeps s n (fetch_by s q guess c b).clock
fetch-by s n q guess c true h =
    move-if s n (hits_at s.icache q.core.fetch_pc q.fetched) _ _ (enters-keep s n q guess c q.arrived (q.core.fetch_pc ∷ q.fetched) h)
    (misses-keep s n q q.arrived (q.core.fetch_pc ∷ q.fetched) h)
fetch-by s n q guess c false h =
    move-if s n (is_there q.arrived q.core.fetch_pc) _ _ (enters-keep s n q guess c None q.fetched h) (misses-keep s n q (Some q.core.fetch_pc) q.fetched h)

fetch-first : (s : Speeds) (n : ℕ) (q : Clock) (guess : ℕ) (o : Option Pair) → Keeps s n q → IfSome (fetch_first s q guess o) (λ m. Keeps s n m.clock)
fetch-first s n q guess None h = tt
fetch-first s n q guess (Some after) h = fetch-by s n q guess after.core (is_some s.icache) h

fetch-keeps : (s : Speeds) (p : Predicts) (n : ℕ) (q : Clock) → Keeps s n q → IfSome (fetch_move s p q) (λ m. Keeps s n m.clock)
unfolding fetch_move
fetch-keeps s p n q h =
    if-move (is_due (fetch_due p q) q.cycle) (fetch_first s q (guess_at p q) (attempt q.core q.state (Fetch (guess_at p q)))) (λ m. Keeps s n m.clock)
    (fetch-first s n q (guess_at p q) (attempt q.core q.state (Fetch (guess_at p q))) h)

-- moves one after the other
and-keeps : (s : Speeds) (n : ℕ) (m : Move) (o : Option Move) → Keeps s n m.clock → IfSome o (λ m. Keeps s n m.clock) → Keeps s n (and_made m o).clock
and-keeps s n m None h k = h
and-keeps s n m (Some r) h k = k

repeat-keeps : (s : Speeds) (n k : ℕ) (move : Clock → Option Move) (q : Clock)
    → ((r : Clock) → Keeps s n r → IfSome (move r) (λ m. Keeps s n m.clock)) → Keeps s n q → Keeps s n (repeat k move q).clock
unfolding repeat
repeat-keeps s n zero move q each h = h
repeat-keeps s n (suc k) move q each h =
    let before = repeat-keeps s n k move q each h in
    and-keeps s n (repeat k move q) (move (repeat k move q).clock) before (each (repeat k move q).clock before)

ended-keeps : (s : Speeds) (p : Predicts) (n : ℕ) (b : Bool) (m : Move) → Keeps s n m.clock → Keeps s n (unless_ended s p b m).clock
ended-keeps s p n true m h =
    let f = repeat-keeps s n (length m.clock.core.entries) finish_move m.clock (finish-keeps s n) h in
    let i = repeat-keeps s n s.width (issue_move s) (finishes_in m).clock (issue-keeps s n) f in
    repeat-keeps s n s.width (fetch_move s p) (issues_in s (finishes_in m)).clock (fetch-keeps s p n) i
ended-keeps s p n false m h = h

pub cycle-within : (s : Speeds) (p : Predicts) (q : Clock) → IsWithin s q → IsWithin s (cycle_of s p q).clock
unfolding cycle_of
cycle-within s p q h =
    let start : Keeps s (q.cycle + 1) q =
    record {
      within = record { fetch = omega (arith, h.fetch); load = omega (arith, h.load); store = omega (arith, h.store) };
      cycle = refl;
    } in
    let m = commits_in s p q in
    let committed = repeat-keeps s (q.cycle + 1) s.width (commit_move s p) q (commit-keeps s p (q.cycle + 1)) start in
    let done = ended-keeps s p (q.cycle + 1) (is_open m.clock.core.ending) m committed in
    let r = (unless_ended s p (is_open m.clock.core.ending) m).clock in
    record {
      fetch = omega (arith, done.within.fetch, done.cycle);
      load = omega (arith, done.within.load, done.cycle);
      store = omega (arith, done.within.store, done.cycle);
    }

pub in-flight-least : (s : Speeds) (q : Clock) → IsWithin s q → in_flight_of q ≤ max s.miss s.store
unfolding in_flight_of
in-flight-least s q h = omega (arith, h.fetch, h.load, h.store)
