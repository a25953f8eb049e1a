-- Each move performs its events, and so does a cycle.
use Rattle.std.proofs.Common.{◌≡◌, ℕ, zero, suc, Bool, true, false, cond, List, [], ◌∷◌, ◌++◌, length, Option, Some, None, refl, sym, ap, ap₂, ◌∙◌}
use Rattle.std.specs.Prelude.{IfSome, is_some, slice_get}
use Rattle.mips_isa.specs.declared.instr.Instr.{Instr}
use Rattle.mips_ref.specs.Memory.{in_port}
use Rattle.mips_ref.specs.Mips.{Mips}
use Rattle.mips_ref.specs.Step.{step_of}
use Rattle.mips_ref.specs.declared.records.Step.{Step}
use Rattle.mips_ref.specs.declared.records.Step.TheVariants.{Went, Exit, Trap}
use Rattle.cache_lru.specs.Recency.{hits_at}
use Rattle.core_window.specs.Core.{Core, Pair, paired}
use Rattle.core_window.specs.Events.{all_happen, attempt, beside, happens, is_open, or_same}
use Rattle.core_window.specs.Outcomes.{is_load, outcome_of}
use Rattle.core_window.specs.declared.records.Entry.{Entry}
use Rattle.core_window.specs.declared.records.Event.{Event}
use Rattle.core_window.specs.declared.records.Event.TheVariants.{Fetch, Issue, Finish, Commit, Squash}
use Rattle.core_window.specs.declared.records.Outcome.{Outcome}
use Rattle.core_window.specs.declared.records.Outcome.TheVariants.{Trapped, Parts}
use Rattle.ooo_clock.specs.Clock.{Clock, Predicts, Speeds, pair_of}
use Rattle.ooo_clock.specs.Cycle.{and_made, commits_in, cycle_of, finishes_in, issues_in, repeat, unless_ended}
use Rattle.ooo_clock.specs.Moves.{Move, commit_due, commit_first, commit_move, committed_entry, enters, fetch_by, fetch_due, fetch_first, fetch_move, finish_at, finish_due, finish_entry, finish_move, first_due, guess_at, is_due, is_there, issue_at, issue_due, issue_entry, issue_move, issued_by, issued_entry, issued_status, load_with, makes, misses, squashed_too}
use Rattle.ooo_clock.specs.declared.clock.Times.{Times}

pub record Performs (q : Clock) (m : Move) : Type 0 where
  pub is : all_happen (pair_of q) m.events ≡ pair_of m.clock

-- an event that isn't a commit leaves the state
some-pair : (p r : Pair) → ◌≡◌ {A = Option Pair} (Some p) (Some r) → p ≡ r
some-pair p r e = cc

beside-state : (x : Mips) (o : Option Core) (p : Pair) → beside x o ≡ Some p → p.state ≡ x
beside-state x None p e = cc
beside-state x (Some c) p e = ap (λ (r : Pair). r.state) (sym (some-pair (paired c x) p e))

pub issue-state : (c : Core) (x : Mips) (k : ℕ) (p : Pair) → attempt c x (Issue k) ≡ Some p → p.state ≡ x
unfolding attempt
issue-state c x k p e = beside-state x _ p e

pub finish-state : (c : Core) (x : Mips) (k : ℕ) (p : Pair) → attempt c x (Finish k) ≡ Some p → p.state ≡ x
unfolding attempt
finish-state c x k p e = beside-state x _ p e

pub squash-state : (c : Core) (x : Mips) (k : ℕ) (p : Pair) → attempt c x (Squash k) ≡ Some p → p.state ≡ x
unfolding attempt
squash-state c x k p e = beside-state x _ p e

pub fetch-state : (c : Core) (x : Mips) (guess : ℕ) (p : Pair) → attempt c x (Fetch guess) ≡ Some p → p.state ≡ x
unfolding attempt
fetch-state c x guess p e = beside-state x _ p e

-- one event that is enabled
one-event : (c : Core) (x : Mips) (e : Event) (p : Pair) → attempt c x e ≡ Some p → all_happen (paired c x) (e ∷ []) ≡ p
unfolding all_happen happens
one-event c x e p is = ap (or_same (paired c x)) is

as-pair : (p : Pair) (x : Mips) → p.state ≡ x → p ≡ paired p.core x
as-pair p x e = ap (paired p.core) e

-- Commit
commit-pair : (s : Speeds) (p : Predicts) (q : Clock) (e : Entry) (a : Step) (after : Pair) → pair_of (committed_entry s p q e a after) ≡ after
commit-pair s p q e Went after = refl
commit-pair s p q e Exit after = refl
commit-pair s p q e (Trap k pc) after = refl

commit-first : (s : Speeds) (p : Predicts) (q : Clock) (es : List Entry) (o : Option Pair) → attempt q.core q.state Commit ≡ o
    → IfSome (commit_first s p q es o) (Performs q)
commit-first s p q [] o is = tt
commit-first s p q (e ∷ rest) None is = tt
commit-first s p q (e ∷ rest) (Some after) is =
    record { is = one-event q.core q.state Commit after is ∙ sym (commit-pair s p q e (step_of q.state).answer after) }

if-move : (b : Bool) (o : Option Move) (P : Move → Type 0) → IfSome o P → IfSome (cond b o None) P
if-move true o P h = h
if-move false o P h = tt

pub commit-performs : (s : Speeds) (p : Predicts) (q : Clock) → IfSome (commit_move s p q) (Performs q)
unfolding commit_move
commit-performs s p q =
    if-move (is_due (commit_due q) q.cycle) (commit_first s p q q.core.entries (attempt q.core q.state Commit)) (Performs q)
    (commit-first s p q q.core.entries (attempt q.core q.state Commit) refl)

-- Finish
squash-too : (q : Clock) (k : ℕ) (after : Pair) (o : Option Pair) → attempt q.core q.state (Finish k) ≡ Some after → after.state ≡ q.state
    → attempt after.core q.state (Squash k) ≡ o → Performs q (squashed_too q k after.core o)
unfolding all_happen
squash-too q k after None is state then = record { is = one-event q.core q.state (Finish k) after is ∙ as-pair after q.state state }
squash-too q k after (Some last) is state then =
    record {
      is = ap (λ r. happens r (Squash k)) (one-event q.core q.state (Finish k) after is ∙ as-pair after q.state state)
          ∙ one-event after.core q.state (Squash k) last then ∙ as-pair last q.state (squash-state after.core q.state k last then);
    }

finish-entry : (q : Clock) (k : ℕ) (o : Option Pair) → attempt q.core q.state (Finish k) ≡ o → IfSome (finish_entry q k o) (Performs q)
finish-entry q k None is = tt
finish-entry q k (Some after) is =
    squash-too q k after (attempt after.core q.state (Squash k)) is (finish-state q.core q.state k after is) refl

finish-at : (q : Clock) (o : Option ℕ) → IfSome (finish_at q o) (Performs q)
finish-at q None = tt
finish-at q (Some k) = finish-entry q k (attempt q.core q.state (Finish k)) refl

pub finish-performs : (q : Clock) → IfSome (finish_move q) (Performs q)
unfolding finish_move
finish-performs q = finish-at q (first_due (finish_due q) (length q.core.entries) q.cycle)

-- Issue: whatever the times, the window and the state are those after the event
pub record Only (q : Clock) (c : Core) (r : Clock) : Type 0 where
  pub core : r.core ≡ c
  pub state : r.state ≡ q.state

only-if : (b : Bool) (q : Clock) (c : Core) (r u : Clock) → Only q c r → Only q c u → Only q c (cond b r u)
only-if true q c r u h k = h
only-if false q c r u h k = k

only-with : (s : Speeds) (q : Clock) (k : ℕ) (t : Times) (c : Core) (o : Option ℕ) → Only q c (load_with s q k t c o)
only-with s q k t c None = record { core = refl; state = refl }
only-with s q k t c (Some at) =
    only-if (in_port at) q c _ _ (record { core = refl; state = refl })
    (only-if (hits_at s.dcache at q.loaded) q c _ _ (record { core = refl; state = refl }) (record { core = refl; state = refl }))

only-outcome : (s : Speeds) (q : Clock) (k : ℕ) (t : Times) (c : Core) (i : Instr) (r : Outcome) → Only q c (issued_by s q k t c i r)
only-outcome s q k t c i (Trapped kind) = record { core = refl; state = refl }
only-outcome s q k t c i (Parts r) = only-if (is_load i) q c _ _ (only-with s q k t c r.at) (record { core = refl; state = refl })

only-status : (s : Speeds) (q : Clock) (k : ℕ) (t : Times) (c : Core) (o : Option Instr) (r : Option Outcome) → Only q c (issued_status s q k t c o r)
only-status s q k t c None r = record { core = refl; state = refl }
only-status s q k t c (Some i) None = record { core = refl; state = refl }
only-status s q k t c (Some i) (Some r) = only-outcome s q k t c i r

only-entry : (s : Speeds) (q : Clock) (k : ℕ) (c : Core) (e : Option Entry) (t : Option Times) → Only q c (issued_entry s q k c e t)
only-entry s q k c None t = record { core = refl; state = refl }
only-entry s q k c (Some e) None = record { core = refl; state = refl }
only-entry s q k c (Some e) (Some t) = only-status s q k t c e.instr (outcome_of e.status)

only-pair : (q : Clock) (c : Core) (r : Clock) → Only q c r → paired c q.state ≡ pair_of r
only-pair q c r h = ap₂ paired (sym h.core) (sym h.state)

issue-entry : (s : Speeds) (q : Clock) (k : ℕ) (o : Option Pair) → attempt q.core q.state (Issue k) ≡ o → IfSome (issue_entry s q k o) (Performs q)
issue-entry s q k None is = tt
issue-entry s q k (Some after) is =
    record {
      is = one-event q.core q.state (Issue k) after is ∙ as-pair after q.state (issue-state q.core q.state k after is)
          ∙ only-pair q after.core _ (only-entry s q k after.core (slice_get after.core.entries k) (slice_get q.times k));
    }

issue-at : (s : Speeds) (q : Clock) (o : Option ℕ) → IfSome (issue_at s q o) (Performs q)
issue-at s q None = tt
issue-at s q (Some k) = issue-entry s q k (attempt q.core q.state (Issue k)) refl

pub issue-performs : (s : Speeds) (q : Clock) → IfSome (issue_move s q) (Performs q)
unfolding issue_move
issue-performs s q = issue-at s q (first_due (issue_due q) (length q.core.entries) q.cycle)

-- Fetch
performs-if : (b : Bool) (q : Clock) (m n : Move) → Performs q m → Performs q n → Performs q (cond b m n)
performs-if true q m n h k = h
performs-if false q m n h k = k

enters-performs : (q : Clock) (guess : ℕ) (after : Pair) (arrived : Option ℕ) (fetched : List ℕ) → attempt q.core q.state (Fetch guess) ≡ Some after
    → Performs q (enters q guess after.core arrived fetched)
enters-performs q guess after arrived fetched is =
    record { is = one-event q.core q.state (Fetch guess) after is ∙ as-pair after q.state (fetch-state q.core q.state guess after is) }

misses-performs : (s : Speeds) (q : Clock) (arrived : Option ℕ) (fetched : List ℕ) → Performs q (misses s q arrived fetched)
unfolding all_happen
misses-performs s q arrived fetched = record { is = refl }

fetch-by : (s : Speeds) (q : Clock) (guess : ℕ) (after : Pair) (b : Bool) → attempt q.core q.state (Fetch guess) ≡ Some after
    → Performs q (fetch_by s q guess after.core b)
fetch-by s q guess after true is =
    performs-if (hits_at s.icache q.core.fetch_pc q.fetched) q _ _ (enters-performs q guess after q.arrived (q.core.fetch_pc ∷ q.fetched) is)
    (misses-performs s q q.arrived (q.core.fetch_pc ∷ q.fetched))
fetch-by s q guess after false is =
    performs-if (is_there q.arrived q.core.fetch_pc) q _ _ (enters-performs q guess after None q.fetched is)
    (misses-performs s q (Some q.core.fetch_pc) q.fetched)

fetch-first : (s : Speeds) (q : Clock) (guess : ℕ) (o : Option Pair) → attempt q.core q.state (Fetch guess) ≡ o → IfSome (fetch_first s q guess o) (Performs q)
fetch-first s q guess None is = tt
fetch-first s q guess (Some after) is = fetch-by s q guess after (is_some s.icache) is

pub fetch-performs : (s : Speeds) (p : Predicts) (q : Clock) → IfSome (fetch_move s p q) (Performs q)
unfolding fetch_move
fetch-performs s p q =
    if-move (is_due (fetch_due p q) q.cycle) (fetch_first s q (guess_at p q) (attempt q.core q.state (Fetch (guess_at p q)))) (Performs q)
    (fetch-first s q (guess_at p q) (attempt q.core q.state (Fetch (guess_at p q))) refl)

-- moves one after the other
pub happen-append : (p : Pair) (xs ys : List Event) → all_happen p (xs ++ ys) ≡ all_happen (all_happen p xs) ys
unfolding all_happen
happen-append p [] ys = refl
happen-append p (e ∷ xs) ys = happen-append (happens p e) xs ys

pub performs-both : (q : Clock) (m n : Move) → Performs q m → Performs m.clock n → Performs q (makes (m.events ++ n.events) n.clock)
performs-both q m n h k =
    record { is = happen-append (pair_of q) m.events n.events ∙ ap (λ p. all_happen p n.events) h.is ∙ k.is }

and-performs : (q : Clock) (m : Move) (o : Option Move) → Performs q m → IfSome o (Performs m.clock) → Performs q (and_made m o)
and-performs q m None h k = h
and-performs q m (Some n) h k = performs-both q m n h k

pub repeat-performs : (n : ℕ) (move : Clock → Option Move) (q : Clock) → ((r : Clock) → IfSome (move r) (Performs r)) → Performs q (repeat n move q)
unfolding repeat all_happen
repeat-performs zero move q h = record { is = refl }
repeat-performs (suc n) move q h =
    and-performs q (repeat n move q) (move (repeat n move q).clock) (repeat-performs n move q h) (h (repeat n move q).clock)

ended-performs : (s : Speeds) (p : Predicts) (q : Clock) (b : Bool) (m : Move) → Performs q m → Performs q (unless_ended s p b m)
ended-performs s p q true m h =
    let finished = performs-both q m (repeat (length m.clock.core.entries) finish_move m.clock) h
    (repeat-performs (length m.clock.core.entries) finish_move m.clock finish-performs) in
    let f = finishes_in m in
    let issued = performs-both q f (repeat s.width (issue_move s) f.clock) finished (repeat-performs s.width (issue_move s) f.clock (issue-performs s)) in
    let i = issues_in s f in
    performs-both q i (repeat s.width (fetch_move s p) i.clock) issued (repeat-performs s.width (fetch_move s p) i.clock (fetch-performs s p))
ended-performs s p q false m h = h

pub cycle-performs : (s : Speeds) (p : Predicts) (q : Clock) → Performs q (cycle_of s p q)
unfolding cycle_of
cycle-performs s p q =
    let m = commits_in s p q in
    let h = ended-performs s p q (is_open m.clock.core.ending) m (repeat-performs s.width (commit_move s p) q (commit-performs s p)) in
    record { is = h.is }
