-- The finishes, issues and fetches of a cycle add no pc.
use Rattle.std.proofs.Common.{◌≡◌, ℕ, zero, suc, Bool, true, false, cond, List, [], ◌∷◌, ◌++◌, length, Option, Some, None, refl, ap, ◌∙◌}
use Rattle.std.proofs.lemmas.List.{append-nil}
use Rattle.std.specs.Prelude.{IfSome, is_some}
use Rattle.cache_lru.specs.Recency.{hits_at}
use Rattle.core_window.specs.Core.{Core, Pair}
use Rattle.core_window.specs.Events.{all_happen, attempt, happens, is_open, steps_by}
use Rattle.core_window.specs.declared.records.Event.{Event}
use Rattle.core_window.specs.declared.records.Event.TheVariants.{Fetch, Issue, Finish, Squash}
use Rattle.ooo_clock.proofs.Repeats.{pcs-append}
use Rattle.ooo_clock.specs.Clock.{Clock, Predicts, Speeds, pair_of}
use Rattle.ooo_clock.specs.Cycle.{and_made, and_phase, commits_in, cycle_of, finishes_in, issues_in, pc_if, pcs_of, repeat, unless_ended}
use Rattle.ooo_clock.specs.Moves.{Move, fetch_by, fetch_due, fetch_first, fetch_move, finish_at, finish_due, finish_entry, finish_move, first_due, guess_at, is_due, is_there, issue_at, issue_due, issue_entry, issue_move, squashed_too}

-- no event of these is a step
abbrev Quiet : List Event → Type 0
Quiet [] = Unit {0}
Quiet (e ∷ rest) = ((p : Pair) → steps_by p e ≡ 0) × Quiet rest

quiet-pcs : (p : Pair) (es : List Event) → Quiet es → pcs_of p es ≡ []
unfolding pcs_of
quiet-pcs p [] h = refl
quiet-pcs p (e ∷ rest) h = ap (λ n. pc_if n (happens p e) (pcs_of (happens p e) rest)) (h.0 p) ∙ quiet-pcs (happens p e) rest h.1

quiet-append : (xs ys : List Event) → Quiet xs → Quiet ys → Quiet (xs ++ ys)
quiet-append [] ys h k = k
quiet-append (x ∷ xs) ys h k = (h.0, quiet-append xs ys h.1 k)

-- Finish
squash-quiet : (q : Clock) (k : ℕ) (c : Core) (o : Option Pair) → Quiet (squashed_too q k c o).events
squash-quiet q k c None = ((λ p. refl), tt)
squash-quiet q k c (Some after) = ((λ p. refl), ((λ p. refl), tt))

entry-quiet : (q : Clock) (k : ℕ) (o : Option Pair) → IfSome (finish_entry q k o) (λ m. Quiet m.events)
entry-quiet q k None = tt
entry-quiet q k (Some after) = squash-quiet q k after.core (attempt after.core q.state (Squash k))

at-quiet : (q : Clock) (o : Option ℕ) → IfSome (finish_at q o) (λ m. Quiet m.events)
at-quiet q None = tt
at-quiet q (Some k) = entry-quiet q k (attempt q.core q.state (Finish k))

finish-quiet : (q : Clock) → IfSome (finish_move q) (λ m. Quiet m.events)
unfolding finish_move
finish-quiet q = at-quiet q (first_due (finish_due q) (length q.core.entries) q.cycle)

-- Issue
issued-quiet : (s : Speeds) (q : Clock) (k : ℕ) (o : Option Pair) → IfSome (issue_entry s q k o) (λ m. Quiet m.events)
issued-quiet s q k None = tt
issued-quiet s q k (Some after) = ((λ p. refl), tt)

issue-at-quiet : (s : Speeds) (q : Clock) (o : Option ℕ) → IfSome (issue_at s q o) (λ m. Quiet m.events)
issue-at-quiet s q None = tt
issue-at-quiet s q (Some k) = issued-quiet s q k (attempt q.core q.state (Issue k))

issue-quiet : (s : Speeds) (q : Clock) → IfSome (issue_move s q) (λ m. Quiet m.events)
unfolding issue_move
issue-quiet s q = issue-at-quiet s q (first_due (issue_due q) (length q.core.entries) q.cycle)

-- Fetch
if-quiet : (b : Bool) (m n : Move) → Quiet m.events → Quiet n.events → Quiet (cond b m n).events
if-quiet true m n h k = h
if-quiet false m n h k = k

by-quiet : (s : Speeds) (q : Clock) (guess : ℕ) (c : Core) (b : Bool) → Quiet (fetch_by s q guess c b).events
by-quiet s q guess c true = if-quiet (hits_at s.icache q.core.fetch_pc q.fetched) _ _ ((λ p. refl), tt) tt
by-quiet s q guess c false = if-quiet (is_there q.arrived q.core.fetch_pc) _ _ ((λ p. refl), tt) tt

first-quiet : (s : Speeds) (q : Clock) (guess : ℕ) (o : Option Pair) → IfSome (fetch_first s q guess o) (λ m. Quiet m.events)
first-quiet s q guess None = tt
first-quiet s q guess (Some after) = by-quiet s q guess after.core (is_some s.icache)

due-quiet : (b : Bool) (o : Option Move) → IfSome o (λ m. Quiet m.events) → IfSome (cond b o None) (λ m. Quiet m.events)
due-quiet true o h = h
due-quiet false o h = tt

fetch-quiet : (s : Speeds) (p : Predicts) (q : Clock) → IfSome (fetch_move s p q) (λ m. Quiet m.events)
unfolding fetch_move
fetch-quiet s p q =
    due-quiet (is_due (fetch_due p q) q.cycle) (fetch_first s q (guess_at p q) (attempt q.core q.state (Fetch (guess_at p q))))
    (first-quiet s q (guess_at p q) (attempt q.core q.state (Fetch (guess_at p q))))

-- a phase of such moves
and-quiet : (m : Move) (o : Option Move) → Quiet m.events → IfSome o (λ n. Quiet n.events) → Quiet (and_made m o).events
and-quiet m None h k = h
and-quiet m (Some n) h k = quiet-append m.events n.events h k

repeat-quiet : (n : ℕ) (move : Clock → Option Move) (q : Clock) → ((r : Clock) → IfSome (move r) (λ m. Quiet m.events)) → Quiet (repeat n move q).events
unfolding repeat
repeat-quiet zero move q each = tt
repeat-quiet (suc n) move q each =
    and-quiet (repeat n move q) (move (repeat n move q).clock) (repeat-quiet n move q each) (each (repeat n move q).clock)

-- the pcs of a move are those of another one
abbrev SamePcs : Pair → Move → Move → Type 0
SamePcs p m n = pcs_of p n.events ≡ pcs_of p m.events

phase-pcs : (p : Pair) (m n : Move) → Quiet n.events → SamePcs p m (and_phase m n)
phase-pcs p m n h =
    pcs-append p m.events n.events ∙ ap (λ l. pcs_of p m.events ++ l) (quiet-pcs (all_happen p m.events) n.events h)
    ∙ append-nil (pcs_of p m.events)

ended-pcs : (s : Speeds) (p : Predicts) (r : Pair) (b : Bool) (m : Move) → SamePcs r m (unless_ended s p b m)
ended-pcs s p r false m = refl
ended-pcs s p r true m =
    let f = finishes_in m in
    let i = issues_in s f in
    phase-pcs r i (repeat s.width (fetch_move s p) i.clock) (repeat-quiet s.width (fetch_move s p) i.clock (fetch-quiet s p))
    ∙ phase-pcs r f (repeat s.width (issue_move s) f.clock) (repeat-quiet s.width (issue_move s) f.clock (issue-quiet s))
    ∙ phase-pcs r m (repeat (length m.clock.core.entries) finish_move m.clock)
    (repeat-quiet (length m.clock.core.entries) finish_move m.clock finish-quiet)

-- a cycle's pcs are those of its commits
pub cycle-pcs : (s : Speeds) (p : Predicts) (q : Clock) → pcs_of (pair_of q) (cycle_of s p q).events ≡ pcs_of (pair_of q) (commits_in s p q).events
unfolding cycle_of
cycle-pcs s p q =
    let m = commits_in s p q in ended-pcs s p (pair_of q) (is_open m.clock.core.ending) m
