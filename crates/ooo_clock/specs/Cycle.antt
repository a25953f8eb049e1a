-- One cycle by four phases of moves. This project's own.
use Rattle.std.specs.Prelude.{ℕ, zero, suc, ◌+◌, Bool, true, false, List, [], ◌∷◌, ◌++◌, length, Option, Some, None}
use Rattle.mips_ref.specs.declared.records.Step.{Step}
use Rattle.core_window.specs.Core.{Pair}
use Rattle.core_window.specs.Events.{happens, is_open, steps_by}
use Rattle.core_window.specs.declared.records.Event.{Event}
use Rattle.ooo_clock.specs.Clock.{Clock, Predicts, Speeds, pair_of}
use Rattle.ooo_clock.specs.Moves.{Move, commit_move, fetch_move, finish_move, issue_move, makes}

-- a further move, if there is one
abbrev pub and_made : Move → Option Move → Move
and_made m None = m
and_made m (Some n) = makes (m.events ++ n.events) n.clock

-- at most so many moves
unfoldable pub repeat : ℕ → (Clock → Option Move) → Clock → Move
repeat zero move q = makes [] q
repeat (suc n) move q = and_made (repeat n move q) (move (repeat n move q).clock)

-- a phase after what was done in the cycle
abbrev pub and_phase : Move → Move → Move
and_phase m n = makes (m.events ++ n.events) n.clock

abbrev pub commits_in : Speeds → Predicts → Clock → Move
commits_in s p q = repeat s.width (commit_move s p) q

abbrev pub finishes_in : Move → Move
finishes_in m = and_phase m (repeat (length m.clock.core.entries) finish_move m.clock)

abbrev pub issues_in : Speeds → Move → Move
issues_in s m = and_phase m (repeat s.width (issue_move s) m.clock)

abbrev pub fetches_in : Speeds → Predicts → Move → Move
fetches_in s p m = and_phase m (repeat s.width (fetch_move s p) m.clock)

-- a window that has ended leaves the cycle with the commits
abbrev pub unless_ended : Speeds → Predicts → Bool → Move → Move
unless_ended s p true m = fetches_in s p (issues_in s (finishes_in m))
unless_ended s p false m = m

abbrev pub next_cycle : Move → Move
next_cycle m = let q = m.clock in makes m.events (record q { cycle = q.cycle + 1 })

-- the events of a cycle, and the clock that it leaves
unfoldable pub cycle_of : Speeds → Predicts → Clock → Move
cycle_of s p q = let m = commits_in s p q in next_cycle (unless_ended s p (is_open m.clock.core.ending) m)

-- the pcs at which the state stands after each commit of a list of events whose step went
abbrev pub pc_if : ℕ → Pair → List ℕ → List ℕ
pc_if zero after pcs = pcs
pc_if (suc n) after pcs = after.state.pc ∷ pcs

unfoldable pub pcs_of : Pair → List Event → List ℕ
pcs_of p [] = []
pcs_of p (e ∷ rest) = pc_if (steps_by p e) (happens p e) (pcs_of (happens p e) rest)

-- what a caller sees of a cycle: the clock that it leaves, the pcs at which the state stood after each commit whose step went, in order,
-- and what has ended the window
pub record Cycled : Type 0 where
  pub q : Clock
  pub pcs : List ℕ
  pub ended : Option Step

abbrev pub cycled_by : Clock → Move → Cycled
cycled_by q m = record { q = m.clock; pcs = pcs_of (pair_of q) m.events; ended = m.clock.core.ending }

unfoldable pub cycled_of : Speeds → Predicts → Clock → Cycled
cycled_of s p q = cycled_by q (cycle_of s p q)

-- so many cycles, the last one outermost
unfoldable pub cycles_of : ℕ → Speeds → Predicts → Clock → Clock
cycles_of zero s p q = q
cycles_of (suc n) s p q = (cycled_of s p (cycles_of n s p q)).q
