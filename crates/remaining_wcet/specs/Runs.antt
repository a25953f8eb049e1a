-- A run of a machine, and its suffixes. The machine is abstract: states, a step, and what a step executes. This
-- project's own.
use Rattle.std.specs.Prelude.{◌≡◌, ◌≤◌, ◌<◌, ℕ, zero, suc, ◌+◌, Bool, true, false, ◌||◌, ◌==◌, List, [], ◌∷◌, ◌++◌, length, drop, None, if◌then◌else◌}
use Rattle.flow_graph.specs.declared.parts.Edge.{Edge}
use Rattle.loop_regions.specs.Walks.{IsWalk, alone}
use Rattle.loop_regions.specs.Places.{Place, places}
use Rattle.loop_regions.specs.Costs.{Prices}
use Rattle.remaining_wcet.specs.Executed.{Clock, total_cost}
use Rattle.remaining_wcet.specs.SubTasks.{SubTasks, IsInside, first_of_sub}
use Rattle.remaining_wcet.specs.Ways.{Words, Done, Goes, AreCheap, executed_of}
use Rattle.remaining_wcet.specs.Bounds.{sum_of}

unfoldable pub after : {S : Type 0} → (S → S) → ℕ → S → S
after step zero x = x
after step (suc n) x = step (after step n x)

-- what the first n steps execute, newest first
unfoldable pub done_by : {S : Type 0} → (S → S) → (S → Done) → ℕ → S → List Done
done_by step done zero x = []
done_by step done (suc n) x = done (after step n x) ∷ done_by step done n x

-- and after n steps the instruction that traps, if one does
unfoldable pub done_ending : {S : Type 0} → (S → S) → (S → Done) → (S → Bool) → ℕ → S → List Done
done_ending step done traps n x =
    if traps (after step n x) then done (after step n x) ∷ done_by step done n x else done_by step done n x

abbrev pub done_ats : List Done → List ℕ
done_ats [] = []
done_ats (d ∷ ds) = d.at ∷ done_ats ds

-- a run is at the places of a legal walk from the entry, the last unit perhaps in part
pub record IsRun (t : SubTasks) (w : Words) (ds : List Done) : Type 0 where
  pub edges : List Edge
  pub walk : IsWalk t.flow (alone (first_of_sub t 0)) edges
  pub later : List Place
  pub gone : List Place
  pub is : places t.flow None (first_of_sub t 0) edges ≡ later ++ gone
  pub goes : Goes w ds gone

-- the law of suffixes, at an address and those before it
pub record IsSuffix (t : SubTasks) (w : Words) (p : Prices) (c : Clock) (bounds : List ℕ) (rest : List Done) (at : ℕ) (before : List ℕ) : Type 0 where
  pub sub : ℕ
  pub is_sub : sub < length t.firsts
  pub inside : IsInside t sub (at ∷ before)
  pub cost : total_cost c p (executed_of w rest) ≤ p.miss + sum_of (drop sub bounds)
  pub at_first : at ≡ first_of_sub t sub → total_cost c p (executed_of w rest) ≤ sum_of (drop sub bounds)

abbrev pub oldest_done : ℕ → List Done → ℕ
oldest_done a [] = a
oldest_done a (d ∷ ds) = oldest_done d.at ds

-- a run makes n steps, and then ends
pub record EndsAfter {S : Type 0} (step : S → S) (went : S → Bool) (x : S) (n : ℕ) : Type 0 where
  pub all : (k : ℕ) → k < n → went (after step k x) ≡ true
  pub ended : went (after step n x) ≡ false

-- as many instructions as the bounds of the sub-tasks that remain, at most
pub record IsFew (t : SubTasks) (bounds : List ℕ) (rest : List Done) (at : ℕ) (before : List ℕ) : Type 0 where
  pub sub : ℕ
  pub inside : IsInside t sub (at ∷ before)
  pub few : length rest ≤ sum_of (drop sub bounds)

abbrev pub is_among : ℕ → List ℕ → Bool
is_among u [] = false
is_among u (v ∷ vs) = (v == u) || is_among u vs

-- how many of these cuts are among the addresses
abbrev pub cuts_met : List ℕ → List ℕ → ℕ
cuts_met [] pcs = 0
cuts_met (c ∷ cuts) pcs = (if is_among c pcs then 1 else 0) + cuts_met cuts pcs

-- from a state that a job leads to, it ends, and what it executes from there costs at most so much
pub record IsOver {S : Type 0} (w : Words) (p : Prices) (c : Clock) (step : S → S) (done : S → Done) (traps went : S → Bool) (y : S) (limit : ℕ) : Type 0 where
  pub rest : ℕ
  pub ends : EndsAfter step went y rest
  pub cost : total_cost c p (executed_of w (done_ending step done traps rest y)) ≤ limit

-- all that is known of a job of an admitted task, at a point
pub record IsKnownJob {S : Type 0} (t : SubTasks) (w : Words) (p : Prices) (c : Clock) (step : S → S) (done : S → Done) (traps went : S → Bool) (x : S) : Type 0 where
  pub prefix : (m : ℕ) → ((k : ℕ) → k < m → went (after step k x) ≡ true) → IsRun t w (done_by step done m x)
  pub whole : (m : ℕ) → EndsAfter step went x m → IsRun t w (done_ending step done traps m x)
  pub costly : (a : ℕ) → 1 ≤ p.base a
  pub cheap : (ds : List Done) → AreCheap c p (executed_of w ds)
