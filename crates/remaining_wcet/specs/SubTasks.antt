-- Sub-tasks: their walks, and how a walk is cut into them. This project's own.
use Rattle.std.specs.Prelude.{◌≡◌, ◌≤◌, ◌<◌, ℕ, zero, suc, ◌+◌, ◌*◌, Bool, true, List, [], ◌∷◌, ◌++◌, length, get_or, Option, Some, None}
use Rattle.std.specs.List.{Contains}
use Rattle.flow_graph.specs.declared.parts.Edge.{Edge}
use Rattle.loop_regions.specs.Walks.{LoopGraph, IsWalk, IsFirst, Meets, Has, alone}
use Rattle.loop_regions.specs.Places.{Place, places, ats, oldest}
use Rattle.loop_regions.specs.Costs.{Prices, walk_cost, charges, late}
use Rattle.remaining_wcet.specs.Executed.{Executed, Clock, misses, total_cost}

-- what the analysis knows of a task: the first units of the sub-tasks, and of each its scope, charges, covered fetches,
-- and persistent lines
pub record SubTasks : Type 0 where
  pub flow : LoopGraph
  pub firsts : List ℕ
  pub scope : ℕ → List ℕ
  pub charged : ℕ → ℕ → Bool
  pub covered : ℕ → ℕ → Bool
  pub lines : ℕ → ℕ

abbrev pub first_of_sub : SubTasks → ℕ → ℕ
first_of_sub t k = get_or t.firsts k 0

-- a walk of sub-task k meets no first unit of a later one
abbrev pub IsEarly : SubTasks → ℕ → List Edge → Type 0
IsEarly t k es = (j : ℕ) → k < j → (u : ℕ) → IsFirst t.firsts j u → Meets u es → ⊥

-- the units of a walk of sub-task k lie in its scope
abbrev pub IsWithin : List ℕ → List Edge → Type 0
IsWithin scope [] = Unit {0}
IsWithin scope (e ∷ es) = Contains scope e.to × IsWithin scope es

pub record IsPiece (t : SubTasks) (k : ℕ) (es : List Edge) : Type 0 where
  pub is_sub : k < length t.firsts
  pub walk : IsWalk t.flow (alone (first_of_sub t k)) es
  pub early : IsEarly t k es
  pub within : IsWithin (t.scope k) es
  pub begins : Contains (t.scope k) (first_of_sub t k)

-- a walk of a sub-task, and the edge by which it goes into the next one
pub record Closed : Type 0 where
  pub edges : List Edge
  pub exit : Edge

pub record Exits (t : SubTasks) (k : ℕ) (c : Closed) : Type 0 where
  pub walk : IsWalk t.flow (alone (first_of_sub t k)) (c.exit ∷ c.edges)
  pub into : IsFirst t.firsts (suc k) c.exit.to

-- a walk is cut up: the walks of the sub-tasks that are over, newest first, and the one of the newest
abbrev pub IsCutUp : SubTasks → List Edge → List Closed → Type 0
IsCutUp t es [] = IsPiece t 0 es
IsCutUp t es (c ∷ cs) = IsPiece t (suc (length cs)) es × Exits t (length cs) c × IsCutUp t c.edges cs

abbrev pub cut_places : SubTasks → List Edge → List Closed → List Place
cut_places t es [] = places t.flow None (first_of_sub t 0) es
cut_places t es (c ∷ cs) = places t.flow (Some c.exit) (first_of_sub t (suc (length cs))) es ++ cut_places t c.edges cs

-- the bounds of n sub-tasks from the i-th on
abbrev pub span : (ℕ → ℕ) → ℕ → ℕ → ℕ
span bound i zero = 0
span bound i (suc n) = bound (i + n) + span bound i n

-- no walk of a sub-task costs more than its bound, a miss for each persistent line counted; nor does one with the edge
-- into the next cut
pub record IsBounded (t : SubTasks) (p : Prices) (k : ℕ) : Type 0 where
  pub inside : (es : List Edge) → IsPiece t k es
      → walk_cost p (t.charged k) t.flow (first_of_sub t k) es + p.miss * t.lines k ≤ p.bound k
  pub into : (c : Closed) → IsPiece t k c.edges → Exits t k c
      → p.edge c.exit + walk_cost p (t.charged k) t.flow (first_of_sub t k) c.edges + p.miss * t.lines k ≤ p.bound k

-- along any part of a walk inside the scope, whatever was fetched before
abbrev pub AreCovered : SubTasks → (List ℕ → Bool) → ℕ → Type 0
AreCovered t hits k =
    (es : List Edge) → IsPiece t k es → (by : Option Edge) (later part skipped : List Place)
    → places t.flow by (first_of_sub t k) es ≡ later ++ (part ++ skipped)
    → (older : List ℕ) → misses hits (ats part) older ≤ charges (t.charged k) part + t.lines k + late (t.covered k) part

abbrev pub IsFull : List Place → Type 0
IsFull [] = ⊥
IsFull (x ∷ xs) = Unit {0}

-- sub-task `sub` is the one of the newest of these addresses: the first units of sub-tasks 1 to `sub`, and of no later
-- one, are among them
pub record IsInside (t : SubTasks) (sub : ℕ) (pcs : List ℕ) : Type 0 where
  pub met : (j u : ℕ) → 0 < j → j ≤ sub → IsFirst t.firsts j u → Has u pcs
  pub unmet : (j u : ℕ) → sub < j → IsFirst t.firsts j u → Has u pcs → ⊥

-- the addresses up to the first of a part
abbrev pub pcs_to : List Place → List Place → List ℕ
pcs_to rest before = oldest 0 rest ∷ ats before

-- what the executed instructions of a suffix cost, with an edge after them: at most the bounds of the sub-tasks from
-- the i-th on
pub record IsPaid (t : SubTasks) (p : Prices) (c : Clock) (k more : ℕ) (os : List Executed) (rest before : List Place) : Type 0 where
  pub sub : ℕ
  pub subs : ℕ
  pub some : 0 < subs
  pub last : sub + subs ≡ suc k
  pub inside : IsInside t sub (pcs_to rest before)
  pub cost : more + total_cost c p os ≤ p.miss * late (t.covered sub) rest + span p.bound sub subs

-- what the analysis of a task says of it, at one point
pub record AreKnown (t : SubTasks) (p : Prices) (c : Clock) : Type 0 where
  pub bounded : (k : ℕ) → IsBounded t p k
  pub fetched : (k : ℕ) → AreCovered t c.hits k
  pub begins : (k : ℕ) → k < length t.firsts → t.covered k (first_of_sub t k) ≡ true
  pub different : (j k u : ℕ) → IsFirst t.firsts j u → IsFirst t.firsts k u → j ≡ k
  pub slots : (j u : ℕ) → IsFirst t.firsts j u → (v : ℕ) → t.flow.is_long v ≡ true → v + 4 ≡ u → ⊥
