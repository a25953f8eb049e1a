-- How the executed instructions of a run stand to the walk that it goes, and what redirects cost. This project's own.
use Rattle.std.specs.Prelude.{◌≡◌, ◌⊎◌, ℕ, ◌+◌, Bool, true, false, not, List, [], ◌∷◌, Option, Some, None, if◌then◌else◌}
use Rattle.std.specs.List.{Contains}
use Rattle.flow_graph.specs.declared.parts.EdgeKind.{EdgeKind}
use Rattle.flow_graph.specs.declared.parts.EdgeKind.TheVariants.{Next, Taken, Return}
use Rattle.flow_graph.specs.declared.parts.Edge.{Edge}
use Rattle.mips_isa.specs.Kinds.{is_control}
use Rattle.mips_isa.specs.declared.instr.Kind.{Kind}
use Rattle.mips_isa.specs.declared.instr.Kind.TheVariants as sort
use Rattle.loop_regions.specs.Walks.{LoopGraph}
use Rattle.loop_regions.specs.Places.{Place}
use Rattle.loop_regions.specs.Costs.{Prices}
use Rattle.remaining_wcet.specs.Executed.{Executed, Clock, IsCheap}

-- the code: the kind of each instruction, and whether it is predicted taken
pub record Words : Type 0 where
  pub sort : ℕ → Kind
  pub predicted : ℕ → Bool

abbrev pub is_taken : EdgeKind → Bool
is_taken Taken = true
is_taken other = false

abbrev pub differs : Bool → Bool → Bool
differs true b = not b
differs false b = b

-- an executed instruction redirects the fetch: a return, and a branch that went against its prediction
abbrev pub redirects_by : Kind → Bool → Bool → Bool
redirects_by sort.Return predicted taken = true
redirects_by sort.Branch predicted taken = differs predicted taken
redirects_by other predicted taken = false

-- what an edge costs from a unit of this kind: the two cycles of a redirect
abbrev pub cost_by : Kind → Bool → EdgeKind → ℕ
cost_by any predicted Return = 2
cost_by sort.Branch predicted Next = if predicted then 2 else 0
cost_by sort.Branch predicted Taken = if predicted then 0 else 2
cost_by other predicted kind = 0

abbrev pub edge_cost : Words → Edge → ℕ
edge_cost w e = cost_by (w.sort e.from) (w.predicted e.from) e.kind

-- a unit without a slot is no control instruction, slots are none, a branch leads along Next and
-- Taken edges,
-- a return along Return edges alone. `is_long` is false where no unit is: dead code may stand before a unit
pub record AreUnits (g : LoopGraph) (w : Words) (entry : ℕ) : Type 0 where
  pub first : g.is_long entry ≡ false → is_control (w.sort entry) ≡ false
  pub short : (e : Edge) → Contains g.edges e → g.is_long e.to ≡ false → is_control (w.sort e.to) ≡ false
  pub slot : (u : ℕ) → g.is_long u ≡ true → is_control (w.sort (u + 4)) ≡ false
  pub forks : (e : Edge) → Contains g.edges e → w.sort e.from ≡ sort.Branch → (e.kind ≡ Next) ⊎ (e.kind ≡ Taken)
  pub returns : (e : Edge) → Contains g.edges e → w.sort e.from ≡ sort.Return → e.kind ≡ Return

-- an executed instruction with what the machine knows: whether it was taken
pub record Done : Type 0 where
  pub at : ℕ
  pub taken : Bool

abbrev pub executed_by : Words → Done → Executed
executed_by w d = record { at = d.at; redirects = redirects_by (w.sort d.at) (w.predicted d.at) d.taken }

abbrev pub executed_of : Words → List Done → List Executed
executed_of w [] = []
executed_of w (d ∷ ds) = executed_by w d ∷ executed_of w ds

-- the branch before an edge, with its slot after it, was taken exactly where the edge is
abbrev pub Went : Words → Edge → List Done → Type 0
Went w e [] = Unit {0}
Went w e (s ∷ []) = Unit {0}
Went w e (s ∷ c ∷ ds) = c.at ≡ e.from → w.sort c.at ≡ sort.Branch → c.taken ≡ is_taken e.kind

abbrev pub WentBy : Words → Option Edge → List Done → Type 0
WentBy w None ds = Unit {0}
WentBy w (Some e) ds = Went w e ds

-- what was executed, newest first, is at the places of a walk, joined by the
-- edges along which it went
abbrev pub Goes : Words → List Done → List Place → Type 0
Goes w [] [] = Unit {0}
Goes w [] (x ∷ xs) = ⊥
Goes w (d ∷ ds) [] = ⊥
Goes w (d ∷ ds) (x ∷ xs) = (d.at ≡ x.at) × WentBy w x.by ds × Goes w ds xs

-- whatever was executed before, each costs at most its static cost, its fetch aside
abbrev pub AreCheap : Clock → Prices → List Executed → Type 0
AreCheap c p [] = Unit {0}
AreCheap c p (o ∷ os) = IsCheap c p o × AreCheap c p os
