-- What the lower crates know of an admitted task, as premises. This project's own.
use Rattle.std.specs.Prelude.{◌≡◌, ◌⊎◌, ◌<◌, ℕ, suc, ◌+◌, List, ◌∷◌, length, None}
use Rattle.std.specs.List.{Contains}
use Rattle.flow_graph.specs.declared.parts.EdgeKind.TheVariants.{Call}
use Rattle.flow_graph.specs.declared.parts.Edge.{Edge}
use Rattle.subtask_cut.specs.Functions.{IsPlain}
use Rattle.loop_regions.specs.Walks.{IsWalk, IsFirst, Meets, alone}
use Rattle.loop_regions.specs.Places.{places}
use Rattle.remaining_wcet.specs.SubTasks.{SubTasks, Closed, IsCutUp, cut_places, first_of_sub}

-- cuts are different, and units of no other function; the scopes are closed; cuts come in order
pub record AreCuts (t : SubTasks) (units : ℕ → List ℕ) : Type 0 where
  pub some : 0 < length t.firsts
  pub different : (j k u : ℕ) → IsFirst t.firsts j u → IsFirst t.firsts k u → j ≡ k
  pub own : (k u : ℕ) → IsFirst t.firsts (suc k) u → (f : ℕ) → Contains (units f) u → f ≡ first_of_sub t 0
  pub order : (e : Edge) (es : List Edge) → IsWalk t.flow (alone (first_of_sub t 0)) (e ∷ es) → (j u v : ℕ)
      → IsFirst t.firsts (suc (suc j)) u → e.to ≡ u → IsFirst t.firsts (suc j) v → Meets v es
  pub begins : (k : ℕ) → k < length t.firsts → Contains (t.scope k) (first_of_sub t k)
  pub steps : (k : ℕ) (e : Edge) → Contains t.flow.edges e → IsPlain e.kind ⊎ (e.kind ≡ Call)
      → Contains (t.scope k) e.from → (IsFirst t.firsts (suc k) e.to → ⊥) → Contains (t.scope k) e.to
  pub over : (k : ℕ) (e : Edge) → Contains t.flow.edges e → e.kind ≡ Call → Contains (t.scope k) e.from
      → (IsFirst t.firsts (suc k) (e.from + 8) → ⊥) → Contains (t.scope k) (e.from + 8)

-- a walk from the entry, cut up
pub record IsCutting (t : SubTasks) (es : List Edge) : Type 0 where
  pub piece : List Edge
  pub past : List Closed
  pub cut : IsCutUp t piece past
  pub same : places t.flow None (first_of_sub t 0) es ≡ cut_places t piece past
