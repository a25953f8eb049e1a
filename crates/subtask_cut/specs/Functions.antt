-- What holds of the functions of every graph of code: by its edges, the units of each function, and the entry's. This project's own.
use Rattle.std.specs.Prelude.{◌≡◌, ◌≢◌, ℕ, ◌+◌, List}
use Rattle.std.specs.List.{Contains}
use Rattle.flow_graph.specs.Edges.{edge_of}
use Rattle.flow_graph.specs.declared.parts.Edge.{Edge}
use Rattle.flow_graph.specs.declared.parts.EdgeKind.{EdgeKind}
use Rattle.flow_graph.specs.declared.parts.EdgeKind.TheVariants.{Next, Taken, Call, Over}

-- an edge that stays in its function, calls aside
abbrev pub IsPlain : EdgeKind → Type 0
IsPlain Next = Unit {0}
IsPlain Taken = Unit {0}
IsPlain other = ⊥

-- edges inside functions stay there; a call goes to the first unit of another function than the entry's, and back to its own
pub record AreFunctions (edges : List Edge) (units : ℕ → List ℕ) (main : ℕ) : Type 0 where
  pub first : Contains (units main) main
  pub step : (e : Edge) → Contains edges e → IsPlain e.kind → (f : ℕ) → Contains (units f) e.from → Contains (units f) e.to
  pub call : (e : Edge) → Contains edges e → e.kind ≡ Call → Contains (units e.to) e.to × (e.to ≢ main)
  pub over : (e : Edge) → Contains edges e → e.kind ≡ Call → (f : ℕ) → Contains (units f) e.from
      → Contains (units f) (e.from + 8)

-- an edge leads over each call
abbrev pub AreOver : List Edge → Type 0
AreOver edges = (e : Edge) → Contains edges e → e.kind ≡ Call → Contains edges (edge_of e.from (e.from + 8) Over)
