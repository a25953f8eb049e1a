-- The edges that a unit's first instruction decides, whatever stands elsewhere. This project's own.
use Rattle.std.specs.Prelude.{ℕ, ◌+◌, Bool, true, false, Option, Some, None, List, [], ◌∷◌}
use Rattle.mips_isa.specs.Words.{branch_target, jump_target}
use Rattle.mips_isa.specs.Kinds.{kind_of}
use Rattle.mips_isa.specs.declared.instr.Instr.{Instr}
use Rattle.mips_isa.specs.declared.instr.Instr.TheVariants.{Branch1, Branch2, Jump}
use Rattle.mips_isa.specs.declared.instr.Kind.{Kind}
use Rattle.mips_isa.specs.declared.instr.Kind.TheVariants as kind
use Rattle.mips_isa.specs.Prediction.{single_edge_of}
use Rattle.flow_graph.specs.declared.parts.Edge.{Edge}
use Rattle.flow_graph.specs.declared.parts.EdgeKind.{EdgeKind}
use Rattle.flow_graph.specs.declared.parts.EdgeKind.TheVariants as edge

abbrev pub edge_of : ℕ → ℕ → EdgeKind → Edge
edge_of from to kind = record { from = from; to = to; kind = kind }

-- the target that a branch or jump at an address names
unfoldable pub target_of : Instr → ℕ → Option ℕ
target_of (Branch2 m rs rt off) at = Some (branch_target at off)
target_of (Branch1 m rs off) at = Some (branch_target at off)
target_of (Jump m target) at = Some (jump_target at target)
target_of i at = None

-- an edge to a target, if one is named
abbrev pub edge_to : ℕ → EdgeKind → Option ℕ → List Edge
edge_to at kind None = []
edge_to at kind (Some target) = edge_of at target kind ∷ []

-- a branch has both edges, or that of the one way that it can go
abbrev pub branch_edges : ℕ → Option Bool → List Edge → List Edge
branch_edges at None taken = edge_of at (at + 8) edge.Next ∷ taken
branch_edges at (Some true) taken = taken
branch_edges at (Some false) taken = edge_of at (at + 8) edge.Next ∷ []

-- a call of a target has an edge to it, and one over it to the return point
abbrev pub call_edges : ℕ → Option ℕ → List Edge
call_edges at None = []
call_edges at (Some target) = edge_of at target edge.Call ∷ edge_of at (at + 8) edge.Over ∷ []

abbrev pub edges_of_kind : Kind → Instr → ℕ → List Edge
edges_of_kind kind.Branch i at = branch_edges at (single_edge_of i) (edge_to at edge.Taken (target_of i at))
edges_of_kind kind.Jump i at = edge_to at edge.Taken (target_of i at)
edges_of_kind kind.Call i at = call_edges at (target_of i at)
edges_of_kind kind.Return i at = []
edges_of_kind kind.Indirect i at = []
edges_of_kind kind.Stop i at = []
edges_of_kind other i at = edge_of at (at + 4) edge.Next ∷ []

-- the edges of a unit at an address, read from its first instruction alone: a return's go where its function was called, and
-- syscall and break have none
unfoldable pub edges_by : Instr → ℕ → List Edge
edges_by i at = edges_of_kind (kind_of i) i at
