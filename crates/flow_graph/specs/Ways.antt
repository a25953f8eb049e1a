-- The addresses to which a unit leads, by the kind of the edge, as the code keeps them.
use Rattle.std.specs.Prelude.{ℕ, ◌+◌, Bool, true, false, Option, Some, None}
use Rattle.mips_isa.specs.Kinds.{kind_of}
use Rattle.mips_isa.specs.Prediction.{single_edge_of}
use Rattle.mips_isa.specs.declared.instr.Instr.{Instr}
use Rattle.mips_isa.specs.declared.instr.Kind.{Kind}
use Rattle.mips_isa.specs.declared.instr.Kind.TheVariants as kind
use Rattle.flow_graph.specs.Edges.{target_of}
use Rattle.flow_graph.specs.declared.ways.Ways.{Ways}

abbrev pub no_ways : Ways
no_ways = record { next = None; taken = None; call = None; over = None }

abbrev pub branch_ways : Option Bool → ℕ → Option ℕ → Ways
branch_ways None at target = record { next = Some (at + 8); taken = target; call = None; over = None }
branch_ways (Some true) at target = record { next = None; taken = target; call = None; over = None }
branch_ways (Some false) at target = record { next = Some (at + 8); taken = None; call = None; over = None }

abbrev pub call_ways : ℕ → Option ℕ → Ways
call_ways at None = no_ways
call_ways at (Some function) = record { next = None; taken = None; call = Some function; over = Some (at + 8) }

abbrev pub ways_by : Kind → Option Bool → ℕ → Option ℕ → Ways
ways_by kind.Branch way at target = branch_ways way at target
ways_by kind.Jump way at target = record { next = None; taken = target; call = None; over = None }
ways_by kind.Call way at target = call_ways at target
ways_by kind.Return way at target = no_ways
ways_by kind.Indirect way at target = no_ways
ways_by kind.Stop way at target = no_ways
ways_by other way at target = record { next = Some (at + 4); taken = None; call = None; over = None }

unfoldable pub ways_of : Instr → ℕ → Ways
ways_of i at = ways_by (kind_of i) (single_edge_of i) at (target_of i at)
