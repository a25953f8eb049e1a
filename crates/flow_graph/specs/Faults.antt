-- What may be wrong with a unit by itself, and where a unit with no such fault leads. This project's own.
use Rattle.std.specs.Prelude.{ℕ, ◌+◌, Bool, true, false, ◌&&◌, ◌||◌, not, ◌==◌, is_none, Option, Some, None, List, [], if◌then◌else◌}
use Rattle.std.specs.List.{list_any}
use Rattle.visa_io.specs.declared.records.Code.{Code}
use Rattle.mips_isa.specs.declared.instr.Instr.{Instr}
use Rattle.mips_isa.specs.declared.instr.Instr.TheVariants.{Branch1, Jr, Jalr}
use Rattle.mips_isa.specs.declared.instr.Branch1Op.{Branch1Op}
use Rattle.mips_isa.specs.declared.instr.Branch1Op.TheVariants.{Bltzal, Bgezal}
use Rattle.flow_graph.specs.Code.{instr_at, is_code, is_control_at, passes}
use Rattle.flow_graph.specs.Edges.{edges_by}
use Rattle.flow_graph.specs.declared.parts.Edge.{Edge}

-- the word at an address of code is reserved
abbrev pub is_reserved : Code → ℕ → Bool
is_reserved code a = is_code code a && is_none (instr_at code a)

-- a jump or call of where a register says, a return aside
abbrev pub is_indirect : Instr → Bool
is_indirect (Jr rs) = not (rs == 31)
is_indirect (Jalr rs rd) = true
is_indirect i = false

-- a branch that links, and may not be taken
abbrev pub links_if : Branch1Op → ℕ → Bool
links_if Bltzal rs = true
links_if Bgezal rs = not (rs == 0)
links_if m rs = false

abbrev pub is_link_branch : Instr → Bool
is_link_branch (Branch1 m rs off) = links_if m rs
is_link_branch i = false

-- a word of the unit at an address, its slot's included
abbrev pub is_word_of : Code → ℕ → ℕ → Bool
is_word_of code unit a = (a == unit) || (is_control_at code unit && (a == unit + 4))

abbrev pub has_reserved : Code → ℕ → Bool
has_reserved code unit = is_reserved code unit || (is_control_at code unit && is_reserved code (unit + 4))

abbrev pub has_indirect : Code → ℕ → Bool
has_indirect code unit = passes is_indirect (instr_at code unit)

abbrev pub has_link_branch : Code → ℕ → Bool
has_link_branch code unit = passes is_link_branch (instr_at code unit)

abbrev pub has_slot_control : Code → ℕ → Bool
has_slot_control code unit = is_control_at code unit && is_control_at code (unit + 4)

-- the edges that a unit's first instruction decides
abbrev pub edges_if : Option Instr → ℕ → List Edge
edges_if None unit = []
edges_if (Some i) unit = edges_by i unit

abbrev pub own_edges : Code → ℕ → List Edge
own_edges code unit = edges_if (instr_at code unit) unit

-- a unit's slot, a successor or its return point is no address of code
abbrev pub leaves_code : Code → ℕ → Bool
leaves_code code unit =
    (is_control_at code unit && not (is_code code (unit + 4)))
    || list_any (λ e. not (is_code code e.to)) (own_edges code unit)

abbrev pub is_faulty : Code → ℕ → Bool
is_faulty code unit =
    has_reserved code unit || has_indirect code unit || has_link_branch code unit || has_slot_control code unit
    || leaves_code code unit

-- the edges along which a unit leads on: one with such a fault leads nowhere
unfoldable pub leads_from : Code → ℕ → List Edge
leads_from code unit = if is_faulty code unit then [] else own_edges code unit
