-- What instructions and edges cost at an operating point, whatever comes before them. This project's own.
use Rattle.std.specs.Prelude.{ℕ, ◌+◌, ◌-◌, Bool, true, false, not, ◌==◌, if◌then◌else◌, Option, Some, None, List, [], ◌∷◌, ◌%◌, ◌^◌}
use Rattle.mips_isa.specs.Kinds.{kind_of}
use Rattle.mips_isa.specs.Prediction.{predicted_taken_of}
use Rattle.mips_isa.specs.declared.instr.Instr.{Instr}
use Rattle.mips_isa.specs.declared.instr.Kind.{Kind}
use Rattle.mips_isa.specs.declared.instr.Kind.TheVariants as kind
use Rattle.flow_graph.specs.declared.parts.Edge.{Edge}
use Rattle.flow_graph.specs.declared.parts.EdgeKind.{EdgeKind}
use Rattle.flow_graph.specs.declared.parts.EdgeKind.TheVariants.{Next, Taken, Call, Return, Over}
use Rattle.flow_graph.specs.declared.parts.Unit.{Unit as FlowUnit}
use Rattle.persistence.specs.Charges.{charged_by}
use Rattle.path_wcet.specs.declared.costs.Costs.{Costs}
use Rattle.path_wcet.specs.declared.costs.Pen.{Pen}

-- the cycles of an instruction of a kind beyond its first, its fetch aside: a multiplication and a division take longer to
-- execute, a load waits for memory and for the instruction that reads it, a store for memory
abbrev pub more_of : Kind → Pen → ℕ
more_of kind.Mul pen = pen.mul - 1
more_of kind.Div pen = pen.div - 1
more_of kind.Load pen = pen.m + 1
more_of kind.Store pen = pen.w
more_of k pen = 0

-- the static cost of an instruction, and of its fetch where that is charged
unfoldable pub static_cost : Instr → Bool → Pen → ℕ
static_cost i charged pen = 1 + (if charged then pen.m else 0) + more_of (kind_of i) pen

abbrev pub slot_cost : Option Instr → Bool → Pen → ℕ
slot_cost None charged pen = 0
slot_cost (Some i) charged pen = static_cost i charged pen

-- a unit costs what its instructions cost, with the fetches that are charged
unfoldable pub unit_price : FlowUnit → Costs → ℕ
unit_price unit costs =
    static_cost unit.first (charged_by costs.charge unit.at) costs.pen
    + slot_cost unit.slot (charged_by costs.charge ((unit.at + 4) % 2 ^ 32)) costs.pen

abbrev pub differs : Bool → Bool → Bool
differs true b = not b
differs false b = b

-- a branch that goes another way than the static prediction costs two cycles
abbrev pub branch_price : Kind → Bool → ℕ
branch_price kind.Branch against = if against then 2 else 0
branch_price k against = 0

-- an edge of a kind from a unit that begins with an instruction: a return costs two cycles too
abbrev pub price_of : EdgeKind → Instr → ℕ
price_of Next i = branch_price (kind_of i) (differs (predicted_taken_of i) false)
price_of Taken i = branch_price (kind_of i) (differs (predicted_taken_of i) true)
price_of Call i = 0
price_of Return i = 2
price_of Over i = 0

-- the instruction with which the unit at an address begins
abbrev pub first_at : List FlowUnit → ℕ → Option Instr
first_at [] a = None
first_at (unit ∷ units) a = if unit.at == a then Some unit.first else first_at units a

abbrev pub price_by : EdgeKind → Option Instr → ℕ
price_by k None = 0
price_by k (Some i) = price_of k i

-- the static cost of an edge
abbrev pub edge_price : List FlowUnit → Edge → ℕ
edge_price units e = price_by e.kind (first_at units e.from)
