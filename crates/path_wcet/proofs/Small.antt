-- At an operating point of few cycles no unit costs much.
use Rattle.std.proofs.Common.{ℕ, ◌+◌, ◌≤◌, Bool, true, false, arith, Option, Some, None}
use Rattle.std.specs.Prelude.{if◌then◌else◌, ◌%◌, ◌^◌}
use Rattle.std.specs.List.{Contains}
use Rattle.mips_isa.specs.Kinds.{kind_of}
use Rattle.mips_isa.specs.declared.instr.Instr.{Instr}
use Rattle.mips_isa.specs.declared.instr.Kind.{Kind}
use Rattle.mips_isa.specs.declared.instr.Kind.TheVariants as kind
use Rattle.flow_graph.specs.Flow.{Flow}
use Rattle.flow_graph.specs.declared.parts.Unit.{Unit as FlowUnit}
use Rattle.path_wcet.specs.declared.costs.Costs.{Costs}
use Rattle.path_wcet.specs.declared.costs.Pen.{Pen}
use Rattle.persistence.specs.Charges.{charged_by}
use Rattle.path_wcet.specs.Paid.{cap}
use Rattle.path_wcet.specs.Longest.{IsSmallPen}
use Rattle.path_wcet.specs.Static.{more_of, slot_cost, static_cost, unit_price}

-- no unit costs more than the cap
abbrev pub IsSmall : Flow → Costs → Type 0
IsSmall g costs = (unit : FlowUnit) → Contains g.units unit → unit_price unit costs ≤ cap

small_more : (k : Kind) (pen : Pen) → IsSmallPen pen → more_of k pen ≤ 100001
small_more kind.Mul pen small = omega arith
small_more kind.Div pen small = omega arith
small_more kind.Load pen small = omega arith
small_more kind.Store pen small = omega arith
small_more k pen small = omega arith

small_fetch : (b : Bool) (m : ℕ) → m ≤ 100000 → (let k : ℕ = (if b then m else 0) in k) ≤ 100000
small_fetch true m small = small
small_fetch false m small = omega arith

small_instr : (i : Instr) (b : Bool) (pen : Pen) → IsSmallPen pen → static_cost i b pen ≤ 200002
unfolding static_cost
small_instr i b pen small = omega (arith, small_more (kind_of i) pen small, small_fetch b pen.m small.m)

small_slot : (o : Option Instr) (b : Bool) (pen : Pen) → IsSmallPen pen → slot_cost o b pen ≤ 200002
small_slot None b pen small = omega arith
small_slot (Some i) b pen small = small_instr i b pen small

pub small_units : (g : Flow) (costs : Costs) → IsSmallPen costs.pen → IsSmall g costs
unfolding unit_price
small_units g costs small unit among = omega (arith, small_instr unit.first (charged_by costs.charge unit.at) costs.pen small, small_slot unit.slot (charged_by costs.charge ((unit.at + 4) % 2 ^ 32)) costs.pen small)
