use Rattle.std.proofs.Common.{◌≡◌, map, take}
use Rattle.flow_graph.specs.declared.parts.Unit.{Unit as FlowUnit}
use Rattle.flow_graph.proofs.blocks.unit_addresses.Given as goal

abbrev pub invariant-loop-unit : goal.invariant-loop-unit
invariant-loop-unit l = l.addresses.items ≡ map (λ (unit : FlowUnit). unit.at) (take l.unit-index l.units)
