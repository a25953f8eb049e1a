use Rattle.std.proofs.Common.{refl}
use Rattle.flow_graph.specs.declared.parts.Unit.{Unit as FlowUnit}
use Rattle.flow_graph.proofs.Members.{mapped_all, mapped_more}
use Rattle.flow_graph.proofs.blocks.unit_addresses.Goals as goal

pub loop-unit-preserved : goal.loop-unit-preserved
loop-unit-preserved c = mapped_more (λ (unit : FlowUnit). unit.at) _ _ _ _ _ _ c.loop-unit-test.true c.loop-unit.invariant c.in_ok-push.ensures.items refl

pub returns : goal.returns
returns c = mapped_all (λ (unit : FlowUnit). unit.at) _ _ _ c.loop-unit-test.false c.loop-unit.invariant
