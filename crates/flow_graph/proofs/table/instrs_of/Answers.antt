use Rattle.std.proofs.Common.{refl}
use Rattle.flow_graph.specs.declared.table.Line.{Line}
use Rattle.flow_graph.proofs.Members.{mapped_all, mapped_more}
use Rattle.flow_graph.proofs.table.instrs_of.Goals as goal

pub loop-line-preserved : goal.loop-line-preserved
loop-line-preserved c = mapped_more (λ (line : Line). line.instr) _ _ _ _ _ _ c.loop-line-test.true c.loop-line.invariant c.in_ok-push.ensures.items refl

pub returns : goal.returns
returns c = mapped_all (λ (line : Line). line.instr) _ _ _ c.loop-line-test.false c.loop-line.invariant
