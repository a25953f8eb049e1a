use Rattle.flow_graph.proofs.Gathered.{next_span, gathered_next, gathered_all}
use Rattle.flow_graph.proofs.table.lines.Goals as goal

pub push_lines-requires-clause-words : goal.push_lines-requires-clause-words
push_lines-requires-clause-words c = (next_span _ _ _ _ _ _ c.loop-span-test.true c.loop-span.invariant).0

pub push_lines-requires-clause-ends : goal.push_lines-requires-clause-ends
push_lines-requires-clause-ends c = (next_span _ _ _ _ _ _ c.loop-span-test.true c.loop-span.invariant).1

pub split_at-requires : goal.split_at-requires
split_at-requires c = (next_span _ _ _ _ _ _ c.loop-span-test.true c.loop-span.invariant).0

pub loop-span-preserved : goal.loop-span-preserved
loop-span-preserved c = gathered_next _ _ _ _ _ _ _ _ c.loop-span-test.true c.in_ok-push_lines.ensures c.split_at.ensures.back c.loop-span.invariant

pub returns : goal.returns
returns c = gathered_all _ _ _ _ _ c.loop-span-test.false c.loop-span.invariant
