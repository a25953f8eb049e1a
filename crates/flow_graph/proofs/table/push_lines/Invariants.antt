use Rattle.std.proofs.Common.{◌≡◌, ◌++◌}
use Rattle.flow_graph.specs.Table.{lines_upto}
use Rattle.flow_graph.proofs.table.push_lines.Given as goal

abbrev pub invariant-loop-k : goal.invariant-loop-k
invariant-loop-k l = l.lines.items ≡ l.initial.lines.items ++ lines_upto l.start l.words l.k
