use Rattle.std.proofs.Common.{◌≡◌, map, take}
use Rattle.flow_graph.specs.declared.table.Line.{Line}
use Rattle.flow_graph.proofs.table.instrs_of.Given as goal

abbrev pub invariant-loop-line : goal.invariant-loop-line
invariant-loop-line l = l.instrs.items ≡ map (λ (line : Line). line.instr) (take l.line-index l.lines)
