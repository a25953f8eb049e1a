use Rattle.flow_graph.proofs.Nets.{table_of}
use Rattle.flow_graph.proofs.table.Table.new.Goals as goal

pub returns : goal.returns
returns c = table_of c.args.code.now c.in_ok-lines.lines.items _ c.in_ok-lines.ensures (rw (← c.deref.ensures.value) c.in_ok-addresses_of.ensures) (rw (← c.deref-2.ensures.value) c.in_ok-instrs_of.ensures)
