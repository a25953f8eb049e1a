use Rattle.std.proofs.Common.{refl}
use Rattle.flow_graph.proofs.Nets.{places_of}
use Rattle.flow_graph.proofs.places.Places.new.Goals as goal

pub sites-requires : goal.sites-requires
sites-requires c = c.in_ok-table.ensures.index

pub returns : goal.returns
returns c = places_of c.args.code.now c.in_ok-table.table _ c.in_ok-table.ensures c.in_ok-sites.ensures refl (rw (← c.deref.ensures.value) c.in_ok-net.ensures)
