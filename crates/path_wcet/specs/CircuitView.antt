-- What a circuit is seen as.
use Rattle.path_wcet.specs.Settled.{Circuit}
use Rattle.path_wcet.specs.declared.turns.Circuit.TheInside.{Inside}

abbrev pub circuit_of : Inside → Circuit
circuit_of c = record { region = c.region; header = c.header; base = c.base; len = c.len; ways = c.ways.items }
