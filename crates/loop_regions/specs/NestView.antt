-- What a nest is seen as.
use Rattle.loop_regions.specs.Nested.{Numbered}
use Rattle.loop_regions.specs.declared.nest.Nest.TheInside.{Inside}

abbrev pub numbered_of : Inside → Numbered
numbered_of n = record { regions = n.regions.items; addresses = n.addresses.items; ways = n.ways.items; ranks = n.ranks.items }
