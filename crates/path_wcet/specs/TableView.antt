-- What a table is seen as.
use Rattle.path_wcet.specs.Known.{Table}
use Rattle.path_wcet.specs.declared.ahead.Table.TheInside.{Inside}

abbrev pub table_of : Inside → Table
table_of t = record { units = t.units.items; next = t.next.items; taken = t.taken.items; counts = t.counts.items; ends = t.ends.items; last = t.last }
