use Rattle.std.proofs.Common.{◌≡◌, take, length}
use Rattle.path_wcet.specs.Tables.{ArePut}
use Rattle.path_wcet.proofs.tables.put_counts.Given as goal

abbrev pub invariant-loop-r : goal.invariant-loop-r
invariant-loop-r l = (length l.counts ≡ length l.fn.counts) × ArePut l.addresses (take l.r-index l.regions) l.counts
