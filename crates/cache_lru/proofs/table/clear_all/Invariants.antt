use Rattle.std.proofs.Common.{◌≡◌, [], take, replicate}
use Rattle.cache_lru.proofs.table.clear_all.Given as goal

abbrev pub invariant-loop-row : goal.invariant-loop-row
invariant-loop-row l = take l.row-index l.row-items ≡ replicate l.row-index []
