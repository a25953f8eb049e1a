use Rattle.std.proofs.Common.{◌≡◌, [], replicate}
use Rattle.cache_lru.proofs.table.empty_rows.Given as goal

abbrev pub invariant-loop-set : goal.invariant-loop-set
invariant-loop-set l = l.rows.items ≡ replicate l._set []
