use Rattle.std.proofs.Common.{take}
use Rattle.subtask_cut.specs.Search.{HasFollowed, asked_by}
use Rattle.subtask_cut.proofs.search.follow.Given as goal

abbrev pub invariant-loop-e : goal.invariant-loop-e
invariant-loop-e l = HasFollowed l.addresses (asked_by l.along) l.avoid (take l.e-index l.edges) l.fn.marks.items l.marks.items l.fn.work.items l.work.items
