use Rattle.std.proofs.Common.{◌+◌, ◌*◌, length}
use Rattle.loop_regions.specs.Cycles.{unmarked}
use Rattle.subtask_cut.specs.Search.{IsSearching, asked_by}
use Rattle.subtask_cut.proofs.search.search.Given as goal

abbrev pub invariant-loop-u : goal.invariant-loop-u
invariant-loop-u l = IsSearching l.addresses l.edges (asked_by l.along) l.avoid l.start l.marks.items l.work.items

abbrev pub decreases-loop-u : goal.decreases-loop-u
decreases-loop-u l = 2 * unmarked l.marks.items + length l.work.items
