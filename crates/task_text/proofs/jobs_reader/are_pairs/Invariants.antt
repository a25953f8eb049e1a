use Rattle.std.proofs.Common.{◌≡◌, length}
use Rattle.task_text.specs.JobsReading.{are_pairs}
use Rattle.task_text.proofs.jobs_reader.are_pairs.Given as goal

abbrev pub invariant-loop-rest : goal.invariant-loop-rest
invariant-loop-rest l = are_pairs l.rest ≡ are_pairs l.h

abbrev pub decreases-loop-rest : goal.decreases-loop-rest
decreases-loop-rest l = length l.rest
