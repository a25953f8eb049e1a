use Rattle.std.proofs.Common.{◌≡◌, ◌++◌, true, length}
use Rattle.task_text.specs.JobsReading.{are_pairs, bytes_of}
use Rattle.task_text.proofs.jobs_reader.add_bytes.Given as goal

abbrev pub invariant-loop-rest : goal.invariant-loop-rest
invariant-loop-rest l = record {
  pairs : are_pairs l.rest ≡ true;
  so_far : l.bytes ++ bytes_of l.rest ≡ l.initial.bytes ++ bytes_of l.h;
}

abbrev pub decreases-loop-rest : goal.decreases-loop-rest
decreases-loop-rest l = length l.rest
