use Rattle.std.proofs.Common.{◌≡◌, ◌≤◌, ◌+◌, length}
use Rattle.text_fields.specs.Lines.{lines_of}
use Rattle.task_text.specs.Gives.{opening, walk}
use Rattle.task_text.specs.SeenFacts.{AreKeysOf}
use Rattle.task_text.proofs.read.read_lines.Given as goal

abbrev pub invariant-loop-line : goal.invariant-loop-line
invariant-loop-line l = record {
  same : walk (lines_of l.rest) l.reader l.number ≡ walk (lines_of l.bytes) opening 1;
  keys : AreKeysOf l.keys l.reader.task.facts;
  room : l.number + length l.rest ≤ length l.bytes + 1;
}

abbrev pub decreases-loop-line : goal.decreases-loop-line
decreases-loop-line l = length l.rest
