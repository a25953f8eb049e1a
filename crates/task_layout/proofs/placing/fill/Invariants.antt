use Rattle.std.proofs.Common.{◌≡◌, drop, length}
use Rattle.visa_io.specs.ImageCode.{total_len}
use Rattle.task_layout.specs.Layout.{filled}
use Rattle.task_layout.proofs.placing.fill.Given as goal

abbrev pub invariant-loop-span : goal.invariant-loop-span
invariant-loop-span l = record {
  bytes : length l.rest ≡ total_len (drop l.span-index l.spans);
  ranges : l.memory.spans ≡ l.fn.memory.spans;
  filled : filled (drop l.span-index l.spans) l.rest l.memory ≡ filled l.spans l.bytes l.fn.memory;
}
