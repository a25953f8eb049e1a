use Rattle.std.proofs.Common.{◌≡◌, ◌≤◌, ◌+◌, ◌-◌, drop, length}
use Rattle.mips_ref.specs.Memory.{put_bytes}
use Rattle.mips_ref.proofs.memory.Memory.fill.Given as goal

abbrev pub invariant-loop-done : goal.invariant-loop-done
invariant-loop-done l = record {
  within : l.done ≤ length l.bytes;
  next : l.next ≡ l.at + l.done;
  spans : l.self.spans ≡ l.fn.self.spans;
  filled : put_bytes l.self l.next (drop l.done l.bytes) ≡ put_bytes l.fn.self l.at l.bytes;
}

abbrev pub decreases-loop-done : goal.decreases-loop-done
decreases-loop-done l = length l.bytes - l.done
