use Rattle.std.proofs.Common.{◌≡◌, take, vec_len}
use Rattle.mips_ref.specs.Held.{set_run}
use Rattle.mips_ref.proofs.memory.set_run.Given as goal

abbrev pub invariant-loop-k : goal.invariant-loop-k
invariant-loop-k l = record {
  items : l.bytes.items ≡ set_run l.initial.bytes.items l.index (take l.k l.run);
  len : vec_len l.bytes ≡ vec_len l.initial.bytes;
}
