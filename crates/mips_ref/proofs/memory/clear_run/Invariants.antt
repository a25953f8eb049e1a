use Rattle.std.proofs.Common.{◌≡◌, replicate, vec_len}
use Rattle.mips_ref.specs.Held.{set_run}
use Rattle.mips_ref.proofs.memory.clear_run.Given as goal

abbrev pub invariant-loop-k : goal.invariant-loop-k
invariant-loop-k l = record {
  items : l.bytes.items ≡ set_run l.initial.bytes.items l.index (replicate l.k 0);
  len : vec_len l.bytes ≡ vec_len l.initial.bytes;
}
