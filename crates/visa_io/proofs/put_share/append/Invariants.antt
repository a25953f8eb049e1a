use Rattle.std.proofs.Common.{◌≡◌, ◌+◌, ◌++◌, take, vec_len}
use Rattle.std.specs.Prelude.{vec_capacity}
use Rattle.visa_io.proofs.put_share.append.Given as goal

-- the bytes before one were appended
abbrev pub invariant-loop-byte : goal.invariant-loop-byte
invariant-loop-byte l = record {
  items : l.bytes.items ≡ l.initial.bytes.items ++ take l.byte-index l.part;
  len : vec_len l.bytes ≡ vec_len l.initial.bytes + l.byte-index;
  capacity : vec_capacity l.bytes ≡ vec_capacity l.initial.bytes;
}
