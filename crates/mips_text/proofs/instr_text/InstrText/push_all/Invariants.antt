use Rattle.std.proofs.Common.{◌≡◌, take}
use Rattle.mips_text.specs.Room.{joined}
use Rattle.mips_text.proofs.instr_text.InstrText.push_all.Given as goal

abbrev pub invariant-loop-byte : goal.invariant-loop-byte
invariant-loop-byte l = l.self ≡ joined l.initial.self (take l.byte-index l.bytes)
