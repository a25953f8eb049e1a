use Rattle.std.proofs.Common.{◌≡◌, drop}
use Rattle.mips_elf.specs.Segments.{loads_fault}
use Rattle.mips_elf.proofs.segment.fault_of_loads.Given as goal

-- no header so far has a fault
abbrev pub invariant-loop-number : goal.invariant-loop-number
invariant-loop-number l = loads_fault l.len 0 l.segments ≡ loads_fault l.len l.number (drop l.number l.segments)
