use Rattle.std.proofs.Common.{◌∙◌, sym}
use Rattle.mips_elf.proofs.Tables.{fault_found}
use Rattle.mips_elf.proofs.segment.fault_of_loads.Goals as goal

pub returns-in-Some : goal.returns-in-Some
returns-in-Some c =
    fault_found c.args.len c.args.segments.now c.loop-number.number (record { kind = 0; offset = 0; address = 0; file_len = 0; memory_len = 0; flags = 0 })
    c.in-Some.fault c.loop-number-test.true c.loop-number.invariant (sym c.fault_of_segment.ensures ∙ c.in-Some.is)
