use Rattle.std.proofs.Common.{arith, ap, length}
use Rattle.mips_elf.proofs.Loads.{length-segments_from, fewer_loads}
use Rattle.mips_elf.proofs.read.sound_loads.Goals as goal

pub fault_of_segments-requires : goal.fault_of_segments-requires
fault_of_segments-requires c =
    omega (arith, ap length c.in_ok-segments.ensures, ap length c.deref.ensures.value, length-segments_from c.args.header.big c.args.bytes.now c.args.header.segment_table c.args.header.segment_count)

pub returns-clause-few : goal.returns-clause-few
returns-clause-few c =
    omega (
      arith,
      ap length c.in_ok-memory_segments.ensures,
      fewer_loads c.deref-2.result.now,
      ap length c.deref-2.ensures.value,
      ap length c.in_ok-segments.ensures,
      length-segments_from c.args.header.big c.args.bytes.now c.args.header.segment_table c.args.header.segment_count,
    )
