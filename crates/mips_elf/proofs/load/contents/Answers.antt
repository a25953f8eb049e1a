use Rattle.std.proofs.Common.{sym}
use Rattle.mips_elf.specs.declared.segment.Segment.{Segment}
use Rattle.mips_elf.proofs.Loads.{sound_at, contents_more}
use Rattle.mips_elf.proofs.load.contents.Goals as goal

none : Segment
none = record { kind = 0; offset = 0; address = 0; file_len = 0; memory_len = 0; flags = 0 }

pub push_content-requires : goal.push_content-requires
unfolding none
push_content-requires c = sound_at _ c.args.loads.now c.requires c.loop-s.s-index none c.loop-s-test.true

pub loop-s-preserved : goal.loop-s-preserved
unfolding none
loop-s-preserved c =
    rw (c.in_ok-push_content.ensures, c.loop-s.invariant) (sym (contents_more c.args.bytes.now c.args.loads.now c.loop-s.s-index none c.loop-s-test.true))
