use Rattle.mips_text.proofs.Rooms.{joined_none, joined_more}
use Rattle.mips_text.proofs.instr_text.InstrText.push_all.Goals as goal

pub loop-byte-init : goal.loop-byte-init
loop-byte-init c = joined_none c.self.inside.bytes c.args.self.now c.self.inside.len c.self.told c.self.view_is c.self.invariant

pub loop-byte-preserved : goal.loop-byte-preserved
loop-byte-preserved c = joined_more c.args.self.now c.loop-byte.self c.push.new.self c.args.bytes.now c.loop-byte.byte-index c.loop-byte-test.true c.loop-byte.invariant c.push.ensures
