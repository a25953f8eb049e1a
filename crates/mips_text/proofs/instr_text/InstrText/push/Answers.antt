use Rattle.mips_text.proofs.Rooms.{pushed, not_pushed}
use Rattle.mips_text.proofs.instr_text.InstrText.push.Goals as goal

pub returns-then-self-lt48 : goal.returns-then-self-lt48
returns-then-self-lt48 c = pushed _ _ _ _ c.self.told c.self.view_is c.if-self-lt48.true

pub returns-else-self-lt48 : goal.returns-else-self-lt48
returns-else-self-lt48 c = not_pushed c.self.inside.bytes c.args.self.now c.self.inside.len _ c.self.told c.self.view_is c.if-self-lt48.false c.self.invariant
