use Rattle.mips_elf.proofs.Filled.{filled}
use Rattle.mips_elf.proofs.load.build.Goals as goal

pub returns-clause-filled : goal.returns-clause-filled
returns-clause-filled c =
    filled _ c.args.bytes.now c.args.loads.now c.in_ok-spans.ensures c.in_ok-contents.ensures c.requires.sound c.requires.apart
