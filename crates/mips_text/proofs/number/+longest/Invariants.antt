use Rattle.std.proofs.Common.{length}
use Rattle.mips_text.proofs.number.+longest.Given as goal

abbrev pub decreases-longest : goal.decreases-longest
decreases-longest l = length l.text.now
