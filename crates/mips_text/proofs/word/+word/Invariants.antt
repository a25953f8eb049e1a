use Rattle.std.proofs.Common.{length}
use Rattle.mips_text.proofs.word.+word.Given as goal

abbrev pub decreases-word : goal.decreases-word
decreases-word l = length l.letters.now
