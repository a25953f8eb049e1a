use Rattle.mips_text.proofs.target.+target_end.Given as goal

abbrev pub decreases-target_end : goal.decreases-target_end
decreases-target_end l = l.left
