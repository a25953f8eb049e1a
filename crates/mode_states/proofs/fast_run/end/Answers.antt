use Rattle.std.proofs.Common.{arith}
use Rattle.mode_states.proofs.FastEnds.{cycles_ps}
use Rattle.mode_states.proofs.fast_run.end.Goals as goal

pub period-requires : goal.period-requires
period-requires c = c.requires.fits.speculative

pub overflow_mul-end_ps : goal.overflow_mul-end_ps
overflow_mul-end_ps c = omega (arith, cycles_ps _ _ _ _ _ _ _ c.cycles.ensures c.period.ensures c.requires.fits)

pub overflow_add-end_ps : goal.overflow_add-end_ps
overflow_add-end_ps c = omega (arith, cycles_ps _ _ _ _ _ _ _ c.cycles.ensures c.period.ensures c.requires.fits)

pub invariant_of-idle : goal.invariant_of-idle
invariant_of-idle c = (c.requires.fits.rests, c.requires.counts)
