use Rattle.std.proofs.Common.{refl, subst, arith}
use Rattle.laid_code.specs.Bytes.{AreBytes}
use Rattle.visa_cli.specs.Stages.{laid_out}
use Rattle.visa_cli.proofs.Laid.{code_laid, ready_laid}
use Rattle.visa_cli.proofs.stages.lay_out.Goals as goal

pub returns-in-Ok-clause-outcome : goal.returns-in-Ok-clause-outcome
unfolding laid_out
returns-in-Ok-clause-outcome c = (
  refl,
  (c.in-Ok.ensures, ready_laid c.args.task.now c.args.image.now c.in-Ok.memory c.in-Ok.ensures c.requires.filled (subst AreBytes c.as_slice.ensures c.items_are_bytes.ensures) (omega arith)),
)

pub returns-in-Ok-clause-code : goal.returns-in-Ok-clause-code
returns-in-Ok-clause-code c = code_laid c.args.task.now c.args.image.now c.in-Ok.memory c.in-Ok.ensures c.requires.filled

pub returns-in-Err-clause-outcome : goal.returns-in-Err-clause-outcome
unfolding laid_out
returns-in-Err-clause-outcome c = (refl, (c.in-Err.fault, c.in-Err.ensures, c.layout_status.ensures))
