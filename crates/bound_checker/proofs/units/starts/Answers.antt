use Rattle.bound_checker.proofs.Starts.{none_starts}
use Rattle.bound_checker.proofs.units.starts.Goals as goal

pub returns-in-Err : goal.returns-in-Err
returns-in-Err c = none_starts c.args.blocks.now c.args.a c.in-Err.field-0 c.requires c.in-Err.ensures.position
