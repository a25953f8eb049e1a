use Rattle.loop_regions.proofs.Numbers.{not_missed}
use Rattle.bound_checker.proofs.units.number_of.Goals as goal

pub unreachable-requires : goal.unreachable-requires
unreachable-requires c = not_missed c.args.addresses.now c.args.a c.in-Err.field-0 c.requires.rise c.requires.among c.in-Err.ensures.position
