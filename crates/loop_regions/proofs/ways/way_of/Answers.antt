use Rattle.std.proofs.Common.{inl}
use Rattle.loop_regions.proofs.ways.way_of.Goals as goal

pub number_of-requires-clause-among : goal.number_of-requires-clause-among
number_of-requires-clause-among c = (c.requires.joined c.args.edge c.requires.among (inl c.requires.inner)).leaves

pub number_of-requires-2-clause-among : goal.number_of-requires-2-clause-among
number_of-requires-2-clause-among c = (c.requires.joined c.args.edge c.requires.among (inl c.requires.inner)).enters
