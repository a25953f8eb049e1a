use Rattle.std.proofs.Common.{rules, ◌≡◌, sym, subst, replicate, false}
use Rattle.loop_regions.specs.Cycles.{AreAhead}
use Rattle.loop_regions.proofs.Marks.{none_ahead}
use Rattle.loop_regions.proofs.cycles.is_on_cycle.Goals as goal

pub comes_back-requires-clause-ahead : goal.comes_back-requires-clause-ahead
comes_back-requires-clause-ahead c =
    let items : c.as_mut_slice.result.now ≡ replicate c.args.units false = search rules in
    subst (AreAhead c.args.ways.now c.args.u) (sym items) (none_ahead c.args.ways.now c.args.u c.args.units)
