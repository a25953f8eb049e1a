use Rattle.std.proofs.Common.{sym, ◌∙◌}
use Rattle.loop_regions.proofs.Firsts.{first_function, there}
use Rattle.loop_regions.proofs.crossing.first_function_aside.Goals as goal

pub returns-then-starts_aside : goal.returns-then-starts_aside
returns-then-starts_aside c = (
  there c.args.functions.now c.loop-f.f-index 0 c.loop-f-test.true,
  sym c.starts_aside.ensures ∙ c.if-starts_aside.true,
  first_function c.args.functions.now c.args.r.now c.loop-f.f-index 0 c.loop-f-test.true c.requires c.loop-f.invariant,
)
