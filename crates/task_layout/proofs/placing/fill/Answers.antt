use Rattle.std.proofs.Common.{sym, ◌∙◌}
use Rattle.task_layout.proofs.Filling.{fill-end, fill-kept, len-kept, spans-kept}
use Rattle.task_layout.proofs.placing.fill.Goals as goal

pub loop-span-preserved : goal.loop-span-preserved
loop-span-preserved c = record {
  bytes = len-kept _ _ _ _ _ c.loop-span-test.true c.loop-span.invariant.bytes c.fill_one-rest.ensures.left;
  ranges = spans-kept _ _ _ _ c.fill_one-rest.ensures.filled ∙ c.loop-span.invariant.ranges;
  filled = fill-kept _ _ _ _ _ _ _ c.loop-span-test.true c.fill_one-rest.ensures.left c.fill_one-rest.ensures.filled ∙ c.loop-span.invariant.filled;
}

pub returns : goal.returns
returns c =
    sym (fill-end c.args.spans.now c.loop-span.span-index c.loop-span.rest.now c.loop-span.memory c.loop-span-test.false) ∙ c.loop-span.invariant.filled
