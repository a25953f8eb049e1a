use Rattle.std.proofs.Common.{◌∙◌, arith, false}
use Rattle.visa_io.proofs.ImageLaws.{total_more, total_fits, placed_more}
use Rattle.visa_io.proofs.image_code.place_all.Goals as goal

pub overflow_add-at : goal.overflow_add-at
overflow_add-at c =
    omega (arith, total_fits c.args.spans.now c.loop-span.span-index (record { start = 0; len = 0; r = false; w = false; x = false }) c.loop-span-test.true)

pub loop-span-preserved : goal.loop-span-preserved
loop-span-preserved c = (
  c.in_ok-push_code.ensures ∙ placed_more c.args.spans.now c.loop-span.span-index _ c.loop-span.at _ c.loop-span-test.true c.loop-span.invariant.1 c.loop-span.invariant.0,
  omega (arith, c.loop-span.invariant.1, total_more c.args.spans.now c.loop-span.span-index (record { start = 0; len = 0; r = false; w = false; x = false }) c.loop-span-test.true),
)
