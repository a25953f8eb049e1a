use Rattle.std.proofs.Common.{arith}
use Rattle.task_layout.proofs.Filling.{code-end, code-kept}
use Rattle.task_layout.proofs.placing.code_len.Goals as goal

pub overflow_add-total : goal.overflow_add-total
overflow_add-total c =
    let kept = code-kept _ _ _ _ _ c.loop-span-test.true c.loop-span.invariant c.code_in.ensures in
    omega (arith, kept.1, c.requires, c.from-total.ensures)

pub loop-span-preserved : goal.loop-span-preserved
loop-span-preserved c =
    let kept = code-kept _ _ _ _ _ c.loop-span-test.true c.loop-span.invariant c.code_in.ensures in
    omega (arith, kept.0, c.from-total.ensures)

pub returns : goal.returns
returns c = omega (arith, c.loop-span.invariant, code-end c.args.spans.now c.loop-span.span-index c.loop-span-test.false)
