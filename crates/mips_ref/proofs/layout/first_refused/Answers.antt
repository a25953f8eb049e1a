use Rattle.std.proofs.Common.{sym, ◌∙◌, arith}
use Rattle.std.proofs.lemmas.Grind.{common_steps}
use Rattle.mips_ref.proofs.Laid.{walk-port, walk-above, walk-shared, walk-on, walk-end}
use Rattle.mips_ref.proofs.layout.first_refused.Goals as goal

pub returns-then-end-from : goal.returns-then-end-from
returns-then-end-from c =
    sym (walk-port _ _ _ _ c.loop-s-test.true c.if-s-ge-PORT.true (omega arith)) ∙ c.loop-s.invariant

pub returns-else-end-from : goal.returns-else-end-from
returns-else-end-from c =
    sym (walk-above _ _ _ _ c.loop-s-test.true c.if-s-ge-PORT.true (omega arith)) ∙ c.loop-s.invariant

pub returns-then-from-end : goal.returns-then-from-end
returns-then-from-end c =
    sym (walk-shared _ _ _ _ c.loop-s-test.true c.if-s-ge-PORT.false (omega arith)) ∙ c.loop-s.invariant

pub loop-s-preserved : goal.loop-s-preserved
loop-s-preserved c =
    rw (c.from-in-loop-s-2.ensures, c.from-in-loop-s-3.ensures)
    (sym (walk-on _ _ _ _ c.loop-s-test.true c.if-s-ge-PORT.false (omega arith)) ∙ c.loop-s.invariant)

pub returns-then-end-from-2 : goal.returns-then-end-from-2
returns-then-end-from-2 c =
    let e = walk-end c.loop-s.end c.args.spans.now c.loop-s.s-index c.loop-s-test.false in
    grind (arith, common_steps, e)

pub returns-else-end-from-2 : goal.returns-else-end-from-2
returns-else-end-from-2 c =
    let e = walk-end c.loop-s.end c.args.spans.now c.loop-s.s-index c.loop-s-test.false in
    grind (arith, common_steps, e)
