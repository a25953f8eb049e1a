use Rattle.std.proofs.Common.{◌∙◌, ap, ◌+◌, ◌-◌, arith}
use Rattle.visa_cli.proofs.Telling.{left_low, row_fit, short_is}
use Rattle.visa_cli.proofs.checking.short_by.Goals as goal

pub overflow_add-owed-2 : goal.overflow_add-owed-2
overflow_add-owed-2 c =
    let a = c.args.admitted.now in
    let low = left_low a.task a.times.bounds c.as_slice-2.result.now c.bounds_at-bounds.result.now c.args.b c.rem.result c.requires.fit.limits c.requires.recovery
    (row_fit _ a c.args.b c.requires.fit c.requires.recovery) c.as_slice-2.ensures c.bounds_at-bounds.ensures c.rem.ensures in
    omega (arith, low, c.overhead.ensures.small, c.from-start.ensures, c.requires.fit.limits.machine.start_ps)

pub returns : goal.returns
returns c =
    let a = c.args.admitted.now in
    (c.saturating_sub.ensures ∙ ap (λ d. c.from-start.result + c.overhead.result + c.rem.result - d) c.from.ensures)
    ∙ short_is a.task a.times.bounds c.as_slice.result.now c.as_slice-2.result.now c.bounds_at-bounds.result.now c.args.a c.args.b
    c.from-start.result c.overhead.result c.rem.result c.as_slice.ensures c.as_slice-2.ensures c.bounds_at-bounds.ensures c.from-start.ensures
    c.overhead.ensures.value c.rem.ensures
