use Rattle.std.proofs.Common.{◌∙◌, ap, sym}
use Rattle.admission.specs.Admitted.{needed_of}
use Rattle.admission.specs.Rows.{rows_of}
use Rattle.admission.proofs.Needed.{fast_needed, simple_needed}
use Rattle.admission.proofs.deciding.needed_ps.Goals as goal

pub returns-in-Simple : goal.returns-in-Simple
returns-in-Simple c =
    simple_needed c.args.task.now (rows_of c.args.bounds.now) c.fastest_bounds.result.now c.fastest_ps-period_ps.result c.from-start.result c.rest_ps-rest.result
    c.fastest_bounds.ensures.value c.fastest_ps-period_ps.ensures.value c.from-start.ensures c.rest_ps-rest.ensures.value
    ∙ ap (λ m. needed_of m c.args.task.now (rows_of c.args.bounds.now)) (sym c.in-Simple.is)

pub returns-in-Fast : goal.returns-in-Fast
returns-in-Fast c =
    fast_needed c.args.task.now (rows_of c.args.bounds.now) c.fastest_bounds.result.now c.fastest_ps-period_ps.result c.from-start.result c.overhead.result c.rest_ps-rest.result
    c.fastest_bounds.ensures.value c.fastest_ps-period_ps.ensures.value c.from-start.ensures c.overhead.ensures.value c.rest_ps-rest.ensures.value
    ∙ ap (λ m. needed_of m c.args.task.now (rows_of c.args.bounds.now)) (sym c.in-Fast.is)
