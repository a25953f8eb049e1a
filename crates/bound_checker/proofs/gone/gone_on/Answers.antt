use Rattle.std.proofs.Common.{◌∙◌, sym, ap}
use Rattle.std.specs.Prelude.{◌==◌}
use Rattle.std.specs.List.{list_any}
use Rattle.bound_checker.proofs.Going.{return_best, same_best}
use Rattle.bound_checker.proofs.gone.gone_on.Goals as goal

pub returns-then-is_return_kind-clause-best : goal.returns-then-is_return_kind-clause-best
returns-then-is_return_kind-clause-best c =
    return_best c.args.code.now c.args.g.now c.args.lines.now c.args.masks.now c.args.e c.args.w.best (sym c.is_return_kind.ensures ∙ c.if-is_return_kind.true)

pub returns-else-starts-clause-best : goal.returns-else-starts-clause-best
returns-else-starts-clause-best c =
    same_best c.args.code.now c.args.g.now c.args.lines.now c.args.masks.now c.args.e c.args.w.best
    (ap (λ bs. list_any (λ b. b == c.args.e.to) bs) (sym c.blocks-else-is_return_kind.ensures) ∙ sym c.starts.ensures ∙ c.if-starts.false)
