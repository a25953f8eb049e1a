use Rattle.std.proofs.Common.{rules, ◌≡◌, ◌∙◌, subst, ap, Option, List, ℕ, ◌++◌, take, drop, length}
use Rattle.loop_regions.specs.declared.ways.Way.{Way}
use Rattle.path_wcet.specs.CircuitView.{circuit_of}
use Rattle.path_wcet.specs.declared.ahead.Aim.TheVariants as aim
use Rattle.path_wcet.specs.Known.{entry}
use Rattle.path_wcet.specs.Settled.{Circuit, IsSettled, IsTurnOf}
use Rattle.path_wcet.proofs.Orders.{whole_back}
use Rattle.path_wcet.proofs.Rounds.{turn_is}
use Rattle.path_wcet.proofs.turns.turn_of.Goals as goal

pub returns : goal.returns
returns c =
    let back : take c.in_ok-inner.inner.len (c.settle.new.xs ++ drop (length c.settle.new.xs) c.in_ok-inner.inner.items) ≡ c.settle.new.xs = whole_back c.settle.new.xs _ c.in_ok-inner.inner.len (search rules) in
    subst (λ (k : Circuit). IsTurnOf c.args.table.now c.args.turns.now c.args.rets.now k c.or_zero.result) c.c.view_is
    (turn_is c.args.table.now c.args.turns.now c.args.rets.now (circuit_of c.c.inside) c.as_mut_slice.result.now c.settle.new.xs c.settle.result c.entry_at.result c.or_zero.result
    (c.as_mut_slice.ensures.value ∙ c.in_ok-inner.ensures)
    (subst (λ (l : List Way). IsSettled c.args.table.now (aim.Lap c.c.inside.region) c.args.turns.now c.args.rets.now l c.c.inside.base c.as_mut_slice.result.now c.settle.new.xs c.settle.result) c.as_slice.ensures.value c.settle.ensures)
    (c.entry_at.ensures.is ∙ ap (λ (l : List (Option ℕ)). entry c.c.inside.base l c.c.inside.header) (c.as_slice-2.ensures.value ∙ back)) c.or_zero.ensures)
