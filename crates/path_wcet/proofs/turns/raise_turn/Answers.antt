use Rattle.std.proofs.Common.{◌<◌, sym, subst, length}
use Rattle.path_wcet.specs.CircuitView.{circuit_of}
use Rattle.path_wcet.specs.Settled.{Circuit, IsTurnOf, IsTurnRaised}
use Rattle.path_wcet.proofs.Rounds.{turn_raised}
use Rattle.path_wcet.proofs.turns.raise_turn.Goals as goal

pub returns : goal.returns
returns c =
    subst (λ (k : Circuit). IsTurnRaised c.args.table.now c.args.turns.now c.raise.new.xs c.args.rets.now k c.raise.result) c.c.view_is
    (turn_raised c.args.table.now c.args.turns.now c.raise.new.xs c.args.rets.now (circuit_of c.c.inside) c.in_ok-turn.turn c.raise.result
    (subst (λ (k : Circuit). k.header < length c.args.turns.now) (sym c.c.view_is) c.requires.header)
    (subst (λ (k : Circuit). IsTurnOf c.args.table.now c.args.turns.now c.args.rets.now k c.in_ok-turn.turn) (sym c.c.view_is) c.in_ok-turn.ensures)
    c.raise.ensures.beside c.raise.ensures.kept c.raise.ensures.enough c.raise.ensures.set c.raise.ensures.less)
