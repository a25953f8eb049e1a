use Rattle.std.proofs.Common.{◌+◌, sym, subst, Bool}
use Rattle.path_wcet.specs.Settled.{Circuit, IsTurnRaised}
use Rattle.path_wcet.proofs.Rounds.{AreRaising, raising_all, raising_changed, raising_kept, raising_none}
use Rattle.path_wcet.proofs.turns.raise_turns.Goals as goal
use Rattle.path_wcet.proofs.turns.raise_turns.Goals.{then-raised, else-raised}

pub loop-c-init : goal.loop-c-init
loop-c-init c = raising_none c.args.table.now c.args.turns.now c.args.rets.now c.args.circuits.now

pub loop-c-preserved : goal.loop-c-preserved
loop-c-preserved c = elim c.if-raised.branch [
  | then-raised w ↦
      subst (λ (b : Bool). AreRaising c.args.table.now c.args.turns.now c.raise_turn.new.turns c.args.rets.now c.args.circuits.now b (c.loop-c.c-index + 1)) (sym w.changed-is)
      (raising_changed c.args.table.now c.args.turns.now c.loop-c.turns c.raise_turn.new.turns c.args.rets.now c.args.circuits.now c.loop-c.changed c.loop-c.c-index c.c-item.result c.in_ok-raised.raised c.loop-c-test.true c.loop-c.invariant w.if-raised.true
      (subst (λ (k : Circuit). IsTurnRaised c.args.table.now c.loop-c.turns c.raise_turn.new.turns c.args.rets.now k c.in_ok-raised.raised) c.c-item.is c.in_ok-raised.ensures))
  | else-raised w ↦
      subst (λ (b : Bool). AreRaising c.args.table.now c.args.turns.now c.raise_turn.new.turns c.args.rets.now c.args.circuits.now b (c.loop-c.c-index + 1)) (sym w.changed-is)
      (raising_kept c.args.table.now c.args.turns.now c.loop-c.turns c.raise_turn.new.turns c.args.rets.now c.args.circuits.now c.loop-c.changed c.loop-c.c-index c.c-item.result c.in_ok-raised.raised c.loop-c-test.true c.loop-c.invariant w.if-raised.false
      (subst (λ (k : Circuit). IsTurnRaised c.args.table.now c.loop-c.turns c.raise_turn.new.turns c.args.rets.now k c.in_ok-raised.raised) c.c-item.is c.in_ok-raised.ensures))
]

pub returns : goal.returns
returns c = raising_all c.args.table.now c.args.turns.now c.loop-c.turns c.args.rets.now c.args.circuits.now c.loop-c.changed c.loop-c.c-index c.loop-c-test.false c.loop-c.invariant
