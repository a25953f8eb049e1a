use Rattle.std.proofs.Common.{◌+◌, sym, subst, Bool}
use Rattle.path_wcet.proofs.Tries.{IsSweeping, sweep_all, sweep_changed, sweep_kept, sweep_none}
use Rattle.path_wcet.proofs.ahead.sweep.Goals as goal
use Rattle.path_wcet.proofs.ahead.sweep.Goals.{then-try_way, else-try_way}

pub loop-w-init : goal.loop-w-init
loop-w-init c = sweep_none c.args.table.now c.args.to c.args.turns.now c.args.rets.now c.args.ways.now c.args.base c.args.xs.now

pub loop-w-preserved : goal.loop-w-preserved
loop-w-preserved c = elim c.if-try_way.branch [
  | then-try_way w ↦
      subst (λ (b : Bool). IsSweeping c.args.table.now c.args.to c.args.turns.now c.args.rets.now c.args.ways.now c.args.base c.args.xs.now c.try_way.new.xs b (c.loop-w.w-index + 1)) (sym w.changed-is)
      (sweep_changed c.args.table.now c.args.to c.args.turns.now c.args.rets.now c.args.ways.now c.args.base c.args.xs.now c.loop-w.xs c.try_way.new.xs c.loop-w.changed c.loop-w.w-index _ c.loop-w-test.true c.loop-w.invariant w.if-try_way.ensures)
  | else-try_way w ↦
      subst (λ (b : Bool). IsSweeping c.args.table.now c.args.to c.args.turns.now c.args.rets.now c.args.ways.now c.args.base c.args.xs.now c.try_way.new.xs b (c.loop-w.w-index + 1)) (sym w.changed-is)
      (sweep_kept c.args.table.now c.args.to c.args.turns.now c.args.rets.now c.args.ways.now c.args.base c.args.xs.now c.loop-w.xs c.try_way.new.xs c.loop-w.changed c.loop-w.w-index _ c.loop-w-test.true c.loop-w.invariant w.if-try_way.ensures)
]

pub returns : goal.returns
returns c = sweep_all c.args.table.now c.args.to c.args.turns.now c.args.rets.now c.args.ways.now c.args.base c.args.xs.now c.loop-w.xs c.loop-w.changed c.loop-w.w-index c.loop-w-test.false c.loop-w.invariant
