use Rattle.std.proofs.Common.{◌+◌, sym, subst, ◌∙◌, Bool}
use Rattle.loop_regions.proofs.Marks.{IsSweeping, sweep_set, sweep_kept}
use Rattle.loop_regions.proofs.cycles.sweep.Goals as goal
use Rattle.loop_regions.proofs.cycles.sweep.Goals.{then-visit, else-visit}

pub loop-w-preserved : goal.loop-w-preserved
loop-w-preserved c = elim c.if-visit.branch [
  | then-visit w ↦
      subst (λ (b : Bool). IsSweeping c.args.ways.now c.args.start c.args.marks.now c.visit.new.marks b (c.loop-w.w-index + 1)) (sym w.changed-is)
      (sweep_set c.args.ways.now c.args.start c.args.marks.now c.loop-w.marks c.visit.new.marks c.loop-w.changed c.loop-w.w-index _ c.requires c.loop-w-test.true c.loop-w.invariant
      (sym c.visit.ensures.changes ∙ w.if-visit.true) w.if-visit.ensures.marks)
  | else-visit w ↦
      subst (λ (b : Bool). IsSweeping c.args.ways.now c.args.start c.args.marks.now c.visit.new.marks b (c.loop-w.w-index + 1)) (sym w.changed-is)
      (sweep_kept c.args.ways.now c.args.start c.args.marks.now c.loop-w.marks c.visit.new.marks c.loop-w.changed c.loop-w.w-index _ c.loop-w-test.true c.loop-w.invariant
      (sym c.visit.ensures.changes ∙ w.if-visit.false) w.if-visit.ensures.marks)
]
