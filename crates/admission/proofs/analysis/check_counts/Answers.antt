use Rattle.admission.proofs.Conditions.{none_counted}
use Rattle.admission.proofs.analysis.check_counts.Goals as goal

pub loop-k-init : goal.loop-k-init
loop-k-init c = none_counted c.args.task.now c.args.code.now c.args.entry c.args.g.now c.args.n.now c.args.p.now c.requires.kept
