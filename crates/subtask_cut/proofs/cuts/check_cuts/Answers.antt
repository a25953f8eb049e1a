use Rattle.std.proofs.Common.{subst}
use Rattle.subtask_cut.specs.Asked.{IsFaultOfAll}
use Rattle.subtask_cut.proofs.Scopes.{cuts_are_units, fault_answer, tasks_answer}
use Rattle.subtask_cut.proofs.cuts.check_cuts.Goals as goal

pub sub_tasks-requires-clause-among : goal.sub_tasks-requires-clause-among
sub_tasks-requires-clause-among c =
    cuts_are_units c.args.g.now c.args.n.now.regions c.args.cuts.now
    (subst (IsFaultOfAll c.args.g.now c.args.n.now.regions c.args.cuts.now) c.in_default-found.is c.in-Ok.ensures)

pub returns-in-Some : goal.returns-in-Some
returns-in-Some c =
    fault_answer c.args.g.now c.args.n.now.regions c.args.cuts.now c.in-Some.fault
    (subst (IsFaultOfAll c.args.g.now c.args.n.now.regions c.args.cuts.now) c.in-Some.is c.in-Ok.ensures)

pub returns-in-Ok-sub_tasks : goal.returns-in-Ok-sub_tasks
returns-in-Ok-sub_tasks c =
    tasks_answer c.args.g.now c.args.n.now.regions c.args.cuts.now c.in-Ok-sub_tasks.cuts
    (subst (IsFaultOfAll c.args.g.now c.args.n.now.regions c.args.cuts.now) c.in_default-found.is c.in-Ok.ensures)
    c.in-Ok-sub_tasks.ensures.0 c.in-Ok-sub_tasks.ensures.1
