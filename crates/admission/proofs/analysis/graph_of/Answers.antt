use Rattle.std.proofs.Common.{subst, sym}
use Rattle.admission.specs.Refused.{IsRefused}
use Rattle.admission.proofs.Decided.{flow_refused}
use Rattle.admission.proofs.analysis.graph_of.Goals as goal

pub returns-in-Err-clause-refused : goal.returns-in-Err-clause-refused
returns-in-Err-clause-refused c =
    subst (IsRefused c.args.task.now c.args.code.now c.args.entry) (sym c.flow_refusal.ensures) (flow_refused c.args.task.now c.args.code.now c.args.entry c.in-Err.fault c.in-Err.ensures.flow)
