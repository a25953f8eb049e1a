use Rattle.std.proofs.Common.{subst, sym}
use Rattle.flow_graph.specs.Code.{IsCode}
use Rattle.admission.specs.declared.refusal.Refusal.TheVariants.{Memory}
use Rattle.admission.proofs.Decided.{refused_is}
use Rattle.admission.proofs.deciding.admit_in.Goals as goal

pub decided-requires-clause-code : goal.decided-requires-clause-code
decided-requires-clause-code c = subst IsCode (sym c.in-Ok.ensures.code) c.requires.code

pub returns-in-Err : goal.returns-in-Err
returns-in-Err c = refused_is c.args.mode c.args.task.now c.args.image.now Memory tt
