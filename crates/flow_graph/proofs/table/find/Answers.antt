use Rattle.std.proofs.Common.{ℕ, Contains, subst, sym}
use Rattle.flow_graph.proofs.Found.{missing}
use Rattle.flow_graph.proofs.table.find.Goals as goal

pub returns-in-Err : goal.returns-in-Err
returns-in-Err c = λ h. missing c.args.addresses.now c.in-Ok.at c.in-Err.field-0 c.requires c.in-Err.ensures.position (subst (λ (n : ℕ). Contains c.args.addresses.now n) (sym c.in-Ok.ensures.1) h)
