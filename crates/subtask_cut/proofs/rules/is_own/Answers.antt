use Rattle.std.proofs.Common.{subst, ℕ, List, Ok, Err}
use Rattle.std.specs.List.{Contains}
use Rattle.subtask_cut.specs.Search.{SaysWhether}
use Rattle.subtask_cut.proofs.Members.{not_own, says_own, sought_in}
use Rattle.subtask_cut.proofs.rules.is_own.Goals as goal

pub returns-in-Ok : goal.returns-in-Ok
returns-in-Ok c =
    says_own c.args.g.now c.args.c c.in-Ok.f c.is_one_of.result c.requires.functions c.requires.rise
    (sought_in _ _ _ _ (Ok c.in-Ok.f) c.functions.ensures c.entry.ensures c.in-Ok.ensures.position)
    (subst (λ (l : List ℕ). SaysWhether c.is_one_of.result (Contains l c.args.c)) c.function_units.ensures
    c.is_one_of.ensures)

pub returns-in-Err : goal.returns-in-Err
returns-in-Err c = λ among.
    not_own c.args.g.now c.args.c c.in-Err.field-0 c.requires.rise
    (sought_in _ _ _ _ (Err c.in-Err.field-0) c.functions.ensures c.entry.ensures c.in-Err.ensures.position) among
