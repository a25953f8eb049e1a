use Rattle.std.proofs.Common.{refl}
use Rattle.loop_regions.proofs.Numbers.{not_missed}
use Rattle.subtask_cut.proofs.Found.{on_among, says_found}
use Rattle.subtask_cut.proofs.search.is_marked.Goals as goal

pub returns-in-Ok : goal.returns-in-Ok
returns-in-Ok c = says_found c.args.addresses.now c.args.marks.now c.args.a c.in-Ok.u _ c.requires.rise
    c.in-Ok.ensures.position c.in-Ok.ensures.bound refl

pub returns-in-Err : goal.returns-in-Err
returns-in-Err c = λ o. not_missed c.args.addresses.now c.args.a c.in-Err.field-0 c.requires.rise
    (on_among c.args.addresses.now c.args.marks.now c.args.a o) c.in-Err.ensures.position
