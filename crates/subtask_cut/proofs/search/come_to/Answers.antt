use Rattle.std.proofs.Common.{refl, sym, arith}
use Rattle.subtask_cut.proofs.Found.{read_mark}
use Rattle.subtask_cut.proofs.Searching.{come_new}
use Rattle.subtask_cut.proofs.search.come_to.Goals as goal

pub returns : goal.returns
returns c =
    come_new c.args.addresses.now c.args.avoid c.args.a c.number_of-u.result _ _ _ _ c.requires.beside
    c.number_of-u.ensures.inside c.number_of-u.ensures.at (sym c.if-is_that.ensures)
    (read_mark c.args.marks.now.items c.number_of-u.result _ _
    (omega (arith, c.requires.beside, c.number_of-u.ensures.inside)) c.index.ensures c.if-index.false) refl
    c.in_ok-push.ensures.items
