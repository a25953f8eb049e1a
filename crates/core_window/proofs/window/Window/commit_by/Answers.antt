use Rattle.std.proofs.Common.{Some, ap, drop, ◌∙◌}
use Rattle.mips_ref.specs.declared.records.Step.TheVariants.{Trap}
use Rattle.core_window.proofs.Happened.{no_parts, oldest_retires, trap-commits}
use Rattle.core_window.specs.Core.{Core}
use Rattle.core_window.proofs.window.Window.commit_by.Goals as goal

pub unreachable-requires : goal.unreachable-requires
unreachable-requires c =
    no_parts c.args.self.now c.args.state.now.mips c.args.e c.in-Parts.r c.requires.stands c.requires.there c.in-None.is
    (c.requires.has ∙ ap Some c.in-Parts.is)

pub retire-requires : goal.retire-requires
retire-requires c =
    oldest_retires c.args.self.now c.args.state.now.mips c.args.e c.in-Some.i c.in-Parts.r c.requires.stands c.requires.there c.in-Some.is
    (c.requires.has ∙ ap Some c.in-Parts.is)

pub returns-in-Trapped-clause-core : goal.returns-in-Trapped-clause-core
returns-in-Trapped-clause-core c =
    let at = trap-commits c.args.self.now c.args.state.now.mips c.args.e c.in-Trapped.kind (drop 1 c.args.self.now.entries) c.requires.stands c.requires.there
    (c.requires.has ∙ ap Some c.in-Trapped.is) in
    ap (λ (w : Core). let d : Core = record w { ending = Some (Trap c.in-Trapped.kind c.args.e.pc) } in d) c.self.view_is ∙ at.0

pub returns-in-Trapped-clause-state : goal.returns-in-Trapped-clause-state
returns-in-Trapped-clause-state c =
    let at = trap-commits c.args.self.now c.args.state.now.mips c.args.e c.in-Trapped.kind (drop 1 c.args.self.now.entries) c.requires.stands c.requires.there
    (c.requires.has ∙ ap Some c.in-Trapped.is) in
    at.1
