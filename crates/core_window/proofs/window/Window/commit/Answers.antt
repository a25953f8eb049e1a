use Rattle.std.proofs.Common.{◌≡◌, Some, false, ap, drop, sym, ◌∙◌}
use Rattle.std.specs.Prelude.{is_some, slice_get}
use Rattle.core_window.proofs.Happened.{commit-made, step_state}
use Rattle.core_window.specs.Core.{Core, paired}
use Rattle.core_window.specs.Events.{or_same}
use Rattle.core_window.proofs.window.Window.commit.Goals as goal

pub returns-in-Some-committable-clause-state : goal.returns-in-Some-committable-clause-state
returns-in-Some-committable-clause-state c =
    let there : slice_get c.args.self.now.entries 0 ≡ Some c.in-Some.e =
    ap (λ (w : Core). slice_get w.entries 0) (sym c.self.view_is) ∙ sym c.entry_at.ensures ∙ c.in-Some.is in
    let going : is_some c.args.self.now.ending ≡ false = ap (λ (w : Core). is_some w.ending) (sym c.self.view_is) ∙ sym c.is_some.ensures ∙ c.if-is_some.false in
    let made = commit-made c.args.self.now c.args.state.now.mips c.in-Some.e c.in-Some-committable.outcome there going
    (sym c.committable.ensures ∙ c.in-Some-committable.is) in
    c.commit_by.ensures.state ∙ sym (step_state c.args.self.now (drop 1 c.args.self.now.entries) c.args.state.now.mips)
    ∙ ap (λ o. (or_same (paired c.args.self.now c.args.state.now.mips) o).state) (sym made)
