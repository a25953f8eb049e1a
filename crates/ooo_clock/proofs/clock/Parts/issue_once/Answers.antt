use Rattle.std.proofs.Common.{◌≡◌, Some, false, ap, ap₂, arith, sym, true, ◌∙◌, subst}
use Rattle.std.specs.Option.{option_map}
use Rattle.std.specs.Prelude.{slice_get}
use Rattle.mips_ref.specs.Mips.{Mips}
use Rattle.core_window.specs.Shown.{shown_of}
use Rattle.ooo_clock.proofs.Issued.{issue-first, issue-none}
use Rattle.ooo_clock.proofs.Owed.{all-more, owes-next}
use Rattle.ooo_clock.specs.Moves.{is_due, issue_at, issue_move}
use Rattle.ooo_clock.specs.Shows.{Made, Shows, issue_due_in, speeds_of}
use Rattle.ooo_clock.specs.declared.clock.Parts.{Parts}
use Rattle.ooo_clock.proofs.clock.Parts.issue_once.Goals as goal

pub returns-then-issue_past-clause-made : goal.returns-then-issue_past-clause-made
returns-then-issue_past-clause-made c =
    λ numbers q h.
    let i = c.loop-k.invariant in
    let here : Shows c.loop-k.self c.loop-k.state.mips numbers q =
    subst (λ (r : Parts). Shows r c.loop-k.state.mips numbers q) (sym i.parts) (subst (λ x. Shows c.args.self.now x numbers q) (sym i.mips) h) in
    let made = c.issue_past.ensures.made numbers q here c.if-issue_past.true in
    let due : is_due (issue_due_in c.args.self.now c.args.state.now.mips c.loop-k.k) c.args.self.now.cycle ≡ true =
    sym (ap₂ (λ (r : Parts) (x : Mips). is_due (issue_due_in r x c.loop-k.k) r.cycle) i.parts i.mips) ∙ sym c.issue_past.ensures.due ∙ c.if-issue_past.true in
    issue-first c.args.self.now c.issue_past.new.self c.args.state.now.mips c.issue_past.new.state.mips numbers q c.loop-k.k h
    (omega (arith, c.loop-k-test.true, c.len-k-end.ensures)) i.none due
    (subst (λ (r : Parts). Made (issue_at (speeds_of r) q (Some c.loop-k.k)) true c.issue_past.new.self c.issue_past.new.state.mips numbers q) i.parts made)

pub returns-clause-made : goal.returns-clause-made
returns-clause-made c =
    λ numbers q h.
    let i = c.loop-k.invariant in
    let none = issue-none c.args.self.now c.args.state.now.mips numbers q h
    (λ j low. i.none j (omega (arith, low, c.loop-k-test.false, c.len-k-end.ensures))) in
    subst (λ (r : Parts). Made (issue_move (speeds_of c.args.self.now) q) false r c.loop-k.state.mips numbers q) (sym i.parts)
    (subst (λ x. Made (issue_move (speeds_of c.args.self.now) q) false c.args.self.now x numbers q) (sym i.mips) none)

pub loop-k-preserved : goal.loop-k-preserved
loop-k-preserved c =
    let i = c.loop-k.invariant in
    let r = c.args.self.now in
    let x = c.args.state.now.mips in
    let there : option_map shown_of (slice_get r.window.entries c.loop-k.k) ≡ Some c.entry-v.result =
    ap (λ (t : Parts). option_map shown_of (slice_get t.window.entries c.loop-k.k)) (sym i.parts) ∙ c.entry-v.ensures in
    let early : is_due (issue_due_in r x c.loop-k.k) r.cycle ≡ false =
    sym (ap₂ (λ (t : Parts) (y : Mips). is_due (issue_due_in t y c.loop-k.k) t.cycle) i.parts i.mips) ∙ sym c.issue_past.ensures.due ∙ c.if-issue_past.false in
    record {
      parts = c.issue_past.ensures.parts c.if-issue_past.false ∙ i.parts;
      mips = c.issue_past.ensures.state c.if-issue_past.false ∙ i.mips;
      computed = c.issue_past.ensures.computed ∙ i.computed;
      sound = c.issue_past.ensures.sound;
      owes = owes-next c.loop-k.older c.pass.new.self r.window.entries c.loop-k.k c.entry-v.result x i.owes there c.pass.ensures;
      none = all-more (λ j. is_due (issue_due_in r x j) r.cycle) c.loop-k.k i.none early;
    }
