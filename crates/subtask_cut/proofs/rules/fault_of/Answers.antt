use Rattle.std.proofs.Common.{List, subst, sym}
use Rattle.std.specs.Prelude.{slice_index}
use Rattle.visa_io.specs.declared.records.Region.{Region}
use Rattle.subtask_cut.specs.Cuts.{IsInRegion}
use Rattle.subtask_cut.proofs.Charting.{addresses_read}
use Rattle.subtask_cut.proofs.Faults.{is_none, is_unit, says_false, says_true, told_bypassed, told_callee, told_none, told_order, told_region, told_slot}
use Rattle.subtask_cut.proofs.rules.fault_of.Goals as goal

pub returns-then-not-is_one_of : goal.returns-then-not-is_one_of
returns-then-not-is_one_of c =
    told_slot c.args.g.now c.args.n.now.regions c.args.cuts.now c.args.k c.requires.below
    (is_none c.args.g.now _ _ (addresses_read c.args.g.now c.args.n.now c.requires.nest _ c.addresses.ensures)
    c.if-not-is_one_of.ensures)

pub returns-then-is_in_callee : goal.returns-then-is_in_callee
returns-then-is_in_callee c =
    told_callee c.args.g.now c.args.n.now.regions c.args.cuts.now c.args.k c.requires.below
    (is_unit c.args.g.now _ _ (addresses_read c.args.g.now c.args.n.now c.requires.nest _ c.addresses.ensures)
    c.if-not-is_one_of.ensures)
    c.if-is_in_callee.ensures

pub returns-then-is_in_region : goal.returns-then-is_in_region
returns-then-is_in_region c =
    told_region c.args.g.now c.args.n.now.regions c.args.cuts.now c.args.k c.requires.below
    (is_unit c.args.g.now _ _ (addresses_read c.args.g.now c.args.n.now c.requires.nest _ c.addresses.ensures)
    c.if-not-is_one_of.ensures)
    c.if-is_in_callee.ensures
    (subst (λ (l : List Region). IsInRegion l (slice_index c.args.cuts.now c.args.k)) c.regions.ensures
    c.if-is_in_region.ensures)

pub returns-then-branch : goal.returns-then-branch
returns-then-branch c =
    told_order c.args.g.now c.args.n.now.regions c.args.cuts.now c.args.k c.requires.below
    (is_unit c.args.g.now _ _ (addresses_read c.args.g.now c.args.n.now c.requires.nest _ c.addresses.ensures)
    c.if-not-is_one_of.ensures)
    c.if-is_in_callee.ensures
    (λ h. c.if-is_in_region.ensures (subst (λ (l : List Region). IsInRegion l (slice_index c.args.cuts.now c.args.k))
    (sym c.regions.ensures) h))
    (says_true c.in_ok-is_out_of_order.field-0 _ c.if-branch.true c.in_ok-is_out_of_order.ensures)

pub returns-then-branch-2 : goal.returns-then-branch-2
returns-then-branch-2 c =
    told_bypassed c.args.g.now c.args.n.now.regions c.args.cuts.now c.args.k c.requires.below
    (is_unit c.args.g.now _ _ (addresses_read c.args.g.now c.args.n.now c.requires.nest _ c.addresses.ensures)
    c.if-not-is_one_of.ensures)
    c.if-is_in_callee.ensures
    (λ h. c.if-is_in_region.ensures (subst (λ (l : List Region). IsInRegion l (slice_index c.args.cuts.now c.args.k))
    (sym c.regions.ensures) h))
    (says_false c.in_ok-is_out_of_order.field-0 _ c.if-branch.false c.in_ok-is_out_of_order.ensures)
    (says_true c.in_ok-is_bypassed.field-0 _ c.if-branch-2.true c.in_ok-is_bypassed.ensures)

pub returns : goal.returns
returns c =
    told_none c.args.g.now c.args.n.now.regions c.args.cuts.now c.args.k
    (is_unit c.args.g.now _ _ (addresses_read c.args.g.now c.args.n.now c.requires.nest _ c.addresses.ensures)
    c.if-not-is_one_of.ensures)
    c.if-is_in_callee.ensures
    (λ h. c.if-is_in_region.ensures (subst (λ (l : List Region). IsInRegion l (slice_index c.args.cuts.now c.args.k))
    (sym c.regions.ensures) h))
    (says_false c.in_ok-is_out_of_order.field-0 _ c.if-branch.false c.in_ok-is_out_of_order.ensures)
    (says_false c.in_ok-is_bypassed.field-0 _ c.if-branch-2.false c.in_ok-is_bypassed.ensures)
