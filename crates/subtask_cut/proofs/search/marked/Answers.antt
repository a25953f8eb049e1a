use Rattle.std.proofs.Common.{refl, sym, subst}
use Rattle.subtask_cut.proofs.Listing.{IsListing, listing_all, listing_none, listing_off, listing_on}
use Rattle.subtask_cut.proofs.search.marked.Goals as goal
use Rattle.subtask_cut.proofs.search.marked.Goals.{then-marks-u+in_ok-push, else-marks-u}

pub loop-u-init : goal.loop-u-init
loop-u-init c =
    subst (IsListing c.args.addresses.now c.args.marks.now 0) (sym c.new-us.ensures.items)
    (listing_none c.args.addresses.now c.args.marks.now)

pub loop-u-preserved : goal.loop-u-preserved
loop-u-preserved c = elim c.if-marks-u.branch [
  | then-marks-u+in_ok-push w ↦ rw w.us-is (listing_on c.args.addresses.now c.args.marks.now c.loop-u.u _ _ _
      c.requires.rise c.loop-u-test.true w.if-marks-u.true refl w.in_ok-push.ensures.items c.loop-u.invariant)
  | else-marks-u w ↦ rw w.us-is (listing_off c.args.addresses.now c.args.marks.now c.loop-u.u _ w.if-marks-u.false
      c.loop-u.invariant)
]

pub returns : goal.returns
returns c = listing_all c.args.addresses.now c.args.marks.now c.loop-u.u _ c.loop-u-test.false c.loop-u.invariant
