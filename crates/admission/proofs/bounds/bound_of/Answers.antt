use Rattle.std.proofs.Common.{◌≡◌, sym, subst, ℕ, false}
use Rattle.std.specs.List.{Contains}
use Rattle.path_wcet.specs.Known.{is_this}
use Rattle.path_wcet.specs.Longest.{AreCounted, IsOpening, IsSmallPen}
use Rattle.admission.proofs.Limits.{counted, small_pen}
use Rattle.admission.proofs.Grounds.{among_here, calls, opening_here, other_here, target_here, whole}
use Rattle.admission.proofs.Rowing.{bound_made}
use Rattle.admission.proofs.bounds.bound_of.Goals as goal

pub longest-requires-clause-whole : goal.longest-requires-clause-whole
longest-requires-clause-whole c = whole c.args.task.now c.args.code.now c.args.g.now c.args.n.now c.args.cuts.now c.requires.ground

pub longest-requires-clause-calls : goal.longest-requires-clause-calls
longest-requires-clause-calls c = calls c.args.task.now c.args.code.now c.args.g.now c.args.n.now c.args.cuts.now c.requires.ground

pub longest-requires-clause-counted : goal.longest-requires-clause-counted
longest-requires-clause-counted c = subst AreCounted (sym c.requires.ground.has_nest.regions_are) (counted c.args.task.now c.requires.limits)

pub longest-requires-clause-small : goal.longest-requires-clause-small
longest-requires-clause-small c = subst IsSmallPen (sym c.requires.costs.pen_is) (small_pen c.args.task.now.machine c.args.period_ps c.requires.limits.machine c.requires.period)

pub longest-requires-clause-among : goal.longest-requires-clause-among
longest-requires-clause-among c =
    subst (λ (a : ℕ). Contains c.args.n.now.addresses a) (sym c.first_of.ensures)
    (among_here c.args.task.now c.args.code.now c.args.g.now c.args.n.now c.args.cuts.now c.requires.ground c.args.k c.requires.sub)

pub longest-requires-clause-opening : goal.longest-requires-clause-opening
longest-requires-clause-opening c =
    subst (IsOpening c.args.n.now) (sym c.first_of.ensures)
    (opening_here c.args.task.now c.args.code.now c.args.g.now c.args.n.now c.args.cuts.now c.requires.ground c.args.k c.requires.sub)

pub longest-requires-clause-target : goal.longest-requires-clause-target
longest-requires-clause-target c =
    target_here c.args.task.now c.args.code.now c.args.g.now c.args.n.now c.args.cuts.now c.requires.ground c.args.k c.next_of.result (sym c.next_of.ensures)

pub longest-requires-clause-other : goal.longest-requires-clause-other
longest-requires-clause-other c =
    subst (λ (a : ℕ). is_this c.next_of.result a ≡ false) (sym c.first_of.ensures)
    (other_here c.args.task.now c.args.code.now c.args.g.now c.args.n.now c.args.cuts.now c.requires.ground c.args.k c.requires.sub c.next_of.result (sym c.next_of.ensures))

pub returns : goal.returns
returns c =
    bound_made c.args.task.now c.args.g.now c.args.n.now c.args.cuts.now c.args.period_ps c.args.k c.with_lines.result c.in_ok-most.most c.args.costs.now
    c.first_of.result c.next_of.result c.persistent.result c.requires.costs c.first_of.ensures c.next_of.ensures c.in_ok-most.ensures c.persistent.ensures c.with_lines.ensures
