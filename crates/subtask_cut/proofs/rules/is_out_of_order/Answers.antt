use Rattle.std.proofs.Common.{◌∙◌, sym}
use Rattle.std.specs.Prelude.{slice_index}
use Rattle.subtask_cut.proofs.Faults.{ok_more, order_again, order_entry, order_first, says_order}
use Rattle.subtask_cut.proofs.rules.is_out_of_order.Goals as goal

pub returns-then-cuts-k : goal.returns-then-cuts-k
returns-then-cuts-k c = order_entry c.args.g.now c.args.cuts.now _ _ (c.if-cuts-k.true ∙ c.entry.ensures)

pub returns-then-is_again : goal.returns-then-is_again
returns-then-is_again c = order_again c.args.g.now c.args.cuts.now c.args.k _ c.requires.below c.if-is_again.ensures

pub returns-then-k-eq0 : goal.returns-then-k-eq0
returns-then-k-eq0 c =
    order_first c.args.g.now c.args.cuts.now c.args.k _ c.requires.below c.if-k-eq0.true
    (λ e. c.if-cuts-k.false (e ∙ sym c.entry.ensures)) c.if-is_again.ensures

pub returns : goal.returns
returns c =
    ok_more _ _
    (λ b says. says_order c.args.g.now c.args.cuts.now c.args.k
    (slice_index c.args.cuts.now c.args.k) b c.requires.below c.if-k-eq0.false
    (λ e. c.if-cuts-k.false (e ∙ sym c.entry.ensures)) c.if-is_again.ensures says) c.is_reached_without.result
    c.is_reached_without.ensures
