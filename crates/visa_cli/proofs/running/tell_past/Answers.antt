use Rattle.std.proofs.Common.{◌∙◌, sym, ap, ◌+◌, length}
use Rattle.mode_states.specs.Views.{Resting}
use Rattle.visa_cli.proofs.PastCounts.{sub_known, told_next}
use Rattle.visa_cli.proofs.running.tell_past.Goals as goal

pub past-requires-clause-most : goal.past-requires-clause-most
past-requires-clause-most c =
    sub_known c.args.past.now c.loop-told.told-index (length c.args.runner.now.idle.kept.cuts + 1) _ _ c.requires.subs c.loop-told-test.true
    (ap (λ (r : Resting). length r.kept.cuts + 1) (sym c.loop-told.invariant.idle))

pub loop-told-preserved : goal.loop-told-preserved
loop-told-preserved c = record {
  idle = c.past.ensures.idle ∙ c.loop-told.invariant.idle;
  ran = c.past.ensures.ran ∙ c.loop-told.invariant.ran;
  counts = told_next _ c.args.past.now c.loop-told.told-index _ c.loop-told-test.true (c.past.ensures.stands _ c.loop-told.invariant.counts);
}
