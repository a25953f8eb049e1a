use Rattle.std.proofs.Common.{sym}
use Rattle.std.proofs.lemmas.List.{take_all}
use Rattle.std.proofs.lemmas.List.Elements.{All-more, All-same}
use Rattle.task_layout.specs.Layout.{IsDeclared}
use Rattle.task_layout.proofs.Wanting.{undeclared-here, undeclared-next}
use Rattle.task_layout.proofs.coverage.first_undeclared.Goals as goal

pub returns-in-Some-clause-wanting : goal.returns-in-Some-clause-wanting
returns-in-Some-clause-wanting c =
    c.loop-range.invariant.first c.in-Some.at (undeclared-here _ _ _ _ _ c.loop-range-test.true c.in-Some.ensures.wanting)

pub loop-range-preserved : goal.loop-range-preserved
loop-range-preserved c = record {
  declared = All-more (IsDeclared c.args.memory.now) _ _ _ c.loop-range-test.true c.loop-range.invariant.declared c.in_default.ensures.declared;
  first = λ a later. c.loop-range.invariant.first a (undeclared-next _ _ _ _ a c.loop-range-test.true c.in_default.ensures.declared later);
}

pub returns-clause-declared : goal.returns-clause-declared
returns-clause-declared c =
    All-same (IsDeclared c.args.memory.now) _ _ (sym (take_all _ _ c.loop-range-test.false)) c.loop-range.invariant.declared
