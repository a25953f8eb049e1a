use Rattle.predictors.specs.Predicting.{numbers_of}
use Rattle.visa_cli.specs.Running.{HasSummed, plan_on}
use Rattle.visa_cli.proofs.demonstrating.run_all.Given as goal

-- so many jobs have run, and were summed up
abbrev pub invariant-loop-done : goal.invariant-loop-done
invariant-loop-done l = record {
  summed : HasSummed l.fn.seed (plan_on l.fn.mode l.fn._task l.fn.jobs l.fn.runner) l.done l.resting (numbers_of l.predictor) l.summary;
}
