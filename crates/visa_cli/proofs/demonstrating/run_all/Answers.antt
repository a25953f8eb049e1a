use Rattle.std.proofs.Common.{◌∙◌, refl, sym, ap, subst, ℕ, List, [], arith}
use Rattle.mips_ref.specs.Mips.{Held}
use Rattle.command_line.specs.declared.forms.PredictorKind.TheVariants.{Static}
use Rattle.predictors.specs.Predicting.{numbers_of}
use Rattle.job_runner.specs.Run.{before}
use Rattle.job_runner.specs.Running.{StandsAt}
use Rattle.visa_cli.specs.Run.{setting_of}
use Rattle.visa_cli.specs.Running.{plan_on}
use Rattle.visa_cli.proofs.Logged.{input_fits, still_planned}
use Rattle.visa_cli.proofs.Summed.{all_summed, first_summed, jobs_few, next_summed, some_fast, some_missed}
use Rattle.visa_cli.proofs.demonstrating.run_all.Goals as goal

pub loop-done-init : goal.loop-done-init
loop-done-init c =
    let p = plan_on c.args.mode c.args._task.now c.args.jobs.now c.args.runner in
    let Stands : List ℕ → Type 0 = λ ns. StandsAt (setting_of Static p) (before (setting_of Static p) []) c.args.runner ns in
    record { summed = first_summed c.args.seed p _ _ _ (subst Stands (ap numbers_of (sym c.predictor_of-predictor.ensures)) c.requires.stands) refl }

pub run_next-next-requires-clause-fits : goal.run_next-next-requires-clause-fits
run_next-next-requires-clause-fits c =
    let p = plan_on c.args.mode c.args._task.now c.args.jobs.now c.args.runner in
    input_fits Static p c.loop-done.done _ _ _ _ c.requires.runnable c.loop-done.invariant.summed.stands c.input.ensures

pub run_next-next-requires-clause-planned : goal.run_next-next-requires-clause-planned
run_next-next-requires-clause-planned c =
    let p = plan_on c.args.mode c.args._task.now c.args.jobs.now c.args.runner in
    still_planned Static p _ _ _ c.requires.runnable c.loop-done.invariant.summed.stands

pub with_job-summary-requires-clause-jobs : goal.with_job-summary-requires-clause-jobs
with_job-summary-requires-clause-jobs c =
    jobs_few c.args.seed (plan_on c.args.mode c.args._task.now c.args.jobs.now c.args.runner) c.loop-done.done _ _ _ c.loop-done.invariant.summed
    (omega (arith, c.loop-done-test.true, c.loop-done.auto.done-end))

pub with_job-summary-requires-clause-fast : goal.with_job-summary-requires-clause-fast
with_job-summary-requires-clause-fast c =
    some_fast c.args.seed (plan_on c.args.mode c.args._task.now c.args.jobs.now c.args.runner) c.loop-done.done _ _ _ c.loop-done.invariant.summed

pub with_job-summary-requires-clause-missed : goal.with_job-summary-requires-clause-missed
with_job-summary-requires-clause-missed c =
    some_missed c.args.seed (plan_on c.args.mode c.args._task.now c.args.jobs.now c.args.runner) c.loop-done.done _ _ _ c.loop-done.invariant.summed

pub loop-done-preserved : goal.loop-done-preserved
loop-done-preserved c = record {
  summed = next_summed c.args.seed (plan_on c.args.mode c.args._task.now c.args.jobs.now c.args.runner) c.loop-done.done _ _ _ _ _ _ _ _ _
      c.loop-done.invariant.summed c.input.ensures c.run_next-next.ensures
      (c.output.ensures.value ∙ ap (λ (x : Held). x.mips.output) c.state.ensures) c.with_job-summary.ensures;
}

pub returns : goal.returns
returns c =
    all_summed c.args.seed (plan_on c.args.mode c.args._task.now c.args.jobs.now c.args.runner) c.loop-done.done _ _ _ c.loop-done.invariant.summed
    (omega (arith, c.loop-done-test.false, c.loop-done.auto.done-end))
