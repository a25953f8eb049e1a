use Rattle.std.proofs.Common.{sym, subst}
use Rattle.predictors.specs.Predicting.{numbers_of}
use Rattle.admission.specs.declared.mode.Mode.{Mode}
use Rattle.job_runner.specs.Running.{HasRun}
use Rattle.visa_cli.specs.Run.{builtin_predicts}
use Rattle.visa_cli.proofs.running.run_next.Goals as goal

pub returns-in-Simple : goal.returns-in-Simple
returns-in-Simple c =
    let numbers = numbers_of c.args.predictor.now in
    let Ran : Mode → Type 0 = λ m. HasRun m builtin_predicts c.args.runner numbers c.args.input.now c.job_simple.result.0 c.job_simple.result.1 numbers in
    subst Ran (sym c.in-Simple.is) (c.job_simple.ensures builtin_predicts numbers)
