use Rattle.job_runner.proofs.Ends.{simple_has_run}
use Rattle.job_runner.proofs.runner.Runner.job_simple.Goals as goal

pub returns : goal.returns
returns c = λ predicts numbers.
    let r = c.self.inside in
    let e = c.run-idle.ensures in
    simple_has_run predicts (record { idle = r.idle; history = r.history; ran = r.ran }) _ numbers _ _ _ _ _
    c.self.view_is c.saturating_add-number.ensures c.release_simple.ensures e.ends e.in_time
