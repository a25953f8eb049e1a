use Rattle.predictors.specs.Predicting.{numbers_of}
use Rattle.visa_cli.specs.Running.{HasLogged, IsRoomOf, plan_on}
use Rattle.visa_cli.proofs.logging.log_jobs.Given as goal

-- so many jobs have run, and their log was put
abbrev pub invariant-loop-done : goal.invariant-loop-done
invariant-loop-done g l = record {
  logged : HasLogged l.fn.kind (plan_on l.mode l.task l.jobs l.fn.runner) l.done l.resting (numbers_of l.predictor) (g.S.Sink.taken l.fn.sink) (g.S.Sink.taken l.sink);
  room : IsRoomOf l.task l.room;
}
