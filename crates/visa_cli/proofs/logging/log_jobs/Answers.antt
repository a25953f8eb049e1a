use Rattle.std.proofs.Common.{arith}
use Rattle.visa_cli.specs.Running.{plan_on}
use Rattle.visa_cli.proofs.Logged.{all_logged, first_logged, header_stops, input_fits, log_stops, next_logged, next_room, still_planned}
use Rattle.visa_cli.proofs.logging.log_jobs.Goals as goal

pub returns-in-Err : goal.returns-in-Err
returns-in-Err g c =
    header_stops c.args.kind (plan_on c.args.mode c.args.task.now c.args.jobs.now c.args.runner) _ _ _ c.header_of.result.now c.header_of.ensures c.requires.runnable
    c.in-Err.ensures.failed

pub loop-done-init : goal.loop-done-init
loop-done-init g c = record {
  logged = first_logged c.args.kind (plan_on c.args.mode c.args.task.now c.args.jobs.now c.args.runner) c.args.runner c.predictor_of-predictor.result _ _
      c.header_of.result.now c.predictor_of-predictor.ensures c.header_of.ensures c.requires.stands c.in-Ok.ensures.ok;
  room = c.requires.room;
}

pub run_next-next-requires-clause-fits : goal.run_next-next-requires-clause-fits
run_next-next-requires-clause-fits g c =
    input_fits c.args.kind (plan_on c.args.mode c.args.task.now c.args.jobs.now c.args.runner) c.loop-done.done _ c.loop-done.resting _ c.input.result.now
    c.requires.runnable c.loop-done.invariant.logged.stands c.input.ensures

pub run_next-next-requires-clause-planned : goal.run_next-next-requires-clause-planned
run_next-next-requires-clause-planned g c =
    still_planned c.args.kind (plan_on c.args.mode c.args.task.now c.args.jobs.now c.args.runner) _ c.loop-done.resting _ c.requires.runnable
    c.loop-done.invariant.logged.stands

pub put_job-requires-clause-output : goal.put_job-requires-clause-output
put_job-requires-clause-output g c =
    next_room c.args.kind (plan_on c.args.mode c.args.task.now c.args.jobs.now c.args.runner) c.loop-done.done c.loop-done.resting c.run_next-next.result.0
    c.run_next-next.result.1 _ _ _ _ c.input.result.now c.loop-done.invariant.logged c.run_next-next.ensures

pub put_job-requires-clause-room : goal.put_job-requires-clause-room
put_job-requires-clause-room g c = c.loop-done.invariant.room

pub returns-in-Err-put_job : goal.returns-in-Err-put_job
returns-in-Err-put_job g c =
    log_stops c.args.kind (plan_on c.args.mode c.args.task.now c.args.jobs.now c.args.runner) c.loop-done.done c.loop-done.resting c.run_next-next.result.0
    c.run_next-next.result.1 _ _ _ _ _ _ c.input.result.now c.requires.runnable c.loop-done.invariant.logged (omega (arith, c.loop-done-test.true, c.len-done-end.ensures))
    c.input.ensures c.run_next-next.ensures c.in-Err-put_job.ensures.puts

pub loop-done-preserved : goal.loop-done-preserved
loop-done-preserved g c = record {
  logged = next_logged c.args.kind (plan_on c.args.mode c.args.task.now c.args.jobs.now c.args.runner) c.loop-done.done c.loop-done.resting c.run_next-next.result.0
      c.run_next-next.result.1 _ _ _ _ _ c.input.result.now c.loop-done.invariant.logged c.input.ensures c.run_next-next.ensures c.in-Ok-put_job.ensures.puts;
  room = c.put_job.ensures.room;
}

pub returns : goal.returns
returns g c =
    all_logged c.args.kind (plan_on c.args.mode c.args.task.now c.args.jobs.now c.args.runner) c.loop-done.done c.loop-done.resting _ _ _ _
    c.loop-done.invariant.logged (omega (arith, c.loop-done-test.false, c.loop-done.auto.done-end, c.len-done-end.ensures))
