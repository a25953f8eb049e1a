use Rattle.std.proofs.Common.{sym, subst}
use Rattle.command_line.specs.declared.forms.PredictorKind.TheVariants.{Static}
use Rattle.visa_cli.specs.Demo.{IsDemo}
use Rattle.visa_cli.specs.Running.{MayRun, plan_on}
use Rattle.visa_cli.specs.declared.plan.Plan.{Plan}
use Rattle.visa_cli.proofs.Performed.{all_put, memory_short, some_put, summed_lines}
use Rattle.visa_cli.proofs.PlanRuns.{demo_of}
use Rattle.visa_cli.proofs.demonstrating.sum_up.Goals as goal

pub returns-in_default : goal.returns-in_default
returns-in_default g c =
    let sums = demo_of c.args.seed c.args.plan c.requires in
    memory_short (IsDemo c.args.seed) c.args.plan sums.0 _ _ c.report_memory.result sums.1 c.report_memory.ensures

pub run_all-summary-requires-clause-runnable : goal.run_all-summary-requires-clause-runnable
run_all-summary-requires-clause-runnable g c = let Runs : Plan → Type 0 = λ p. MayRun p in subst Runs (sym c.in-Ok.ensures.plan) c.requires

pub run_all-summary-requires-clause-stands : goal.run_all-summary-requires-clause-stands
run_all-summary-requires-clause-stands g c = c.in-Ok.ensures.stands Static

pub returns-in-Ok-put_summary : goal.returns-in-Ok-put_summary
returns-in-Ok-put_summary g c =
    let p = plan_on c.in-Ok.opened.mode c.in-Ok.opened.task c.in-Ok.opened.jobs c.in-Ok.opened.runner in
    all_put (IsDemo c.args.seed) c.args.plan p _ _ _ c.in-Ok.ensures.plan (summed_lines c.args.seed p c.run_all-summary.result c.run_all-summary.ensures)
    c.in-Ok-put_summary.ensures.puts

pub returns : goal.returns
returns g c =
    let p = plan_on c.in-Ok.opened.mode c.in-Ok.opened.task c.in-Ok.opened.jobs c.in-Ok.opened.runner in
    some_put (IsDemo c.args.seed) c.args.plan p _ _ _ c.in-Ok.ensures.plan (summed_lines c.args.seed p c.run_all-summary.result c.run_all-summary.ensures)
    c.in-Err.ensures.puts
