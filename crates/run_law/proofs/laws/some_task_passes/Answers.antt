use Rattle.run_law.proofs.ExampleWhole.{is_analysed}
use Rattle.run_law.proofs.laws.some_task_passes.Goals as goal

pub returns : goal.returns
returns c = is_analysed
