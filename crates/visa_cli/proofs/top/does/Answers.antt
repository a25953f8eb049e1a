use Rattle.command_line.specs.Commands.{seen}
use Rattle.visa_cli.proofs.Performed.{does_command, does_usage, does_without_memory, read_none, read_some}
use Rattle.visa_cli.proofs.top.does.Goals as goal

pub returns-in_default : goal.returns-in_default
returns-in_default g c = does_without_memory _ _ _ _ c.report_memory.result c.report_memory.ensures

pub returns-in-None : goal.returns-in-None
returns-in-None g c = does_usage _ _ _ _ c.report_usage.result (read_none _ c.in-Ok.read c.in-Ok.ensures c.in-None.is) c.report_usage.ensures

pub returns-in-Some : goal.returns-in-Some
returns-in-Some g c =
    does_command _ (seen c.in-Some.command) _ _ _ _ c.perform.result (read_some _ c.in-Ok.read c.in-Some.command c.in-Ok.ensures c.in-Some.is) c.perform.ensures
