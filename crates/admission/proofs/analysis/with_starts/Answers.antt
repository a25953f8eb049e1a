use Rattle.std.proofs.Common.{◌∙◌}
use Rattle.admission.proofs.Decided.{graph_made}
use Rattle.admission.proofs.analysis.with_starts.Goals as goal

pub returns : goal.returns
returns c =
    graph_made c.args.task.now c.args.code.now c.args.entry c.args.g c.graph_blocks.new.self c.as_slice.result.now c.requires (c.as_slice.ensures.value ∙ c.in_ok-starts.ensures) c.in_ok-graph_blocks.ensures.ok
