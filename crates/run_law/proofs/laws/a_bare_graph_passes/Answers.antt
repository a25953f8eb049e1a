use Rattle.run_law.proofs.Bare.{bare_passes}
use Rattle.run_law.proofs.laws.a_bare_graph_passes.Goals as goal

pub returns : goal.returns
returns c = bare_passes
