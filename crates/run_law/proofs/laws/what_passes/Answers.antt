use Rattle.run_law.proofs.Blocking.{blocked_of}
use Rattle.run_law.proofs.Certifying.{kept_of}
use Rattle.run_law.proofs.Flows.{flowing_of}
use Rattle.run_law.proofs.Looping.{graph_of, long_units}
use Rattle.run_law.proofs.Masking.{masked_of}
use Rattle.run_law.proofs.Rules.{counted_of, nested_of}
use Rattle.run_law.proofs.laws.what_passes.Goals as goal

pub returns-clause-graph : goal.returns-clause-graph
returns-clause-graph c = flowing_of

pub returns-clause-loops : goal.returns-clause-loops
returns-clause-loops c = graph_of

pub returns-clause-long : goal.returns-clause-long
returns-clause-long c = long_units

pub returns-clause-masks : goal.returns-clause-masks
returns-clause-masks c = masked_of

pub returns-clause-blocks : goal.returns-clause-blocks
returns-clause-blocks c = blocked_of

pub returns-clause-regions : goal.returns-clause-regions
returns-clause-regions c = nested_of

pub returns-clause-counts : goal.returns-clause-counts
returns-clause-counts c = counted_of

pub returns-clause-facts : goal.returns-clause-facts
returns-clause-facts c = kept_of
