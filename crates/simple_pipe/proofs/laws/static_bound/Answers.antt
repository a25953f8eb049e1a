use Rattle.simple_pipe.proofs.Static.{fetch_small, rest_cost}
use Rattle.simple_pipe.proofs.laws.static_bound.Goals as goal

pub returns-clause-rest : goal.returns-clause-rest
returns-clause-rest c = rest_cost

pub returns-clause-fetch : goal.returns-clause-fetch
returns-clause-fetch c = fetch_small
