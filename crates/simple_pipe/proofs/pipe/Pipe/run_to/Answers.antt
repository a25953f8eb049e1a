use Rattle.std.proofs.Common.{◌≡◌, Some}
use Rattle.simple_pipe.proofs.pipe.Pipe.run_to.Goals as goal

pub run-requires-clause-empty : goal.run-requires-clause-empty
run-requires-clause-empty c =
    let started : c.self.inside.pace ≡ Some c.unwrap-pace.result = cc in
    c.self.invariant.empty c.unwrap-pace.result started
