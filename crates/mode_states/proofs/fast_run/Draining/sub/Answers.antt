use Rattle.std.proofs.Common.{ap, length, arith}
use Rattle.mode_states.specs.Views.{Waiting}
use Rattle.mode_states.proofs.fast_run.Draining.sub.Goals as goal

pub returns-clause-most : goal.returns-clause-most
returns-clause-most c =
    let cuts = ap (λ (d : Waiting). length d.kept.cuts) c.self.view_is in
    omega (arith, cuts, c.self.invariant.0.last)
