use Rattle.std.proofs.Common.{ap, length, List, ℕ, arith}
use Rattle.mode_states.specs.Views.{Resting}
use Rattle.mode_states.proofs.idle.Idle.counts.Goals as goal

pub returns-clause-few : goal.returns-clause-few
returns-clause-few c =
    let cuts = ap (λ (r : Resting). length r.kept.cuts) c.self.view_is in
    let counts = ap (λ (l : List ℕ). length l) c.as_slice.ensures.value in
    omega (arith, cuts, counts, c.self.invariant.1.few)
