use Rattle.std.proofs.Common.{◌≤◌, ◌-◌, length, ap, sym, subst, arith}
use Rattle.mode_states.specs.Views.{Resting}
use Rattle.mode_states.proofs.Releases.{no_counts, releases_simple}
use Rattle.mode_states.proofs.idle.Idle.release_simple.Goals as goal

pub invariant_of-result : goal.invariant_of-result
invariant_of-result c =
    let s = c.self.inside in (
      releases_simple s.kept s.state _ _ _ s.fast _ s.pipe _ _ c.self.invariant.0
          (subst (λ (r : Resting). length c.args.input.now ≤ r.kept.input_len)
          (sym c.self.view_is) c.requires) c.open.ensures.state c.open.ensures.computed
          (ap (λ n. n - 1) c.len-point.ensures) c.period-period.ensures c.open-2.ensures.clock c.open-2.ensures.beside
          c.open-2.ensures.speeds
          c.open-2.ensures.machine c.open-2.ensures.cycle c.start.ensures,
      no_counts _ _ _ c.clear.ensures.items (omega (arith, c.clear.ensures.capacity, c.self.invariant.1.room)),
    )
