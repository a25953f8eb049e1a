use Rattle.std.proofs.Common.{◌≤◌, length, refl, sym, subst, arith}
use Rattle.mode_states.specs.Kept.{IsPlanned}
use Rattle.mode_states.specs.Views.{Resting}
use Rattle.mode_states.proofs.Releases.{releases}
use Rattle.mode_states.proofs.idle.Idle.release.Goals as goal

pub invariant_of-result : goal.invariant_of-result
invariant_of-result c =
    let s = c.self.inside in
    releases s.kept s.state _ _ _ s.fast _ s.pipe _ _ c.self.invariant.0
    (subst (λ (r : Resting). IsPlanned r.kept c.args.pair) (sym c.self.view_is) c.requires.planned)
    (subst (λ (r : Resting). length c.args.input.now ≤ r.kept.input_len)
    (sym c.self.view_is) c.requires.fits) c.open.ensures.state c.open.ensures.computed
    c.period.ensures c.open-2.ensures.clock c.open-2.ensures.beside c.open-2.ensures.speeds c.open-2.ensures.machine
    c.open-2.ensures.cycle
    (record {
      counts = c.clear.ensures.items;
      last = refl;
      room = omega (arith, c.clear.ensures.capacity, c.self.invariant.1.room);
    })
