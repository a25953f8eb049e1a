use Rattle.std.proofs.Common.{arith, sym, subst, ◌∙◌}
use Rattle.std.proofs.lemmas.Grind.{common_steps}
use Rattle.std.specs.Prelude.{◌≡◌, ◌-◌, max}
use Rattle.ooo_clock.proofs.Opened.{in-flight-is}
use Rattle.ooo_clock.specs.Fasts.{IsAt}
use Rattle.ooo_clock.proofs.fast.Fast.in_flight.Goals as goal

pub returns-clause-is : goal.returns-clause-is
returns-clause-is c =
    let i = c.self.inside in
    let r = i.parts in
    let flight : c.max-2.result ≡ max (r.fetch_free - r.cycle) (max (r.load_free - r.cycle) (r.store_free - r.cycle)) = grind (arith, common_steps) in
    λ x numbers q h. flight ∙ in-flight-is i.machine r i.commits.items x numbers q (subst (λ f. IsAt f x numbers q) (sym c.self.view_is) h)
