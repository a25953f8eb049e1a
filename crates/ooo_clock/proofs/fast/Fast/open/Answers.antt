use Rattle.std.proofs.Common.{ap, subst}
use Rattle.ooo_clock.proofs.Opened.{reset-shows, shows-at}
use Rattle.ooo_clock.specs.Clock.{opening}
use Rattle.ooo_clock.specs.Fasts.{Clocked, IsAt, clocked}
use Rattle.ooo_clock.proofs.fast.Fast.open.Goals as goal

pub returns-clause-clock : goal.returns-clause-clock
returns-clause-clock c =
    let i = c.self.inside in
    let x = c.args.state.now.mips in
    λ numbers.
    let at = shows-at i.machine c.open.new.self c.clear.new.self.items x numbers (opening i.machine.rob x numbers)
    (reset-shows i.machine i.parts c.open.new.self _ x c.cycles_of-miss.result c.cycles_of-store.result numbers c.self.invariant c.open.ensures) in
    subst (λ rob. IsAt (clocked i.machine c.open.new.self c.clear.new.self.items) x numbers (opening rob x numbers))
    (ap (λ (f : Clocked). f.machine.rob) c.self.view_is) at
