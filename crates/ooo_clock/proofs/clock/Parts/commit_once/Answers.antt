use Rattle.std.proofs.Common.{sym, ◌∙◌}
use Rattle.ooo_clock.proofs.Committed.{empty-made, waiting-made}
use Rattle.ooo_clock.specs.Shows.{speeds_of}
use Rattle.ooo_clock.proofs.clock.Parts.commit_once.Goals as goal

pub returns-then-store_waits-clause-made : goal.returns-then-store_waits-clause-made
returns-then-store_waits-clause-made g c =
    λ q shows. waiting-made (speeds_of c.args.self.now) _ c.args.self.now c.args.state.now.mips _ q shows (sym c.store_waits.ensures ∙ c.if-store_waits.true)

pub returns-in-None-clause-made : goal.returns-in-None-clause-made
returns-in-None-clause-made g c =
    λ q shows. empty-made (speeds_of c.args.self.now) _ c.args.self.now c.args.state.now.mips _ q shows (sym c.store_waits.ensures ∙ c.if-store_waits.false)
    (sym c.first.ensures ∙ c.in-None.is)
