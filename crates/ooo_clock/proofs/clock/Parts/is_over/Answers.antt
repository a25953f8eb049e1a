use Rattle.std.proofs.Common.{false, sym, true, ◌∙◌}
use Rattle.ooo_clock.proofs.Finished.{over-some}
use Rattle.ooo_clock.proofs.clock.Parts.is_over.Goals as goal

pub returns-then-running : goal.returns-then-running
returns-then-running c =
    over-some c.args.self.now c.args.k c.entry.result c.in-Some.t true c.entry.ensures (sym c.times_at.ensures ∙ c.in-Some.is)
    (sym c.if-running.true ∙ c.is_running-running.ensures)

pub returns-else-running : goal.returns-else-running
returns-else-running c =
    c.if-running.false
    ∙ over-some c.args.self.now c.args.k c.entry.result c.in-Some.t false c.entry.ensures (sym c.times_at.ensures ∙ c.in-Some.is)
    (sym c.if-running.false ∙ c.is_running-running.ensures)
