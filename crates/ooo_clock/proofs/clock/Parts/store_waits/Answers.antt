use Rattle.std.proofs.Common.{sym, ◌∙◌}
use Rattle.ooo_clock.proofs.Seen.{waits-else, waits-then}
use Rattle.ooo_clock.proofs.clock.Parts.store_waits.Goals as goal

pub returns-then-stores : goal.returns-then-stores
returns-then-stores c =
    waits-then c.args.self.now.window.entries c.in-Some.v c.args.self.now.store_free c.args.self.now.cycle c.stores.result
    (sym c.first.ensures ∙ c.in-Some.is) c.stores.ensures c.if-stores.true

pub returns-else-stores : goal.returns-else-stores
returns-else-stores c =
    waits-else c.args.self.now.window.entries c.in-Some.v c.args.self.now.store_free c.args.self.now.cycle c.stores.result
    (sym c.first.ensures ∙ c.in-Some.is) c.stores.ensures c.if-stores.false
