use Rattle.cache_lru.proofs.Touches.{touched_holds, touched_hits}
use Rattle.cache_lru.proofs.table.Table.touch.Goals as goal

pub returns-clause-hit : goal.returns-clause-hit
returns-clause-hit c = λ accesses holds.
    touched_hits c.args.self.now c.self.inside.shape c.self.inside.rows.items c.self.inside.set_bits c.args.line c.remainder-set.result accesses c.renew_in.result c.self.view_is c.self.invariant.sets_are c.remainder-set.ensures c.renew_in.ensures.hit holds

pub returns-clause-holds : goal.returns-clause-holds
returns-clause-holds c = λ accesses holds.
    touched_holds c.args.self.now c.self.inside.shape c.self.inside.rows.items c.renew_in.new.rows.items c.self.inside.set_bits c.args.line c.remainder-set.result accesses c.self.view_is c.self.invariant.sets_are c.self.invariant.all_rows c.remainder-set.ensures c.renew_in.ensures.rows holds
