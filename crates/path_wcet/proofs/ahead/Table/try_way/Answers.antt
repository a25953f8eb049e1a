use Rattle.path_wcet.proofs.Tries.{or_first, or_second, tried_by}
use Rattle.path_wcet.proofs.ahead.Table.try_way.Goals as goal

pub returns-then-along : goal.returns-then-along
returns-then-along c =
    tried_by c.args.self.now c.args.to c.args.turns.now c.args.rets.now c.args.w.now c.args.base c.args.xs.now c.raise_by-along.new.xs c.raise_by-called.new.xs c.entry_at-x.result c.offer.result c.offer_below-below.result c.raise_by-along.result c.raise_by-called.result c.raise_by-along.result
    (or_first c.raise_by-along.result c.raise_by-called.result c.if-along.true) c.requires c.entry_at-x.ensures.is c.offer.ensures c.offer_below-below.ensures c.raise_by-along.ensures c.raise_by-called.ensures

pub returns-else-along : goal.returns-else-along
returns-else-along c =
    tried_by c.args.self.now c.args.to c.args.turns.now c.args.rets.now c.args.w.now c.args.base c.args.xs.now c.raise_by-along.new.xs c.raise_by-called.new.xs c.entry_at-x.result c.offer.result c.offer_below-below.result c.raise_by-along.result c.raise_by-called.result c.raise_by-called.result
    (or_second c.raise_by-along.result c.raise_by-called.result c.if-along.false) c.requires c.entry_at-x.ensures.is c.offer.ensures c.offer_below-below.ensures c.raise_by-along.ensures c.raise_by-called.ensures
