use Rattle.std.proofs.Common.{arith}
use Rattle.bound_checker.proofs.Going.{all_best, edge_among, more_best}
use Rattle.bound_checker.proofs.gone.first_lost.Goals as goal

pub gone_on-w-requires-clause-edge : goal.gone_on-w-requires-clause-edge
gone_on-w-requires-clause-edge c = edge_among c.args.g.now c.loop-k.k c.edge_at.result (omega arith) c.edge_at.ensures

pub loop-k-preserved : goal.loop-k-preserved
loop-k-preserved c = record {
  before = c.gone_on-w.ensures.before;
  best = more_best c.args.code.now c.args.g.now c.args.lines.now c.args.masks.now c.loop-k.k c.edge_at.result c.loop-k.w.best c.gone_on-w.result.best (omega arith) c.edge_at.ensures c.loop-k.invariant.best c.gone_on-w.ensures.best;
}

pub returns : goal.returns
returns c = all_best c.args.code.now c.args.g.now c.args.lines.now c.args.masks.now c.loop-k.k c.loop-k.w.best (omega arith) c.loop-k.invariant.best
