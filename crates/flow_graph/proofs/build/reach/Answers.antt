use Rattle.std.proofs.Common.{refl, length}
use Rattle.flow_graph.proofs.Levels.{all_one}
use Rattle.flow_graph.proofs.Orders.{sorted_reach}
use Rattle.flow_graph.proofs.build.reach.Goals as goal

pub search-requires : goal.search-requires
search-requires c = record {
  net = c.requires.net;
  starts = all_one (length c.args.net.now) c.args.start c.requires.start;
  beside = c.requires.beside;
  fresh = c.requires.fresh;
}

pub returns-clause-found : goal.returns-clause-found
returns-clause-found c = sorted_reach c.args.net.now c.args.enters c.args.start _ c.in_ok-found.found.items _ refl c.in_ok-found.ensures.found c.in_ok-sort.ensures.permutation c.in_ok-sort.ensures.sorted
