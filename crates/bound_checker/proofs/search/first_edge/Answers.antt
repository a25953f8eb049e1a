use Rattle.std.proofs.Common.{arith, rules}
use Rattle.std.specs.Prelude.{nat_lt}
use Rattle.std.proofs.lemmas.Grind.{common_steps}
use Rattle.std.proofs.lemmas.List.Sorted.{IsPartitionPoint-from_clause, IsPartitionedBy-ltb}
use Rattle.bound_checker.proofs.search.first_edge.Goals as goal

pub returns : goal.returns
returns c =
    let parted = IsPartitionedBy-ltb (λ e. e.from) c.args.edges.now c.args.a c.requires in
    let point = IsPartitionPoint-from_clause (λ e. nat_lt e.from c.args.a) _ _ c.partition_point.ensures.partitioned parted (λ a r q k. search rules) in
    record {
      within = c.partition_point.ensures.bound;
      earlier = λ j d low. grind (arith, common_steps, point.0 j d (omega arith) low);
      later = λ j d high below. grind (arith, common_steps, point.1 j d high below);
    }
