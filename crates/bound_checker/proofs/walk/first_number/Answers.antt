use Rattle.std.proofs.Common.{arith, rules}
use Rattle.std.specs.Prelude.{nat_lt}
use Rattle.std.proofs.lemmas.Grind.{common_steps}
use Rattle.std.proofs.lemmas.List.Sorted.{IsNonDecreasingBy-from_default, IsPartitionPoint-from_clause, IsPartitionedBy-ltb}
use Rattle.loop_regions.proofs.Numbers.{rising}
use Rattle.bound_checker.proofs.walk.first_number.Goals as goal

pub returns : goal.returns
returns c =
    let parted = IsPartitionedBy-ltb (λ u. u) c.args.addresses.now c.args.a (IsNonDecreasingBy-from_default (λ u. u) c.args.addresses.now 0 (rising c.args.addresses.now c.requires)) in
    let point = IsPartitionPoint-from_clause (λ u. nat_lt u c.args.a) _ _ c.partition_point.ensures.partitioned parted (λ a r q k. search rules) in
    record {
      within = c.partition_point.ensures.bound;
      earlier = λ j low. grind (arith, common_steps, point.0 j 0 (omega arith) low);
      later = λ j high below. grind (arith, common_steps, point.1 j 0 high below);
    }
