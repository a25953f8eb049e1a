use Rattle.std.proofs.Common.{leb, arith, rules}
use Rattle.std.proofs.lemmas.Grind.{common_steps}
use Rattle.std.proofs.lemmas.List.Sorted.{IsPartitionPoint-from_clause, IsPartitionedBy-leb}
use Rattle.mips_ref.proofs.Places.{starts_rise}
use Rattle.mips_ref.proofs.memory.begun.Goals as goal

pub returns : goal.returns
returns c =
    let parted = IsPartitionedBy-leb (λ s. s.start) c.args.spans.now c.args.at (starts_rise 0 c.args.spans.now c.requires) in
    let point = IsPartitionPoint-from_clause (λ s. leb s.start c.args.at) _ _ c.partition_point.ensures.partitioned parted (λ a r q k. search rules) in
    record {
      within = c.partition_point.ensures.bound;
      at_most = λ k d low. grind (arith, common_steps, point.0 k d (omega arith) low);
      past = λ k d high below. grind (arith, common_steps, point.1 k d high below);
    }
