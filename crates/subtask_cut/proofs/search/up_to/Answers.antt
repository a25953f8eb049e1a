use Rattle.std.proofs.Common.{leb, arith, rules}
use Rattle.std.proofs.lemmas.Grind.{common_steps}
use Rattle.std.proofs.lemmas.List.Sorted.{IsPartitionPoint-from_clause, IsPartitionedBy-leb}
use Rattle.subtask_cut.proofs.Found.{leaving_rise}
use Rattle.subtask_cut.proofs.search.up_to.Goals as goal

pub returns : goal.returns
returns c =
    let parted = IsPartitionedBy-leb (λ e. e.from) c.args.edges.now c.args.a
    (leaving_rise c.args.edges.now c.requires) in
    let point = IsPartitionPoint-from_clause (λ e. leb e.from c.args.a) _ _ c.partition_point.ensures.partitioned
    parted (λ a r q k. search rules) in
    record {
      within = c.partition_point.ensures.bound;
      below = λ k d low. grind (arith, common_steps, point.0 k d (omega arith) low);
      past = λ k d high inside. grind (arith, common_steps, point.1 k d high inside);
    }
