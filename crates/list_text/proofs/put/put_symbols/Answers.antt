use Rattle.std.proofs.Common.{rules, sym, subst, nat_lt, arith}
use Rattle.std.proofs.lemmas.List.Sorted.{IsPartitionedBy-ltb, IsPartitionPoint-from_clause}
use Rattle.visa_io.specs.Puts.{Puts}
use Rattle.list_text.proofs.Runs.{from_index, lines_sliced}
use Rattle.list_text.proofs.put.put_symbols.Goals as goal

pub put_run-requires-clause-from : goal.put_run-requires-clause-from
put_run-requires-clause-from g c =
    let parts = IsPartitionPoint-from_clause (λ l. nat_lt l.at c.args.at) c.args.table.now c.partition_point-first.result c.partition_point-first.ensures.partitioned (IsPartitionedBy-ltb (λ l. l.at) c.args.table.now c.args.at c.requires) (λ a r q k. search rules) in
    from_index c.args.table.now c.args.at c.partition_point-first.result (λ k d low high. parts.1 k d low high)

pub returns : goal.returns
returns g c =
    let parts = IsPartitionPoint-from_clause (λ l. nat_lt l.at c.args.at) c.args.table.now c.partition_point-first.result c.partition_point-first.ensures.partitioned (IsPartitionedBy-ltb (λ l. l.at) c.args.table.now c.args.at c.requires) (λ a r q k. search rules) in
    subst (λ lines. Puts (g.S.Sink.taken c.args.sink.now) (g.S.Sink.taken c.put_run.new.sink) lines c.put_run.result) (sym (lines_sliced c.args.table.now c.args.at c.partition_point-first.result (λ k d low. parts.0 k d (omega arith) low))) c.put_run.ensures
