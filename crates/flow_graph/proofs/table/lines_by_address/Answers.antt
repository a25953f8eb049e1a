use Rattle.std.proofs.Common.{rules}
use Rattle.std.proofs.lemmas.List.Sorted.{IsNonDecreasingBy-from_sort_by_key}
use Rattle.flow_graph.proofs.Lines.{sorted_lines, have_code_words}
use Rattle.flow_graph.proofs.table.lines_by_address.Goals as goal

pub lines-requires : goal.lines-requires
lines-requires c = rw (c.as_slice.ensures, c.as_slice-2.ensures) (have_code_words c.args.code.now c.requires)

pub returns : goal.returns
returns c =
    sorted_lines c.args.code.now _ c.requires
    (rw (← c.as_slice.ensures, ← c.as_slice-2.ensures, ← c.in_ok-lines.ensures) c.in_ok-sort_by_key.ensures.permutation)
    (IsNonDecreasingBy-from_sort_by_key (λ l. l.at) _ c.in_ok-sort_by_key.ensures.sorted (λ a r q k. search rules))
