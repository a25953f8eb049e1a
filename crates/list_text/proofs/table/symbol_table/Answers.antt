use Rattle.std.proofs.Common.{rules, ◌≡◌}
use Rattle.std.proofs.lemmas.List.Sorted.{IsNonDecreasingBy-from_sort_by_key, answers_always}
use Rattle.list_text.proofs.Named.{sorted_table}
use Rattle.list_text.proofs.table.symbol_table.Goals as goal

pub returns : goal.returns
returns c =
    sorted_table c.args.symbols.now c.in_ok-table.table.items c.sort_by_key.new.self.items c.in_ok-table.ensures
    (IsNonDecreasingBy-from_sort_by_key (λ l. l.at) _ c.in_ok-sort_by_key.ensures.sorted (λ a r q k. search rules))
    (c.sort_by_key.ensures.stable (λ l. l.at) (answers_always _ (λ a r. r ≡ a.0.now.at) _ (λ f a r q k. search rules)))
