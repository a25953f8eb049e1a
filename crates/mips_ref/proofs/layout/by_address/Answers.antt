use Rattle.std.proofs.Common.{rules}
use Rattle.std.proofs.lemmas.List.Sorted.{IsNonDecreasingBy-from_sort_by_key}
use Rattle.mips_ref.proofs.layout.by_address.Goals as goal

pub returns : goal.returns
returns c = record {
  same = search rules;
  rising = IsNonDecreasingBy-from_sort_by_key (λ s. s.start) _ c.sort_unstable_by_key.ensures.sorted (λ a r q k. search rules);
}
