use Rattle.std.proofs.Common.{rules, ◌≡◌}
use Rattle.std.proofs.lemmas.Result.{on_ok_weaker}
use Rattle.std.proofs.lemmas.List.Sorted.{IsNonDecreasingBy-from_sort_by_key, answers_always}
use Rattle.visa_io.proofs.Ordered.{sorted_stably}
use Rattle.visa_io.proofs.image_code.sort_by_start.Goals as goal

pub returns : goal.returns
returns c =
    on_ok_weaker c.sort_by_key.result
    (λ sorted. sorted_stably c.args.pieces.now.items c.sort_by_key.new.self.items
    (IsNonDecreasingBy-from_sort_by_key (λ p. p.span.start) _ sorted (λ a r q k. search rules))
    (c.sort_by_key.ensures.stable (λ p. p.span.start) (answers_always _ (λ a r. r ≡ a.0.now.span.start) _ (λ f a r q k. search rules))))
    c.sort_by_key.ensures.sorted
