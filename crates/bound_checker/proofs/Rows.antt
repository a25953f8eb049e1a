-- Rows of marks, and facts over calls.
use Rattle.std.proofs.Common.{◌≡◌, ◌∙◌, sym, ap, subst, ℕ, ◌<◌, Bool, true, false, cond, List, Option, length}
use Rattle.std.specs.Prelude.{slice_index}
use Rattle.std.specs.List.Sorted.{IsStrictlyIncreasing}
use Rattle.range_facts.specs.Ranges.{IsFact, unknown}
use Rattle.range_facts.specs.Transfer.{AreFacts, fact_of}
use Rattle.range_facts.specs.declared.facts.Facts.{Facts}
use Rattle.range_facts.specs.declared.strided.Strided.{Strided}
use Rattle.range_facts.proofs.Sets.{unknown_fact}
use Rattle.run_law.specs.Certificate.{masked_if}
use Rattle.bound_checker.specs.Lost.{fact_over, mask_of}
use Rattle.bound_checker.specs.Marks.{mark_at}
use Rattle.bound_checker.proofs.Edges.{place_is}

pub mask_at : (functions : List ℕ) (marks : List Bool) (f k r : ℕ) (b : Bool) → IsStrictlyIncreasing functions → k < length functions → slice_index functions k ≡ f → b ≡ mark_at marks k r → b ≡ mask_of functions marks f r
unfolding mask_of
mask_at functions marks f k r b rise within at is = is ∙ ap (λ j. mark_at marks j r) (sym (place_is functions k f rise within at))

pub over_is_fact : (mask : ℕ → ℕ → Bool) (callee : Option ℕ) (f : Facts) (r : ℕ) (s : Strided) → AreFacts f → s ≡ fact_over mask callee f r → IsFact s
over_is_fact mask callee f r s are is = subst (λ t. IsFact t) (sym is) (by_mask (masked_if mask callee r))
  where
    by_mask : (b : Bool) → IsFact (cond b unknown (fact_of f r))
    by_mask true = unknown_fact
    by_mask false = are.each r
