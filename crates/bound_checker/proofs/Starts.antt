-- An address that a search doesn't find starts no block.
use Rattle.std.proofs.Common.{◌≡◌, ◌∙◌, sym, ℕ, false, List, get_or}
use Rattle.std.specs.Prelude.{Err, ◌==◌}
use Rattle.std.specs.Ordering.{nat_cmp}
use Rattle.std.specs.List.{list_any}
use Rattle.std.specs.List.Sorted.{IsBinarySearchResult, IsStrictlyIncreasing}
use Rattle.std.proofs.lemmas.Bool.{ne_eqb}
use Rattle.std.proofs.lemmas.List.{get_or_default}
use Rattle.std.proofs.lemmas.List.Folds.{list_any_none}
use Rattle.loop_regions.proofs.Numbers.{not_missed}

pub none_starts : (blocks : List ℕ) (a i : ℕ) → IsStrictlyIncreasing blocks → IsBinarySearchResult (λ y. nat_cmp y a) blocks (Err i) → false ≡ list_any (λ b. b == a) blocks
none_starts blocks a i rise answer =
    sym (list_any_none (λ b. b == a) blocks
    (λ k d h. ne_eqb (get_or blocks k d) a (λ e. not_missed blocks a i rise (k, h, get_or_default blocks k a d h ∙ e) answer)))
