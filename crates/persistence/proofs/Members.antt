-- Members of lists, by their places.
use Rattle.std.proofs.Common.{◌≡◌, refl, sym, ◌∙◌, ◌⊎◌, inl, inr, ℕ, suc, zero, ◌≤◌, ◌<◌, ◌^◌, true, false, List, [], ◌∷◌, length, get_or, Ok, Err, Result, arith}
use Rattle.std.specs.Prelude.{is_ok}
use Rattle.std.specs.Result.{MatchResult}
use Rattle.std.specs.List.Sorted.{IsBinarySearchResult, IsNonDecreasing}
use Rattle.std.specs.Ordering.{nat_cmp}
use Rattle.std.proofs.lemmas.Bool.{cases_eq}
use Rattle.std.proofs.lemmas.List.Sorted.{searched}
use Rattle.cache_lru.specs.Recency.{is_among}
use Rattle.cache_lru.proofs.Lines.{among_same, among_other}

pub among_at : (xs : List ℕ) (n k : ℕ) → k < length xs → get_or xs k 0 ≡ n → is_among n xs ≡ true
among_at [] n k h e = absurd (omega (arith, h))
among_at (x ∷ xs) n zero h e = among_same n x xs e
among_at (x ∷ xs) n (suc k) h e = elim (cases_eq x n) [
  | inl same ↦ among_same n x xs same
  | inr other ↦ among_other n x xs other ∙ among_at xs n k (omega arith) e
]

pub among_none : (xs : List ℕ) (n : ℕ) → ((k : ℕ) → k < length xs → get_or xs k 0 ≡ n → ⊥) → is_among n xs ≡ false
among_none [] n h = refl
among_none (x ∷ xs) n h = among_other n x xs (h 0 (omega arith)) ∙ among_none xs n (λ k l. h (suc k) (omega (arith, l)))

found_is : (xs : List ℕ) (n : ℕ) (r : Result ℕ ℕ) → MatchResult r (λ i. (i < length xs) × (get_or xs i 0 ≡ n)) (λ i. (i ≤ length xs) × ((k : ℕ) → k < i → get_or xs k 0 < n) × ((k : ℕ) → i ≤ k → k < length xs → n < get_or xs k 0)) → is_ok r ≡ is_among n xs
found_is xs n (Ok i) h = sym (among_at xs n i h.0 h.1)
found_is xs n (Err i) h = sym (among_none xs n (λ k l e. elim (below k i) [ inl less ↦ absurd (omega (arith, h.1 k less, e)) | inr more ↦ absurd (omega (arith, h.2 k more l, e)) ]))
  where
    below : (k i : ℕ) → (k < i) ⊎ (i ≤ k)
    below k i = grind arith

-- what a binary search finds
pub search_finds : (xs : List ℕ) (n : ℕ) (r : Result ℕ ℕ) → IsBinarySearchResult (λ y. nat_cmp y n) xs r → IsNonDecreasing xs → is_ok r ≡ is_among n xs
search_finds xs n r h rising = found_is xs n r (searched xs n r h (λ i j l m. rising i j 0 l m))

pub none_so_large : (xs : List ℕ) (n : ℕ) → ((k : ℕ) → k < length xs → get_or xs k 0 < 2 ^ 32) → 2 ^ 32 ≤ n → false ≡ is_among n xs
none_so_large xs n small large = sym (among_none xs n (λ k l e. absurd (omega (arith, small k l, e))))
