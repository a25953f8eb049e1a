-- Counts by set, and lists without repetitions.
use Rattle.std.proofs.Common.{◌≡◌, refl, sym, ap, subst, ◌∙◌, inl, inr, ℕ, suc, ◌+◌, ◌≤◌, ◌<◌, Bool, true, false, cond, List, [], ◌∷◌, length, get_or, set, take, replicate, eqb, eq-eqb, ne_eqb, length-take, arith}
use Rattle.std.specs.Prelude.{◌==◌, filter}
use Rattle.std.specs.List.{dedup}
use Rattle.std.proofs.lemmas.List.{get_or-replicate, length-replicate}
use Rattle.std.specs.List.Retain.{IsFiltered, DiffersFromLast}
use Rattle.std.specs.List.Sorted.{IsStrictlyIncreasing, IsPermutation, IsSorted}
use Rattle.std.specs.Ordering.{nat_cmp}
use Rattle.std.proofs.lemmas.Bool.{cases_eq}
use Rattle.std.proofs.lemmas.List.Filters.{dedup_is}
use Rattle.std.proofs.lemmas.List.Sorted.{IsNonDecreasingBy-from_sort, list_any-IsPermutation}
use Rattle.std.proofs.lemmas.Map.Keys.{IsStrictlyIncreasing-dedup}
use Rattle.visa_io.specs.declared.records.Shape.{Shape}
use Rattle.cache_lru.specs.Recency.{is_among, set_of}
use Rattle.cache_lru.proofs.Lines.{among_same, among_other}
use Rattle.cache_lru.proofs.Once.{among-filter}
use Rattle.persistence.specs.Counts.{IsCount, IsEachOnce, IsFreeOf, is_free_by}

-- `dedup` keeps the members
among-dedup_from : (n x : ℕ) (xs : List ℕ) → is_among n (dedup eqb (x ∷ xs)) ≡ is_among n (x ∷ xs)
among-dedup_from n x [] = refl
among-dedup_from n x (y ∷ xs) = elim (cases_eq y x) [
  | inl same ↦ (
      let gone : dedup eqb (x ∷ (y ∷ xs)) ≡ dedup eqb (x ∷ xs) = rw (eq-eqb y x same) refl in
      ap (is_among n) gone ∙ among-dedup_from n x xs ∙ (elim (cases_eq x n) [
        | inl here ↦ among_same n x xs here ∙ sym (among_same n x (y ∷ xs) here)
        | inr other ↦ among_other n x xs other ∙ sym (among_other n x (y ∷ xs) other ∙ among_other n y xs (λ e. other (sym same ∙ e)))
      ]))
  | inr differs ↦ (
      let stays : dedup eqb (x ∷ (y ∷ xs)) ≡ x ∷ dedup eqb (y ∷ xs) = rw (ne_eqb y x differs) refl in
      ap (is_among n) stays ∙ (elim (cases_eq x n) [
        | inl here ↦ among_same n x (dedup eqb (y ∷ xs)) here ∙ sym (among_same n x (y ∷ xs) here)
        | inr other ↦ among_other n x (dedup eqb (y ∷ xs)) other ∙ among-dedup_from n y xs ∙ sym (among_other n x (y ∷ xs) other)
      ]))
]

among-dedup : (n : ℕ) (xs : List ℕ) → is_among n (dedup eqb xs) ≡ is_among n xs
among-dedup n [] = refl
among-dedup n (x ∷ xs) = among-dedup_from n x xs

-- sorted, and each once
pub each_once_of : (xs all sorted once : List ℕ) → all ≡ xs → IsPermutation all sorted → IsSorted nat_cmp sorted → IsFiltered (DiffersFromLast eqb) [] sorted once → IsEachOnce once xs
each_once_of xs all sorted once e moved up kept =
    let is = dedup_is eqb sorted once kept in
    record {
      rising = subst IsStrictlyIncreasing (sym is) (IsStrictlyIncreasing-dedup sorted up);
      same = λ n. ap (is_among n) is ∙ among-dedup n sorted ∙ sym (list_any-IsPermutation (λ other. other == n) all sorted moved) ∙ ap (is_among n) e;
    }

-- an ascending list of those that pass
pub free_of_is : (blocks counts : List ℕ) (shape : Shape) (addresses all free : List ℕ) → all ≡ filter (is_free_by blocks counts shape) addresses → IsPermutation all free → IsSorted nat_cmp free → IsFreeOf blocks counts shape addresses free
free_of_is blocks counts shape addresses all free e moved up = record {
  rising = IsNonDecreasingBy-from_sort (λ x. x) free up;
  same = λ at. sym (list_any-IsPermutation (λ other. other == at) all free moved) ∙ ap (is_among at) e ∙ among-filter (is_free_by blocks counts shape) at addresses;
}

-- counting line by line
pub count_none : (shape : Shape) (lines : List ℕ) → IsCount shape (take 0 lines) (replicate shape.sets 0)
count_none shape lines = record { long = length-replicate shape.sets 0; counted = λ s h. get_or-replicate shape.sets s 0 0 h }

count-le : (p : ℕ → Bool) (xs : List ℕ) → length (filter p xs) ≤ length xs
count-le p [] = omega arith
count-le p (x ∷ xs) = case (p x) (count-le p xs)
  where
    case : (b : Bool) → length (filter p xs) ≤ length xs → length (cond b (x ∷ filter p xs) (filter p xs)) ≤ suc (length xs)
    case true h = omega arith
    case false h = omega arith

pub count_small : (shape : Shape) (lines counts : List ℕ) (i s : ℕ) → IsCount shape (take i lines) counts → s < shape.sets → get_or counts s 0 ≤ i
count_small shape lines counts i s is h = omega (arith, is.counted s h, count-le (λ line. set_of shape line == s) (take i lines), length-take i lines)
