-- What holds of a list in another order, and a list that is written back whole.
use Rattle.std.proofs.Common.{◌≡◌, ap, ◌∙◌, ℕ, List, ◌++◌, length, get_or, take}
use Rattle.std.proofs.Math.Seq.{take-append_seam}
use Rattle.std.specs.List.{All}
use Rattle.std.specs.List.Sorted.{IsPermutation}
use Rattle.std.proofs.lemmas.List.Elements.{All-contains, Contains-get_or}
use Rattle.std.proofs.lemmas.List.Sorted.{Contains-permutation}

pub all_before : {X : Type 0} (P : X → Type 0) (xs ys : List X) → IsPermutation xs ys → All P ys → All P xs
all_before P xs ys moved all k d inside = All-contains P ys (get_or xs k d) all (Contains-permutation xs ys (get_or xs k d) moved (Contains-get_or xs k d inside))

pub whole_back : {X : Type 0} (xs ys : List X) (n : ℕ) → n ≡ length xs → take n (xs ++ ys) ≡ xs
whole_back xs ys n is = ap (λ k. take k (xs ++ ys)) is ∙ take-append_seam xs ys
