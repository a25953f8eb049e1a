-- Sums of bounds, from the first on.
use Rattle.std.proofs.Common.{◌≡◌, sym, ap, subst, ℕ, ◌+◌, ◌*◌, ◌≤◌, ◌<◌, ◌^◌, List, [], length, drop, get_or, sum, arith}
use Rattle.std.proofs.lemmas.List.Elements.{All-get_or}
use Rattle.std.proofs.lemmas.List.{drop_all}
use Rattle.checkpoint_plan.specs.Limits.{AreBounds}
use Rattle.checkpoint_plan.proofs.Rems.{next_sum}

-- the sum so far with that of the rest, and how large it is at most
pub record IsSummed (bounds : List ℕ) (i so_far : ℕ) : Type 0 where
  pub whole : so_far + sum (drop i bounds) ≡ sum bounds
  pub small : so_far ≤ i * 10 ^ 18

pub summed_none : (bounds : List ℕ) → IsSummed bounds 0 0
summed_none bounds = record { whole = omega arith; small = omega arith }

pub summed_one : (bounds : List ℕ) (i so_far : ℕ) → AreBounds bounds → i < length bounds → IsSummed bounds i so_far
    → IsSummed bounds (i + 1) (so_far + get_or bounds i 0)
summed_one bounds i so_far are below s =
    let next = next_sum bounds i below in
    let one = All-get_or (λ n. n ≤ 10 ^ 18) bounds i 0 below are.each in
    record { whole = omega (arith, s.whole, next); small = omega (arith, s.small, one) }

pub summed_fits : (bounds : List ℕ) (i so_far : ℕ) → AreBounds bounds → i ≤ length bounds → IsSummed bounds i so_far → so_far < 2 ^ 70
summed_fits bounds i so_far are below s = omega (arith, s.small, are.few, below)

-- the same, where the next bound is named
pub summed_next : (bounds : List ℕ) (i so_far n : ℕ) → AreBounds bounds → i < length bounds → n ≡ get_or bounds i 0
    → IsSummed bounds i so_far → IsSummed bounds (i + 1) (so_far + n)
summed_next bounds i so_far n are below is s =
    subst (λ m. IsSummed bounds (i + 1) (so_far + m)) (sym is) (summed_one bounds i so_far are below s)

pub summed_all : (bounds : List ℕ) (i so_far : ℕ) → i ≤ length bounds → length bounds ≤ i → IsSummed bounds i so_far
    → so_far ≡ sum bounds
summed_all bounds i so_far low high s =
    let none : drop i bounds ≡ [] = drop_all i bounds high in
    let zero : sum (drop i bounds) ≡ 0 = ap (λ (l : List ℕ). sum l) none in
    let whole = s.whole in
    omega (arith, whole, zero)
