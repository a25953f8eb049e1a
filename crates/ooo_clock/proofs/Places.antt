-- What stands at a place of a list.
use Rattle.std.proofs.Common.{◌≡◌, ◌≤◌, ◌<◌, ℕ, zero, suc, List, [], ◌∷◌, ◌++◌, length, set, take, Some, refl, ap, arith}
use Rattle.std.specs.Prelude.{slice_get}

pub place-other : {A : Type 0} (xs : List A) (k j : ℕ) (a : A) → (j ≡ k → ⊥) → slice_get (set xs k a) j ≡ slice_get xs j
place-other [] k j a other = refl
place-other (x ∷ xs) zero zero a other = absurd (other refl)
place-other (x ∷ xs) zero (suc j) a other = refl
place-other (x ∷ xs) (suc k) zero a other = refl
place-other (x ∷ xs) (suc k) (suc j) a other = place-other xs k j a (λ e. other (ap (λ n. suc n) e))

pub place-set : {A : Type 0} (xs : List A) (k : ℕ) (a b : A) → slice_get xs k ≡ Some b → slice_get (set xs k a) k ≡ Some a
place-set [] k a b is = cc
place-set (x ∷ xs) zero a b is = refl
place-set (x ∷ xs) (suc k) a b is = place-set xs k a b is

pub place-take : {A : Type 0} (n : ℕ) (xs : List A) (j : ℕ) → j < n → slice_get (take n xs) j ≡ slice_get xs j
place-take zero xs j low = absurd (omega (arith, low))
place-take (suc n) [] j low = refl
place-take (suc n) (x ∷ xs) zero low = refl
place-take (suc n) (x ∷ xs) (suc j) low = place-take n xs j (omega (arith, low))

pub place-before : {A : Type 0} (k : ℕ) (xs ys : List A) (j : ℕ) → j < k → k ≤ length xs → slice_get (take k xs ++ ys) j ≡ slice_get xs j
place-before zero xs ys j low room = absurd (omega (arith, low))
place-before (suc k) [] ys j low room = absurd (omega (arith, room))
place-before (suc k) (x ∷ xs) ys zero low room = refl
place-before (suc k) (x ∷ xs) ys (suc j) low room = place-before k xs ys j (omega (arith, low)) (omega (arith, room))

pub place-at : {A : Type 0} (k : ℕ) (xs : List A) (y : A) (ys : List A) → k ≤ length xs → slice_get (take k xs ++ y ∷ ys) k ≡ Some y
place-at zero xs y ys room = refl
place-at (suc k) [] y ys room = absurd (omega (arith, room))
place-at (suc k) (x ∷ xs) y ys room = place-at k xs y ys (omega (arith, room))
