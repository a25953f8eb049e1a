-- Addresses by their places.
use Rattle.std.proofs.Common.{◌≡◌, refl, sym, ap, ◌∙◌, ℕ, zero, suc, ◌<◌, Bool, true, false, List, [], ◌∷◌, length, arith, eq-eqb}
use Rattle.std.specs.Prelude.{◌==◌, if◌then◌else◌, slice_index}
use Rattle.std.specs.List.Sorted.{IsStrictlyIncreasing}
use Rattle.loop_regions.proofs.FreeWays.{one_number}
use Rattle.path_wcet.specs.Tables.{place}

-- an address's place is where it stands
place_first : (xs : List ℕ) (a : ℕ) (k : ℕ) → k < length xs → slice_index xs k ≡ a → (place xs a < length xs) × (slice_index xs (place xs a) ≡ a)
place_first [] a k inside is = absurd (omega arith)
place_first (x ∷ xs) a k inside is = by_test (x == a) refl k inside is (λ j h e. place_first xs a j h e)
  where
    by_test : (b : Bool) → (x == a) ≡ b → (k : ℕ) → k < length (x ∷ xs) → slice_index (x ∷ xs) k ≡ a → ((j : ℕ) → j < length xs → slice_index xs j ≡ a → (place xs a < length xs) × (slice_index xs (place xs a) ≡ a))
        → ((if b then 0 else suc (place xs a)) < length (x ∷ xs)) × (slice_index (x ∷ xs) (if b then 0 else suc (place xs a)) ≡ a)
    by_test true e j h is more = (omega arith, Rattle.std.proofs.lemmas.Bool.eqb-true x a e)
    by_test false e zero h is more = let bad : true ≡ false = sym (eq-eqb x a is) ∙ e in absurd (let b : ⊥ = cc in b)
    by_test false e (suc j) h is more = let m = more j (omega arith) is in (let l = m.0 in omega arith, m.1)

pub place_is : (xs : List ℕ) → IsStrictlyIncreasing xs → (k : ℕ) → k < length xs → place xs (slice_index xs k) ≡ k
place_is xs rise k inside =
    let p = place_first xs (slice_index xs k) k inside refl in
    one_number xs rise (place xs (slice_index xs k)) k p.0 inside p.1

pub place_of : (xs : List ℕ) → IsStrictlyIncreasing xs → (k a : ℕ) → k < length xs → slice_index xs k ≡ a → place xs a ≡ k
place_of xs rise k a inside is = ap (place xs) (sym is) ∙ place_is xs rise k inside
