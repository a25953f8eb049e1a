-- What a search among rising numbers doesn't find isn't there.
use Rattle.std.proofs.Common.{ℕ, ◌<◌, ◌≤◌, ◌≡◌, inl, inr, refl, sym, ◌∙◌, Err, Bool, true, false, ◌||◌, nat_eq, Option, Some, None, is_some, List, [], ◌∷◌, Contains, length, get_or, arith, subst}
use Rattle.std.specs.List.Sorted.{IsBinarySearchResult, IsStrictlyIncreasing}
use Rattle.std.specs.Ordering.{nat_cmp}
use Rattle.std.proofs.lemmas.Bool.{cases_eq, cases_lt, eqb-true}
use Rattle.std.proofs.lemmas.List.Elements.{Contains-get_or}
use Rattle.std.proofs.lemmas.List.Folds.{list_any_none}
use Rattle.flow_graph.specs.Blocks.{start_if}
use Rattle.flow_graph.specs.Own.{is_among}
use Rattle.flow_graph.specs.Table.{IsFound}
use Rattle.flow_graph.proofs.Members.{equal_to_itself, in_cons, in_head, in_tail, none_in_nil, not_equal}
use Rattle.std.proofs.lemmas.Grind.{get_or_default_zero}
use Rattle.std.proofs.lemmas.List.Kept.{AllPairs-from_increasing}
use Rattle.std.proofs.lemmas.List.Sorted.{searched}

pub rising : (xs : List ℕ) → IsStrictlyIncreasing xs → (i j : ℕ) → i ≤ j → j < length xs → get_or xs i 0 ≤ get_or xs j 0
rising xs rise i j low below = elim (cases_eq i j) [
  | inl e ↦ rw e (omega arith)
  | inr other ↦ omega (arith, AllPairs-from_increasing xs rise i j 0 (omega (arith, low, other)) below)
]

pub missing : (xs : List ℕ) (x i : ℕ) → IsStrictlyIncreasing xs → IsBinarySearchResult (λ y. nat_cmp y x) xs (Err i) → Contains xs x → ⊥
missing xs x i rise h (k, below, is) =
    let where_ = searched xs x (Err i) h (rising xs rise) in
    let here : get_or xs k 0 ≡ x = sym (get_or_default_zero xs k x below) ∙ is in
    elim (cases_lt k i) [
      | inl before ↦ omega (arith, where_.1 k before, here)
      | inr after ↦ omega (arith, where_.2 k after below, here)
    ]

pub among_is : (xs : List ℕ) (x : ℕ) → Contains xs x → is_among xs x ≡ true
among_is [] x h = absurd (none_in_nil x h)
among_is (y ∷ xs) x h = elim (in_cons x y xs h) [
  | inl e ↦ rw (e, equal_to_itself x) refl
  | inr t ↦ or_true (nat_eq y x) (is_among xs x) (among_is xs x t)
]
  where
    or_true : (a b : Bool) → b ≡ true → a || b ≡ true
    or_true true b h = refl
    or_true false b h = h

pub is_among_in : (xs : List ℕ) (x : ℕ) → is_among xs x ≡ true → Contains xs x
is_among_in [] x h = absurd (cc)
is_among_in (y ∷ xs) x h = by_cases (nat_eq y x) refl (is_among_in xs x) h
  where
    by_cases : (b : Bool) → nat_eq y x ≡ b → (is_among xs x ≡ true → Contains xs x) → b || is_among xs x ≡ true → Contains (y ∷ xs) x
    by_cases true e rest h = subst (λ (n : ℕ). Contains (y ∷ xs) n) (eqb-true y x e) (in_head y xs)
    by_cases false e rest h = in_tail x y xs (rest h)

-- what is found is among the numbers
pub found_is_among : (xs : List ℕ) (x : ℕ) (r : Option ℕ) → IsFound xs x r → is_some r ≡ is_among xs x
found_is_among xs x None h = sym (list_any_none (λ b. nat_eq b x) xs (λ k d below. not_equal (get_or xs k d) x (λ e. h (subst (λ (n : ℕ). Contains xs n) e (Contains-get_or xs k d below)))))
found_is_among xs x (Some k) h = sym (among_is xs x (subst (λ (n : ℕ). Contains xs n) h.1 (Contains-get_or xs k 0 h.0)))

pub not_among : (xs : List ℕ) (x : ℕ) → (Contains xs x → ⊥) → is_among xs x ≡ false
not_among xs x h = sym (found_is_among xs x None h)

pub start_found : (units : List ℕ) (at k : ℕ) → (k < length units) × (get_or units k 0 ≡ at) → start_if units at ≡ at ∷ []
start_found units at k found = rw (among_is units at (subst (λ (n : ℕ). Contains units n) found.1 (Contains-get_or units k 0 found.0))) refl

pub start_missing : (units : List ℕ) (at : ℕ) → (Contains units at → ⊥) → start_if units at ≡ []
start_missing units at none = rw (not_among units at none) refl
