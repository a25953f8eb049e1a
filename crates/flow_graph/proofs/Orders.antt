-- The order of numbers, and of places that a search has found.
use Rattle.std.proofs.Common.{ℕ, ◌<◌, ◌≡◌, ◌⊎◌, inl, inr, sym, subst, Bool, nat_eq, List, [], ◌∷◌, ◌++◌, Contains, length, get_or, arith}
use Rattle.std.specs.List.{IsDistinct, dedup}
use Rattle.std.specs.List.Sorted.{IsPermutation, IsSorted, IsStrictlyIncreasing}
use Rattle.std.specs.Ordering.{nat_cmp}
use Rattle.std.proofs.lemmas.Bool.{cases_eq, cases_lt}
use Rattle.std.proofs.lemmas.Bool.Decides.{nat_tests}
use Rattle.std.proofs.lemmas.List.Elements.{All-contains, Contains-append_cases, Contains-append_left, Contains-get_or, Contains-push}
use Rattle.std.proofs.lemmas.List.Kept.{Contains-dedup_nat, Contains-from_dedup}
use Rattle.std.proofs.lemmas.List.Sorted.{Contains-permutation, IsNonDecreasingBy-from_sort, IsPermutation-sym}
use Rattle.std.proofs.lemmas.Map.Keys.{IsDistinct-IsPermutation, IsStrictlyIncreasing-dedup, IsStrictlyIncreasing-from_distinct}
use Rattle.flow_graph.specs.Blocks.{AreInOrder}
use Rattle.flow_graph.specs.Build.{AreFunctions, CalledBy, IsReach}
use Rattle.flow_graph.specs.Calls.{called_upto}
use Rattle.flow_graph.specs.Places.{IsSpread}
use Rattle.flow_graph.specs.declared.site.Exits.{Exits}
use Rattle.flow_graph.proofs.Levels.{called_of, in_called}
use Rattle.flow_graph.proofs.Members.{in_one}

pub three : (a b : ℕ) → (a < b) ⊎ ((a ≡ b) ⊎ (b < a))
three a b = elim (cases_lt a b) [
  | inl less ↦ inl less
  | inr more ↦ elim (cases_eq a b) [ inl same ↦ inr (inl same) | inr other ↦ inr (inr (omega (arith, more, other))) ]
]

-- places that are found, sorted
pub sorted_reach : (net : List Exits) (enters : Bool) (start : ℕ) (starts found sorted : List ℕ) → starts ≡ start ∷ [] → IsSpread net enters starts found → IsPermutation found sorted → IsSorted nat_cmp sorted → IsReach net enters start sorted
sorted_reach net enters start starts found sorted e s moved rise = record {
  spread = record {
    met = λ u h. spread.met u (Contains-permutation sorted found u (IsPermutation-sym found sorted moved) h);
    whole = λ u m. Contains-permutation found sorted u moved (spread.whole u m);
    within = λ k d below. All-contains (λ u. u < length net) found (get_or sorted k d) spread.within (Contains-permutation sorted found (get_or sorted k d) (IsPermutation-sym found sorted moved) (Contains-get_or sorted k d below));
    distinct = distinct;
  };
  rise = IsStrictlyIncreasing-from_distinct sorted (IsNonDecreasingBy-from_sort (λ x. x) sorted rise) distinct;
}
  where
    spread : IsSpread net enters (start ∷ []) found
    spread = subst (λ (l : List ℕ). IsSpread net enters l found) e s

    nat_eq_sym : (m n : ℕ) → nat_eq m n ≡ nat_eq n m
    nat_eq_sym m n = grind (arith, nat_tests)

    distinct : IsDistinct nat_eq sorted
    distinct = IsDistinct-IsPermutation nat_eq nat_eq_sym found sorted moved s.distinct

-- functions, sorted, each once
pub functions_of : (net : List Exits) (entry : ℕ) (reached called pushed sorted fs : List ℕ) → called ≡ called_upto net reached (length reached) → pushed ≡ called ++ entry ∷ [] → IsPermutation pushed sorted → IsSorted nat_cmp sorted → fs ≡ dedup nat_eq sorted → AreFunctions net entry reached fs
functions_of net entry reached called pushed sorted fs c p moved rise d = record {
  rise = subst IsStrictlyIncreasing (sym d) (IsStrictlyIncreasing-dedup sorted rise);
  are = λ f h. are f (Contains-append_cases called (entry ∷ []) f (subst (λ (l : List ℕ). Contains l f) p (Contains-permutation sorted pushed f (IsPermutation-sym pushed sorted moved) (Contains-from_dedup nat_eq sorted f (subst (λ (l : List ℕ). Contains l f) d h)))));
  first = keep entry (subst (λ (l : List ℕ). Contains l entry) (sym p) (Contains-push called entry));
  whole = λ f (u, among, call). keep f (subst (λ (l : List ℕ). Contains l f) (sym p) (Contains-append_left called (entry ∷ []) f (subst (λ (l : List ℕ). Contains l f) (sym c) (called_of net reached f u among call))));
}
  where
    keep : (f : ℕ) → Contains pushed f → Contains fs f
    keep f h = subst (λ (l : List ℕ). Contains l f) (sym d) (Contains-dedup_nat sorted f (Contains-permutation pushed sorted f moved h))

    are : (f : ℕ) → Contains called f ⊎ Contains (entry ∷ []) f → (f ≡ entry) ⊎ CalledBy net reached f
    are f (inl h) = inr (in_called net reached (length reached) f (omega arith) (subst (λ (l : List ℕ). Contains l f) c h))
    are f (inr h) = inl (sym (in_one f entry h))

-- numbers, sorted, each once
pub in_order : (old sorted new : List ℕ) → IsPermutation old sorted → IsSorted nat_cmp sorted → new ≡ dedup nat_eq sorted → AreInOrder old new
in_order old sorted new moved rise d = record {
  rise = subst IsStrictlyIncreasing (sym d) (IsStrictlyIncreasing-dedup sorted rise);
  kept = λ a h. subst (λ (l : List ℕ). Contains l a) (sym d) (Contains-dedup_nat sorted a (Contains-permutation old sorted a moved h));
  only = λ a h. Contains-permutation sorted old a (IsPermutation-sym old sorted moved) (Contains-from_dedup nat_eq sorted a (subst (λ (l : List ℕ). Contains l a) d h));
}
