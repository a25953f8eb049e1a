-- Lists that rise, each member once.
use Rattle.std.proofs.Common.{ℕ, ◌+◌, ◌<◌, ◌≡◌, ◌⊎◌, inl, inr, refl, sym, subst, ◌∙◌, List, [], ◌∷◌, Contains, AllPairs, map, length, get_or, arith}
use Rattle.std.specs.List.Sorted.{IsStrictlyIncreasing, IsStrictlySortedBy}
use Rattle.std.specs.declared.cmp.Ordering.{Ordering}
use Rattle.std.specs.declared.cmp.Ordering.TheVariants.{Less}
use Rattle.std.proofs.lemmas.List.{get_or-map, length-map}
use Rattle.std.proofs.lemmas.List.Elements.{All-contains}
use Rattle.std.proofs.lemmas.List.Kept.{AllPairs-cons, AllPairs-from_increasing}
use Rattle.std.proofs.lemmas.Map.Keys.{sorted_tail}
use Rattle.std.proofs.lemmas.Map.Views.{All-after_first}
use Rattle.flow_graph.proofs.Members.{AllPairs-head, AllPairs-tail, in_cons, in_head, in_tail, none_in_nil}

-- two lists in order that have the same members are the same
pub same_list : {X : Type 0} (R : X → X → Type 0) → ((x y : X) → R x y → R y x → ⊥) → (xs ys : List X) → AllPairs R xs → AllPairs R ys → ((x : X) → Contains xs x → Contains ys x) → ((x : X) → Contains ys x → Contains xs x) → xs ≡ ys
same_list R apart [] [] p q f g = refl
same_list R apart [] (y ∷ ys) p q f g = absurd (none_in_nil y (g y (in_head y ys)))
same_list R apart (x ∷ xs) [] p q f g = absurd (none_in_nil x (f x (in_head x xs)))
same_list R apart (x ∷ xs) (y ∷ ys) p q f g =
    both first (same_list R apart xs ys (AllPairs-tail R x xs p) (AllPairs-tail R y ys q)
    (λ z h. rest z (All-contains (R x) xs z (AllPairs-head R x xs p) h) (in_cons z y ys (f z (in_tail z x xs h))))
    (λ z h. back z (All-contains (R y) ys z (AllPairs-head R y ys q) h) (in_cons z x xs (g z (in_tail z y ys h)))))
  where
    first_of : (y ≡ x) ⊎ Contains ys x → (x ≡ y) ⊎ Contains xs y → x ≡ y
    first_of (inl e) k = sym e
    first_of (inr h) (inl e) = e
    first_of (inr h) (inr k) = absurd (apart x y (All-contains (R x) xs y (AllPairs-head R x xs p) k) (All-contains (R y) ys x (AllPairs-head R y ys q) h))

    first : x ≡ y
    first = first_of (in_cons x y ys (f x (in_head x xs))) (in_cons y x xs (g y (in_head y ys)))

    both : {us vs : List _} → x ≡ y → us ≡ vs → x ∷ us ≡ y ∷ vs
    both e r = rw (e, r) refl

    rest : (z : _) → R x z → (y ≡ z) ⊎ Contains ys z → Contains ys z
    rest z before (inr h) = h
    rest z before (inl e) = let same : x ≡ z = first ∙ e in absurd (apart z z (subst (λ (w : _). R w z) same before) (subst (λ (w : _). R w z) same before))

    back : (z : _) → R y z → (x ≡ z) ⊎ Contains xs z → Contains xs z
    back z before (inr h) = h
    back z before (inl e) = let same : y ≡ z = sym first ∙ e in absurd (apart z z (subst (λ (w : _). R w z) same before) (subst (λ (w : _). R w z) same before))

-- what numbers that rise are of
pub rising_pairs : {X : Type 0} (f : X → ℕ) (xs : List X) → IsStrictlyIncreasing (map f xs) → AllPairs (λ a b. f a < f b) xs
rising_pairs f xs rise i j d less below =
    let long : length (map f xs) ≡ length xs = length-map xs f in
    let first : get_or (map f xs) i 0 ≡ f (get_or xs i d) = get_or-map f xs i d 0 (omega (arith, less, below)) in
    let second : get_or (map f xs) j 0 ≡ f (get_or xs j d) = get_or-map f xs j d 0 below in
    omega (arith, first, second, AllPairs-from_increasing (map f xs) rise i j 0 less (omega (arith, long, below)))

pub same_numbers : (xs ys : List ℕ) → IsStrictlyIncreasing xs → IsStrictlyIncreasing ys → ((x : ℕ) → Contains xs x → Contains ys x) → ((x : ℕ) → Contains ys x → Contains xs x) → xs ≡ ys
same_numbers xs ys p q f g = same_list (λ (a b : ℕ). a < b) (λ a b l m. omega (arith, l, m)) xs ys (AllPairs-from_increasing xs p) (AllPairs-from_increasing ys q) f g

-- what a strict order of values says of each two
pub pairs_sorted : {X : Type 0} (R : X → X → Type 0) (cmp : X → X → Ordering) → ((x y : X) → cmp x y ≡ Less → R x y) → (xs : List X) → IsStrictlySortedBy cmp xs → AllPairs R xs
pairs_sorted R cmp is [] sorted = λ i j d less below. absurd (omega (arith, below))
pairs_sorted R cmp is (x ∷ xs) sorted =
    AllPairs-cons R x xs (λ k d below. is x (get_or xs k d) (All-after_first cmp x xs sorted k d below)) (pairs_sorted R cmp is xs (sorted_tail cmp x xs sorted))

-- and back
pub pairs_rising : {X : Type 0} (f : X → ℕ) (xs : List X) → AllPairs (λ a b. f a < f b) xs → IsStrictlyIncreasing (map f xs)
pairs_rising f [] pairs k below = absurd (omega (arith, below))
pairs_rising f (x ∷ xs) pairs k below =
    let long : length (map f (x ∷ xs)) ≡ length (x ∷ xs) = length-map (x ∷ xs) f in
    let first : get_or (map f (x ∷ xs)) k 0 ≡ f (get_or (x ∷ xs) k x) = get_or-map f (x ∷ xs) k x 0 (omega (arith, long, below)) in
    let second : get_or (map f (x ∷ xs)) (k + 1) 0 ≡ f (get_or (x ∷ xs) (k + 1) x) = get_or-map f (x ∷ xs) (k + 1) x 0 (omega (arith, long, below)) in
    omega (arith, first, second, pairs k (k + 1) x (omega arith) (omega (arith, long, below)))
