-- Members of lists, and lists of numbers that differ.
use Rattle.std.proofs.Common.{ℕ, zero, suc, ◌+◌, ◌<◌, ◌≤◌, ◌≡◌, ◌⊎◌, inl, inr, refl, sym, ap, subst, ◌∙◌, true, false, nat_eq, List, [], ◌∷◌, ◌++◌, Contains, All, AllPairs, map, take, length, get_or, arith}
use Rattle.std.specs.List.{IsDistinct}
use Rattle.std.proofs.lemmas.List.{map-append, take_more}
use Rattle.std.proofs.lemmas.Bool.Decides.{nat_tests}
use Rattle.std.proofs.lemmas.List.Elements.{All-contains, All-from_recursion, Contains-append_cases, Contains-append_left, Contains-append_right, Contains-get_or, recursion_from_All}
use Rattle.std.proofs.lemmas.Map.Keys.{IsDistinct-cons, IsDistinct-head, IsDistinct-tail}

pub none_in_nil : {X : Type 0} (x : X) → Contains [] x → ⊥
none_in_nil x (k, below, is) = omega (arith, below)

pub not_equal : (m n : ℕ) → (m ≡ n → ⊥) → nat_eq m n ≡ false
not_equal m n apart = grind (arith, nat_tests)

pub equal_to_itself : (n : ℕ) → nat_eq n n ≡ true
equal_to_itself n = grind (arith, nat_tests)

pub in_head : {X : Type 0} (x : X) (xs : List X) → Contains (x ∷ xs) x
in_head x xs = (0, omega arith, refl)

pub in_tail : {X : Type 0} (x y : X) (xs : List X) → Contains xs x → Contains (y ∷ xs) x
in_tail x y xs (k, below, is) = (suc k, omega (arith, below), is)

pub in_cons : {X : Type 0} (x y : X) (xs : List X) → Contains (y ∷ xs) x → (y ≡ x) ⊎ Contains xs x
in_cons x y xs (zero, below, is) = inl is
in_cons x y xs (suc k, below, is) = inr (k, omega (arith, below), is)

pub in_one : {X : Type 0} (x y : X) → Contains (y ∷ []) x → y ≡ x
in_one x y h = elim (in_cons x y [] h) [ inl e ↦ e | inr n ↦ absurd (none_in_nil x n) ]

-- a member of what a list is mapped to comes from a member
pub record IsImage {X : Type 0} (f : X → ℕ) (xs : List X) (n : ℕ) : Type 0 where
  pub of : X
  pub member : Contains xs of
  pub is : f of ≡ n

pub from_map : {X : Type 0} (f : X → ℕ) (xs : List X) (n : ℕ) → Contains (map f xs) n → IsImage f xs n
from_map f [] n h = absurd (none_in_nil n h)
from_map f (x ∷ xs) n h = elim (in_cons n (f x) (map f xs) h) [
  | inl e ↦ record { of = x; member = in_head x xs; is = e }
  | inr t ↦ let i = from_map f xs n t in record { of = i.of; member = in_tail i.of x xs i.member; is = i.is }
]

pub to_map : {X : Type 0} (f : X → ℕ) (xs : List X) (x : X) → Contains xs x → Contains (map f xs) (f x)
to_map f [] x h = absurd (none_in_nil x h)
to_map f (y ∷ xs) x h = elim (in_cons x y xs h) [
  | inl e ↦ subst (λ (z : _). Contains (map f (y ∷ xs)) (f z)) e (in_head (f y) (map f xs))
  | inr t ↦ in_tail (f x) (f y) (map f xs) (to_map f xs x t)
]

pub distinct_none : IsDistinct nat_eq []
unfolding IsDistinct
distinct_none = tt

pub distinct_cons : (n : ℕ) (ns : List ℕ) → (Contains ns n → ⊥) → IsDistinct nat_eq ns → IsDistinct nat_eq (n ∷ ns)
distinct_cons n ns new rest =
    IsDistinct-cons nat_eq n ns (recursion_from_All (λ m. nat_eq n m ≡ false) ns (λ k d below. not_equal n (get_or ns k d) (λ e. new (subst (λ (m : ℕ). Contains ns m) (sym e) (Contains-get_or ns k d below))))) rest

pub distinct_apart : (n : ℕ) (ns : List ℕ) → IsDistinct nat_eq (n ∷ ns) → Contains ns n → ⊥
distinct_apart n ns distinct h =
    let same : nat_eq n n ≡ false = All-contains (λ m. nat_eq n m ≡ false) ns n (All-from_recursion (λ m. nat_eq n m ≡ false) ns (IsDistinct-head nat_eq n ns distinct)) h in
    let own = equal_to_itself n in
    cc

pub distinct_append : (ms ns : List ℕ) → IsDistinct nat_eq ms → IsDistinct nat_eq ns → ((n : ℕ) → Contains ms n → Contains ns n → ⊥) → IsDistinct nat_eq (ms ++ ns)
distinct_append [] ns a b apart = b
distinct_append (m ∷ ms) ns a b apart =
    distinct_cons m (ms ++ ns)
    (λ h. elim (Contains-append_cases ms ns m h) [ inl l ↦ distinct_apart m ms a l | inr r ↦ apart m (in_head m ms) r ])
    (distinct_append ms ns (IsDistinct-tail nat_eq m ms a) b (λ n l r. apart n (in_tail n m ms l) r))

pub AllPairs-tail : {X : Type 0} (R : X → X → Type 0) (x : X) (xs : List X) → AllPairs R (x ∷ xs) → AllPairs R xs
AllPairs-tail R x xs h i j d lt below = h (suc i) (suc j) d (omega (arith, lt)) (omega (arith, below))

pub AllPairs-head : {X : Type 0} (R : X → X → Type 0) (x : X) (xs : List X) → AllPairs R (x ∷ xs) → All (R x) xs
AllPairs-head R x xs h k d below = h 0 (suc k) d (omega arith) (omega (arith, below))

-- members of four lists, one after the other
pub in_first : {X : Type 0} (a b c d : List X) (v : X) → Contains a v → Contains (a ++ b ++ c ++ d) v
in_first a b c d v h = Contains-append_left (a ++ b ++ c) d v (Contains-append_left (a ++ b) c v (Contains-append_left a b v h))

pub in_second : {X : Type 0} (a b c d : List X) (v : X) → Contains b v → Contains (a ++ b ++ c ++ d) v
in_second a b c d v h = Contains-append_left (a ++ b ++ c) d v (Contains-append_left (a ++ b) c v (Contains-append_right a b v h))

pub in_third : {X : Type 0} (a b c d : List X) (v : X) → Contains c v → Contains (a ++ b ++ c ++ d) v
in_third a b c d v h = Contains-append_left (a ++ b ++ c) d v (Contains-append_right (a ++ b) c v h)

pub in_fourth : {X : Type 0} (a b c d : List X) (v : X) → Contains d v → Contains (a ++ b ++ c ++ d) v
in_fourth a b c d v h = Contains-append_right (a ++ b ++ c) d v h

pub in_one_of : {X : Type 0} (a b c d : List X) (v : X) → Contains (a ++ b ++ c ++ d) v → (Contains a v ⊎ Contains b v) ⊎ (Contains c v ⊎ Contains d v)
in_one_of a b c d v h = elim (Contains-append_cases (a ++ b ++ c) d v h) [
  | inr in_d ↦ inr (inr in_d)
  | inl abc ↦ elim (Contains-append_cases (a ++ b) c v abc) [
    | inr in_c ↦ inr (inl in_c)
    | inl ab ↦ inl (Contains-append_cases a b v ab)
  ]
]

-- a loop that maps the items of a list
pub mapped_more : {X Y : Type 0} (f : X → Y) (xs : List X) (i : ℕ) (d : X) (ys zs : List Y) (y : Y) → i < length xs → ys ≡ map f (take i xs) → zs ≡ ys ++ y ∷ [] → y ≡ f (get_or xs i d) → zs ≡ map f (take (i + 1) xs)
mapped_more f xs i d ys zs y below was more is =
    more ∙ ap (λ (l : List _). l ++ y ∷ []) was ∙ ap (λ (z : _). map f (take i xs) ++ z ∷ []) is ∙ sym (map-append f (take i xs) (get_or xs i d ∷ [])) ∙ ap (map f) (sym (take_more xs i d below))

pub take_all : {X : Type 0} (xs : List X) (n : ℕ) → length xs ≤ n → take n xs ≡ xs
take_all [] zero over = refl
take_all [] (suc n) over = refl
take_all (x ∷ xs) zero over = absurd (omega (arith, over))
take_all (x ∷ xs) (suc n) over = ap (λ (l : List _). x ∷ l) (take_all xs n (omega (arith, over)))

pub mapped_all : {X Y : Type 0} (f : X → Y) (xs : List X) (i : ℕ) (ys : List Y) → length xs ≤ i → ys ≡ map f (take i xs) → ys ≡ map f xs
mapped_all f xs i ys over was = was ∙ ap (map f) (take_all xs i over)
