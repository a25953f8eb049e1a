-- Lists of numbers that have each once.
use Rattle.std.proofs.Common.{◌≡◌, refl, sym, ap, subst, ◌∙◌, inl, inr, ℕ, ◌≤◌, ◌<◌, Bool, true, false, List, [], ◌∷◌, length, eq-eqb, ne_eqb, arith}
use Rattle.std.specs.Prelude.{◌==◌, ◌&&◌, filter}
use Rattle.std.proofs.lemmas.Bool.{cases_Bool, cases_eq}
use Rattle.cache_lru.specs.Recency.{is_among, without, lines_of}
use Rattle.cache_lru.proofs.Lines.{AreOnce, among_other, among_same, lines_in, lines_out, without_other, without_same}

pub among-without_other : (k n : ℕ) (xs : List ℕ) → (n ≡ k → ⊥) → is_among k (without n xs) ≡ is_among k xs
among-without_other k n [] ne = refl
among-without_other k n (x ∷ xs) ne = elim (cases_eq x n) [
  | inl e ↦ ap (is_among k) (without_same n x xs e) ∙ among-without_other k n xs ne ∙ sym (among_other k x xs (λ same. ne (sym e ∙ same)))
  | inr other ↦ ap (is_among k) (without_other n x xs other) ∙ (elim (cases_eq x k) [
    | inl here ↦ among_same k x (without n xs) here ∙ sym (among_same k x xs here)
    | inr no_more ↦ among_other k x (without n xs) no_more ∙ among-without_other k n xs ne ∙ sym (among_other k x xs no_more)
  ])
]

length-without_le : (n : ℕ) (xs : List ℕ) → length (without n xs) ≤ length xs
length-without_le n [] = omega arith
length-without_le n (x ∷ xs) = elim (cases_eq x n) [
  | inl e ↦ omega (arith, ap (λ (q : List ℕ). length q) (without_same n x xs e), length-without_le n xs)
  | inr other ↦ omega (arith, ap (λ (q : List ℕ). length q) (without_other n x xs other), length-without_le n xs)
]

length-without : (n : ℕ) (xs : List ℕ) → is_among n xs ≡ true → length (without n xs) < length xs
length-without n [] h = cc
length-without n (x ∷ xs) h = elim (cases_eq x n) [
  | inl e ↦ omega (arith, ap (λ (q : List ℕ). length q) (without_same n x xs e), length-without_le n xs)
  | inr other ↦ omega (arith, ap (λ (q : List ℕ). length q) (without_other n x xs other), length-without n xs (sym (among_other n x xs other) ∙ h))
]

-- a list without repetitions whose members are in another one isn't longer
pub once_short : (ns ms : List ℕ) → AreOnce ns → ((k : ℕ) → is_among k ns ≡ true → is_among k ms ≡ true) → length ns ≤ length ms
once_short [] ms once sub = omega arith
once_short (n ∷ ns) ms once sub =
    let fewer = length-without n ms (sub n (among_same n n ns refl)) in
    let more = once_short ns (without n ms) once.1 (λ k h. elim (cases_eq n k) [
      | inl e ↦ (let clash : true ≡ false = sym h ∙ subst (λ q. is_among q ns ≡ false) e once.0 in cc)
      | inr ne ↦ among-without_other k n ms ne ∙ sub k (among_other k n ns ne ∙ h)
    ]) in
    omega (arith, fewer, more)

-- lists without repetitions that have the same members are equally long
pub once_same : (ns ms : List ℕ) → AreOnce ns → AreOnce ms → ((k : ℕ) → is_among k ns ≡ is_among k ms) → length ns ≡ length ms
once_same ns ms one other same =
    omega (arith, once_short ns ms one (λ k h. sym (same k) ∙ h), once_short ms ns other (λ k h. same k ∙ h))

-- what a filter has
filter_in : (p : ℕ → Bool) (x : ℕ) (xs : List ℕ) → p x ≡ true → filter p (x ∷ xs) ≡ x ∷ filter p xs
filter_in p x xs h = rw h refl

filter_out : (p : ℕ → Bool) (x : ℕ) (xs : List ℕ) → p x ≡ false → filter p (x ∷ xs) ≡ filter p xs
filter_out p x xs h = rw h refl

and_is : (a b c : Bool) → b ≡ c → (a && b) ≡ (a && c)
and_is a b c e = ap (λ q. a && q) e

pub among-filter : (p : ℕ → Bool) (k : ℕ) (xs : List ℕ) → is_among k (filter p xs) ≡ (is_among k xs && p k)
among-filter p k [] = refl
among-filter p k (x ∷ xs) = elim (cases_eq x k) [
  | inl here ↦ (elim (cases_Bool (p x)) [
    | inl pass ↦ ap (is_among k) (filter_in p x xs pass) ∙ among_same k x (filter p xs) here ∙ sym (ap (λ q. q && p k) (among_same k x xs here) ∙ ap p (sym here) ∙ pass)
    | inr no_more ↦ ap (is_among k) (filter_out p x xs no_more) ∙ among-filter p k xs ∙ not_in (is_among k xs) (p k) (ap p (sym here) ∙ no_more) ∙ sym (ap (λ q. q && p k) (among_same k x xs here) ∙ ap p (sym here) ∙ no_more)
  ])
  | inr other ↦ (elim (cases_Bool (p x)) [
    | inl pass ↦ ap (is_among k) (filter_in p x xs pass) ∙ among_other k x (filter p xs) other ∙ among-filter p k xs ∙ ap (λ q. q && p k) (sym (among_other k x xs other))
    | inr no_more ↦ ap (is_among k) (filter_out p x xs no_more) ∙ among-filter p k xs ∙ ap (λ q. q && p k) (sym (among_other k x xs other))
  ])
]
  where
    not_in : (a b : Bool) → b ≡ false → (a && b) ≡ false
    not_in true b e = e
    not_in false b e = refl

pub once-filter : (p : ℕ → Bool) (xs : List ℕ) → AreOnce xs → AreOnce (filter p xs)
once-filter p [] once = tt
once-filter p (x ∷ xs) once = elim (cases_Bool (p x)) [
  | inl pass ↦ subst AreOnce (sym (filter_in p x xs pass)) (among-filter p x xs ∙ ap (λ q. q && p x) once.0, once-filter p xs once.1)
  | inr no_more ↦ subst AreOnce (sym (filter_out p x xs no_more)) (once-filter p xs once.1)
]

-- what the lines of a set have
pub among-lines_of : (set : ℕ → ℕ) (s k : ℕ) (xs : List ℕ) → is_among k (lines_of set s xs) ≡ (is_among k xs && (set k == s))
among-lines_of set s k [] = refl
among-lines_of set s k (x ∷ xs) = elim (cases_eq (set x) s) [
  | inl inside ↦ ap (is_among k) (lines_in set s x xs inside) ∙ (elim (cases_eq x k) [
    | inl here ↦ among_same k x _ here ∙ sym (ap (λ q. q && (set k == s)) (among_same k x xs here) ∙ eq-eqb (set k) s (ap set (sym here) ∙ inside))
    | inr other ↦ among_other k x _ other ∙ among-without_other k x (lines_of set s xs) other ∙ among-lines_of set s k xs ∙ ap (λ q. q && (set k == s)) (sym (among_other k x xs other))
  ])
  | inr out ↦ ap (is_among k) (lines_out set s x xs out) ∙ among-lines_of set s k xs ∙ (elim (cases_eq x k) [
    | inl here ↦ not_in (is_among k xs) (set k == s) (ne_eqb (set k) s (λ e. out (ap set here ∙ e))) ∙ sym (ap (λ q. q && (set k == s)) (among_same k x xs here) ∙ ne_eqb (set k) s (λ e. out (ap set here ∙ e)))
    | inr other ↦ ap (λ q. q && (set k == s)) (sym (among_other k x xs other))
  ])
]
  where
    not_in : (a b : Bool) → b ≡ false → (a && b) ≡ false
    not_in true b e = e
    not_in false b e = refl
