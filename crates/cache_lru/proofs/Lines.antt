-- The lines of a set, each once and by age.
use Rattle.std.proofs.Common.{◌≡◌, refl, sym, ap, subst, ◌∙◌, inl, inr, ℕ, suc, zero, Bool, true, false, List, [], ◌∷◌, ◌++◌, length, take, eq-eqb, ne_eqb, arith}
use Rattle.std.specs.Prelude.{◌&&◌, nat_lt}
use Rattle.std.proofs.lemmas.Bool.{cases_eq}
use Rattle.std.proofs.lemmas.Bool.Decides.{nat_tests}
use Rattle.std.proofs.lemmas.List.Elements.{filter-append}
use Rattle.cache_lru.specs.Recency.{is_among, without, lines_of, since, is_recent}
use Rattle.cache_lru.specs.Contents.{remove_first, renewed}

-- what becomes of a list with a line in front
pub without_same : (n m : ℕ) (xs : List ℕ) → m ≡ n → without n (m ∷ xs) ≡ without n xs
without_same n m xs e = rw (eq-eqb m n e) refl

pub without_other : (n m : ℕ) (xs : List ℕ) → (m ≡ n → ⊥) → without n (m ∷ xs) ≡ m ∷ without n xs
without_other n m xs ne = rw (ne_eqb m n ne) refl

pub among_same : (n m : ℕ) (xs : List ℕ) → m ≡ n → is_among n (m ∷ xs) ≡ true
among_same n m xs e = rw (eq-eqb m n e) refl

pub among_other : (n m : ℕ) (xs : List ℕ) → (m ≡ n → ⊥) → is_among n (m ∷ xs) ≡ is_among n xs
among_other n m xs ne = rw (ne_eqb m n ne) refl

pub among_parts : (n m : ℕ) (xs : List ℕ) → is_among n (m ∷ xs) ≡ false → (m ≡ n → ⊥) × (is_among n xs ≡ false)
among_parts n m xs h = elim (cases_eq m n) [
  | inl e ↦ (let clash : true ≡ false = sym (among_same n m xs e) ∙ h in cc)
  | inr ne ↦ (ne, sym (among_other n m xs ne) ∙ h)
]

-- a line is not among the accesses without it, and the others are as before
pub among-without_same : (n : ℕ) (xs : List ℕ) → is_among n (without n xs) ≡ false
among-without_same n [] = refl
among-without_same n (m ∷ xs) = elim (cases_eq m n) [
  | inl e ↦ rw (without_same n m xs e) (among-without_same n xs)
  | inr ne ↦ rw (without_other n m xs ne) (among_other n m (without n xs) ne ∙ among-without_same n xs)
]

pub among-without_none : (n m : ℕ) (xs : List ℕ) → is_among n xs ≡ false → is_among n (without m xs) ≡ false
among-without_none n m [] h = refl
among-without_none n m (x ∷ xs) h =
    let parts = among_parts n x xs h in
    elim (cases_eq x m) [
      | inl e ↦ rw (without_same m x xs e) (among-without_none n m xs parts.1)
      | inr ne ↦ rw (without_other m x xs ne) (among_other n x (without m xs) parts.0 ∙ among-without_none n m xs parts.1)
    ]

pub without_none : (n : ℕ) (xs : List ℕ) → is_among n xs ≡ false → without n xs ≡ xs
without_none n [] h = refl
without_none n (m ∷ xs) h = let parts = among_parts n m xs h in without_other n m xs parts.0 ∙ ap (λ q. m ∷ q) (without_none n xs parts.1)

-- each line once
abbrev pub AreOnce : List ℕ → Type 0
AreOnce [] = Unit {0}
AreOnce (n ∷ ns) = (is_among n ns ≡ false) × AreOnce ns

pub once-without : (n : ℕ) (xs : List ℕ) → AreOnce xs → AreOnce (without n xs)
once-without n [] once = tt
once-without n (m ∷ xs) once = elim (cases_eq m n) [
  | inl e ↦ subst AreOnce (sym (without_same n m xs e)) (once-without n xs once.1)
  | inr ne ↦ subst AreOnce (sym (without_other n m xs ne)) (among-without_none m n xs once.0, once-without n xs once.1)
]

pub lines_in : (set : ℕ → ℕ) (s n : ℕ) (ns : List ℕ) → set n ≡ s → lines_of set s (n ∷ ns) ≡ n ∷ without n (lines_of set s ns)
lines_in set s n ns e = rw (eq-eqb (set n) s e) refl

pub lines_out : (set : ℕ → ℕ) (s n : ℕ) (ns : List ℕ) → (set n ≡ s → ⊥) → lines_of set s (n ∷ ns) ≡ lines_of set s ns
lines_out set s n ns ne = rw (ne_eqb (set n) s ne) refl

pub once_lines : (set : ℕ → ℕ) (s : ℕ) (ns : List ℕ) → AreOnce (lines_of set s ns)
once_lines set s [] = tt
once_lines set s (n ∷ ns) = elim (cases_eq (set n) s) [
  | inl e ↦ subst AreOnce (sym (lines_in set s n ns e)) (among-without_same n (lines_of set s ns), once-without n _ (once_lines set s ns))
  | inr ne ↦ subst AreOnce (sym (lines_out set s n ns ne)) (once_lines set s ns)
]

-- a line that was not accessed is none of a set
pub lines_none : (set : ℕ → ℕ) (s n : ℕ) (ns : List ℕ) → is_among n ns ≡ false → is_among n (lines_of set s ns) ≡ false
lines_none set s n [] h = refl
lines_none set s n (m ∷ ns) h =
    let parts = among_parts n m ns h in
    elim (cases_eq (set m) s) [
      | inl e ↦ rw (lines_in set s m ns e) (among_other n m _ parts.0 ∙ among-without_none n m _ (lines_none set s n ns parts.1))
      | inr ne ↦ rw (lines_out set s m ns ne) (lines_none set s n ns parts.1)
    ]

pub since_same : (n m : ℕ) (xs : List ℕ) → m ≡ n → since n (m ∷ xs) ≡ []
since_same n m xs e = rw (eq-eqb m n e) refl

pub since_other : (n m : ℕ) (xs : List ℕ) → (m ≡ n → ⊥) → since n (m ∷ xs) ≡ m ∷ since n xs
since_other n m xs ne = rw (ne_eqb m n ne) refl

pub among-since : (n : ℕ) (xs : List ℕ) → is_among n (since n xs) ≡ false
among-since n [] = refl
among-since n (m ∷ xs) = elim (cases_eq m n) [
  | inl e ↦ rw (since_same n m xs e) refl
  | inr ne ↦ rw (since_other n m xs ne) (among_other n m (since n xs) ne ∙ among-since n xs)
]

-- In the lines of a set a line stands behind those that were accessed since.
record IsBehind (set : ℕ → ℕ) (s n : ℕ) (xs : List ℕ) : Type 0 where
  rest : List ℕ
  is : lines_of set s xs ≡ lines_of set s (since n xs) ++ n ∷ rest

behind : (set : ℕ → ℕ) (s n : ℕ) (xs : List ℕ) → set n ≡ s → is_among n xs ≡ true → IsBehind set s n xs
behind set s n [] here h = cc
behind set s n (m ∷ xs) here h = elim (cases_eq m n) [
  | inl e ↦ record {
    rest = without m (lines_of set s xs);
    is = lines_in set s m xs (ap set e ∙ here) ∙ ap (λ q. q ∷ without m (lines_of set s xs)) e
        ∙ ap (λ q. lines_of set s q ++ n ∷ without m (lines_of set s xs)) (sym (since_same n m xs e));
  }
  | inr ne ↦
      let more = behind set s n xs here (sym (among_other n m xs ne) ∙ h) in
      elim (cases_eq (set m) s) [
        | inl inside ↦ record {
          rest = without m more.rest;
          is = lines_in set s m xs inside ∙ ap (λ q. m ∷ without m q) more.is
              ∙ ap (λ q. m ∷ q) (filter-append _ (lines_of set s (since n xs)) (n ∷ more.rest) ∙ ap (λ q. without m (lines_of set s (since n xs)) ++ q) (without_other m n more.rest (λ e. ne (sym e))))
              ∙ ap (λ q. q ++ n ∷ without m more.rest) (sym (lines_in set s m (since n xs) inside))
              ∙ ap (λ q. lines_of set s q ++ n ∷ without m more.rest) (sym (since_other n m xs ne));
        }
        | inr out ↦ record {
          rest = more.rest;
          is = lines_out set s m xs out ∙ more.is ∙ ap (λ q. q ++ n ∷ more.rest) (sym (lines_out set s m (since n xs) out))
              ∙ ap (λ q. lines_of set s q ++ n ∷ more.rest) (sym (since_other n m xs ne));
        }
      ]
]

-- among the first `ways` of a list
among-take : (n ways : ℕ) (left rest : List ℕ) → is_among n left ≡ false → is_among n (take ways (left ++ n ∷ rest)) ≡ nat_lt (length left) ways
among-take n zero left rest h = grind (arith, nat_tests)
among-take n (suc ways) [] rest h = among_same n n (take ways rest) refl ∙ grind (arith, nat_tests)
among-take n (suc ways) (m ∷ left) rest h =
    let parts = among_parts n m left h in
    among_other n m (take ways (left ++ n ∷ rest)) parts.0 ∙ among-take n ways left rest parts.1 ∙ grind (arith, nat_tests)

among-take_none : (n ways : ℕ) (xs : List ℕ) → is_among n xs ≡ false → is_among n (take ways xs) ≡ false
among-take_none n zero xs h = refl
among-take_none n (suc ways) [] h = refl
among-take_none n (suc ways) (m ∷ xs) h =
    let parts = among_parts n m xs h in among_other n m (take ways xs) parts.0 ∙ among-take_none n ways xs parts.1

recent_case : (set : ℕ → ℕ) (s ways n : ℕ) (xs : List ℕ) (among : Bool) → is_among n xs ≡ among → set n ≡ s
    → is_among n (take ways (lines_of set s xs)) ≡ (among && nat_lt (length (lines_of set s (since n xs))) ways)
recent_case set s ways n xs true h here =
    let b = behind set s n xs here h in
    ap (λ q. is_among n (take ways q)) b.is ∙ among-take n ways (lines_of set s (since n xs)) b.rest (lines_none set s n (since n xs) (among-since n xs))
recent_case set s ways n xs false h here = among-take_none n ways _ (lines_none set s n xs h)

-- A line is among the most recent `ways` lines of its set exactly where an access to it is recent.
pub among_recent : (set : ℕ → ℕ) (ways n : ℕ) (xs : List ℕ) → is_among n (take ways (lines_of set (set n) xs)) ≡ is_recent set ways n xs
among_recent set ways n xs = recent_case set (set n) ways n xs (is_among n xs) refl refl

removed : (n ways : ℕ) (xs : List ℕ) → AreOnce xs → take ways (remove_first n (take (suc ways) xs)) ≡ take ways (without n xs)
removed n ways [] once = refl
removed n zero (m ∷ xs) once = refl
removed n (suc ways) (m ∷ xs) once = elim (cases_eq m n) [
  | inl e ↦
      let gone : remove_first n (m ∷ take (suc ways) xs) ≡ take (suc ways) xs = rw (eq-eqb m n e) refl in
      rw gone (take_again (suc ways) xs ∙ ap (take (suc ways)) (sym (without_same n m xs e ∙ without_none n xs (subst (λ q. is_among q xs ≡ false) e once.0))))
  | inr ne ↦
      let stays : remove_first n (m ∷ take (suc ways) xs) ≡ m ∷ remove_first n (take (suc ways) xs) = rw (ne_eqb m n ne) refl in
      rw stays (ap (λ q. m ∷ q) (removed n ways xs once.1) ∙ ap (take (suc ways)) (sym (without_other n m xs ne)))
]
  where
    take_again : (k : ℕ) (ys : List ℕ) → take k (take k ys) ≡ take k ys
    take_again zero ys = refl
    take_again (suc k) [] = refl
    take_again (suc k) (y ∷ ys) = ap (λ q. y ∷ q) (take_again k ys)

-- After an access the most recent `ways` lines are those that are left of them, behind it.
pub renewed_take : (n ways : ℕ) (xs : List ℕ) → AreOnce xs → renewed ways n (take ways xs) ≡ take ways (n ∷ without n xs)
renewed_take n zero xs once = refl
renewed_take n (suc ways) xs once = ap (λ q. n ∷ q) (removed n ways xs once)
