-- The ranges of a memory are one list, and it has each range that was given.
use Rattle.std.proofs.Common.{◌≡◌, ℕ, zero, suc, ◌+◌, ◌-◌, ◌≤◌, Bool, true, false, cond, List, [], ◌∷◌, ◌++◌, get_or, Some, refl, sym, ap, ap₂, subst, ◌∙◌, arith}
use Rattle.std.proofs.lemmas.Grind.{common_steps}
use Rattle.std.proofs.lemmas.List.Elements.{Contains-append_left, Contains-get_or}
use Rattle.std.proofs.lemmas.List.Sorted.{Contains-permutation, IsPermutation-sym}
use Rattle.std.specs.Prelude.{All, filter}
use Rattle.std.specs.List.{Contains}
use mathlib.Core.Logic.{◌⊎◌, inl, inr}
use Rattle.visa_io.specs.declared.records.Span.{Span}
use Rattle.mips_ref.specs.Layout.{MadeOf, has_any}
use Rattle.mips_ref.specs.Memory.{Flat, LaidOut, at_place, has, place_from}
use Rattle.mips_ref.proofs.Places.{has-inside, start_above}
use Rattle.task_layout.specs.Layout.{IsDeclared}

-- a member of a list is its head or in its tail
member-cases : (x : Span) (xs : List Span) (y : Span) → Contains (x ∷ xs) y → (x ≡ y) ⊎ Contains xs y
member-cases x xs y (zero, below, is) = inl is
member-cases x xs y (suc k, below, is) = inr (k, omega (arith, below), is)

member-head : (x : Span) (xs : List Span) → Contains (x ∷ xs) x
member-head x xs = (0, omega arith, refl)

member-tail : (x : Span) (xs : List Span) (y : Span) → Contains xs y → Contains (x ∷ xs) y
member-tail x xs y c = (suc c.0, omega (arith, c.1), c.2)

member-none : (y : Span) → Contains [] y → ⊥
member-none y c = absurd (omega (arith, c.1))

member-above : (from : ℕ) (spans : List Span) (s : Span) → LaidOut from spans → Contains spans s → from ≤ s.start
member-above from spans s laid c = subst (λ (t : Span). from ≤ t.start) c.2 (start_above from spans c.0 s laid c.1)

one-head : (from to : ℕ) (x y : Span) (xs ys : List Span) → LaidOut from (x ∷ xs) → LaidOut to (y ∷ ys)
    → Contains (y ∷ ys) x → Contains (x ∷ xs) y → x ≡ y
unfolding LaidOut
one-head from to x y xs ys low high there back =
    elim (member-cases y ys x there) [
      | inl e ↦ sym e
      | inr c ↦ elim (member-cases x xs y back) [
        | inl e ↦ e
        | inr d ↦ absurd (omega (arith, low.1, member-above (x.start + x.len) xs y low.3 d, member-above (y.start + y.len) ys x high.3 c))
      ]
    ]

tail-members : (from : ℕ) (x y : Span) (xs ys : List Span) → LaidOut from (x ∷ xs) → x ≡ y
    → ((s : Span) → Contains (x ∷ xs) s → Contains (y ∷ ys) s) → (s : Span) → Contains xs s → Contains ys s
unfolding LaidOut
tail-members from x y xs ys laid head there s c =
    elim (member-cases y ys s (there s (member-tail x xs s c))) [
      | inl e ↦
          let same : x.start ≡ s.start = ap (λ (t : Span). t.start) (head ∙ e) in
          absurd (omega (arith, laid.1, same, member-above (x.start + x.len) xs s laid.3 c))
      | inr d ↦ d
    ]

-- ranges by rising address are determined by their members
one-list : (from to : ℕ) (xs ys : List Span) → LaidOut from xs → LaidOut to ys → ((s : Span) → Contains xs s → Contains ys s)
    → ((s : Span) → Contains ys s → Contains xs s) → xs ≡ ys
unfolding LaidOut
one-list from to [] [] low high there back = refl
one-list from to [] (y ∷ ys) low high there back = absurd (member-none y (back y (member-head y ys)))
one-list from to (x ∷ xs) [] low high there back = absurd (member-none x (there x (member-head x xs)))
one-list from to (x ∷ xs) (y ∷ ys) low high there back =
    let head = one-head from to x y xs ys low high (there x (member-head x xs)) (back y (member-head y ys)) in
    ap₂ (λ z zs. z ∷ zs) head (one-list (x.start + x.len) (y.start + y.len) xs ys low.3 high.3
    (tail-members from x y xs ys low head there) (tail-members to y x ys xs high (sym head) back))

made-members : (given : List Span) (big : Bool) (m n : Flat) → MadeOf given big m → MadeOf given big n → (s : Span) → Contains m.spans s → Contains n.spans s
made-members given big m n a b s c =
    Contains-permutation (filter has_any given) n.spans s b.same_spans
    (Contains-permutation m.spans (filter has_any given) s (IsPermutation-sym (filter has_any given) m.spans a.same_spans) c)

one-flat : (m n : Flat) → m.spans ≡ n.spans → m.bytes ≡ n.bytes → m.big ≡ n.big → m ≡ n
one-flat m n spans bytes big =
    ap₂ (λ (ss : List Span) (bs : List ℕ). let f : Flat = record { spans = ss; bytes = bs; big = m.big } in f) spans bytes
    ∙ ap (λ (b : Bool). let f : Flat = record { spans = n.spans; bytes = n.bytes; big = b } in f) big

-- one memory is made of ranges
pub one_made : (given : List Span) (big : Bool) (m n : Flat) → MadeOf given big m → MadeOf given big n → m ≡ n
one_made given big m n a b =
    one-flat m n (one-list 0 0 m.spans n.spans a.laid_out b.laid_out (made-members given big m n a b) (made-members given big n m b a))
    (a.zeros ∙ sym b.zeros) (a.order ∙ sym b.order)

-- an address of a member is declared
declared-case : (before : ℕ) (x : Span) (rest : List Span) (s : Span) (a : ℕ) (b : Bool) → has x a ≡ b → Contains (x ∷ rest) s → has s a ≡ true
    → (Contains rest s → at_place (place_from (before + x.len) rest a) (λ p. true) ≡ true)
    → at_place (cond b (Some (record { span = x; index = before + (a - x.start) })) (place_from (before + x.len) rest a)) (λ p. true) ≡ true
declared-case before x rest s a true is c inside more = refl
declared-case before x rest s a false is c inside more =
    elim (member-cases x rest s c) [
      | inl e ↦
          let same : has x a ≡ has s a = ap (λ (t : Span). has t a) e in
          cc
      | inr d ↦ more d
    ]

declared-member : (before : ℕ) (spans : List Span) (s : Span) (a : ℕ) → Contains spans s → has s a ≡ true → at_place (place_from before spans a) (λ p. true) ≡ true
unfolding place_from
declared-member before [] s a c inside = absurd (member-none s c)
declared-member before (x ∷ rest) s a c inside =
    declared-case before x rest s a (has x a) refl c inside (λ d. declared-member (before + x.len) rest s a d inside)

kept-case : (x : Span) (xs : List Span) (y : Span) (b : Bool) → has_any x ≡ b → has_any y ≡ true → Contains (x ∷ xs) y
    → (Contains xs y → Contains (filter has_any xs) y) → Contains (cond b (x ∷ filter has_any xs) (filter has_any xs)) y
kept-case x xs y true is some c more =
    elim (member-cases x xs y c) [
      | inl e ↦ subst (λ z. Contains (x ∷ filter has_any xs) z) e (member-head x (filter has_any xs))
      | inr d ↦ member-tail x (filter has_any xs) y (more d)
    ]
kept-case x xs y false is some c more =
    elim (member-cases x xs y c) [
      | inl e ↦
          let same : has_any x ≡ has_any y = ap has_any e in
          cc
      | inr d ↦ more d
    ]

kept-member : (xs : List Span) (y : Span) → has_any y ≡ true → Contains xs y → Contains (filter has_any xs) y
kept-member [] y some c = absurd (member-none y c)
kept-member (x ∷ xs) y some c = kept-case x xs y (has_any x) refl some c (kept-member xs y some)

-- a range that was given is declared whole
pub given-declared : (given : List Span) (big : Bool) (m : Flat) (s : Span) → MadeOf given big m → Contains given s → IsDeclared m s
given-declared given big m s made c k below =
    let some : has_any s ≡ true = grind (arith, common_steps) in
    let there = Contains-permutation (filter has_any given) m.spans s made.same_spans (kept-member given s some c) in
    declared-member 0 m.spans s (s.start + k) there (has-inside s (s.start + k) (omega arith) (omega (arith, below)))

pub all-declared : (spans ram : List Span) (big : Bool) (m : Flat) → MadeOf (spans ++ ram) big m → All (IsDeclared m) spans
all-declared spans ram big m made k d below =
    given-declared (spans ++ ram) big m (get_or spans k d) made (Contains-append_left spans ram (get_or spans k d) (Contains-get_or spans k d below))
