-- Sorting spans by their addresses: what std's sort gives is the definition's list.
use Rattle.std.proofs.Common.{◌≡◌, ℕ, suc, ◌<◌, ◌≤◌, Bool, true, false, not, ◌&&◌, cond, ◌==◌, nat_le, List, [], ◌∷◌, filter, length, get_or, refl, sym, ap, ◌∙◌, subst, arith}
use Rattle.std.proofs.lemmas.Bool.Decides.{nat_tests}
use Rattle.std.specs.List.{AllByRecursion}
use Rattle.std.specs.List.Sorted.{IsNonDecreasingBy, IsStableByKey, ties}
use Rattle.std.specs.Ordering.{nat_cmp, is_lt}
use Rattle.visa_io.specs.declared.image_code.Placed.{Placed}
use Rattle.visa_io.specs.ImageCode.{put_by_start, by_start}

abbrev start : Placed → ℕ
start p = p.span.start

-- those that start at an address
abbrev pub at_address : ℕ → List Placed → List Placed
at_address a ps = filter (λ p. p.span.start == a) ps

-- no start is below one before it
abbrev pub Rising : List Placed → Type 0
Rising [] = Unit {0}
Rising (p ∷ ps) = AllByRecursion (λ q. p.span.start ≤ q.span.start) ps × Rising ps

same : (a b : ℕ) → a ≡ b → (a == b) ≡ true
same a b e = grind (arith, nat_tests)

is_same : (a b : ℕ) → (a == b) ≡ true → a ≡ b
is_same a b e = grind (arith, nat_tests)

own : (a : ℕ) (p : Placed) (ps : List Placed) → start p ≡ a → at_address a (p ∷ ps) ≡ p ∷ at_address a ps
own a p ps e = ap (λ b. cond b (p ∷ at_address a ps) (at_address a ps)) (same (start p) a e)

-- where something starts at an address, all that rises from p starts from no later one
below-at : (a n : ℕ) (x : Placed) (tail qs : List Placed) (q : Placed) (b : Bool) → (start x == a) ≡ b → n ≤ start x
    → (tail ≡ q ∷ qs → n ≤ a) → cond b (x ∷ tail) tail ≡ q ∷ qs → n ≤ a
below-at a n x tail qs q true e le rest is = subst (λ m. n ≤ m) (is_same (start x) a e) le
below-at a n x tail qs q false e le rest is = rest is

below : (a n : ℕ) (ps qs : List Placed) (q : Placed) → AllByRecursion (λ x. n ≤ x.span.start) ps → at_address a ps ≡ q ∷ qs → n ≤ a
below a n [] qs q all is = cc
below a n (x ∷ ps) qs q all is = below-at a n x (at_address a ps) qs q (start x == a) refl all.0 (below a n ps qs q all.1) is

from_self : (p : Placed) (ps : List Placed) → Rising (p ∷ ps) → AllByRecursion (λ x. p.span.start ≤ x.span.start) (p ∷ ps)
from_self p ps rising = (omega arith, rising.0)

-- the rest agrees where the whole does and the heads are one
tail-at : (p q : Placed) (ps qs : List Placed) (b : Bool) → p ≡ q → cond b (p ∷ ps) ps ≡ cond b (q ∷ qs) qs → ps ≡ qs
tail-at p q ps qs true e is = cc
tail-at p q ps qs false e is = is

pub only : (ps qs : List Placed) → Rising ps → Rising qs → ((a : ℕ) → at_address a ps ≡ at_address a qs) → ps ≡ qs
only [] [] r s h = refl
only [] (q ∷ qs) r s h = let no : [] ≡ q ∷ at_address (start q) qs = h (start q) ∙ own (start q) q qs refl in cc
only (p ∷ ps) [] r s h = let no : p ∷ at_address (start p) ps ≡ [] = sym (own (start p) p ps refl) ∙ h (start p) in cc
only (p ∷ ps) (q ∷ qs) r s h =
    let le : start p ≤ start q = below (start q) (start p) (p ∷ ps) _ q (from_self p ps r) (h (start q) ∙ own (start q) q qs refl) in
    let ge : start q ≤ start p = below (start p) (start q) (q ∷ qs) _ p (from_self q qs s) (sym (h (start p)) ∙ own (start p) p ps refl) in
    let starts : start q ≡ start p = omega arith in
    let both : p ∷ at_address (start p) ps ≡ q ∷ at_address (start p) qs = sym (own (start p) p ps refl) ∙ h (start p) ∙ own (start p) q qs starts in
    let heads : p ≡ q = cc in
    let tails : (a : ℕ) → at_address a ps ≡ at_address a qs
    = λ a. tail-at p q (at_address a ps) (at_address a qs) (start p == a) heads
    (h a ∙ ap (λ n. cond (n == a) (q ∷ at_address a qs) (at_address a qs)) starts) in
    let rest : ps ≡ qs = only ps qs r.1 s.1 tails in
    cc

-- putting an element in keeps those of each address
at_put-at : (a : ℕ) (p q : Placed) (rest put : List Placed) (b : Bool) → nat_le (start p) (start q) ≡ b
    → at_address a put ≡ at_address a (p ∷ rest) → at_address a (cond b (p ∷ q ∷ rest) (q ∷ put)) ≡ at_address a (p ∷ q ∷ rest)
at_put-at a p q rest put true e is = refl
at_put-at a p q rest put false e is = by (start q == a) refl (start p == a) refl
  where
    by : (c : Bool) → (start q == a) ≡ c → (d : Bool) → (start p == a) ≡ d
        → at_address a (q ∷ put) ≡ at_address a (p ∷ q ∷ rest)
    by true isq true isp = absurd (grind (arith, nat_tests))
    by c isq d isp = grind arith

at_put : (a : ℕ) (p : Placed) (qs : List Placed) → at_address a (put_by_start p qs) ≡ at_address a (p ∷ qs)
at_put a p [] = refl
at_put a p (q ∷ rest) = at_put-at a p q rest (put_by_start p rest) (nat_le (start p) (start q)) refl (at_put a p rest)

at_sorted : (a : ℕ) (ps : List Placed) → at_address a (by_start ps) ≡ at_address a ps
at_sorted a [] = refl
at_sorted a (p ∷ ps) = at_put a p (by_start ps) ∙ ap (λ rest. cond (start p == a) (p ∷ rest) rest) (at_sorted a ps)

all_put-at : (P : Placed → Type 0) (p q : Placed) (rest put : List Placed) (b : Bool) → P p → P q → AllByRecursion P rest → AllByRecursion P put
    → AllByRecursion P (cond b (p ∷ q ∷ rest) (q ∷ put))
all_put-at P p q rest put true hp hq all more = (hp, (hq, all))
all_put-at P p q rest put false hp hq all more = (hq, more)

pub all_put : (P : Placed → Type 0) (p : Placed) (qs : List Placed) → P p → AllByRecursion P qs → AllByRecursion P (put_by_start p qs)
all_put P p [] hp all = (hp, tt)
all_put P p (q ∷ rest) hp all =
    all_put-at P p q rest (put_by_start p rest) (nat_le (start p) (start q)) hp all.0 all.1 (all_put P p rest hp all.1)

pub all_sorted : (P : Placed → Type 0) (ps : List Placed) → AllByRecursion P ps → AllByRecursion P (by_start ps)
all_sorted P [] all = tt
all_sorted P (p ∷ ps) all = all_put P p (by_start ps) all.0 (all_sorted P ps all.1)

later : (n m : ℕ) (qs : List Placed) → n ≤ m → AllByRecursion (λ q. m ≤ q.span.start) qs → AllByRecursion (λ q. n ≤ q.span.start) qs
later n m [] le all = tt
later n m (q ∷ qs) le all = (omega (arith, all.0), later n m qs le all.1)

rising_put-at : (p q : Placed) (rest put : List Placed) (b : Bool) → nat_le (start p) (start q) ≡ b → Rising (q ∷ rest)
    → Rising put → AllByRecursion (λ x. q.span.start ≤ x.span.start) rest → (start q ≤ start p → AllByRecursion (λ x. q.span.start ≤ x.span.start) put)
    → Rising (cond b (p ∷ q ∷ rest) (q ∷ put))
rising_put-at p q rest put true e r s all more =
    let le : start p ≤ start q = grind (arith, nat_tests) in ((le, later (start p) (start q) rest le all), r)
rising_put-at p q rest put false e r s all more =
    let ge : start q ≤ start p = grind (arith, nat_tests) in (more ge, s)

rising_put : (p : Placed) (qs : List Placed) → Rising qs → Rising (put_by_start p qs)
rising_put p [] r = (tt, tt)
rising_put p (q ∷ rest) r = rising_put-at p q rest (put_by_start p rest) (nat_le (start p) (start q)) refl r (rising_put p rest r.1) r.0
    (λ ge. all_put (λ x. q.span.start ≤ x.span.start) p rest ge r.0)

rising_sorted : (ps : List Placed) → Rising (by_start ps)
rising_sorted [] = tt
rising_sorted (p ∷ ps) = rising_put p (by_start ps) (rising_sorted ps)

-- each element, by its index
each : (P : Placed → Type 0) (ps : List Placed) → ((k : ℕ) (d : Placed) → k < length ps → P (get_or ps k d)) → AllByRecursion P ps
each P [] h = tt
each P (p ∷ ps) h = (h 0 p (omega arith), each P ps (λ k d lt. h (suc k) d (omega arith)))

rising : (ps : List Placed) → IsNonDecreasingBy (λ p. p.span.start) ps → Rising ps
rising [] h = tt
rising (p ∷ ps) h = (
  each (λ q. p.span.start ≤ q.span.start) ps (λ k d lt. h 0 (suc k) d (omega arith) (omega arith)),
  rising ps (λ i j d le lt. h (suc i) (suc j) d (omega arith) (omega arith)),
)

-- what a stable sort by the start gives
pub sorted_is : (ps qs : List Placed) → IsNonDecreasingBy (λ p. p.span.start) qs → ((a : ℕ) → at_address a qs ≡ at_address a ps) → qs ≡ by_start ps
sorted_is ps qs up keeps = only qs (by_start ps) (rising qs up) (rising_sorted ps) (λ a. keeps a ∙ sym (at_sorted a ps))

-- two starts tie where they are equal
probe : ℕ → Placed
probe a = record { span = record { start = a; len = 0; r = false; w = false; x = false }; at = 0 }

tie : (a n : ℕ) → (not (is_lt (nat_cmp a n)) && not (is_lt (nat_cmp n a))) ≡ (n == a)
tie a n = grind (arith, nat_tests)

ties_at : (a : ℕ) (ps : List Placed) → filter (ties (λ p q. is_lt (nat_cmp p.span.start q.span.start)) (probe a)) ps ≡ at_address a ps
unfolding probe
ties_at a [] = refl
ties_at a (p ∷ ps) = (λ i. cond (tie a p.span.start i) (p ∷ ties_at a ps i) (ties_at a ps i))

-- what a stable sort by the start gives, in std's words
pub sorted_stably : (ps qs : List Placed) → IsNonDecreasingBy (λ p. p.span.start) qs → IsStableByKey (λ p. p.span.start) nat_cmp ps qs → qs ≡ by_start ps
sorted_stably ps qs up stable = sorted_is ps qs up (λ a. sym (ties_at a qs) ∙ stable (probe a) ∙ ties_at a ps)
