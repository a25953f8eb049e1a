-- The least address that is refused is the first of a segment, or its first that is too high.
use Rattle.std.proofs.Common.{◌≡◌, ℕ, zero, suc, ◌+◌, ◌<◌, ◌≤◌, Bool, true, false, cond, nat_le, max, List, [], ◌∷◌, ◌++◌, length, get_or, take, refl, sym, ◌∙◌, subst, arith}
use Rattle.std.proofs.lemmas.Bool.Decides.{nat_tests}
use Rattle.std.proofs.lemmas.List.{take_more, take_all}
use Rattle.std.proofs.lemmas.List.Sums.{sum_by-cons}
use Rattle.std.specs.Prelude.{Option, Some, None, IfSome, IfNone, count_by}
use Rattle.std.specs.List.{AllByRecursion}
use Rattle.mips_elf.specs.declared.segment.Segment.{Segment}
use Rattle.mips_elf.specs.Segments.{holds, is_refused, first_too_high, AtMost, IsFound, IsSeen, IsLeastRefused}

-- how many of segments hold an address
abbrev many : ℕ → List Segment → ℕ
many a loads = count_by (holds a) loads

many-cons : (a : ℕ) (s : Segment) (rest : List Segment) → many a (s ∷ rest) ≡ cond (holds a s) 1 0 + many a rest
many-cons a s rest = sum_by-cons (λ x. cond (holds a x) 1 0) s rest

-- the last start of the segments that hold an address
top : ℕ → List Segment → ℕ
top a [] = 0
top a (s ∷ rest) = cond (holds a s) (max s.address (top a rest)) (top a rest)

held_from : (a : ℕ) (s : Segment) → holds a s ≡ true → s.address ≤ a
held_from a s h = grind (arith, nat_tests)

held_between : (a b : ℕ) (s : Segment) → holds a s ≡ true → s.address ≤ b → b ≤ a → holds b s ≡ true
held_between a b s h from to = grind (arith, nat_tests)

top-le-at : (a n m : ℕ) (b : Bool) → (b ≡ true → n ≤ a) → m ≤ a → cond b (max n m) m ≤ a
top-le-at a n m true h le = omega (arith, h refl)
top-le-at a n m false h le = le

-- it is no later than the address
top-le : (a : ℕ) (loads : List Segment) → top a loads ≤ a
unfolding top
top-le a [] = omega arith
top-le a (s ∷ rest) = top-le-at a s.address (top a rest) (holds a s) (held_from a s) (top-le a rest)

fewer-at : (a b : ℕ) (s : Segment) (here there m : ℕ) (c : Bool) → holds a s ≡ c → b ≤ a → cond c (max s.address m) m ≤ b
    → (m ≤ b → here ≤ there) → cond c 1 0 + here ≤ cond (holds b s) 1 0 + there
fewer-at a b s here there m true h le from more =
    let held : holds b s ≡ true = held_between a b s h (omega arith) le in
    let rest : here ≤ there = more (omega arith) in
    subst (λ x. 1 + here ≤ cond x 1 0 + there) (sym held) (omega arith)
fewer-at a b s here there m false h le from more = let rest : here ≤ there = more from in omega arith

-- from the last start on, up to the address, as many hold
fewer : (a b : ℕ) (loads : List Segment) → b ≤ a → top a loads ≤ b → many a loads ≤ many b loads
unfolding top
fewer a b [] le from = omega arith
fewer a b (s ∷ rest) le from =
    let step : cond (holds a s) 1 0 + many a rest ≤ cond (holds b s) 1 0 + many b rest
    = fewer-at a b s (many a rest) (many b rest) (top a rest) (holds a s) refl le from (fewer a b rest le) in
    omega (arith, many-cons a s rest, many-cons b s rest)

none-at : (n m count : ℕ) (b : Bool) → cond b 1 0 + count ≡ 0 → (count ≡ 0 → m ≡ 0) → cond b (max n m) m ≡ 0
none-at n m count true e more = absurd (omega arith)
none-at n m count false e more = more (omega arith)

top_none : (a : ℕ) (loads : List Segment) → many a loads ≡ 0 → top a loads ≡ 0
unfolding top
top_none a [] e = refl
top_none a (s ∷ rest) e = none-at s.address (top a rest) (many a rest) (holds a s) (sym (many-cons a s rest) ∙ e) (top_none a rest)

-- a segment of which P holds, that begins at an address
record Begins (P : Segment → Type 0) (a : ℕ) : Type 0 where
  segment : Segment
  is : P segment
  start : a ≡ segment.address

begins-at : (P : Segment → Type 0) (s : Segment) (m count : ℕ) (b c : Bool) → nat_le 1 count ≡ c → P s → 1 ≤ cond b 1 0 + count
    → (1 ≤ count → Begins P m) → (count ≡ 0 → m ≡ 0) → Begins P (cond b (max s.address m) m)
begins-at P s m count false c e p some more none = more (omega arith)
begins-at P s m count true false e p some more none =
    let no : count ≡ 0 = grind (arith, nat_tests) in
    let zeros : m ≡ 0 = none no in
    record { segment = s; is = p; start = omega arith }
begins-at P s m count true true e p some more none = of (more (grind (arith, nat_tests))) (nat_le m s.address) refl
  where
    of : Begins P m → (d : Bool) → nat_le m s.address ≡ d → Begins P (max s.address m)
    of other true le = let low : m ≤ s.address = grind (arith, nat_tests) in record { segment = s; is = p; start = omega arith }
    of other false le = let high : s.address ≤ m = grind (arith, nat_tests) in
        record { segment = other.segment; is = other.is; start = omega (arith, other.start) }

-- the last start is one of theirs
begins : (P : Segment → Type 0) (a : ℕ) (loads : List Segment) → AllByRecursion P loads → 1 ≤ many a loads → Begins P (top a loads)
unfolding top
begins P a [] all some = absurd (omega arith)
begins P a (s ∷ rest) all some =
    begins-at P s (top a rest) (many a rest) (holds a s) (nat_le 1 (many a rest)) refl all.0 (omega (arith, many-cons a s rest))
    (begins P a rest all.1) (top_none a rest)

refused_by_two : (loads : List Segment) (a : ℕ) → 2 ≤ many a loads → is_refused loads a ≡ true
refused_by_two loads a two = grind (arith, nat_tests)

refused_too_high : (loads : List Segment) (a : ℕ) → first_too_high ≤ a → 1 ≤ many a loads → is_refused loads a ≡ true
refused_too_high loads a high one = grind (arith, nat_tests)

lower_still : (found : Option ℕ) (a b : ℕ) → AtMost found a → a ≤ b → AtMost found b
lower_still None a b h le = h
lower_still (Some x) a b h le = omega arith

-- where each segment was seen, the address found is at most each that is refused
at_most : (loads : List Segment) (found : Option ℕ) → AllByRecursion (IsSeen loads found) loads → (b : ℕ) → is_refused loads b ≡ true → AtMost found b
at_most loads found all b refused = by (nat_le 2 (many b loads)) refl
  where
    by : (c : Bool) → nat_le 2 (many b loads) ≡ c → AtMost found b
    by true two =
        let at_b : 2 ≤ many b loads = grind (arith, nat_tests) in
        let some = begins (IsSeen loads found) b loads all (omega arith) in
        let low : top b loads ≤ b = top-le b loads in
        let more : many b loads ≤ many (top b loads) loads = fewer b (top b loads) loads low (omega arith) in
        let refused_there : is_refused loads (top b loads) ≡ true = refused_by_two loads (top b loads) (omega arith) in
        let P : ℕ → Type 0 = λ a. is_refused loads a ≡ true in
        lower_still found (some.segment.address) b (some.is.first (subst P some.start refused_there)) (omega (arith, some.start))
    by false two =
        let high : first_too_high ≤ b = grind (arith, nat_tests) in
        let one : 1 ≤ many b loads = grind (arith, nat_tests) in
        let some = begins (IsSeen loads found) b loads all one in
        let low : top b loads ≤ b = top-le b loads in
        let c : ℕ = max some.segment.address first_too_high in
        let from : top b loads ≤ c = omega (arith, some.start) in
        let to : c ≤ b = omega (arith, some.start) in
        let more : many b loads ≤ many c loads = fewer b c loads to from in
        lower_still found c b (some.is.too_high (refused_too_high loads c (omega arith) (omega arith))) to

pub found_least : (loads : List Segment) (found : Option ℕ) → IsFound loads found → AllByRecursion (IsSeen loads found) loads
    → IfSome found (λ a. IsLeastRefused loads a)
found_least loads None is seen = tt
found_least loads (Some a) is seen = record { refused = is; least = at_most loads (Some a) seen }

pub none_refused : (loads : List Segment) (found : Option ℕ) → AllByRecursion (IsSeen loads found) loads
    → IfNone found ((a : ℕ) → is_refused loads a ≡ true → ⊥)
none_refused loads None seen = at_most loads None seen
none_refused loads (Some a) seen = tt

-- one segment more is seen, and the others still are
pub seen_still : (loads : List Segment) (old new : Option ℕ) (s : Segment) → ((b : ℕ) → AtMost old b → AtMost new b) → IsSeen loads old s → IsSeen loads new s
seen_still loads old new s keeps seen = record { first = λ r. keeps _ (seen.first r); too_high = λ r. keeps _ (seen.too_high r) }

seen_more : (loads xs : List Segment) (old new : Option ℕ) (s : Segment) → ((b : ℕ) → AtMost old b → AtMost new b)
    → AllByRecursion (IsSeen loads old) xs → IsSeen loads new s → AllByRecursion (IsSeen loads new) (xs ++ s ∷ [])
seen_more loads [] old new s keeps seen here = (here, tt)
seen_more loads (x ∷ xs) old new s keeps seen here = (seen_still loads old new x keeps seen.0, seen_more loads xs old new s keeps seen.1 here)

pub seen_next : (loads : List Segment) (i : ℕ) (d : Segment) (old new : Option ℕ) → i < length loads → ((b : ℕ) → AtMost old b → AtMost new b)
    → AllByRecursion (IsSeen loads old) (take i loads) → IsSeen loads new (get_or loads i d) → AllByRecursion (IsSeen loads new) (take (i + 1) loads)
seen_next loads i d old new lt keeps seen here =
    let P : List Segment → Type 0 = λ xs. AllByRecursion (IsSeen loads new) xs in
    subst P (sym (take_more loads i d lt)) (seen_more loads (take i loads) old new (get_or loads i d) keeps seen here)

pub seen_all : (loads : List Segment) (i : ℕ) (found : Option ℕ) → length loads ≤ i → AllByRecursion (IsSeen loads found) (take i loads) → AllByRecursion (IsSeen loads found) loads
seen_all loads i found le seen = let P : List Segment → Type 0 = λ xs. AllByRecursion (IsSeen loads found) xs in subst P (take_all i loads le) seen

counted : (b : Bool) (n m : ℕ) → b ≡ true → m ≡ cond b 1 0 + n → 1 ≤ m
counted true n m h e = omega arith
counted false n m h e = cc

-- where a segment holds an address, some do
pub some_hold : (a : ℕ) (loads : List Segment) (k : ℕ) (d : Segment) → k < length loads → holds a (get_or loads k d) ≡ true → 1 ≤ many a loads
some_hold a [] k d lt h = absurd (omega arith)
some_hold a (s ∷ rest) zero d lt h = counted (holds a s) (many a rest) (many a (s ∷ rest)) h (many-cons a s rest)
some_hold a (s ∷ rest) (suc k) d lt h =
    omega (arith, many-cons a s rest, some_hold a rest k d (omega arith) h)

high-at : (loads : List Segment) (k : ℕ) (d : Segment) (b : Bool) → nat_le ((get_or loads k d).address + (get_or loads k d).memory_len) first_too_high ≡ b
    → k < length loads → 0 < (get_or loads k d).memory_len → ((a : ℕ) → is_refused loads a ≡ true → ⊥)
    → (get_or loads k d).address + (get_or loads k d).memory_len ≤ first_too_high
high-at loads k d true le lt some none = grind (arith, nat_tests)
high-at loads k d false le lt some none =
    let s : Segment = get_or loads k d in
    let over : first_too_high < s.address + s.memory_len = grind (arith, nat_tests) in
    let a : ℕ = max s.address first_too_high in
    let held : holds a s ≡ true = grind (arith, nat_tests) in
    absurd (none a (refused_too_high loads a (omega arith) (some_hold a loads k d lt held)))

-- where no address is refused, each segment ends below those that are too high
pub ends_below : (loads : List Segment) (k : ℕ) (d : Segment) → k < length loads → 0 < (get_or loads k d).memory_len
    → ((a : ℕ) → is_refused loads a ≡ true → ⊥) → (get_or loads k d).address + (get_or loads k d).memory_len ≤ first_too_high
ends_below loads k d lt some none = high-at loads k d _ refl lt some none
