-- The code of an image that is laid out has whole words, in spans that share no address.
use Rattle.std.proofs.Common.{◌≡◌, refl, ap, ℕ, zero, suc, ◌+◌, ◌*◌, ◌^◌, ◌<◌, ◌≤◌, Bool, true, false, cond, List, [], ◌∷◌, ◌++◌, length, get_or, filter, map, arith, ◌⊎◌, inl, inr}
use Rattle.std.specs.Prelude.{All, AllPairs, nat_le, nat_lt}
use Rattle.std.proofs.lemmas.Bool.{and_parts, cases_lt, leb-true, ltb-true}
use Rattle.visa_io.specs.ImageCode.{Fits, IsFilled, by_start, code_of_image, code_pieces, cut, first_word, has_code, placed_from, put_by_start, word_count}
use Rattle.visa_io.specs.declared.records.Image.{Image}
use Rattle.visa_io.specs.declared.records.Span.{Span}
use Rattle.visa_io.proofs.ImageLaws.{all_fit, whole}
use Rattle.flow_graph.specs.Code.{IsApart, IsCode}
use Rattle.mips_ref.specs.Layout.{NoneRefused}
use Rattle.task_layout.specs.Layout.{IsLaidOut}
use Rattle.task_text.specs.declared.task.Task.{Task}
use Rattle.mips_ref.specs.Memory.{Flat, has}
use Rattle.mips_ref.proofs.Laid.{holders, holders-cons}
use Rattle.mips_ref.proofs.Places.{has-inside}

-- a placed range with its span, as visa_io makes them
abbrev ElementOf : {A : Type 0} → List A → Type 0
ElementOf {A} xs = A

abbrev Placed : Type 0
Placed = ElementOf (placed_from 0 [])

-- how many pieces, cut to words, have an address
abbrev cuts_with : ℕ → List Placed → ℕ
cuts_with a pieces = holders a (map (λ p. cut p.span) pieces)

cuts_with-cons : (a : ℕ) (p : Placed) (ps : List Placed) → cuts_with a (p ∷ ps) ≡ cond (has (cut p.span) a) 1 0 + cuts_with a ps
cuts_with-cons a p ps = holders-cons a (cut p.span) (map (λ q. cut q.span) ps)

-- their order doesn't matter
put-same : (a : ℕ) (p : Placed) (ps : List Placed) → cuts_with a (put_by_start p ps) ≡ cuts_with a (p ∷ ps)
put-same a p [] = refl
put-same a p (q ∷ ps) = by_test (nat_le p.span.start q.span.start) (put-same a p ps)
  where
    by_test : (b : Bool) → cuts_with a (put_by_start p ps) ≡ cuts_with a (p ∷ ps)
        → cuts_with a (cond b (p ∷ q ∷ ps) (q ∷ put_by_start p ps)) ≡ cuts_with a (p ∷ q ∷ ps)
    by_test true same = refl
    by_test false same = omega (arith, cuts_with-cons a q (put_by_start p ps), same, cuts_with-cons a p (q ∷ ps), cuts_with-cons a q ps, cuts_with-cons a p ps)

sorted-same : (a : ℕ) (ps : List Placed) → cuts_with a (by_start ps) ≡ cuts_with a ps
sorted-same a [] = refl
sorted-same a (p ∷ ps) = omega (arith, put-same a p (by_start ps), cuts_with-cons a p (by_start ps), cuts_with-cons a p ps, sorted-same a ps)

-- a cut range has no address that the range doesn't have
cut-within : (s : Span) (a : ℕ) → has (cut s) a ≡ true → has s a ≡ true
cut-within s a inside =
    let both = and_parts (nat_le (first_word s) a) (nat_lt a (first_word s + 4 * word_count s)) inside in
    let low = leb-true (first_word s) a both.0 in
    let high = ltb-true a (first_word s + 4 * word_count s) both.1 in
    has-inside s a (omega (arith, low)) (omega (arith, low, high))

fewer : (b c : Bool) (m n : ℕ) → (b ≡ true → c ≡ true) → m ≤ n → cond b 1 0 + m ≤ cond c 1 0 + n
fewer true true m n held less = omega (arith, less)
fewer true false m n held less = let no = held refl in cc
fewer false true m n held less = omega (arith, less)
fewer false false m n held less = omega (arith, less)

-- the pieces with code are no more than the ranges
kept-fewer : (a at : ℕ) (spans : List Span) → cuts_with a (filter has_code (placed_from at spans)) ≤ holders a spans
kept-fewer a at [] = omega arith
kept-fewer a at (s ∷ rest) = by_test (has_code (record { span = s; at = at })) (kept-fewer a (at + s.len) rest)
  where
    by_test : (b : Bool) → cuts_with a (filter has_code (placed_from (at + s.len) rest)) ≤ holders a rest
        → cuts_with a (cond b (record { span = s; at = at } ∷ filter has_code (placed_from (at + s.len) rest)) (filter has_code (placed_from (at + s.len) rest))) ≤ holders a (s ∷ rest)
    by_test true less = omega (arith, cuts_with-cons a (record { span = s; at = at }) (filter has_code (placed_from (at + s.len) rest)), holders-cons a s rest, fewer (has (cut s) a) (has s a) _ _ (cut-within s a) less)
    by_test false less = omega (arith, less, holders-cons a s rest)

-- ranges each address of which is in one alone are apart
is_held : (xs : List Span) (k : ℕ) (d : Span) (a : ℕ) → k < length xs → has (get_or xs k d) a ≡ true → 1 ≤ holders a xs
is_held [] k d a below inside = absurd (omega (arith, below))
is_held (x ∷ xs) zero d a below inside =
    let one : cond (has x a) 1 0 ≡ 1 = ap (λ (b : Bool). let n : ℕ = cond b 1 0 in n) inside in omega (arith, holders-cons a x xs, one)
is_held (x ∷ xs) (suc k) d a below inside = omega (arith, holders-cons a x xs, is_held xs k d a (omega (arith, below)) inside)

all_apart : (xs : List Span) → ((a : ℕ) → holders a xs ≤ 1) → AllPairs IsApart xs
all_apart [] once i j d less below = absurd (omega (arith, below))
all_apart (x ∷ xs) once zero zero d less below = absurd (omega (arith, less))
all_apart (x ∷ xs) once zero (suc j) d less below = λ a inside. by_test a inside (has (get_or xs j d) a) refl
  where
    by_test : (a : ℕ) → has x a ≡ true → (b : Bool) → has (get_or xs j d) a ≡ b → b ≡ false
    by_test a inside true is =
        let one : cond (has x a) 1 0 ≡ 1 = ap (λ (b : Bool). let n : ℕ = cond b 1 0 in n) inside in
        absurd (omega (arith, once a, holders-cons a x xs, one, is_held xs j d a (omega (arith, below)) is))
    by_test a inside false is = refl
all_apart (x ∷ xs) once (suc i) zero d less below = absurd (omega (arith, less))
all_apart (x ∷ xs) once (suc i) (suc j) d less below =
    all_apart xs (λ a. omega (arith, once a, holders-cons a x xs)) i j d (omega (arith, less)) (omega (arith, below))

first_holders : (a : ℕ) (xs ys : List Span) → holders a xs ≤ holders a (xs ++ ys)
first_holders a [] ys = omega arith
first_holders a (x ∷ xs) ys = omega (arith, holders-cons a x xs, holders-cons a x (xs ++ ys), first_holders a xs ys)

-- no address is in two ranges of an image, where a memory was made of them and of others
once_of : (spans others : List Span) (a : ℕ) → NoneRefused (spans ++ others) → holders a spans ≤ 1
once_of spans others a none = by_cases (cases_lt (holders a spans) 2)
  where
    by_cases : (holders a spans < 2) ⊎ (2 ≤ holders a spans) → holders a spans ≤ 1
    by_cases (inl less) = omega (arith, less)
    by_cases (inr more) = absurd (none a (inl (omega (arith, more, first_holders a spans others))))

-- a cut range ends where the range does, or before
cut-ends : (s : Span) → 0 < word_count s → s.start + s.len ≤ 2 ^ 32 → (cut s).start + (cut s).len ≤ 2 ^ 32
cut-ends s some ends = omega (arith, some, ends)

ends_of : (total : ℕ) (ps : List Placed) → All (Fits total) ps → (k : ℕ) (d : Span) → k < length (map (λ p. cut p.span) ps)
    → (get_or (map (λ p. cut p.span) ps) k d).start + (get_or (map (λ p. cut p.span) ps) k d).len ≤ 2 ^ 32
ends_of total [] fit k d below = absurd (omega (arith, below))
ends_of total (p ∷ ps) fit zero d below = let here = fit 0 p (omega arith) in cut-ends p.span here.words here.ends
ends_of total (p ∷ ps) fit (suc k) d below = ends_of total ps (λ j e less. fit (suc j) e (omega (arith, less))) k d (omega (arith, below))

code_is : (i : Image) (others : List Span) → NoneRefused (i.spans ++ others) → IsFilled i → IsCode (code_of_image i)
unfolding code_of_image
code_is i others none filled = record {
  whole = whole i.big i.bytes (code_pieces i.spans) _ refl refl;
  ends = ends_of (length i.bytes) (code_pieces i.spans) (all_fit i.spans (length i.bytes) filled.bytes filled.ends);
  apart = all_apart (map (λ p. cut p.span) (code_pieces i.spans)) (λ a. omega (arith, sorted-same a (filter has_code (placed_from 0 i.spans)), kept-fewer a 0 i.spans, once_of i.spans others a none));
}

pub code_laid_out : (t : Task) (i : Image) (m : Flat) → IsLaidOut t i m → IsFilled i → IsCode (code_of_image i)
code_laid_out t i m laid filled = code_is i t.ram laid.is_empty.made.none_refused filled
