-- Ranges in the order of their addresses: they have the addresses and the bytes of the ranges that were given.
use Rattle.std.proofs.Common.{◌≡◌, ℕ, suc, ◌+◌, ◌<◌, ◌≤◌, Bool, true, false, cond, List, [], ◌∷◌, length, get_or, Some, None, refl, sym, ap, subst, ◌∙◌, arith}
use Rattle.std.proofs.lemmas.Bool.Decides.{leb_tells}
use Rattle.std.proofs.lemmas.Grind.{common_steps}
use Rattle.std.proofs.lemmas.List.{length-replicate}
use Rattle.std.proofs.lemmas.List.Elements.{All-cons}
use Rattle.std.proofs.lemmas.List.Recursion.{is_sum_by}
use Rattle.std.proofs.lemmas.List.Sorted.{All-permutation, sum_by-IsPermutation}
use Rattle.std.specs.Prelude.{All, filter, replicate, sum_by}
use Rattle.std.specs.List.Sorted.{IsNonDecreasingBy}
use mathlib.Core.Logic.{◌⊎◌, inl, inr}
use Rattle.visa_io.specs.declared.records.Span.{Span}
use Rattle.mips_ref.specs.Held.{IsKept, firsts_from}
use Rattle.mips_ref.specs.Layout.{ByAddress, LeastRefused, MadeOf, NoneRefused, first_refused, has_any}
use Rattle.mips_ref.specs.Memory.{LaidOut, Refused, greatest_memory, has, port, total_len}
use Rattle.mips_ref.proofs.Laid.{Rises, holders, holders-below, holders-cons, holders-past, none-laid, laid-none_refused, walk-first}

total_len-sum : (spans : List Span) → total_len spans ≡ sum_by (λ s. s.len) spans
unfolding total_len
total_len-sum spans = is_sum_by total_len (λ s. s.len) refl (λ s rest. refl) spans

holders-empty : (a : ℕ) (s : Span) (rest : List Span) → s.len ≡ 0 → holders a (s ∷ rest) ≡ holders a rest
holders-empty a s rest none = elim (leb_tells s.start a) [ inl t ↦ holders-past a s rest (omega (arith, t.1)) | inr t ↦ holders-below a s rest t.1 ]

-- empty ranges have no address and no byte
kept-holders : (a : ℕ) (s : Span) (rest : List Span) (b : Bool) → has_any s ≡ b → holders a (filter has_any rest) ≡ holders a rest
    → holders a (cond b (s ∷ filter has_any rest) (filter has_any rest)) ≡ holders a (s ∷ rest)
kept-holders a s rest true any same =
    holders-cons a s (filter has_any rest) ∙ ap (λ n. cond (has s a) 1 0 + n) same ∙ sym (holders-cons a s rest)
kept-holders a s rest false none same =
    let zero_len : s.len ≡ 0 = grind (arith, common_steps, none) in
    same ∙ sym (holders-empty a s rest zero_len)

filter-holders : (a : ℕ) (spans : List Span) → holders a (filter has_any spans) ≡ holders a spans
filter-holders a [] = refl
filter-holders a (s ∷ rest) = kept-holders a s rest (has_any s) refl (filter-holders a rest)

kept-len : (s : Span) (rest : List Span) (b : Bool) → has_any s ≡ b → total_len (filter has_any rest) ≡ total_len rest
    → total_len (cond b (s ∷ filter has_any rest) (filter has_any rest)) ≡ total_len (s ∷ rest)
unfolding total_len
kept-len s rest true any same = ap (λ n. s.len + n) same
kept-len s rest false none same = let zero_len : s.len ≡ 0 = grind (arith, common_steps, none) in omega (arith, same, zero_len)

filter-len : (spans : List Span) → total_len (filter has_any spans) ≡ total_len spans
filter-len [] = refl
filter-len (s ∷ rest) = kept-len s rest (has_any s) refl (filter-len rest)

kept-any : (s : Span) (rest : List Span) (b : Bool) → has_any s ≡ b → All (λ t. 0 < t.len) (filter has_any rest)
    → All (λ t. 0 < t.len) (cond b (s ∷ filter has_any rest) (filter has_any rest))
kept-any s rest true any all = All-cons (λ t. 0 < t.len) s (filter has_any rest) (grind (arith, common_steps, any)) all
kept-any s rest false none all = all

filter-any : (spans : List Span) → All (λ t. 0 < t.len) (filter has_any spans)
filter-any [] = λ k d below. absurd (omega arith)
filter-any (s ∷ rest) = kept-any s rest (has_any s) refl (filter-any rest)

rises-all : (from : ℕ) (spans : List Span) → ((d : Span) → 0 < length spans → from ≤ (get_or spans 0 d).start)
    → IsNonDecreasingBy (λ s. s.start) spans → All (λ s. 0 < s.len) spans → Rises from spans
unfolding Rises
rises-all from [] low rising all = tt
rises-all from (s ∷ rest) low rising all = (
  low s (omega arith),
  all 0 s (omega arith),
  rises-all s.start rest (λ d some. rising 0 1 d (omega arith) (omega arith)) (λ i j d le below. rising (suc i) (suc j) d (omega arith) (omega arith)) (λ k d below. all (suc k) d (omega arith)),
)

sorted-rises : (given sorted : List Span) → ByAddress given sorted → Rises 0 sorted
sorted-rises given sorted h =
    rises-all 0 sorted (λ d some. omega arith) h.rising (All-permutation (λ s. 0 < s.len) (filter has_any given) sorted h.same (filter-any given))

sorted-holders : (given sorted : List Span) → ByAddress given sorted → (a : ℕ) → holders a sorted ≡ holders a given
sorted-holders given sorted h a =
    sum_by-IsPermutation (λ s. cond (has s a) 1 0) (filter has_any given) sorted h.same ∙ filter-holders a given

pub sorted-len : (given sorted : List Span) → ByAddress given sorted → total_len sorted ≡ total_len given
sorted-len given sorted h =
    total_len-sum sorted ∙ sum_by-IsPermutation (λ s. s.len) (filter has_any given) sorted h.same ∙ sym (total_len-sum (filter has_any given)) ∙ filter-len given

refused-same : (given sorted : List Span) → ((a : ℕ) → holders a sorted ≡ holders a given) → (a : ℕ) → Refused given a → Refused sorted a
refused-same given sorted same a r = subst (λ n. (2 ≤ n) ⊎ ((port ≤ a) × (1 ≤ n))) (sym (same a)) r

refused-back : (given sorted : List Span) → ((a : ℕ) → holders a sorted ≡ holders a given) → (a : ℕ) → Refused sorted a → Refused given a
refused-back given sorted same a r = subst (λ n. (2 ≤ n) ⊎ ((port ≤ a) × (1 ≤ n))) (same a) r

-- what the walk over them tells of the given ones
pub found-refused : (given sorted : List Span) (a : ℕ) → ByAddress given sorted → first_refused 0 sorted ≡ Some a → LeastRefused given a
found-refused given sorted a h found =
    let least = walk-first sorted a (sorted-rises given sorted h) found in
    let same = sorted-holders given sorted h in
    record {
      refused = refused-back given sorted same a least.refused;
      least = λ b below r. least.least b below (refused-same given sorted same b r);
    }

pub found-none : (given sorted : List Span) → ByAddress given sorted → first_refused 0 sorted ≡ None → (LaidOut 0 sorted) × (NoneRefused given)
found-none given sorted h none =
    let laid = (none-laid 0 0 sorted (sorted-rises given sorted h) none).1 in
    (laid, λ a r. laid-none_refused 0 sorted laid a (refused-same given sorted (sorted-holders given sorted h) a r))

-- they end below the port
laid-len : (from : ℕ) (spans : List Span) → LaidOut from spans → from ≤ port → from + total_len spans ≤ port
unfolding LaidOut total_len
laid-len from [] laid low = omega (arith, low)
laid-len from (s ∷ rest) laid low = omega (arith, laid-len (s.start + s.len) rest laid.3 laid.2, laid.0)

pub sorted-short : (given sorted : List Span) → ByAddress given sorted → first_refused 0 sorted ≡ None → total_len sorted ≤ port
sorted-short given sorted h none = omega (arith, laid-len 0 sorted (found-none given sorted h none).0 (omega arith))

-- what is made of them
pub sorted-made : (given sorted : List Span) (big : Bool) (bytes : List ℕ) → ByAddress given sorted → first_refused 0 sorted ≡ None
    → total_len sorted ≤ greatest_memory → bytes ≡ replicate (total_len sorted) 0 → MadeOf given big (record { spans = sorted; bytes = bytes; big = big })
sorted-made given sorted big bytes h none fits zeros =
    let found = found-none given sorted h none in
    let len = sorted-len given sorted h in
    record {
      none_refused = found.1;
      fits = omega (arith, len, fits);
      laid_out = found.0;
      same_spans = h.same;
      zeros = zeros ∙ ap (λ n. replicate n 0) len;
      order = refl;
    }

pub sorted-kept : (given sorted : List Span) (big : Bool) (bytes firsts : List ℕ) → ByAddress given sorted → first_refused 0 sorted ≡ None
    → total_len sorted ≤ greatest_memory → bytes ≡ replicate (total_len sorted) 0 → firsts ≡ firsts_from 0 sorted
    → IsKept (record { spans = sorted; bytes = bytes; big = big }) firsts
sorted-kept given sorted big bytes firsts h none fits zeros firsts_are = record {
  memory = record {
    laid_out = (found-none given sorted h none).0;
    full = ap length zeros ∙ length-replicate (total_len sorted) 0;
    small = fits;
  };
  firsts_are = firsts_are;
}
