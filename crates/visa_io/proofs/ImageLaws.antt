-- The code of an image, span by span.
use Rattle.std.proofs.Common.{◌≡◌, ℕ, suc, zero, ◌+◌, ◌<◌, ◌≤◌, ◌^◌, Bool, true, false, cond, List, [], ◌∷◌, ◌++◌, filter, length, get_or, take, drop, refl, sym, ap, ◌∙◌, arith, append_assoc, append-nil, add-zero, add_assoc, ◌*◌, map, length-append, subst}
use Rattle.std.proofs.lemmas.Bool.Decides.{nat_tests}
use Rattle.std.proofs.lemmas.List.{take_more, take-append-drop}
use Rattle.std.proofs.lemmas.List.Elements.{filter-append}
use Rattle.std.specs.Prelude.{All}
use Rattle.std.specs.List.{AllByRecursion}
use Rattle.visa_io.specs.declared.records.Code.{Code}
use Rattle.visa_io.specs.declared.records.Span.{Span}
use Rattle.visa_io.specs.declared.image_code.Placed.{Placed}
use Rattle.visa_io.specs.ImageCode.{total_len, placed_from, has_code, words_in, words_of_all, Fits, code_pieces, cut, words_from, word_at, IsAligned, IsWhole, word_count}
use Rattle.visa_io.proofs.Ordered.{all_sorted}

total_len-append : (xs ys : List Span) → total_len (xs ++ ys) ≡ total_len xs + total_len ys
total_len-append [] ys = omega arith
total_len-append (x ∷ xs) ys = omega (arith, total_len-append xs ys)

pub total_more : (spans : List Span) (i : ℕ) (d : Span) → i < length spans → total_len (take (i + 1) spans) ≡ total_len (take i spans) + (get_or spans i d).len
total_more spans i d lt = ap total_len (take_more spans i d lt) ∙ total_len-append (take i spans) (get_or spans i d ∷ []) ∙ omega arith

-- a span and those before it have no more bytes than all
pub total_fits : (spans : List Span) (i : ℕ) (d : Span) → i < length spans → total_len (take i spans) + (get_or spans i d).len ≤ total_len spans
total_fits spans i d lt =
    omega (arith, total_more spans i d lt, ap total_len (take-append-drop (i + 1) spans), total_len-append (take (i + 1) spans) (drop (i + 1) spans))

placed_from-append : (at : ℕ) (xs ys : List Span) → placed_from at (xs ++ ys) ≡ placed_from at xs ++ placed_from (at + total_len xs) ys
placed_from-append at [] ys = ap (λ n. placed_from n ys) (sym (add-zero at))
placed_from-append at (x ∷ xs) ys =
    ap (λ rest. record { span = x; at = at } ∷ rest) (placed_from-append (at + x.len) xs ys
    ∙ ap (λ n. placed_from (at + x.len) xs ++ placed_from n ys) (add_assoc at x.len (total_len xs)))

-- one span more
pub placed_more : (spans : List Span) (i : ℕ) (d : Span) (at : ℕ) (pieces : List Placed) → i < length spans
    → at ≡ total_len (take i spans) → pieces ≡ filter has_code (placed_from 0 (take i spans))
    → pieces ++ filter has_code (record { span = get_or spans i d; at = at } ∷ []) ≡ filter has_code (placed_from 0 (take (i + 1) spans))
placed_more spans i d at pieces lt at_is before =
    let place : at ≡ 0 + total_len (take i spans) = omega arith in
    ap (λ ps. ps ++ filter has_code (record { span = get_or spans i d; at = at } ∷ [])) before
    ∙ ap (λ n. filter has_code (placed_from 0 (take i spans)) ++ filter has_code (record { span = get_or spans i d; at = n } ∷ [])) place
    ∙ sym (filter-append has_code (placed_from 0 (take i spans)) (placed_from (0 + total_len (take i spans)) (get_or spans i d ∷ [])))
    ∙ ap (filter has_code) (sym (placed_from-append 0 (take i spans) (get_or spans i d ∷ [])))
    ∙ ap (λ s. filter has_code (placed_from 0 s)) (sym (take_more spans i d lt))

words_of_all-append : (big : Bool) (bytes : List ℕ) (xs ys : List Placed) → words_of_all big bytes (xs ++ ys) ≡ words_of_all big bytes xs ++ words_of_all big bytes ys
words_of_all-append big bytes [] ys = refl
words_of_all-append big bytes (x ∷ xs) ys =
    ap (λ rest. words_in big bytes x ++ rest) (words_of_all-append big bytes xs ys)
    ∙ sym (append_assoc (words_in big bytes x) (words_of_all big bytes xs) (words_of_all big bytes ys))

-- one piece more
pub words_more : (big : Bool) (bytes : List ℕ) (pieces : List Placed) (i : ℕ) (d : Placed) → i < length pieces
    → words_of_all big bytes (take (i + 1) pieces) ≡ words_of_all big bytes (take i pieces) ++ words_in big bytes (get_or pieces i d)
words_more big bytes pieces i d lt =
    ap (words_of_all big bytes) (take_more pieces i d lt) ∙ words_of_all-append big bytes (take i pieces) (get_or pieces i d ∷ [])
    ∙ ap (λ rest. words_of_all big bytes (take i pieces) ++ rest) (append-nil (words_in big bytes (get_or pieces i d)))

record Stands (total : ℕ) (piece : Placed) : Type 0 where
  bytes : piece.at + piece.span.len ≤ total
  ends : piece.span.start + piece.span.len ≤ 2 ^ 32

stand : (total at : ℕ) (spans : List Span) → at + total_len spans ≤ total → All (λ s. s.start + s.len ≤ 2 ^ 32) spans → AllByRecursion (Stands total) (placed_from at spans)
stand total at [] fits ends = tt
stand total at (s ∷ rest) fits ends = (
  record { bytes = omega arith; ends = ends 0 s (omega arith) },
  stand total (at + s.len) rest (omega arith) (λ k d lt. ends (suc k) d (omega arith)),
)

with_code-at : (total : ℕ) (p : Placed) (rest : List Placed) (b : Bool) → has_code p ≡ b → Stands total p → AllByRecursion (Fits total) rest
    → AllByRecursion (Fits total) (cond b (p ∷ rest) rest)
with_code-at total p rest true e stands more =
    (record { bytes = stands.bytes; ends = stands.ends; words = grind (arith, nat_tests) }, more)
with_code-at total p rest false e stands more = more

with_code : (total : ℕ) (pieces : List Placed) → AllByRecursion (Stands total) pieces → AllByRecursion (Fits total) (filter has_code pieces)
with_code total [] all = tt
with_code total (p ∷ ps) all = with_code-at total p (filter has_code ps) (has_code p) refl all.0 (with_code total ps all.1)

by_index : (P : Placed → Type 0) (ps : List Placed) → AllByRecursion P ps → (k : ℕ) (d : Placed) → k < length ps → P (get_or ps k d)
by_index P [] all k d lt = absurd (omega arith)
by_index P (p ∷ ps) all zero d lt = all.0
by_index P (p ∷ ps) all (suc k) d lt = by_index P ps all.1 k d (omega arith)

pub all_fit : (spans : List Span) (total : ℕ) → total ≡ total_len spans → All (λ s. s.start + s.len ≤ 2 ^ 32) spans → All (Fits total) (code_pieces spans)
all_fit spans total is ends =
    by_index (Fits total) (code_pieces spans) (all_sorted (Fits total) (filter has_code (placed_from 0 spans))
    (with_code total (placed_from 0 spans) (stand total 0 spans (omega arith) ends)))

words_len : (big : Bool) (bytes : List ℕ) (at n : ℕ) → length (words_from big bytes at n) ≡ n
words_len big bytes at zero = refl
words_len big bytes at (suc n) =
    length-append (words_from big bytes at n) (word_at big bytes (at + 4 * n) ∷ []) ∙ omega (arith, words_len big bytes at n)

all_words_len : (big : Bool) (bytes : List ℕ) (pieces : List Placed)
    → 4 * length (words_of_all big bytes pieces) ≡ total_len (map (λ piece. cut piece.span) pieces)
all_words_len big bytes [] = refl
all_words_len big bytes (p ∷ rest) =
    let here : length (words_in big bytes p) ≡ word_count p.span = words_len big bytes _ (word_count p.span) in
    let both : length (words_of_all big bytes (p ∷ rest)) ≡ length (words_in big bytes p) + length (words_of_all big bytes rest)
    = length-append (words_in big bytes p) (words_of_all big bytes rest) in
    omega (arith, all_words_len big bytes rest)

cut_aligned : (span : Span) → IsAligned (cut span)
cut_aligned span = record { start = omega arith; len = omega arith }

all_aligned : (pieces : List Placed) (k : ℕ) (d : Span) → k < length (map (λ piece. cut piece.span) pieces)
    → IsAligned (get_or (map (λ piece. cut piece.span) pieces) k d)
all_aligned [] k d lt = absurd (omega arith)
all_aligned (p ∷ rest) zero d lt = cut_aligned p.span
all_aligned (p ∷ rest) (suc k) d lt = all_aligned rest k d (omega arith)

-- cut spans and their words are whole
pub whole : (big : Bool) (bytes : List ℕ) (pieces : List Placed) (code : Code) → code.spans ≡ map (λ piece. cut piece.span) pieces
    → code.words ≡ words_of_all big bytes pieces → IsWhole code
whole big bytes pieces code spans words = record {
  words = ap (λ ws. 4 * length ws) words ∙ all_words_len big bytes pieces ∙ ap total_len (sym spans);
  aligned = let P : List Span → Type 0 = λ xs. All IsAligned xs in subst P (sym spans) (all_aligned pieces);
}
