-- Where the words of an image's code come from.
use Rattle.std.proofs.Common.{◌≡◌, ◌∙◌, refl, sym, ap, ℕ, zero, suc, ◌+◌, ◌-◌, ◌*◌, ◌/◌, ◌%◌, ◌<◌, ◌≤◌, Bool, true, false, cond, List, [], ◌∷◌, ◌++◌, length, drop, filter, map, arith, inl, inr, Some, None}
use Rattle.std.specs.Prelude.{◌==◌, nat_le, nat_lt, if◌then◌else◌, slice_get}
use Rattle.std.specs.List.{AllByRecursion}
use Rattle.std.proofs.lemmas.Bool.{and_parts, cases_lt, eqb-true, leb-true, ltb-true}
use Rattle.std.proofs.lemmas.List.{length-append}
use Rattle.std.proofs.Math.Seq.{drop-append_seam}
use Rattle.visa_io.specs.ImageCode.{code_of_image, code_pieces, cut, first_word, has_code, placed_from, total_len, word_at, word_count, words_from, words_in, words_of_all}
use Rattle.visa_io.specs.declared.records.Image.{Image}
use Rattle.visa_io.specs.declared.records.Span.{Span}
use Rattle.visa_io.proofs.Ordered.{all_sorted}
use Rattle.flow_graph.specs.Code.{holds, word_at as code_word, word_from}

-- a range with the place of its first byte, as visa_io makes them
abbrev ElementOf : {A : Type 0} → List A → Type 0
ElementOf {A} xs = A

abbrev pub Placed : Type 0
Placed = ElementOf (placed_from 0 [])

-- a piece is one of some ranges, behind those before it, and can be executed
pub record IsPieceOf (spans : List Span) (p : Placed) : Type 0 where
  pub before : List Span
  pub later : List Span
  pub is : spans ≡ before ++ p.span ∷ later
  pub at : p.at ≡ total_len before
  pub runs : p.span.x ≡ true

-- a word of code comes of a piece
pub record IsFrom (spans : List Span) (big : Bool) (bytes : List ℕ) (a w : ℕ) : Type 0 where
  pub piece : Placed
  pub of : IsPieceOf spans piece
  pub low : first_word piece.span ≤ a
  pub high : a < first_word piece.span + 4 * word_count piece.span
  pub word : w ≡ word_at big bytes (piece.at + (a - piece.span.start))

-- the words from a byte on
words_length : (big : Bool) (bytes : List ℕ) (at n : ℕ) → length (words_from big bytes at n) ≡ n
words_length big bytes at zero = refl
words_length big bytes at (suc n) = length-append (words_from big bytes at n) (word_at big bytes (at + 4 * n) ∷ []) ∙ omega (arith, words_length big bytes at n)

get_left : (xs ys : List ℕ) (k : ℕ) → k < length xs → slice_get (xs ++ ys) k ≡ slice_get xs k
get_left [] ys k below = absurd (omega (arith, below))
get_left (x ∷ xs) ys zero below = refl
get_left (x ∷ xs) ys (suc k) below = get_left xs ys k (omega (arith, below))

get_last : (xs : List ℕ) (y : ℕ) → slice_get (xs ++ y ∷ []) (length xs) ≡ Some y
get_last [] y = refl
get_last (x ∷ xs) y = get_last xs y

words_get : (big : Bool) (bytes : List ℕ) (at n k : ℕ) → k < n
    → slice_get (words_from big bytes at n) k ≡ Some (word_at big bytes (at + 4 * k))
words_get big bytes at zero k below = absurd (omega (arith, below))
words_get big bytes at (suc n) k below = elim (cases_lt k n) [
  | inl less ↦ get_left (words_from big bytes at n) (word_at big bytes (at + 4 * n) ∷ []) k (omega (arith, less, words_length big bytes at n)) ∙ words_get big bytes at n k less
  | inr same ↦
      let is : k ≡ n = omega (arith, below, same) in
      ap (slice_get (words_from big bytes at n ++ word_at big bytes (at + 4 * n) ∷ [])) (is ∙ sym (words_length big bytes at n))
      ∙ get_last (words_from big bytes at n) (word_at big bytes (at + 4 * n)) ∙ ap (λ m. Some (word_at big bytes (at + 4 * m))) (sym is)
]

drop_left : (xs ys : List ℕ) (n : ℕ) → n ≡ length xs → drop n (xs ++ ys) ≡ ys
drop_left xs ys n is = ap (λ k. drop k (xs ++ ys)) is ∙ drop-append_seam xs ys

-- the pieces of an image
placed_pieces : (all before spans : List Span) (at : ℕ) → all ≡ before ++ spans → at ≡ total_len before
    → AllByRecursion (λ p. p.span.x ≡ true → IsPieceOf all p) (placed_from at spans)
placed_pieces all before [] at is at_is = tt
placed_pieces all before (s ∷ rest) at is at_is = (
  λ runs. record { before = before; later = rest; is = is; at = at_is; runs = runs },
  placed_pieces all (before ++ s ∷ []) rest (at + s.len) (is ∙ regroup before s rest) (omega (arith, at_is, total_more before s)),
)
  where
    regroup : (xs : List Span) (y : Span) (zs : List Span) → xs ++ y ∷ zs ≡ (xs ++ y ∷ []) ++ zs
    regroup [] y zs = refl
    regroup (x ∷ xs) y zs = ap (λ q. x ∷ q) (regroup xs y zs)

    total_more : (xs : List Span) (y : Span) → total_len (xs ++ y ∷ []) ≡ total_len xs + y.len
    total_more [] y = omega arith
    total_more (x ∷ xs) y = omega (arith, total_more xs y)

kept_pieces : (all : List Span) (ps : List Placed) → AllByRecursion (λ p. p.span.x ≡ true → IsPieceOf all p) ps
    → AllByRecursion (IsPieceOf all) (filter has_code ps)
kept_pieces all [] each = tt
kept_pieces all (p ∷ ps) each = by_test (has_code p) refl (kept_pieces all ps each.1)
  where
    by_test : (b : Bool) → has_code p ≡ b → AllByRecursion (IsPieceOf all) (filter has_code ps)
        → AllByRecursion (IsPieceOf all) (cond b (p ∷ filter has_code ps) (filter has_code ps))
    by_test true is more = (each.0 ((and_parts p.span.x (nat_lt 0 (word_count p.span)) is).0), more)
    by_test false is more = more

pub pieces_are : (spans : List Span) → AllByRecursion (IsPieceOf spans) (code_pieces spans)
pieces_are spans = all_sorted (IsPieceOf spans) (filter has_code (placed_from 0 spans)) (kept_pieces spans (placed_from 0 spans) (placed_pieces spans [] spans 0 refl refl))

-- the words of all pieces
held : (s : Span) (a : ℕ) → holds s a ≡ true → (s.start ≤ a) × (a < s.start + s.len)
held s a is = let both = and_parts (nat_le s.start a) (nat_lt a (s.start + s.len)) is in (leb-true s.start a both.0, ltb-true a (s.start + s.len) both.1)

-- a multiple of four between multiples of four
quarter : (a f n s : ℕ) → a % 4 ≡ 0 → f % 4 ≡ 0 → f ≤ a → a < f + 4 * n → s ≤ f
    → ((a - f) / 4 < n) × (f - s + 4 * ((a - f) / 4) ≡ a - s)
quarter a f n s a4 f4 low high start = (omega (arith, a4, f4, low, high), omega (arith, a4, f4, low, high, start))

first_four : (s : Span) → first_word s % 4 ≡ 0
first_four s = omega arith

first_above : (s : Span) → s.start ≤ first_word s
first_above s = omega arith

four_len : (n : ℕ) → 4 * n / 4 ≡ n
four_len n = omega arith

some_same : (x y : ℕ) → Some x ≡ Some y → x ≡ y
some_same x y e = cc

found : (spans : List Span) (big : Bool) (bytes : List ℕ) (pieces : List Placed) (a w : ℕ) → a % 4 ≡ 0
    → AllByRecursion (IsPieceOf spans) pieces
    → word_from (map (λ piece. cut piece.span) pieces) (words_of_all big bytes pieces) a ≡ Some w
    → IsFrom spans big bytes a w
unfolding word_from
found spans big bytes [] a w four each is = cc
found spans big bytes (p ∷ ps) a w four each is = by_test (λ later. found spans big bytes ps a w four each.1 later) (holds (cut p.span) a) refl is
  where
    by_test : (word_from (map (λ piece. cut piece.span) ps) (words_of_all big bytes ps) a ≡ Some w → IsFrom spans big bytes a w)
        → (b : Bool) → holds (cut p.span) a ≡ b
        → (if b then slice_get (words_in big bytes p ++ words_of_all big bytes ps) ((a - first_word p.span) / 4) else word_from (map (λ piece. cut piece.span) ps) (drop (4 * word_count p.span / 4) (words_in big bytes p ++ words_of_all big bytes ps)) a) ≡ Some w
        → IsFrom spans big bytes a w
    by_test next true inside there =
        let within = held (cut p.span) a inside in
        let place = quarter a (first_word p.span) (word_count p.span) p.span.start four (first_four p.span) within.0 within.1 (first_above p.span) in
        let long = words_length big bytes (p.at + (first_word p.span - p.span.start)) (word_count p.span) in
        let word = get_left (words_in big bytes p) (words_of_all big bytes ps) ((a - first_word p.span) / 4) (omega (arith, place.0, long))
        ∙ words_get big bytes (p.at + (first_word p.span - p.span.start)) (word_count p.span) ((a - first_word p.span) / 4) place.0 in
        let value = some_same w (word_at big bytes (p.at + (first_word p.span - p.span.start) + 4 * ((a - first_word p.span) / 4))) (sym there ∙ word) in
        let at : p.at + (first_word p.span - p.span.start) + 4 * ((a - first_word p.span) / 4) ≡ p.at + (a - p.span.start) = omega (arith, place.1) in
        record { piece = p; of = each.0; low = within.0; high = within.1; word = value ∙ ap (word_at big bytes) at }
    by_test next false other there =
        let long = words_length big bytes (p.at + (first_word p.span - p.span.start)) (word_count p.span) in
        let rest = drop_left (words_in big bytes p) (words_of_all big bytes ps) (4 * word_count p.span / 4) (four_len (word_count p.span) ∙ sym long) in
        next (ap (λ q. word_from (map (λ piece. cut piece.span) ps) q a) (sym rest) ∙ there)

pub word_is_from : (i : Image) (a w : ℕ) → code_word (code_of_image i) a ≡ Some w
    → (a % 4 ≡ 0) × IsFrom i.spans i.big i.bytes a w
unfolding code_of_image
word_is_from i a w is = by_test (a % 4 == 0) refl is
  where
    by_test : (b : Bool) → (a % 4 == 0) ≡ b
        → (if b then word_from (map (λ piece. cut piece.span) (code_pieces i.spans)) (words_of_all i.big i.bytes (code_pieces i.spans)) a else None) ≡ Some w
        → (a % 4 ≡ 0) × IsFrom i.spans i.big i.bytes a w
    by_test true four there = let is_four = eqb-true (a % 4) 0 four in (is_four, found i.spans i.big i.bytes (code_pieces i.spans) a w is_four (pieces_are i.spans) there)
    by_test false four there = cc
