-- The memory of a layout holds the code of its image.
use Rattle.std.proofs.Common.{◌≡◌, ◌∙◌, refl, sym, ap, subst, ℕ, zero, suc, ◌+◌, ◌-◌, ◌*◌, ◌%◌, ◌^◌, ◌<◌, ◌≤◌, Bool, true, false, cond, List, [], ◌∷◌, ◌++◌, length, filter, arith, Option, Some, None, eq-eqb}
use Rattle.std.specs.Prelude.{◌==◌, ◌&&◌, nat_le, slice_index}
use Rattle.std.specs.List.{Contains}
use Rattle.std.proofs.lemmas.Bool.{le-leb}
use Rattle.std.proofs.lemmas.Grind.{common_steps}
use Rattle.std.proofs.lemmas.List.{length-replicate}
use Rattle.std.proofs.lemmas.List.Sorted.{Contains-permutation}
use Rattle.visa_io.specs.ImageCode.{IsFilled, code_of_image, total_len as bytes_of, word_of}
use Rattle.visa_io.specs.declared.records.Image.{Image}
use Rattle.visa_io.specs.declared.records.Span.{Span}
use Rattle.mips_ref.specs.Layout.{MadeOf, has_any}
use Rattle.mips_ref.specs.Memory.{Flat, LaidOut, at_place, byte_at, code_at, code_word_at, has, in_order, is_code, lane, lanes_at, or_zero, place_from, place_of, total_len}
use Rattle.mips_ref.specs.declared.place.Place.{Place}
use Rattle.mips_ref.proofs.Placed.{sorted-len}
use Rattle.mips_ref.proofs.Places.{starts_rise}
use Rattle.task_text.specs.declared.task.Task.{Task}
use Rattle.task_layout.specs.Layout.{IsLaidOut, filled, ranges_of}
use Rattle.task_layout.proofs.Filling.{filled-big, filled-spans}
use Rattle.task_layout.proofs.Layouts.{laid_out_ranges}
use Rattle.task_layout.proofs.Ranges.{given-declared}
use Rattle.run_law.specs.Runs.{HasCode}
use Rattle.laid_code.specs.Bytes.{AreBytes}
use Rattle.laid_code.proofs.CodeWords.{IsFrom, word_is_from}
use Rattle.laid_code.proofs.Filled.{IsFull, apart, filled_at}

-- the two sums of lengths are one
same_total : (spans : List Span) → bytes_of spans ≡ total_len spans
unfolding total_len
same_total [] = refl
same_total (s ∷ rest) = ap (λ n. s.len + n) (same_total rest)

total_split : (before : List Span) (s : Span) (later : List Span)
    → total_len (before ++ s ∷ later) ≡ total_len before + (s.len + total_len later)
unfolding total_len
total_split [] s later = omega arith
total_split (t ∷ ts) s later = omega (arith, total_split ts s later)

-- members
contains_mid : (before : List Span) (s : Span) (later : List Span) → Contains (before ++ s ∷ later) s
contains_mid [] s later = (0, omega arith, refl)
contains_mid (t ∷ ts) s later = let more = contains_mid ts s later in (suc more.0, omega (arith, more.1), more.2)

contains_more : (xs ys : List Span) (s : Span) → Contains xs s → Contains (xs ++ ys) s
contains_more [] ys s (k, below, is) = absurd (omega (arith, below))
contains_more (x ∷ xs) ys s (zero, below, is) = (0, omega arith, is)
contains_more (x ∷ xs) ys s (suc k, below, is) = let more = contains_more xs ys s (k, omega (arith, below), is) in (suc more.0, omega (arith, more.1), more.2)

kept_member : (xs : List Span) (s : Span) → has_any s ≡ true → Contains xs s → Contains (filter has_any xs) s
kept_member [] s some (k, below, is) = absurd (omega (arith, below))
kept_member (x ∷ xs) s some (zero, below, is) = subst (λ b. Contains (cond b (x ∷ filter has_any xs) (filter has_any xs)) s) (sym (ap has_any is ∙ some)) (0, omega arith, is)
kept_member (x ∷ xs) s some (suc k, below, is) = by_test (has_any x) (kept_member xs s some (k, omega (arith, below), is))
  where
    by_test : (b : Bool) → Contains (filter has_any xs) s
        → Contains (cond b (x ∷ filter has_any xs) (filter has_any xs)) s
    by_test true more = (suc more.0, omega (arith, more.1), more.2)
    by_test false more = more

-- the place of an address in a range of a memory
record IsPlaced (before : ℕ) (spans : List Span) (s : Span) (a : ℕ) : Type 0 where
  place : Place
  found : place_from before spans a ≡ Some place
  span : place.span ≡ s

above_all : (from : ℕ) (spans : List Span) (s : Span) → LaidOut from spans → Contains spans s → from ≤ s.start
unfolding LaidOut
above_all from [] s laid (k, below, is) = absurd (omega (arith, below))
above_all from (x ∷ rest) s laid (zero, below, is) = omega (arith, laid.0, ap (λ (t : Span). t.start) is)
above_all from (x ∷ rest) s laid (suc k, below, is) = omega (arith, laid.0, above_all (x.start + x.len) rest s laid.3 (k, omega (arith, below), is))

placed : (before from : ℕ) (spans : List Span) (s : Span) (a : ℕ) → LaidOut from spans → Contains spans s
    → s.start ≤ a → a < s.start + s.len → IsPlaced before spans s a
unfolding LaidOut place_from
placed before from [] s a laid (k, below, is) low high = absurd (omega (arith, below))
placed before from (x ∷ rest) s a laid (zero, below, is) low high =
    let start : x.start ≡ s.start = ap (λ (t : Span). t.start) is in
    let len : x.len ≡ s.len = ap (λ (t : Span). t.len) is in
    let inside : has x a ≡ true = grind (arith, common_steps, start, len) in
    record {
      place = record { span = x; index = before + (a - x.start) };
      found = ap (λ b. cond b (Some (record { span = x; index = before + (a - x.start) })) (place_from (before + x.len) rest a)) inside;
      span = is;
    }
placed before from (x ∷ rest) s a laid (suc k, below, is) low high =
    let above = above_all (x.start + x.len) rest s laid.3 (k, omega (arith, below), is) in
    let outside : has x a ≡ false = grind (arith, common_steps, above) in
    let more = placed (before + x.len) (x.start + x.len) rest s a laid.3 (k, omega (arith, below), is) low high in
    record {
      place = more.place;
      found = ap (λ b. cond b (Some (record { span = x; index = before + (a - x.start) })) (place_from (before + x.len) rest a)) outside ∙ more.found;
      span = more.span;
    }

-- four bytes are one word in either order
lane_0 : (a b c d : ℕ) → a < 256 → lane 0 (a + 256 * b + 65536 * c + 16777216 * d) ≡ a
lane_0 a b c d small = omega (arith, small)

lane_1 : (a b c d : ℕ) → a < 256 → b < 256 → lane 1 (a + 256 * b + 65536 * c + 16777216 * d) ≡ b
lane_1 a b c d p q = omega (arith, p, q)

lane_2 : (a b c d : ℕ) → a < 256 → b < 256 → c < 256 → lane 2 (a + 256 * b + 65536 * c + 16777216 * d) ≡ c
lane_2 a b c d p q r = omega (arith, p, q, r)

lane_3 : (a b c d : ℕ) → a < 256 → b < 256 → c < 256 → d < 256 → lane 3 (a + 256 * b + 65536 * c + 16777216 * d) ≡ d
lane_3 a b c d p q r s = omega (arith, p, q, r, s)

one_word : (big : Bool) (a b c d : ℕ) → a < 256 → b < 256 → c < 256 → d < 256
    → in_order big (a + 256 * b + 65536 * c + 16777216 * d) ≡ word_of big a b c d
one_word true a b c d p q r s = omega (arith, lane_0 a b c d p, lane_1 a b c d p q, lane_2 a b c d p q r, lane_3 a b c d p q r s)
one_word false a b c d p q r s = omega arith

-- what a layout gives of one range of its image
record Known (t : Task) (i : Image) (m empty : Flat) : Type 0 where
  made : MadeOf (ranges_of t i) i.big empty
  bytes : m ≡ filled i.spans i.bytes empty
  laid_out : LaidOut 0 m.spans
  filled_whole : IsFilled i
  are_bytes : AreBytes i.bytes

full_empty : (given : List Span) (big : Bool) (empty : Flat) → MadeOf given big empty → IsFull empty
full_empty given big empty made = record {
  laid_out = made.laid_out;
  full = ap length made.zeros ∙ length-replicate {A = ℕ} (total_len given) 0 ∙ sym (sorted-len given empty.spans (record { same = made.same_spans; rising = starts_rise 0 empty.spans made.laid_out }));
}

bytes_at : (t : Task) (i : Image) (m empty : Flat) (a w k : ℕ) → Known t i m empty
    → (f : IsFrom i.spans i.big i.bytes a w) → k < 4 → a + 4 ≤ f.piece.span.start + f.piece.span.len
    → f.piece.span.start ≤ a
    → byte_at m (a + k) ≡ Some (slice_index i.bytes (f.piece.at + (a - f.piece.span.start) + k))
bytes_at t i m empty a w k known f few inside start =
    let s : Span = f.piece.span in
    let of = f.of in
    let j : ℕ = a - s.start + k in
    let low : j < s.len = omega (arith, few, inside, start) in
    let whole : ranges_of t i ≡ (of.before ++ s ∷ of.later) ++ t.ram = ap (λ q. q ++ t.ram) of.is in
    let made = subst (λ q. MadeOf q i.big empty) whole known.made in
    let given = contains_more (of.before ++ s ∷ of.later) t.ram s (contains_mid of.before s of.later) in
    let declared = given-declared ((of.before ++ s ∷ of.later) ++ t.ram) i.big empty s made given in
    let long : total_len of.before + s.len ≤ length i.bytes = omega (arith, known.filled_whole.bytes, same_total i.spans, ap total_len of.is, total_split of.before s of.later) in
    let here : has s (s.start + j) ≡ true = grind (arith, common_steps, low) in
    let there = filled_at of.before s of.later i.bytes empty j (full_empty ((of.before ++ s ∷ of.later) ++ t.ram) i.big empty made) declared long low
    (λ u among. apart of.before s of.later t.ram u (s.start + j) made.none_refused among here) in
    let address : s.start + j ≡ a + k = omega (arith, start) in
    let index : total_len of.before + j ≡ f.piece.at + (a - s.start) + k = omega (arith, of.at, same_total of.before) in
    ap (byte_at m) (sym address) ∙ ap (λ n. byte_at n (s.start + j)) known.bytes ∙ ap (λ q. byte_at (filled q i.bytes empty) (s.start + j)) of.is ∙ there ∙ ap (λ n. Some (slice_index i.bytes n)) index

-- the word at an address of code
word_there : (t : Task) (i : Image) (m empty : Flat) (a w : ℕ) → Known t i m empty → a % 4 ≡ 0
    → IsFrom i.spans i.big i.bytes a w → code_word_at m a ≡ Some w
unfolding code_word_at
word_there t i m empty a w known four f =
    let s : Span = f.piece.span in
    let of = f.of in
    let start : s.start ≤ a = omega (arith, f.low) in
    let inside : a + 4 ≤ s.start + s.len = omega (arith, f.low, f.high, four) in
    let base : ℕ = f.piece.at + (a - s.start) in
    let bytes : (k : ℕ) → k < 4 → byte_at m (a + k) ≡ Some (slice_index i.bytes (base + k)) = λ k few. bytes_at t i m empty a w k known f few inside start in
    let zero_on : a + 0 ≡ a = omega arith in
    let zero_base : base + 0 ≡ base = omega arith in
    let first : byte_at m a ≡ Some (slice_index i.bytes base) = ap (byte_at m) (sym zero_on) ∙ bytes 0 (omega arith) ∙ ap (λ n. Some (slice_index i.bytes n)) zero_base in
    let some : has_any s ≡ true = grind (arith, common_steps, inside) in
    let given = contains_more (of.before ++ s ∷ of.later) t.ram s (contains_mid of.before s of.later) in
    let whole : (of.before ++ s ∷ of.later) ++ t.ram ≡ ranges_of t i = ap (λ q. q ++ t.ram) (sym of.is) in
    let kept = Contains-permutation (filter has_any (ranges_of t i)) empty.spans s known.made.same_spans (kept_member (ranges_of t i) s some (subst (λ q. Contains q s) whole given)) in
    let spans : m.spans ≡ empty.spans = ap (λ (n : Flat). n.spans) known.bytes ∙ filled-spans i.spans i.bytes empty in
    let place = placed 0 0 m.spans s a known.laid_out (subst (λ q. Contains q s) (sym spans) kept) start (omega (arith, inside)) in
    let code : code_at m a ≡ true = code_here a s place.place (place_of m a) place.found place.span of.runs four inside in
    let big : m.big ≡ i.big = ap (λ (n : Flat). n.big) known.bytes ∙ filled-big i.spans i.bytes empty ∙ known.made.order in
    let lanes : lanes_at m a ≡ slice_index i.bytes base + 256 * slice_index i.bytes (base + 1) + 65536 * slice_index i.bytes (base + 2) + 16777216 * slice_index i.bytes (base + 3) =
    four_lanes (byte_at m a) (byte_at m (a + 1)) (byte_at m (a + 2)) (byte_at m (a + 3)) (slice_index i.bytes base) (slice_index i.bytes (base + 1)) (slice_index i.bytes (base + 2)) (slice_index i.bytes (base + 3)) first (bytes 1 (omega arith)) (bytes 2 (omega arith)) (bytes 3 (omega arith)) in
    let small = known.are_bytes in
    let word = one_word i.big (slice_index i.bytes base) (slice_index i.bytes (base + 1)) (slice_index i.bytes (base + 2)) (slice_index i.bytes (base + 3)) (small base) (small (base + 1)) (small (base + 2)) (small (base + 3)) in
    ap (λ b. cond b (Some (in_order m.big (lanes_at m a))) None) code ∙ ap Some (ap (λ o. in_order o (lanes_at m a)) big ∙ ap (in_order i.big) lanes ∙ word ∙ sym f.word)
  where
    four_lanes : (p q r s : Option ℕ) (x y z v : ℕ) → p ≡ Some x → q ≡ Some y → r ≡ Some z → s ≡ Some v
        → or_zero p + 2 ^ 8 * or_zero q + 2 ^ 16 * or_zero r + 2 ^ 24 * or_zero s ≡ x + 256 * y + 65536 * z + 16777216 * v
    four_lanes p q r s x y z v a b c d = omega (arith, ap or_zero a, ap or_zero b, ap or_zero c, ap or_zero d)

    code_here : (a : ℕ) (s : Span) (p : Place) (o : Option Place) → o ≡ Some p → p.span ≡ s → s.x ≡ true → a % 4 ≡ 0
        → a + 4 ≤ s.start + s.len → ((a % 4 == 0) && at_place o (is_code a)) ≡ true
    code_here a s p o found span runs four inside =
        let test : (a % 4 == 0) ≡ true = eq-eqb (a % 4) 0 four in
        let here : is_code a p ≡ true = ap (λ (q : Span). q.x && nat_le (a + 4) (q.start + q.len)) span ∙ ap (λ b. b && nat_le (a + 4) (s.start + s.len)) runs ∙ le-leb (a + 4) (s.start + s.len) inside in
        ap (λ b. b && at_place o (is_code a)) test ∙ ap (λ q. at_place q (is_code a)) found ∙ here

pub has_code_of : (t : Task) (i : Image) (m : Flat) → IsLaidOut t i m → IsFilled i → AreBytes i.bytes
    → HasCode (code_of_image i) m
has_code_of t i m laid whole bytes =
    let known : Known t i m laid.empty = record { made = laid.is_empty.made; bytes = laid.bytes; laid_out = laid_out_ranges t i m laid; filled_whole = whole; are_bytes = bytes } in
    record {
      laid_out = laid_out_ranges t i m laid;
      words = λ a word is. let from = word_is_from i a word is in word_there t i m laid.empty a word known from.0 from.1;
    }
