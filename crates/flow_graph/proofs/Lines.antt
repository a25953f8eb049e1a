-- The lines of code are what stands at its addresses.
use Rattle.std.proofs.Common.{ℕ, zero, suc, ◌+◌, ◌-◌, ◌*◌, ◌/◌, ◌%◌, ◌^◌, ◌<◌, ◌≤◌, ◌≡◌, ◌⊎◌, inl, inr, refl, sym, ap, subst, ◌∙◌, Bool, true, false, nat_eq, Option, Some, None, List, [], ◌∷◌, ◌++◌, Contains, All, AllPairs, map, drop, length, get_or, arith, length-drop, if◌then◌else◌, is_some}
use Rattle.std.specs.List.{IsDistinct, slice_get}
use Rattle.std.specs.Option.{option_and_then}
use Rattle.std.proofs.lemmas.Bool.{cases_eq, eq-eqb, eqb-true}
use Rattle.std.proofs.lemmas.Bool.Decides.{nat_tests}
use Rattle.std.proofs.lemmas.List.{get_or-map, length-map, map-append}
use Rattle.std.proofs.lemmas.List.Sorted.{Contains-permutation, IsPermutation-map, IsPermutation-sym}
use Rattle.std.proofs.lemmas.Map.Keys.{IsDistinct-IsPermutation, IsStrictlyIncreasing-from_distinct}
use Rattle.std.specs.List.Sorted.{IsNonDecreasing, IsNonDecreasingBy, IsPermutation}
use Rattle.std.proofs.lemmas.List.Elements.{All-contains, All-head, All-tail, Contains-append_cases, Contains-append_left, Contains-append_right, Contains-get_or, Contains-push, Contains-push_cases}
use Rattle.visa_io.specs.declared.records.Span.{Span}
use Rattle.visa_io.specs.declared.records.Code.{Code}
use Rattle.visa_io.specs.ImageCode.{IsAligned, total_len}
use Rattle.mips_isa.specs.Decoding.{decode_of}
use Rattle.mips_isa.proofs.Relation.{decode_of_gives}
use Rattle.flow_graph.specs.Code.{IsApart, IsCode, holds, instr_at, word_at, word_from}
use Rattle.flow_graph.specs.Table.{AreLines, HaveWords, IsLine, line_at, lines_of, lines_upto}
use Rattle.flow_graph.specs.declared.table.Line.{Line}
use Rattle.flow_graph.proofs.Members.{AllPairs-head, AllPairs-tail, IsImage, distinct_append, to_map, distinct_cons, distinct_none, from_map, in_head, in_one, in_tail, none_in_nil}

-- one of the first lines from an address on
pub record IsLineOf (start : ℕ) (words : List ℕ) (count : ℕ) (line : Line) : Type 0 where
  pub k : ℕ
  pub below : k < count
  pub is : line_at start words k ≡ line

in_upto : (start : ℕ) (words : List ℕ) (count : ℕ) (line : Line) → Contains (lines_upto start words count) line → IsLineOf start words count line
unfolding lines_upto
in_upto start words zero line h = absurd (none_in_nil line h)
in_upto start words (suc count) line h = elim (Contains-push_cases (lines_upto start words count) (line_at start words count) line h) [
  | inl f ↦ let i = in_upto start words count line f in record { k = i.k; below = omega (arith, i.below); is = i.is }
  | inr e ↦ record { k = count; below = omega arith; is = e }
]

upto_in : (start : ℕ) (words : List ℕ) (count k : ℕ) → k < count → Contains (lines_upto start words count) (line_at start words k)
unfolding lines_upto
upto_in start words zero k below = absurd (omega (arith, below))
upto_in start words (suc count) k below = elim (last_or_before) [
  | inl e ↦ subst (λ (n : ℕ). Contains (lines_upto start words count ++ line_at start words count ∷ []) (line_at start words n)) (sym e) (Contains-push (lines_upto start words count) (line_at start words count))
  | inr before ↦ Contains-append_left (lines_upto start words count) (line_at start words count ∷ []) (line_at start words k) (upto_in start words count k before)
]
  where
    last_or_before : (k ≡ count) ⊎ (k < count)
    last_or_before = elim (cases_eq k count) [ inl e ↦ inl e | inr other ↦ inr (omega (arith, other, below)) ]

pub slice_get_below : (xs : List ℕ) (k : ℕ) → k < length xs → slice_get xs k ≡ Some (get_or xs k 0)
slice_get_below [] k below = absurd (omega (arith, below))
slice_get_below (x ∷ xs) zero below = refl
slice_get_below (x ∷ xs) (suc k) below = slice_get_below xs k (omega (arith, below))

-- the words of a span's addresses
holds_word : (span : Span) (k : ℕ) → k < span.len / 4 → holds span (span.start + 4 * k) ≡ true
holds_word span k below = in_range span.start span.len (4 * k) (omega (arith, below))
  where
    in_range : (start len n : ℕ) → n < len → holds (record span { start = start; len = len }) (start + n) ≡ true
    in_range start len n lt = grind (arith, nat_tests)

pub word_here : (span : Span) (rest : List Span) (words : List ℕ) (a : ℕ) → holds span a ≡ true → word_from (span ∷ rest) words a ≡ slice_get words ((a - span.start) / 4)
unfolding word_from
word_here span rest words a h = rw h refl

pub word_there : (span : Span) (rest : List Span) (words : List ℕ) (a : ℕ) → holds span a ≡ false → word_from (span ∷ rest) words a ≡ word_from rest (drop (span.len / 4) words) a
unfolding word_from
word_there span rest words a h = rw h refl

-- what has a word is in a span
pub held_by : (spans : List Span) (words : List ℕ) (a w : ℕ) → word_from spans words a ≡ Some w → (span : Span) × Contains spans span × (holds span a ≡ true)
unfolding word_from
held_by [] words a w h = absurd (cc)
held_by (span ∷ rest) words a w h = by_cases (holds span a) refl (held_by rest (drop (span.len / 4) words) a w)
  where
    by_cases : (b : Bool) → holds span a ≡ b → (word_from rest (drop (span.len / 4) words) a ≡ Some w → (one : Span) × Contains rest one × (holds one a ≡ true)) → (one : Span) × Contains (span ∷ rest) one × (holds one a ≡ true)
    by_cases true e others = (span, in_head span rest, e)
    by_cases false e others = let i = others (sym (word_there span rest words a e) ∙ h) in (i.0, in_tail i.0 span rest i.1, i.2)

away : (span : Span) (rest : List Span) (words : List ℕ) (a w : ℕ) → AllPairs IsApart (span ∷ rest) → word_from rest words a ≡ Some w → holds span a ≡ false
away span rest words a w apart h =
    let there = held_by rest words a w h in
    by_cases (holds span a) refl there.0 (All-contains (IsApart span) rest there.0 (AllPairs-head IsApart span rest apart) there.1) there.2
  where
    by_cases : (b : Bool) → holds span a ≡ b → (other : Span) → IsApart span other → holds other a ≡ true → holds span a ≡ false
    by_cases false e other apart held = e
    by_cases true e other apart held = let no = apart a e in cc

-- a line says what stands at its address
pub record IsRight (spans : List Span) (words : List ℕ) (line : Line) : Type 0 where
  pub word : ℕ
  pub is : word_from spans words line.at ≡ Some word
  pub instr : decode_of word ≡ line.instr
  pub aligned : line.at % 4 ≡ 0

pub right_of : (spans : List Span) (words : List ℕ) → HaveWords spans (length words) → AllPairs IsApart spans → (line : Line) → Contains (lines_of spans words) line → IsRight spans words line
unfolding lines_of HaveWords
right_of [] words have apart line h = absurd (none_in_nil line h)
right_of (span ∷ rest) words have apart line h =
    elim (Contains-append_cases (lines_upto span.start words (span.len / 4)) (lines_of rest (drop (span.len / 4) words)) line h) [
      | inl own ↦ here (in_upto span.start words (span.len / 4) line own)
      | inr other ↦ there (right_of rest (drop (span.len / 4) words) (subst (λ (n : ℕ). HaveWords rest n) (sym (length-drop (span.len / 4) words)) have.4) (AllPairs-tail IsApart span rest apart) line other)
    ]
  where
    back : (start k : ℕ) → (start + 4 * k - start) / 4 ≡ k
    back start k = omega arith

    here : IsLineOf span.start words (span.len / 4) line → IsRight (span ∷ rest) words line
    here i = subst (λ (l : Line). IsRight (span ∷ rest) words l) i.is (record {
      word = get_or words i.k 0;
      is = word_here span rest words (span.start + 4 * i.k) (holds_word span i.k i.below) ∙ ap (slice_get words) (back span.start i.k) ∙ slice_get_below words i.k (omega (arith, i.below, have.3));
      instr = refl;
      aligned = omega (arith, have.0);
    })

    there : IsRight rest (drop (span.len / 4) words) line → IsRight (span ∷ rest) words line
    there r = record {
      word = r.word;
      is = word_there span rest words line.at (away span rest (drop (span.len / 4) words) line.at r.word apart r.is) ∙ r.is;
      instr = r.instr;
      aligned = r.aligned;
    }

pub bounds_of : (span : Span) (a : ℕ) → holds span a ≡ true → (span.start ≤ a) × (a < span.start + span.len)
bounds_of span a h = bounds span.start span.len a h
  where
    bounds : (start len a : ℕ) → holds (record span { start = start; len = len }) a ≡ true → (start ≤ a) × (a < start + len)
    bounds start len a h = grind (arith, nat_tests)

some_same : (x y : ℕ) → Some x ≡ Some y → x ≡ y
some_same x y e = cc

same_line : (at other x y : ℕ) → at ≡ other → x ≡ y → let l : Line = record { at = at; instr = decode_of x } in l ≡ record { at = other; instr = decode_of y }
same_line at other x y p q = rw (p, q) refl

-- the line of an address of the first span
own_line : (span : Span) (rest : List Span) (words : List ℕ) (a w : ℕ) → span.start % 4 ≡ 0 → span.len % 4 ≡ 0 → span.len / 4 ≤ length words → a % 4 ≡ 0 → holds span a ≡ true → word_from (span ∷ rest) words a ≡ Some w → Contains (lines_upto span.start words (span.len / 4)) (record { at = a; instr = decode_of w })
own_line span rest words a w start len few aligned e h =
    let at = bounds_of span a e in
    let k = (a - span.start) / 4 in
    let below : k < span.len / 4 = omega (arith, at.0, at.1, start, len, aligned) in
    let word : get_or words k 0 ≡ w = some_same (get_or words k 0) w (sym (slice_get_below words k (omega (arith, below, few))) ∙ sym (word_here span rest words a e) ∙ h) in
    let place : span.start + 4 * k ≡ a = omega (arith, at.0, start, aligned) in
    subst (λ (l : Line). Contains (lines_upto span.start words (span.len / 4)) l) (same_line (span.start + 4 * k) a (get_or words k 0) w place word) (upto_in span.start words (span.len / 4) k below)

pub line_of : (spans : List Span) (words : List ℕ) → HaveWords spans (length words) → (a w : ℕ) → a % 4 ≡ 0 → word_from spans words a ≡ Some w → Contains (lines_of spans words) (record { at = a; instr = decode_of w })
unfolding lines_of HaveWords word_from
line_of [] words have a w aligned h = absurd (cc)
line_of (span ∷ rest) words have a w aligned h =
    by_cases (holds span a) refl (line_of rest (drop (span.len / 4) words) (subst (λ (n : ℕ). HaveWords rest n) (sym (length-drop (span.len / 4) words)) have.4) a w aligned)
  where
    by_cases : (b : Bool) → holds span a ≡ b → (word_from rest (drop (span.len / 4) words) a ≡ Some w → Contains (lines_of rest (drop (span.len / 4) words)) (record { at = a; instr = decode_of w })) → Contains (lines_of (span ∷ rest) words) (record { at = a; instr = decode_of w })
    by_cases false e others = Contains-append_right (lines_upto span.start words (span.len / 4)) (lines_of rest (drop (span.len / 4) words)) _
        (others (sym (word_there span rest words a e) ∙ h))
    by_cases true e others = Contains-append_left (lines_upto span.start words (span.len / 4)) (lines_of rest (drop (span.len / 4) words)) _ (own_line span rest words a w have.0 have.1 have.3 aligned e h)

-- no two lines have the same address
upto_distinct : (start : ℕ) (words : List ℕ) (count : ℕ) → IsDistinct nat_eq (map (λ line. line.at) (lines_upto start words count))
unfolding lines_upto
upto_distinct start words zero = distinct_none
upto_distinct start words (suc count) =
    rw (map-append (λ (line : Line). line.at) (lines_upto start words count) (line_at start words count ∷ []))
    (distinct_append (map (λ line. line.at) (lines_upto start words count)) ((start + 4 * count) ∷ []) (upto_distinct start words count) (distinct_cons (start + 4 * count) [] (none_in_nil (start + 4 * count)) distinct_none)
    (λ n l r. earlier n (from_map (λ (line : Line). line.at) (lines_upto start words count) n l) (in_one n (start + 4 * count) r)))
  where
    earlier : (n : ℕ) → IsImage (λ (line : Line). line.at) (lines_upto start words count) n → start + 4 * count ≡ n → ⊥
    earlier n i e = let l = in_upto start words count i.of i.member in omega (arith, l.below, ap (λ (x : Line). x.at) l.is, i.is, e)

pub lines_distinct : (spans : List Span) (words : List ℕ) → HaveWords spans (length words) → AllPairs IsApart spans → IsDistinct nat_eq (map (λ line. line.at) (lines_of spans words))
unfolding lines_of HaveWords
lines_distinct [] words have apart = distinct_none
lines_distinct (span ∷ rest) words have apart =
    rw (map-append (λ (line : Line). line.at) (lines_upto span.start words (span.len / 4)) others)
    (distinct_append (map (λ line. line.at) (lines_upto span.start words (span.len / 4))) (map (λ line. line.at) others) (upto_distinct span.start words (span.len / 4)) (lines_distinct rest (drop (span.len / 4) words) having (AllPairs-tail IsApart span rest apart))
    (λ n l r. both n (from_map (λ (line : Line). line.at) (lines_upto span.start words (span.len / 4)) n l) (from_map (λ (line : Line). line.at) others n r)))
  where
    others : List Line
    others = lines_of rest (drop (span.len / 4) words)

    having : HaveWords rest (length (drop (span.len / 4) words))
    having = subst (λ (n : ℕ). HaveWords rest n) (sym (length-drop (span.len / 4) words)) have.4

    both : (n : ℕ) → IsImage (λ (line : Line). line.at) (lines_upto span.start words (span.len / 4)) n → IsImage (λ (line : Line). line.at) others n → ⊥
    both n i j =
        let l = in_upto span.start words (span.len / 4) i.of i.member in
        let r = right_of rest (drop (span.len / 4) words) having (AllPairs-tail IsApart span rest apart) j.of j.member in
        let here : holds span n ≡ true = subst (λ (m : ℕ). holds span m ≡ true) (ap (λ (x : Line). x.at) l.is ∙ i.is) (holds_word span l.k l.below) in
        let not_here : holds span n ≡ false = subst (λ (m : ℕ). holds span m ≡ false) j.is (away span rest (drop (span.len / 4) words) j.of.at r.word apart r.is) in
        cc

-- code has the words of its spans
pub have_words : (spans : List Span) (count : ℕ) → total_len spans ≤ 4 * count → All IsAligned spans → All (λ span. span.start + span.len ≤ 2 ^ 32) spans → HaveWords spans count
unfolding HaveWords
have_words [] count total aligned ends = tt
have_words (span ∷ rest) count total aligned ends =
    let own : IsAligned span = All-head IsAligned span rest aligned in
    (own.start, own.len, All-head (λ span. span.start + span.len ≤ 2 ^ 32) span rest ends, omega (arith, total, own.len), have_words rest (count - span.len / 4) (omega (arith, total, own.len)) (All-tail IsAligned span rest aligned) (All-tail (λ span. span.start + span.len ≤ 2 ^ 32) span rest ends))

pub have_code_words : (code : Code) → IsCode code → HaveWords code.spans (length code.words)
have_code_words code is = have_words code.spans (length code.words) (omega (arith, is.whole.words)) is.whole.aligned is.ends

-- the word at an address of code
pub word-at : (code : Code) (a w : ℕ) → word_at code a ≡ Some w → (a % 4 ≡ 0) × (word_from code.spans code.words a ≡ Some w)
word-at code a w h = by_cases (nat_eq (a % 4) 0) refl h
  where
    by_cases : (b : Bool) → nat_eq (a % 4) 0 ≡ b → (if b then word_from code.spans code.words a else None) ≡ Some w → (a % 4 ≡ 0) × (word_from code.spans code.words a ≡ Some w)
    by_cases true e h = (eqb-true (a % 4) 0 e, h)
    by_cases false e h = absurd (cc)

pub at-word : (code : Code) (a w : ℕ) → a % 4 ≡ 0 → word_from code.spans code.words a ≡ Some w → word_at code a ≡ Some w
at-word code a w aligned h = rw (eq-eqb (a % 4) 0 aligned) h

-- code has a word
pub some_word : (o : Option ℕ) → is_some o ≡ true → (w : ℕ) × (o ≡ Some w)
some_word None h = absurd (cc)
some_word (Some w) h = (w, refl)

-- a line that says what stands at its address
pub right_line : (code : Code) (l : Line) → IsRight code.spans code.words l → IsLine code l
unfolding instr_at
right_line code l r =
    let at : word_at code l.at ≡ Some r.word = at-word code l.at r.word r.aligned r.is in
    record {
      is = ap is_some at;
      instr = ap (option_and_then decode_of) at ∙ r.instr;
      fits = λ i e. (decode_of_gives r.word i (r.instr ∙ e)).fits;
    }

address : Line → ℕ
address line = line.at

non_decreasing : (ls : List Line) → IsNonDecreasingBy (λ line. line.at) ls → IsNonDecreasing (map (λ line. line.at) ls)
non_decreasing ls h i j d low below =
    let long : length (map (λ (l : Line). l.at) ls) ≡ length ls = length-map ls (λ (l : Line). l.at) in
    let default : Line = record { at = d; instr = None } in
    rw (get_or-map (λ (l : Line). l.at) ls i default d (omega (arith, long, low, below)), get_or-map (λ (l : Line). l.at) ls j default d (omega (arith, long, below)))
    (h i j default low (omega (arith, long, below)))

-- lines that are sorted by their addresses are those of the code
pub sorted_lines : (code : Code) (lines : List Line) → IsCode code → IsPermutation (lines_of code.spans code.words) lines → IsNonDecreasingBy (λ line. line.at) lines → AreLines code lines
sorted_lines code lines is moved sorted =
    let all_lines = lines_of code.spans code.words in
    let have = have_code_words code is in
    record {
      rise = IsStrictlyIncreasing-from_distinct (map (λ line. line.at) lines) (non_decreasing lines sorted)
          (IsDistinct-IsPermutation nat_eq nat_eq_sym (map (λ line. line.at) all_lines) (map (λ line. line.at) lines) (IsPermutation-map (λ line. line.at) all_lines lines moved) (lines_distinct code.spans code.words have is.apart));
      each = λ k d below. right_line code (get_or lines k d) (right_of code.spans code.words have is.apart (get_or lines k d) (Contains-permutation lines all_lines (get_or lines k d) (IsPermutation-sym all_lines lines moved) (Contains-get_or lines k d below)));
      all = λ a h.
          let w = some_word (word_at code a) h in
          let at = word-at code a w.0 w.1 in
          to_map (λ line. line.at) lines (record { at = a; instr = decode_of w.0 }) (Contains-permutation all_lines lines _ moved (line_of code.spans code.words have a w.0 at.0 at.1));
    }
  where
    nat_eq_sym : (m n : ℕ) → nat_eq m n ≡ nat_eq n m
    nat_eq_sym m n = grind (arith, nat_tests)
