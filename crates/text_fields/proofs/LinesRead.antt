-- The first line of a text, and texts and lines that were written.
use Rattle.std.proofs.lemmas.List.{take_all}
use Rattle.std.proofs.Common.{◌-◌, length-drop, ◌≡◌, ℕ, Bool, true, false, not, List, [], ◌∷◌, length, take, drop, get_or, ◌+◌, ◌<◌, ◌≤◌, refl, sym, ap, ◌∙◌, subst, arith, All, drop_of_length-le}
use Rattle.std.specs.List.{slice_split, position_or_len, list_all}
use Rattle.std.proofs.lemmas.List.Splits.{slice_split_first, slice_split_none, slice_split_at, length-slice_split}
use Rattle.std.proofs.lemmas.List.Elements.{All-from_get_or}
use Rattle.std.proofs.lemmas.List.Sums.{fails_before_first}
use Rattle.text_fields.specs.Lines.{is_feed, is_space, without_last_empty, lines_of, fields, spaced, written, has_no_feed, has_no_space}
use Rattle.std.proofs.lemmas.List.Folds.{list_all_at}
use Rattle.text_fields.proofs.Digits.{and_parts}

-- a test that no byte passes
none_all : (p : ℕ → Bool) (xs : List ℕ) → list_all (λ b. not (p b)) xs ≡ true → All (λ b. p b ≡ false) xs
none_all p xs e = All-from_get_or (λ b. p b ≡ false) xs 0 (λ i h. at i h (p (get_or xs i 0)) refl)
  where
    at : (i : ℕ) → i < length xs → (t : Bool) → p (get_or xs i 0) ≡ t → p (get_or xs i 0) ≡ false
    at i h true is = let no = list_all_at (λ b. not (p b)) xs i 0 h (ap not is) in cc
    at i h false is = is

-- a piece that isn't the last is a line
pub more_lines : (l : List ℕ) (ls : List (List ℕ)) → 0 < length ls → without_last_empty (l ∷ ls) ≡ l ∷ without_last_empty ls
more_lines l [] h = absurd (omega arith)
more_lines l (m ∷ ls) h = refl

-- a line with its feed
pub line_fed : (text : List ℕ) (end : ℕ) → end ≡ position_or_len is_feed text → end < length text → lines_of text ≡ take end text ∷ lines_of (take (length text - (end + 1)) (drop (end + 1) text))
unfolding lines_of
line_fed text end is h =
    let cut : slice_split is_feed text ≡ take end text ∷ slice_split is_feed (drop (end + 1) text)
    = subst (λ n. slice_split is_feed text ≡ take n text ∷ slice_split is_feed (drop (n + 1) text)) (sym is) (slice_split_first is_feed text 0 (omega arith)) in
    let all : take (length text - (end + 1)) (drop (end + 1) text) ≡ drop (end + 1) text
    = take_all _ _ (simp length-drop (omega arith)) in
    ap without_last_empty cut
    ∙ more_lines (take end text) (slice_split is_feed (drop (end + 1) text)) (let e = length-slice_split is_feed (drop (end + 1) text) in omega (arith, e))
    ∙ ap (λ t. take end text ∷ without_last_empty (slice_split is_feed t)) (sym all)

-- a last line without its feed
pub line_unfed : (text : List ℕ) (end : ℕ) → end ≡ position_or_len is_feed text → length text ≤ end → 0 < length text → lines_of text ≡ text ∷ lines_of (take (length text - end) (drop end text))
unfolding lines_of
line_unfed text end is h some =
    let none : take (length text - end) (drop end text) ≡ [] = ap (take (length text - end)) (drop_of_length-le text h) ∙ take_none (length text - end) in
    ap without_last_empty (slice_split_none is_feed text (All-from_get_or (λ b. is_feed b ≡ false) text 0 (λ i l. fails_before_first is_feed text i 0 (omega arith))))
    ∙ any text some
    ∙ ap (λ t. text ∷ without_last_empty (slice_split is_feed t)) (sym none)
  where
    take_none : (n : ℕ) → take {A = ℕ} n [] ≡ []
    take_none n = take_all n [] (omega arith)

    any : (l : List ℕ) → 0 < length l → without_last_empty (l ∷ []) ≡ l ∷ without_last_empty ([] ∷ [])
    any [] g = absurd (omega arith)
    any (b ∷ bs) g = refl

-- a text of no bytes has no line
pub no_line : lines_of [] ≡ []
unfolding lines_of
no_line = refl

-- the lines of a written text
pub lines_written : (ls : List (List ℕ)) → list_all has_no_feed ls ≡ true → lines_of (written ls) ≡ ls
unfolding lines_of
lines_written [] h = refl
lines_written (l ∷ ls) h =
    ap without_last_empty (slice_split_at is_feed l 10 (written ls) (none_all is_feed l (and_parts _ _ h).0) refl)
    ∙ more_lines l (slice_split is_feed (written ls)) (let e = length-slice_split is_feed (written ls) in omega (arith, e))
    ∙ ap (λ x. l ∷ x) (lines_written ls (and_parts (has_no_feed l) _ h).1)

-- the fields of a written line
pub fields_spaced : (f : List ℕ) (fs : List (List ℕ)) → list_all has_no_space (f ∷ fs) ≡ true → fields (spaced (f ∷ fs)) ≡ f ∷ fs
unfolding fields
fields_spaced f [] h = slice_split_none is_space f (none_all is_space f (and_parts _ _ h).0)
fields_spaced f (g ∷ gs) h = slice_split_at is_space f 32 (spaced (g ∷ gs)) (none_all is_space f (and_parts _ _ h).0) refl ∙ ap (λ x. f ∷ x) (fields_spaced g gs (and_parts (has_no_space f) _ h).1)
