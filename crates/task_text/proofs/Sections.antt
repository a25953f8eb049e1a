-- The rows of a task, keyword by keyword, are the rows that it was made of.
use Rattle.std.proofs.Common.{◌≡◌, ◌≢◌, ℕ, suc, Bool, true, false, cond, nat_eq, nat_le, nat_lt, List, [], ◌∷◌, ◌++◌, length, take, drop, get_or, ◌+◌, ◌-◌, ◌*◌, ◌/◌, ◌<◌, ◌≤◌, ◌⊎◌, inl, inr, refl, sym, ap, ◌∙◌, arith, eqb-true, eq-eqb, ne_eqb, ltb-true, leb-true, leb-false, append_assoc, append-nil, add-zero, length-append, length-drop}
use Rattle.std.specs.List.{flat_map}
use Rattle.std.proofs.lemmas.Bool.{cond-true, cond-false, eqb-false}
use Rattle.std.proofs.lemmas.Bool.Decides.{nat_tests}
use Rattle.std.proofs.lemmas.List.{take_all, take-append-le, drop-append-le, map-append}
use Rattle.text_fields.proofs.Digits.{and_parts}
use Rattle.visa_io.specs.declared.records.Span.{Span}
use Rattle.task_text.specs.declared.row.Keyword.{Keyword}
use Rattle.task_text.specs.declared.row.Keyword.TheVariants as k
use Rattle.task_text.specs.declared.row.Row.{Row}
use Rattle.task_text.specs.declared.row.Row.TheVariants as row
use Rattle.task_text.specs.declared.task.Source.{Source}
use Rattle.task_text.specs.declared.task.Source.TheVariants.{Name, Words}
use Rattle.task_text.specs.Table.{keyword, keywords, rank, place, most, same_keyword, next_needed, count, newest_place, newest_rank, may_follow, may_stand}
use Rattle.task_text.specs.Texts.{IsStart, IsWhole, with_words, code_span, ram_span, show_span, task_of}
use Rattle.task_text.specs.Writing.{image_rows, code_rows, words_rows, extent, section}
use Rattle.task_text.proofs.EachKind.{or_parts}
use Rattle.task_text.proofs.Starts.{place_is, rank_place, rank_positive, fresh}
use Rattle.task_text.proofs.Tracked.{image_first, count_same}
use Rattle.task_text.proofs.Steps.{snoc_some}

-- a keyword is known by its number
key_at : (key : Keyword) → get_or keywords (rank key - 1) k.Fact ≡ key
key_at k.Version = refl
key_at k.Order = refl
key_at k.Core = refl
key_at k.Memory = refl
key_at k.Icache = refl
key_at k.Dcache = refl
key_at k.Point = refl
key_at k.Time = refl
key_at k.Image = refl
key_at k.Words = refl
key_at k.Entry = refl
key_at k.Stack = refl
key_at k.Ram = refl
key_at k.Input = refl
key_at k.Output = refl
key_at k.Show = refl
key_at k.Cut = refl
key_at k.Loop = refl
key_at k.Fact = refl

rank_same : (a b : Keyword) → rank a ≡ rank b → a ≡ b
rank_same a b e = sym (key_at a) ∙ ap (λ n. get_or keywords (n - 1) k.Fact) e ∙ key_at b

rank_most : (key : Keyword) → rank key ≤ 19
rank_most k.Version = omega arith
rank_most k.Order = omega arith
rank_most k.Core = omega arith
rank_most k.Memory = omega arith
rank_most k.Icache = omega arith
rank_most k.Dcache = omega arith
rank_most k.Point = omega arith
rank_most k.Time = omega arith
rank_most k.Image = omega arith
rank_most k.Words = omega arith
rank_most k.Entry = omega arith
rank_most k.Stack = omega arith
rank_most k.Ram = omega arith
rank_most k.Input = omega arith
rank_most k.Output = omega arith
rank_most k.Show = omega arith
rank_most k.Cut = omega arith
rank_most k.Loop = omega arith
rank_most k.Fact = omega arith

-- a later place has a greater number, and a place that isn't shared has one keyword
place_rank : (a b : Keyword) → place a < place b → rank a < rank b
place_rank a b h = by (rank a) (rank b) (place a) (place b) (place_is a) (place_is b) h
  where
    by : (m n p q : ℕ) → p ≡ cond (nat_lt m 10) m (m - 1) → q ≡ cond (nat_lt n 10) n (n - 1) → p < q → m < n
    by m n p q e f l = grind (arith, nat_tests)

place_only : (a b : Keyword) → place a ≡ place b → place a ≢ 9 → rank a ≡ rank b
place_only a b e n = by (rank a) (rank b) (sym (place_is a) ∙ e ∙ place_is b) (λ x. n (place_is a ∙ x))
  where
    by : (m n : ℕ) → cond (nat_lt m 10) m (m - 1) ≡ cond (nat_lt n 10) n (n - 1) → cond (nat_lt m 10) m (m - 1) ≢ 9 → m ≡ n
    by m n l x = grind (arith, nat_tests)

-- rows, oldest first, and those of a keyword
abbrev pub oldest_first : List Row → List Row
oldest_first [] = []
oldest_first (r ∷ older) = oldest_first older ++ r ∷ []

abbrev pub of_key : Keyword → List Row → List Row
of_key key [] = []
of_key key (r ∷ older) = cond (same_keyword key (keyword r)) (of_key key older ++ r ∷ []) (of_key key older)

-- all rows have this number or a lesser one
abbrev AllRanks : ℕ → List Row → Type 0
AllRanks n [] = Unit {0}
AllRanks n (r ∷ rows) = (rank (keyword r) ≤ n) × AllRanks n rows

ranks_more : (m n : ℕ) (rows : List Row) → m ≤ n → AllRanks m rows → AllRanks n rows
ranks_more m n [] h a = tt
ranks_more m n (r ∷ rows) h a = (omega (arith, a.0), ranks_more m n rows h a.1)

follows_rank : (older : List Row) (key : Keyword) → may_stand older key ≡ true → newest_rank older ≤ rank key
unfolding may_stand
follows_rank older key e = by older (and_parts (may_follow older key) _ e).0
  where
    by : (rows : List Row) → may_follow rows key ≡ true → newest_rank rows ≤ rank key
    by [] f = omega arith
    by (r ∷ rest) f = or_parts (nat_eq (rank (keyword r)) (rank key)) _ (rank (keyword r) ≤ rank key) f
        (λ t. let same = eqb-true (rank (keyword r)) (rank key) t in omega (arith, same))
        (λ n t. let l = place_rank (keyword r) key (ltb-true (place (keyword r)) (place key) (and_parts (nat_lt (place (keyword r)) (place key)) _ t).0) in omega (arith, l))

rising_ranks : (rows : List Row) → IsStart rows → AllRanks (newest_rank rows) rows
rising_ranks [] s = tt
rising_ranks (r ∷ older) s = (omega arith, ranks_more (newest_rank older) (rank (keyword r)) older (follows_rank older (keyword r) s.0) (rising_ranks older s.3))

-- keywords whose numbers follow one another
abbrev Consecutive : ℕ → List Keyword → Type 0
Consecutive n [] = Unit {0}
Consecutive n (key ∷ keys) = (rank key ≡ suc n) × Consecutive (suc n) keys

in_order : Consecutive 0 keywords
in_order = (refl, (refl, (refl, (refl, (refl, (refl, (refl, (refl, (refl, (refl, (refl, (refl, (refl, (refl, (refl, (refl, (refl, (refl, (refl, tt)))))))))))))))))))

of_key_none : (n : ℕ) (key : Keyword) (rows : List Row) → AllRanks n rows → n < rank key → of_key key rows ≡ []
of_key_none n key [] a h = refl
of_key_none n key (r ∷ rows) a h =
    cond-false (same_keyword key (keyword r)) (of_key key rows ++ r ∷ []) (of_key key rows) (ne_eqb (rank key) (rank (keyword r)) (omega (arith, a.0)))
    ∙ of_key_none n key rows a.1 h

none_above : (n : ℕ) (keys : List Keyword) (rows : List Row) → Consecutive n keys → AllRanks n rows → flat_map (λ key. of_key key rows) keys ≡ []
none_above n [] rows c a = refl
none_above n (key ∷ keys) rows c a =
    (λ i. of_key_none n key rows a (omega (arith, c.0)) i ++ none_above (suc n) keys rows c.1 (ranks_more n (suc n) rows (omega arith) a) i)

-- one row more stands last
row_last : (n : ℕ) (keys : List Keyword) (r : Row) (rows : List Row) → Consecutive n keys → n < rank (keyword r) → rank (keyword r) ≤ n + length keys → AllRanks (rank (keyword r)) rows → flat_map (λ key. of_key key (r ∷ rows)) keys ≡ flat_map (λ key. of_key key rows) keys ++ r ∷ []
row_last n [] r rows c l h a = absurd (omega arith)
row_last n (key ∷ keys) r rows c l h a = by (nat_eq (rank key) (rank (keyword r))) refl (λ l2 h2. row_last (suc n) keys r rows c.1 l2 h2 a)
  where
    by : (t : Bool) → nat_eq (rank key) (rank (keyword r)) ≡ t → (suc n < rank (keyword r) → rank (keyword r) ≤ suc n + length keys → flat_map (λ x. of_key x (r ∷ rows)) keys ≡ flat_map (λ x. of_key x rows) keys ++ r ∷ []) → of_key key (r ∷ rows) ++ flat_map (λ x. of_key x (r ∷ rows)) keys ≡ (of_key key rows ++ flat_map (λ x. of_key x rows) keys) ++ r ∷ []
    by true t go =
        let same : rank key ≡ rank (keyword r) = eqb-true (rank key) (rank (keyword r)) t in
        let here : of_key key (r ∷ rows) ≡ of_key key rows ++ r ∷ [] = cond-true (same_keyword key (keyword r)) (of_key key rows ++ r ∷ []) (of_key key rows) t in
        let up : AllRanks (suc n) rows = ranks_more (rank (keyword r)) (suc n) rows (omega (arith, c.0)) a in
        let none1 : flat_map (λ x. of_key x (r ∷ rows)) keys ≡ [] = none_above (suc n) keys (r ∷ rows) c.1 (omega (arith, c.0), up) in
        let none2 : flat_map (λ x. of_key x rows) keys ≡ [] = none_above (suc n) keys rows c.1 up in
        (λ i. here i ++ none1 i) ∙ append-nil (of_key key rows ++ r ∷ []) ∙ (λ i. sym (append-nil (of_key key rows)) i ++ r ∷ []) ∙ (λ i. (of_key key rows ++ sym none2 i) ++ r ∷ [])
    by false t go =
        let other : rank key ≢ rank (keyword r) = eqb-false (rank key) (rank (keyword r)) t in
        let here : of_key key (r ∷ rows) ≡ of_key key rows = cond-false (same_keyword key (keyword r)) (of_key key rows ++ r ∷ []) (of_key key rows) t in
        (λ i. here i ++ go (omega (arith, c.0)) (omega arith) i) ∙ sym (append_assoc (of_key key rows) (flat_map (λ x. of_key x rows) keys) (r ∷ []))

-- rows that keep the table are sorted by keyword
sorted : (rows : List Row) → IsStart rows → oldest_first rows ≡ flat_map (λ key. of_key key rows) keywords
sorted [] s = refl
sorted (r ∷ older) s =
    ap (λ x. x ++ r ∷ []) (sorted older s.3)
    ∙ sym (row_last 0 keywords r older in_order (rank_positive (keyword r)) (rank_most (keyword r)) (ranks_more (newest_rank older) (rank (keyword r)) older (follows_rank older (keyword r) s.0) (rising_ranks older s.3)))

-- keywords that did not stand have no rows
none_of : (key : Keyword) (xs : List Row) → count key xs ≡ 0 → of_key key xs ≡ []
none_of key [] e = refl
none_of key (r ∷ xs) e = by (same_keyword key (keyword r)) (none_of key xs) e
  where
    by : (t : Bool) → (count key xs ≡ 0 → of_key key xs ≡ []) → cond t (suc (count key xs)) (count key xs) ≡ 0 → cond t (of_key key xs ++ r ∷ []) (of_key key xs) ≡ []
    by true go h = absurd (omega arith)
    by false go h = go h

count_none : (key : Keyword) (xs : List Row) → of_key key xs ≡ [] → count key xs ≡ 0
count_none key [] e = refl
count_none key (r ∷ xs) e = by (same_keyword key (keyword r)) (count_none key xs) e
  where
    by : (t : Bool) → (of_key key xs ≡ [] → count key xs ≡ 0) → cond t (of_key key xs ++ r ∷ []) (of_key key xs) ≡ [] → cond t (suc (count key xs)) (count key xs) ≡ 0
    by true go h = absurd (snoc_some (of_key key xs) r h)
    by false go h = go h

-- the only row of a keyword
only : (key : Keyword) (xs : List Row) (r : Row) → suc (count key xs) ≡ 1 → of_key key xs ++ r ∷ [] ≡ r ∷ []
only key xs r e = ap (λ y. y ++ r ∷ []) (none_of key xs (omega arith))

version_row : (xs : List Row) → count k.Version xs ≡ 1 → of_key k.Version xs ≡ section (task_of xs) k.Version
version_row [] e = absurd (omega arith)
version_row (row.Version ∷ xs) e = only k.Version xs (row.Version) e
version_row (_ ∷ xs) e = version_row xs e

order_row : (xs : List Row) → count k.Order xs ≡ 1 → of_key k.Order xs ≡ section (task_of xs) k.Order
order_row [] e = absurd (omega arith)
order_row (row.Order x ∷ xs) e = only k.Order xs (row.Order x) e
order_row (_ ∷ xs) e = order_row xs e

core_row : (xs : List Row) → count k.Core xs ≡ 1 → of_key k.Core xs ≡ section (task_of xs) k.Core
core_row [] e = absurd (omega arith)
core_row (row.Core x ∷ xs) e = only k.Core xs (row.Core x) e
core_row (_ ∷ xs) e = core_row xs e

memory_row : (xs : List Row) → count k.Memory xs ≡ 1 → of_key k.Memory xs ≡ section (task_of xs) k.Memory
memory_row [] e = absurd (omega arith)
memory_row (row.Memory x ∷ xs) e = only k.Memory xs (row.Memory x) e
memory_row (_ ∷ xs) e = memory_row xs e

icache_row : (xs : List Row) → count k.Icache xs ≡ 1 → of_key k.Icache xs ≡ section (task_of xs) k.Icache
icache_row [] e = absurd (omega arith)
icache_row (row.Icache x ∷ xs) e = only k.Icache xs (row.Icache x) e
icache_row (_ ∷ xs) e = icache_row xs e

dcache_row : (xs : List Row) → count k.Dcache xs ≡ 1 → of_key k.Dcache xs ≡ section (task_of xs) k.Dcache
dcache_row [] e = absurd (omega arith)
dcache_row (row.Dcache x ∷ xs) e = only k.Dcache xs (row.Dcache x) e
dcache_row (_ ∷ xs) e = dcache_row xs e

time_row : (xs : List Row) → count k.Time xs ≡ 1 → of_key k.Time xs ≡ section (task_of xs) k.Time
time_row [] e = absurd (omega arith)
time_row (row.Time x ∷ xs) e = only k.Time xs (row.Time x) e
time_row (_ ∷ xs) e = time_row xs e

entry_row : (xs : List Row) → count k.Entry xs ≡ 1 → of_key k.Entry xs ≡ section (task_of xs) k.Entry
entry_row [] e = absurd (omega arith)
entry_row (row.Entry x ∷ xs) e = only k.Entry xs (row.Entry x) e
entry_row (_ ∷ xs) e = entry_row xs e

stack_row : (xs : List Row) → count k.Stack xs ≡ 1 → of_key k.Stack xs ≡ section (task_of xs) k.Stack
stack_row [] e = absurd (omega arith)
stack_row (row.Stack x ∷ xs) e = only k.Stack xs (row.Stack x) e
stack_row (_ ∷ xs) e = stack_row xs e

input_row : (xs : List Row) → count k.Input xs ≡ 1 → of_key k.Input xs ≡ section (task_of xs) k.Input
input_row [] e = absurd (omega arith)
input_row (row.Input x ∷ xs) e = only k.Input xs (row.Input x) e
input_row (_ ∷ xs) e = input_row xs e

output_row : (xs : List Row) → count k.Output xs ≡ 1 → of_key k.Output xs ≡ section (task_of xs) k.Output
output_row [] e = absurd (omega arith)
output_row (row.Output x ∷ xs) e = only k.Output xs (row.Output x) e
output_row (_ ∷ xs) e = output_row xs e

points_rows : (xs : List Row) → of_key k.Point xs ≡ section (task_of xs) k.Point
points_rows [] = refl
points_rows (row.Point x ∷ xs) = ap (λ y. y ++ row.Point x ∷ []) (points_rows xs) ∙ sym (map-append row.Point (task_of xs).points (x ∷ []))
points_rows (_ ∷ xs) = points_rows xs

rams_rows : (xs : List Row) → of_key k.Ram xs ≡ section (task_of xs) k.Ram
rams_rows [] = refl
rams_rows (row.Ram x ∷ xs) = ap (λ y. y ++ row.Ram x ∷ []) (rams_rows xs) ∙ sym (map-append (λ s. row.Ram (extent s)) (task_of xs).ram (ram_span x.start x.len ∷ []))
rams_rows (_ ∷ xs) = rams_rows xs

shows_rows : (xs : List Row) → of_key k.Show xs ≡ section (task_of xs) k.Show
shows_rows [] = refl
shows_rows (row.Show x ∷ xs) = ap (λ y. y ++ row.Show x ∷ []) (shows_rows xs) ∙ sym (map-append (λ s. row.Show (extent s)) (task_of xs).show (show_span x.start x.len ∷ []))
shows_rows (_ ∷ xs) = shows_rows xs

cuts_rows : (xs : List Row) → of_key k.Cut xs ≡ section (task_of xs) k.Cut
cuts_rows [] = refl
cuts_rows (row.Cut x ∷ xs) = ap (λ y. y ++ row.Cut x ∷ []) (cuts_rows xs) ∙ sym (map-append row.Cut (task_of xs).cuts (x ∷ []))
cuts_rows (_ ∷ xs) = cuts_rows xs

loops_rows : (xs : List Row) → of_key k.Loop xs ≡ section (task_of xs) k.Loop
loops_rows [] = refl
loops_rows (row.Loop x ∷ xs) = ap (λ y. y ++ row.Loop x ∷ []) (loops_rows xs) ∙ sym (map-append row.Loop (task_of xs).regions (x ∷ []))
loops_rows (_ ∷ xs) = loops_rows xs

facts_rows : (xs : List Row) → of_key k.Fact xs ≡ section (task_of xs) k.Fact
facts_rows [] = refl
facts_rows (row.Fact x ∷ xs) = ap (λ y. y ++ row.Fact x ∷ []) (facts_rows xs) ∙ sym (map-append row.Fact (task_of xs).facts (x ∷ []))
facts_rows (_ ∷ xs) = facts_rows xs

-- code in ranges, with one range more
words_count : List Span → ℕ
words_count [] = 0
words_count (s ∷ ss) = s.len / 4 + words_count ss

code_more : (ss : List Span) (ws : List ℕ) (s : Span) (vs : List ℕ) → length ws ≡ words_count ss → length vs ≡ s.len / 4 → code_rows (ss ++ s ∷ []) (ws ++ vs) ≡ code_rows ss ws ++ row.Words (record { start = s.start; words = vs }) ∷ []
unfolding words_count
code_more [] ws s vs e f =
    let none : ws ≡ [] = empty ws e in
    λ i. row.Words (record { start = s.start; words = (ap (λ x. take (s.len / 4) (x ++ vs)) none ∙ take_all (s.len / 4) vs (omega arith)) i }) ∷ []
  where
    empty : (xs : List ℕ) → length xs ≡ 0 → xs ≡ []
    empty [] h = refl
    empty (x ∷ xs) h = absurd (omega arith)
code_more (x ∷ ss) ws s vs e f =
    λ i. row.Words (record { start = x.start; words = take-append-le (x.len / 4) ws vs (omega arith) i }) ∷
    ((ap (code_rows (ss ++ s ∷ [])) (drop-append-le (x.len / 4) ws vs (omega arith)) ∙ code_more ss (drop (x.len / 4) ws) s vs (length-drop (x.len / 4) ws ∙ rest (length ws) (x.len / 4) (words_count ss) e) f) i)
  where
    rest : (a b c : ℕ) → a ≡ b + c → a - b ≡ c
    rest a b c h = omega arith

words_more : (ss : List Span) (x : Span) → words_count (ss ++ x ∷ []) ≡ words_count ss + x.len / 4
unfolding words_count
words_more [] x = omega arith
words_more (s ∷ ss) x = let h = words_more ss x in omega arith

-- words stand first at their place, or after words
words_first : (older : List Row) → may_stand older k.Words ≡ true → (newest_place older < 9) ⊎ (newest_rank older ≡ 10)
unfolding may_stand
words_first [] e = inl (omega arith)
words_first (r ∷ older) e =
    let p = and_parts (may_follow (r ∷ older) k.Words) (nat_lt (count k.Words (r ∷ older)) 256) e in
    or_parts (nat_eq (rank (keyword r)) 10) _ ((place (keyword r) < 9) ⊎ (rank (keyword r) ≡ 10)) p.0
    (λ same. inr (eqb-true (rank (keyword r)) 10 same))
    (λ n t. inl (ltb-true (place (keyword r)) 9 (and_parts (nat_lt (place (keyword r)) 9) _ t).0))

-- the rows of an image, by what the task says of it
abbrev ImageIs : List Row → Source → Type 0
ImageIs xs (Name n) = (of_key k.Words xs ≡ []) × ((of_key k.Image xs ≡ []) ⊎ (of_key k.Image xs ≡ row.Image n ∷ []))
ImageIs xs (Words c) = (of_key k.Image xs ≡ []) × (of_key k.Words xs ≡ code_rows c.spans c.words) × (length c.words ≡ words_count c.spans)

-- the newest row of the keyword has the place of a words row only where words stand
newest_words : (xs : List Row) → newest_rank xs ≡ 10 → of_key k.Words xs ≢ []
newest_words [] e h = absurd (omega arith)
newest_words (r ∷ xs) e h = snoc_some (of_key k.Words xs) r (sym (cond-true (nat_eq 10 (rank (keyword r))) (of_key k.Words xs ++ r ∷ []) (of_key k.Words xs) (eq-eqb 10 (rank (keyword r)) (sym e))) ∙ h)

image_is : (xs : List Row) → IsStart xs → ImageIs xs (task_of xs).image
unfolding words_count
image_is [] s = (refl, inl refl)
image_is (row.Image n ∷ xs) s =
    let low = image_first xs s.0 in
    (none_of k.Words xs (fresh k.Words xs s.3 low), inr (ap (λ y. y ++ row.Image n ∷ []) (none_of k.Image xs (fresh k.Image xs s.3 low))))
image_is (row.Words w ∷ xs) s = by (task_of xs).image (image_is xs s.3) (words_first xs s.0)
  where
    len : length w.words ≡ 4 * length w.words / 4
    len = omega arith

    by : (i : Source) → ImageIs xs i → (newest_place xs < 9) ⊎ (newest_rank xs ≡ 10) → ImageIs (row.Words w ∷ xs) (with_words i w.start w.words)
    by (Name n) h (inl low) = (
      none_of k.Image xs (fresh k.Image xs s.3 low),
      (λ i. h.0 i ++ row.Words w ∷ []) ∙ (λ i. row.Words (record { start = w.start; words = sym (take_all (4 * length w.words / 4) w.words (omega (arith, len))) i }) ∷ []),
      len ∙ sym (add-zero (4 * length w.words / 4)),
    )
    by (Name n) h (inr ten) = absurd (newest_words xs ten h.0)
    by (Words c) h first = (
      h.0,
      ap (λ y. y ++ row.Words w ∷ []) h.1 ∙ sym (code_more c.spans c.words (code_span w.start (length w.words)) w.words h.2 len),
      length-append c.words w.words ∙ (λ i. h.2 i + len i) ∙ sym (words_more c.spans (code_span w.start (length w.words))),
    )
image_is (_ ∷ xs) s = image_is xs s.3

-- no keyword stands more often than the table says
pub at_most : (key : Keyword) (xs : List Row) → IsStart xs → count key xs ≤ most key
unfolding may_stand
at_most key [] s = omega arith
at_most key (r ∷ xs) s = by (same_keyword key (keyword r)) refl (at_most key xs s.3)
  where
    by : (t : Bool) → same_keyword key (keyword r) ≡ t → count key xs ≤ most key → cond t (suc (count key xs)) (count key xs) ≤ most key
    by true t h =
        let same : rank key ≡ rank (keyword r) = eqb-true (rank key) (rank (keyword r)) t in
        let l = ltb-true (count (keyword r) xs) (most (keyword r)) (and_parts (may_follow xs (keyword r)) _ s.0).1 in
        let c : count key xs ≡ count (keyword r) xs = count_same key (keyword r) xs same in
        let m : most key ≡ most (keyword r) = ap most (rank_same key (keyword r) same) in
        omega (arith, c, m, l)
    by false t h = h

-- places where a line is needed
abbrev pub Needed : ℕ → Type 0
Needed p = (p ≤ 11) ⊎ ((p ≡ 13) ⊎ (p ≡ 14))

next_low : (n p : ℕ) → n < p → Needed p → next_needed n ≤ p
unfolding next_needed
next_low n p h need = grind (arith, nat_tests)

count_grows : (key : Keyword) (r : Row) (xs : List Row) → count key xs ≤ count key (r ∷ xs)
count_grows key r xs = by (same_keyword key (keyword r))
  where
    by : (t : Bool) → count key xs ≤ cond t (suc (count key xs)) (count key xs)
    by true = omega arith
    by false = omega arith

count_here : (key : Keyword) (r : Row) (xs : List Row) → rank key ≡ rank (keyword r) → 1 ≤ count key (r ∷ xs)
count_here key r xs e = let c : count key (r ∷ xs) ≡ suc (count key xs) = cond-true (same_keyword key (keyword r)) (suc (count key xs)) (count key xs) (eq-eqb (rank key) (rank (keyword r)) e) in omega arith

-- the newest row of a place that the older ones had not reached stands just there
reached : (r : Row) (xs : List Row) (p : ℕ) → may_stand xs (keyword r) ≡ true → newest_place xs < p → p ≤ place (keyword r) → Needed p → place (keyword r) ≡ p
unfolding may_stand
reached r xs p e low high need = by xs (and_parts (may_follow xs (keyword r)) _ e).0 low
  where
    by : (ys : List Row) → may_follow ys (keyword r) ≡ true → newest_place ys < p → place (keyword r) ≡ p
    by [] f l = or_parts (nat_eq 0 (rank (keyword r))) _ (place (keyword r) ≡ p) f
        (λ t. let same = eqb-true 0 (rank (keyword r)) t in let pos = rank_positive (keyword r) in absurd (omega (arith, same, pos)))
        (λ n t. let u = leb-true (place (keyword r)) (next_needed 0) (and_parts (nat_lt 0 (place (keyword r))) _ t).1 in let v = next_low 0 p l need in omega (arith, u, v))
    by (x ∷ ys) f l = or_parts (nat_eq (rank (keyword x)) (rank (keyword r))) _ (place (keyword r) ≡ p) f
        (λ t. let same = rank_place (keyword x) (keyword r) (eqb-true (rank (keyword x)) (rank (keyword r)) t) in absurd (omega (arith, same)))
        (λ n t. let u = leb-true (place (keyword r)) (next_needed (place (keyword x))) (and_parts (nat_lt (place (keyword x)) (place (keyword r))) _ t).1 in let v = next_low (place (keyword x)) p l need in omega (arith, u, v))

-- a needed line has stood once its place is reached
pub needed_stands : (key : Keyword) (xs : List Row) → IsStart xs → Needed (place key) → place key ≢ 9 → 0 < place key → place key ≤ newest_place xs → 1 ≤ count key xs
needed_stands key [] s need other some h = absurd (omega arith)
needed_stands key (r ∷ xs) s need other some h = by (nat_le (place key) (newest_place xs)) refl (λ l. needed_stands key xs s.3 need other some l)
  where
    by : (t : Bool) → nat_le (place key) (newest_place xs) ≡ t → (place key ≤ newest_place xs → 1 ≤ count key xs) → 1 ≤ count key (r ∷ xs)
    by true t go = let a = go (leb-true (place key) (newest_place xs) t) in let b = count_grows key r xs in omega (arith, a, b)
    by false t go =
        let p = reached r xs (place key) s.0 (leb-false (place key) (newest_place xs) t) h need in
        count_here key r xs (place_only key (keyword r) (sym p) other)

nine_stands : (xs : List Row) → IsStart xs → 9 ≤ newest_place xs → 1 ≤ count k.Image xs + count k.Words xs
nine_stands [] s h = absurd (omega arith)
nine_stands (r ∷ xs) s h = by (nat_le 9 (newest_place xs)) refl (λ l. nine_stands xs s.3 l)
  where
    nine : (x : Row) → place (keyword x) ≡ 9 → (rank k.Image ≡ rank (keyword x)) ⊎ (rank k.Words ≡ rank (keyword x))
    nine (row.Image n) e = inl refl
    nine (row.Words w) e = inr refl
    nine row.Version e = absurd (omega arith)
    nine (row.Order x) e = absurd (omega arith)
    nine (row.Core x) e = absurd (omega arith)
    nine (row.Memory x) e = absurd (omega arith)
    nine (row.Icache x) e = absurd (omega arith)
    nine (row.Dcache x) e = absurd (omega arith)
    nine (row.Point x) e = absurd (omega arith)
    nine (row.Time x) e = absurd (omega arith)
    nine (row.Entry x) e = absurd (omega arith)
    nine (row.Stack x) e = absurd (omega arith)
    nine (row.Ram x) e = absurd (omega arith)
    nine (row.Input x) e = absurd (omega arith)
    nine (row.Output x) e = absurd (omega arith)
    nine (row.Show x) e = absurd (omega arith)
    nine (row.Cut x) e = absurd (omega arith)
    nine (row.Loop x) e = absurd (omega arith)
    nine (row.Fact x) e = absurd (omega arith)

    by : (t : Bool) → nat_le 9 (newest_place xs) ≡ t → (9 ≤ newest_place xs → 1 ≤ count k.Image xs + count k.Words xs) → 1 ≤ count k.Image (r ∷ xs) + count k.Words (r ∷ xs)
    by true t go =
        let a = go (leb-true 9 (newest_place xs) t) in
        let b = count_grows k.Image r xs in
        let c = count_grows k.Words r xs in
        omega (arith, a, b, c)
    by false t go =
        let p = reached r xs 9 s.0 (leb-false 9 (newest_place xs) t) h (inl (omega arith)) in
        elim (nine r p) [ inl w ↦ (let a = count_here k.Image r xs w in omega (arith, a)) | inr w ↦ (let a = count_here k.Words r xs w in omega (arith, a)) ]

-- a needed line of one keyword stands just once in a whole text
once : (key : Keyword) (xs : List Row) → IsWhole xs → Needed (place key) → place key ≢ 9 → 0 < place key → place key ≤ 14 → most key ≡ 1 → count key xs ≡ 1
once key xs w need other some low single =
    let e = leb-true 14 (newest_place xs) w.1 in
    let a = needed_stands key xs w.0 need other some (omega (arith, e)) in
    let b = at_most key xs w.0 in
    omega (arith, a, b, single)

-- the rows of the two keywords that share a place
image_sections : (xs : List Row) → IsWhole xs → (of_key k.Image xs ≡ image_rows (task_of xs).image) × (of_key k.Words xs ≡ words_rows (task_of xs).image)
image_sections xs w = by (task_of xs).image (image_is xs w.0)
  where
    stood : 1 ≤ count k.Image xs + count k.Words xs
    stood = let e = leb-true 14 (newest_place xs) w.1 in nine_stands xs w.0 (omega (arith, e))

    by : (i : Source) → ImageIs xs i → (of_key k.Image xs ≡ image_rows i) × (of_key k.Words xs ≡ words_rows i)
    by (Name n) h = elim h.1 [
      | inl none ↦ (let a = count_none k.Image xs none in let b = count_none k.Words xs h.0 in absurd (omega (arith, a, b, stood)))
      | inr one ↦ (one, h.0)
    ]
    by (Words c) h = (h.0, h.1)

-- the rows of every keyword
pub sections_are : (xs : List Row) → IsWhole xs → (key : Keyword) → of_key key xs ≡ section (task_of xs) key
sections_are xs w k.Version = version_row xs (once k.Version xs w (inl (omega arith)) (omega arith) (omega arith) (omega arith) refl)
sections_are xs w k.Order = order_row xs (once k.Order xs w (inl (omega arith)) (omega arith) (omega arith) (omega arith) refl)
sections_are xs w k.Core = core_row xs (once k.Core xs w (inl (omega arith)) (omega arith) (omega arith) (omega arith) refl)
sections_are xs w k.Memory = memory_row xs (once k.Memory xs w (inl (omega arith)) (omega arith) (omega arith) (omega arith) refl)
sections_are xs w k.Icache = icache_row xs (once k.Icache xs w (inl (omega arith)) (omega arith) (omega arith) (omega arith) refl)
sections_are xs w k.Dcache = dcache_row xs (once k.Dcache xs w (inl (omega arith)) (omega arith) (omega arith) (omega arith) refl)
sections_are xs w k.Time = time_row xs (once k.Time xs w (inl (omega arith)) (omega arith) (omega arith) (omega arith) refl)
sections_are xs w k.Entry = entry_row xs (once k.Entry xs w (inl (omega arith)) (omega arith) (omega arith) (omega arith) refl)
sections_are xs w k.Stack = stack_row xs (once k.Stack xs w (inl (omega arith)) (omega arith) (omega arith) (omega arith) refl)
sections_are xs w k.Input = input_row xs (once k.Input xs w (inr (inl refl)) (omega arith) (omega arith) (omega arith) refl)
sections_are xs w k.Output = output_row xs (once k.Output xs w (inr (inr refl)) (omega arith) (omega arith) (omega arith) refl)
sections_are xs w k.Point = points_rows xs
sections_are xs w k.Ram = rams_rows xs
sections_are xs w k.Show = shows_rows xs
sections_are xs w k.Cut = cuts_rows xs
sections_are xs w k.Loop = loops_rows xs
sections_are xs w k.Fact = facts_rows xs
sections_are xs w k.Image = (image_sections xs w).0
sections_are xs w k.Words = (image_sections xs w).1

-- the rows of a task are those that it was made of
pub rows_back : (xs : List Row) → IsWhole xs → flat_map (section (task_of xs)) keywords ≡ oldest_first xs
rows_back xs w = sym (sorted xs w.0 ∙ (λ i. flat_map (λ key. sections_are xs w key i) keywords))
