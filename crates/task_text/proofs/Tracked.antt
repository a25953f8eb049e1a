-- The private reader's state stands for the rows read so far.
use Rattle.std.proofs.Common.{◌≡◌, ℕ, suc, Bool, true, false, cond, not, ◌&&◌, ◌||◌, nat_eq, nat_le, nat_lt, List, [], ◌∷◌, ◌++◌, ◌+◌, ◌<◌, ◌≤◌, Option, Some, None, Result, Ok, Err, IfOk, IfErr, refl, sym, ap, ◌∙◌, subst, arith, eqb-true, ltb-true, ne_eqb, eq-eqb, add-one, subst₂}
use Rattle.std.specs.List.{list_all}
use Rattle.std.proofs.lemmas.Bool.{cond-true, cond-false}
use Rattle.std.proofs.lemmas.List.Folds.{list_all-append}
use Rattle.text_fields.specs.Lines.{fields, lines_of}
use Rattle.text_fields.proofs.LinesRead.{no_line}
use Rattle.text_fields.proofs.Digits.{and_parts, and_from}
use Rattle.task_text.specs.declared.fault.LineKind.{LineKind}
use Rattle.task_text.specs.declared.fault.LineKind.TheVariants.{Bytes, Word, Value, End}
use Rattle.task_text.specs.declared.fault.TaskFault.{TaskFault}
use Rattle.task_text.specs.declared.fault.TaskFault.TheVariants.{Line, Memory}
use Rattle.task_text.specs.declared.reader.Reader.{Reader}
use Rattle.task_text.specs.declared.row.Keyword.{Keyword}
use Rattle.task_text.specs.declared.row.Keyword.TheVariants as k
use Rattle.task_text.specs.declared.row.Row.{Row}
use Rattle.task_text.specs.declared.row.Row.TheVariants as row
use Rattle.task_text.specs.declared.task.Source.{Source}
use Rattle.task_text.specs.declared.task.Source.TheVariants.{Name, Words}
use Rattle.task_text.specs.declared.task.Task.{Task}
use Rattle.task_text.specs.Table.{keyword, rank, place, most, next_needed, last_needed, agrees, agrees_with_all, count, newest_place, may_follow, may_stand}
use Rattle.task_text.specs.Texts.{is_plain, is_skipped, IsStart, is_ended, add, with_words, task_of, IsTask, IsFault, IsRefusal}
use Rattle.task_text.specs.Reading.{keyword_of, parsed, joined, named as named_rows, judged as judged_rows, judge as judge_rows, walk as walk_rows, walk_on as walk_on_rows}
use Rattle.task_text.specs.Gives.{taken, counted, named, judged, judge, walk, walk_on, ended, Reads}
use Rattle.task_text.specs.Gives.{place_or_zero, next_count, has_words, agrees_with_task, opening}
use Rattle.task_text.proofs.EachKind.{or_parts}
use Rattle.task_text.proofs.Starts.{AllUpTo, rising, fresh, rank_positive, most_positive}
use Rattle.task_text.proofs.Steps.{parsed_ok}
use Rattle.task_text.proofs.Walks.{text_found, text_only, text_fault}

-- the newest keyword, and how often it has stood
abbrev newest_of : List Row → Option Keyword
newest_of [] = None
newest_of (r ∷ older) = Some (keyword r)

abbrev newest_count : List Row → ℕ
newest_count [] = 0
newest_count (r ∷ older) = count (keyword r) (r ∷ older)

pub record Tracks (xs : List Row) (s : Reader) : Type 0 where
  pub start : IsStart xs
  pub newest : s.newest ≡ newest_of xs
  pub times : s.times ≡ newest_count xs
  pub task : s.task ≡ task_of xs

-- keywords of one number are counted alike
pub count_same : (a b : Keyword) (xs : List Row) → rank a ≡ rank b → count a xs ≡ count b xs
count_same a b [] e = refl
count_same a b (r ∷ xs) e =
    let c = count_same a b xs e in
    λ i. cond (nat_eq (e i) (rank (keyword r))) (suc (c i)) (c i)

-- the state's test of a keyword is the table's
next_is : (xs : List Row) (key : Keyword) → IsStart xs → next_count (newest_of xs) (newest_count xs) key ≡ cond (may_stand xs key) (Some (suc (count key xs))) None
unfolding next_count may_stand
next_is [] key s = by (nat_lt 0 (place key) && nat_le (place key) (next_needed 0)) refl
  where
    no_rank : nat_eq 0 (rank key) ≡ false
    no_rank = let p = rank_positive key in ne_eqb 0 (rank key) (omega (arith, p))

    by : (t : Bool) → (nat_lt 0 (place key) && nat_le (place key) (next_needed 0)) ≡ t → cond (nat_eq 0 (rank key)) (cond (nat_lt 0 (most key)) (Some (0 + 1)) None) (cond (nat_lt 0 (place key) && nat_le (place key) (next_needed 0)) (Some 1) None) ≡ cond ((nat_eq 0 (rank key) || (nat_lt 0 (place key) && nat_le (place key) (next_needed 0))) && nat_lt 0 (most key)) (Some 1) None
    by true t = (λ i. cond (no_rank i) (cond (nat_lt 0 (most key)) (Some (0 + 1)) None) (cond (t i) (Some 1) None))
        ∙ sym (λ i. cond ((no_rank i || t i) && most_positive key i) (Some 1) None)
    by false t = (λ i. cond (no_rank i) (cond (nat_lt 0 (most key)) (Some (0 + 1)) None) (cond (t i) (Some 1) None))
        ∙ sym (λ i. cond ((no_rank i || t i) && nat_lt 0 (most key)) (Some 1) None)
next_is (r ∷ older) key s = by (nat_eq (rank (keyword r)) (rank key)) refl
  where
    xs : List Row
    xs = r ∷ older

    later : Bool
    later = nat_lt (place (keyword r)) (place key) && nat_le (place key) (next_needed (place (keyword r)))

    by_room : (t : Bool) → nat_lt (count key (r ∷ older)) (most key) ≡ t → nat_eq (rank (keyword r)) (rank key) ≡ true → cond (nat_lt (count key (r ∷ older)) (most key)) (Some (count key (r ∷ older) + 1)) None ≡ cond ((nat_eq (rank (keyword r)) (rank key) || (nat_lt (place (keyword r)) (place key) && nat_le (place key) (next_needed (place (keyword r))))) && nat_lt (count key (r ∷ older)) (most key)) (Some (suc (count key (r ∷ older)))) None
    by_room true t e = (λ i. cond (t i) (Some (add-one (count key (r ∷ older)) i)) None) ∙ sym (λ i. cond ((e i || (nat_lt (place (keyword r)) (place key) && nat_le (place key) (next_needed (place (keyword r))))) && t i) (Some (suc (count key (r ∷ older)))) None)
    by_room false t e = (λ i. cond (t i) (Some (count key (r ∷ older) + 1)) None) ∙ sym (λ i. cond ((e i || (nat_lt (place (keyword r)) (place key) && nat_le (place key) (next_needed (place (keyword r))))) && t i) (Some (suc (count key (r ∷ older)))) None)

    by_later : (t : Bool) → (nat_lt (place (keyword r)) (place key) && nat_le (place key) (next_needed (place (keyword r)))) ≡ t → nat_eq (rank (keyword r)) (rank key) ≡ false → cond (nat_lt (place (keyword r)) (place key) && nat_le (place key) (next_needed (place (keyword r)))) (Some 1) None ≡ cond ((nat_eq (rank (keyword r)) (rank key) || (nat_lt (place (keyword r)) (place key) && nat_le (place key) (next_needed (place (keyword r))))) && nat_lt (count key (r ∷ older)) (most key)) (Some (suc (count key (r ∷ older)))) None
    by_later true t e =
        let l = ltb-true (place (keyword r)) (place key) (and_parts (nat_lt (place (keyword r)) (place key)) _ t).0 in
        let none : count key (r ∷ older) ≡ 0 = fresh key (r ∷ older) s l in
        let room : nat_lt (count key (r ∷ older)) (most key) ≡ true = ap (λ n. nat_lt n (most key)) none ∙ most_positive key in
        (λ i. cond (t i) (Some (suc (sym none i))) None) ∙ sym (λ i. cond ((e i || t i) && room i) (Some (suc (count key (r ∷ older)))) None)
    by_later false t e = (λ i. cond (t i) (Some 1) None) ∙ sym (λ i. cond ((e i || t i) && nat_lt (count key (r ∷ older)) (most key)) (Some (suc (count key (r ∷ older)))) None)

    by : (t : Bool) → nat_eq (rank (keyword r)) (rank key) ≡ t → cond (nat_eq (rank (keyword r)) (rank key)) (cond (nat_lt (count (keyword r) (r ∷ older)) (most key)) (Some (count (keyword r) (r ∷ older) + 1)) None) (cond (nat_lt (place (keyword r)) (place key) && nat_le (place key) (next_needed (place (keyword r)))) (Some 1) None) ≡ cond ((nat_eq (rank (keyword r)) (rank key) || (nat_lt (place (keyword r)) (place key) && nat_le (place key) (next_needed (place (keyword r))))) && nat_lt (count key (r ∷ older)) (most key)) (Some (suc (count key (r ∷ older)))) None
    by true t =
        let c = count_same (keyword r) key (r ∷ older) (eqb-true (rank (keyword r)) (rank key) t) in
        (λ i. cond (t i) (cond (nat_lt (c i) (most key)) (Some (c i + 1)) None) (cond (nat_lt (place (keyword r)) (place key) && nat_le (place key) (next_needed (place (keyword r)))) (Some 1) None))
        ∙ by_room (nat_lt (count key (r ∷ older)) (most key)) refl t
    by false t =
        (λ i. cond (t i) (cond (nat_lt (count (keyword r) (r ∷ older)) (most key)) (Some (count (keyword r) (r ∷ older) + 1)) None) (cond (nat_lt (place (keyword r)) (place key) && nat_le (place key) (next_needed (place (keyword r)))) (Some 1) None))
        ∙ by_later (nat_lt (place (keyword r)) (place key) && nat_le (place key) (next_needed (place (keyword r)))) refl t

-- a test of a last element
all_last : {X : Type 0} (p : X → Bool) (xs : List X) (y : X) → (p y && list_all p xs) ≡ list_all p (xs ++ y ∷ [])
all_last p xs y = swapped (p y) (list_all p xs) ∙ sym (list_all-append p xs (y ∷ []))
  where
    swapped : (a b : Bool) → (a && b) ≡ (b && (a && true))
    swapped true true = refl
    swapped true false = refl
    swapped false true = refl
    swapped false false = refl

-- the points of a task are those of its rows, and so are its facts
pub points_agree : (p : ℕ) (xs : List Row) → agrees_with_all xs (row.Point p) ≡ list_all (λ q. nat_lt p q) (task_of xs).points
unfolding agrees
points_agree p [] = refl
points_agree p (row.Point q ∷ xs) = ap (λ t. nat_lt p q && t) (points_agree p xs) ∙ all_last (λ x. nat_lt p x) (task_of xs).points q
points_agree p (row.Version ∷ xs) = points_agree p xs
points_agree p (row.Order _ ∷ xs) = points_agree p xs
points_agree p (row.Core _ ∷ xs) = points_agree p xs
points_agree p (row.Memory _ ∷ xs) = points_agree p xs
points_agree p (row.Icache _ ∷ xs) = points_agree p xs
points_agree p (row.Dcache _ ∷ xs) = points_agree p xs
points_agree p (row.Time _ ∷ xs) = points_agree p xs
points_agree p (row.Image _ ∷ xs) = points_agree p xs
points_agree p (row.Words _ ∷ xs) = points_agree p xs
points_agree p (row.Entry _ ∷ xs) = points_agree p xs
points_agree p (row.Stack _ ∷ xs) = points_agree p xs
points_agree p (row.Ram _ ∷ xs) = points_agree p xs
points_agree p (row.Input _ ∷ xs) = points_agree p xs
points_agree p (row.Output _ ∷ xs) = points_agree p xs
points_agree p (row.Show _ ∷ xs) = points_agree p xs
points_agree p (row.Cut _ ∷ xs) = points_agree p xs
points_agree p (row.Loop _ ∷ xs) = points_agree p xs
points_agree p (row.Fact _ ∷ xs) = points_agree p xs

facts_agree : (f : _) (xs : List Row) → agrees_with_all xs (row.Fact f) ≡ list_all (λ e. not (nat_eq e.at f.at && nat_eq e.register f.register)) (task_of xs).facts
unfolding agrees
facts_agree f [] = refl
facts_agree f (row.Fact e ∷ xs) = ap (λ t. not (nat_eq e.at f.at && nat_eq e.register f.register) && t) (facts_agree f xs) ∙ all_last (λ x. not (nat_eq x.at f.at && nat_eq x.register f.register)) (task_of xs).facts e
facts_agree f (row.Version ∷ xs) = facts_agree f xs
facts_agree f (row.Order _ ∷ xs) = facts_agree f xs
facts_agree f (row.Core _ ∷ xs) = facts_agree f xs
facts_agree f (row.Memory _ ∷ xs) = facts_agree f xs
facts_agree f (row.Icache _ ∷ xs) = facts_agree f xs
facts_agree f (row.Dcache _ ∷ xs) = facts_agree f xs
facts_agree f (row.Point _ ∷ xs) = facts_agree f xs
facts_agree f (row.Time _ ∷ xs) = facts_agree f xs
facts_agree f (row.Image _ ∷ xs) = facts_agree f xs
facts_agree f (row.Words _ ∷ xs) = facts_agree f xs
facts_agree f (row.Entry _ ∷ xs) = facts_agree f xs
facts_agree f (row.Stack _ ∷ xs) = facts_agree f xs
facts_agree f (row.Ram _ ∷ xs) = facts_agree f xs
facts_agree f (row.Input _ ∷ xs) = facts_agree f xs
facts_agree f (row.Output _ ∷ xs) = facts_agree f xs
facts_agree f (row.Show _ ∷ xs) = facts_agree f xs
facts_agree f (row.Cut _ ∷ xs) = facts_agree f xs
facts_agree f (row.Loop _ ∷ xs) = facts_agree f xs

-- below the place of words there are none
no_words : (n : ℕ) (xs : List Row) → n < 9 → AllUpTo n xs → agrees_with_all xs (row.Entry None) ≡ true
unfolding agrees
no_words n [] l a = refl
no_words n (r ∷ xs) l a = and_from (agrees (row.Entry None) r) _ (one r a.0) (no_words n xs l a.1)
  where
    one : (e : Row) → place (keyword e) ≤ n → agrees (row.Entry None) e ≡ true
    one (row.Words w) h = absurd (omega arith)
    one _ h = refl

-- an image stands once, and after no words
pub image_first : (older : List Row) → may_stand older k.Image ≡ true → newest_place older < 9
unfolding may_stand
image_first [] e = omega arith
image_first (r ∷ older) e =
    let p = and_parts (may_follow (r ∷ older) k.Image) (nat_lt (count k.Image (r ∷ older)) 1) e in
    or_parts (nat_eq (rank (keyword r)) 9) _ (place (keyword r) < 9) p.0
    (λ same.
    let back : nat_eq 9 (rank (keyword r)) ≡ true = ap (λ n. nat_eq 9 n) (eqb-true (rank (keyword r)) 9 same) in
    let c : count k.Image (r ∷ older) ≡ suc (count k.Image older) = cond-true (nat_eq 9 (rank (keyword r))) (suc (count k.Image older)) (count k.Image older) back in
    let l = ltb-true (count k.Image (r ∷ older)) 1 p.1 in
    absurd (omega (arith, c, l)))
    (λ n t. ltb-true (place (keyword r)) 9 (and_parts (nat_lt (place (keyword r)) 9) _ t).0)

words_given : (s : Source) (a : ℕ) (ws : List ℕ) → has_words (with_words s a ws) ≡ true
words_given (Name n) a ws = refl
words_given (Words c) a ws = refl

entry_agrees : (xs : List Row) → IsStart xs → agrees_with_all xs (row.Entry None) ≡ not (has_words (task_of xs).image)
unfolding agrees
entry_agrees [] s = refl
entry_agrees (row.Words w ∷ xs) s = sym (ap not (words_given (task_of xs).image w.start w.words))
entry_agrees (row.Image n ∷ xs) s = no_words (newest_place xs) xs (image_first xs s.0) (rising xs s.3)
entry_agrees (row.Version ∷ xs) s = entry_agrees xs s.3
entry_agrees (row.Order _ ∷ xs) s = entry_agrees xs s.3
entry_agrees (row.Core _ ∷ xs) s = entry_agrees xs s.3
entry_agrees (row.Memory _ ∷ xs) s = entry_agrees xs s.3
entry_agrees (row.Icache _ ∷ xs) s = entry_agrees xs s.3
entry_agrees (row.Dcache _ ∷ xs) s = entry_agrees xs s.3
entry_agrees (row.Point _ ∷ xs) s = entry_agrees xs s.3
entry_agrees (row.Time _ ∷ xs) s = entry_agrees xs s.3
entry_agrees (row.Entry _ ∷ xs) s = entry_agrees xs s.3
entry_agrees (row.Stack _ ∷ xs) s = entry_agrees xs s.3
entry_agrees (row.Ram _ ∷ xs) s = entry_agrees xs s.3
entry_agrees (row.Input _ ∷ xs) s = entry_agrees xs s.3
entry_agrees (row.Output _ ∷ xs) s = entry_agrees xs s.3
entry_agrees (row.Show _ ∷ xs) s = entry_agrees xs s.3
entry_agrees (row.Cut _ ∷ xs) s = entry_agrees xs s.3
entry_agrees (row.Loop _ ∷ xs) s = entry_agrees xs s.3
entry_agrees (row.Fact _ ∷ xs) s = entry_agrees xs s.3

-- a row that no earlier one can be against
all_agree : (r : Row) (xs : List Row) → ((e : Row) → agrees r e ≡ true) → agrees_with_all xs r ≡ true
all_agree r [] h = refl
all_agree r (e ∷ xs) h = and_from (agrees r e) _ (h e) (all_agree r xs h)

-- the task so far tells whether a row agrees with the rows so far
agrees_is : (r : Row) (xs : List Row) → IsStart xs → agrees_with_all xs r ≡ agrees_with_task (task_of xs) r
unfolding agrees agrees_with_task
agrees_is (row.Point p) xs s = points_agree p xs
agrees_is (row.Entry None) xs s = entry_agrees xs s
agrees_is (row.Entry (Some a)) xs s = all_agree (row.Entry (Some a)) xs (λ e. refl)
agrees_is (row.Fact f) xs s = facts_agree f xs
agrees_is row.Version xs s = all_agree row.Version xs (λ e. refl)
agrees_is (row.Order b) xs s = all_agree (row.Order b) xs (λ e. refl)
agrees_is (row.Core c) xs s = all_agree (row.Core c) xs (λ e. refl)
agrees_is (row.Memory m) xs s = all_agree (row.Memory m) xs (λ e. refl)
agrees_is (row.Icache c) xs s = all_agree (row.Icache c) xs (λ e. refl)
agrees_is (row.Dcache c) xs s = all_agree (row.Dcache c) xs (λ e. refl)
agrees_is (row.Time t) xs s = all_agree (row.Time t) xs (λ e. refl)
agrees_is (row.Image n) xs s = all_agree (row.Image n) xs (λ e. refl)
agrees_is (row.Words w) xs s = all_agree (row.Words w) xs (λ e. refl)
agrees_is (row.Stack a) xs s = all_agree (row.Stack a) xs (λ e. refl)
agrees_is (row.Ram x) xs s = all_agree (row.Ram x) xs (λ e. refl)
agrees_is (row.Input x) xs s = all_agree (row.Input x) xs (λ e. refl)
agrees_is (row.Output n) xs s = all_agree (row.Output n) xs (λ e. refl)
agrees_is (row.Show x) xs s = all_agree (row.Show x) xs (λ e. refl)
agrees_is (row.Cut a) xs s = all_agree (row.Cut a) xs (λ e. refl)
agrees_is (row.Loop x) xs s = all_agree (row.Loop x) xs (λ e. refl)

-- what the list reader gives, and what the state gives
abbrev Matches : Result (List Row) LineKind → Result Reader LineKind → Type 0
Matches (Ok xs) (Ok s) = Tracks xs s
Matches (Err a) (Err b) = a ≡ b
Matches _ _ = ⊥

match_if : (t u : Bool) (a : Result (List Row) LineKind) (b : Result Reader LineKind) (kind : LineKind) → t ≡ u → (t ≡ true → Matches a b) → Matches (cond t a (Err kind)) (cond u b (Err kind))
match_if true true a b kind e m = m refl
match_if true false a b kind e m = cc
match_if false true a b kind e m = cc
match_if false false a b kind e m = refl

-- a row that was parsed
taken_matches : (xs : List Row) (s : Reader) (key : Keyword) (others : List (List ℕ)) → Tracks xs s → may_stand xs key ≡ true → (p : Result Row LineKind) → parsed key others ≡ p → Matches (joined xs p) (taken s key (suc (count key xs)) p)
taken_matches xs s key others t m (Err kind) e = refl
taken_matches xs s key others t m (Ok r) e =
    let k = parsed_ok key others r e in
    let same : agrees_with_all xs r ≡ agrees_with_task s.task r = agrees_is r xs t.start ∙ ap (λ x. agrees_with_task x r) (sym t.task) in
    match_if (agrees_with_all xs r) (agrees_with_task s.task r) (Ok (r ∷ xs)) (Ok (record { newest = Some key; times = suc (count key xs); task = add r s.task })) Value same
    (λ a. record {
      start = (ap (may_stand xs) k.0 ∙ m, k.2, a, t.start);
      newest = ap (λ x. Some x) (sym k.0);
      times = ap (λ x. suc (count x xs)) (sym k.0) ∙ sym (cond-true (nat_eq (rank (keyword r)) (rank (keyword r))) (suc (count (keyword r) xs)) (count (keyword r) xs) (eq-eqb (rank (keyword r)) (rank (keyword r)) refl));
      task = ap (add r) t.task;
    })

named_matches : (xs : List Row) (s : Reader) (o : Option Keyword) (others : List (List ℕ)) → Tracks xs s → Matches (named_rows xs o others) (named s o others)
named_matches xs s None others t = refl
named_matches xs s (Some key) others t = by (may_stand xs key) refl
  where
    next : next_count s.newest s.times key ≡ cond (may_stand xs key) (Some (suc (count key xs))) None
    next = (λ i. next_count (t.newest i) (t.times i) key) ∙ next_is xs key t.start

    by : (b : Bool) → may_stand xs key ≡ b → Matches (cond (may_stand xs key) (joined xs (parsed key others)) (Err Word)) (counted s key (next_count s.newest s.times key) others)
    by true b =
        let n : next_count s.newest s.times key ≡ Some (suc (count key xs)) = next ∙ cond-true (may_stand xs key) (Some (suc (count key xs))) None b in
        let m = taken_matches xs s key others t b (parsed key others) refl in
        subst₂ Matches (sym (cond-true (may_stand xs key) (joined xs (parsed key others)) (Err Word) b)) (ap (λ o. counted s key o others) (sym n)) m
    by false b =
        let n : next_count s.newest s.times key ≡ None = next ∙ cond-false (may_stand xs key) (Some (suc (count key xs))) None b in
        subst₂ Matches (sym (cond-false (may_stand xs key) (joined xs (parsed key others)) (Err Word) b)) (ap (λ o. counted s key o others) (sym n)) refl

judged_matches : (xs : List Row) (s : Reader) (fs : List (List ℕ)) → Tracks xs s → Matches (judged_rows xs fs) (judged s fs)
unfolding judged
judged_matches xs s [] t = refl
judged_matches xs s (f ∷ others) t = named_matches xs s (keyword_of f) others t

judge_matches : (xs : List Row) (s : Reader) (l : List ℕ) → Tracks xs s → Matches (judge_rows xs l) (judge s l)
unfolding judge_rows judge
judge_matches xs s l t = match_if (is_plain l) (is_plain l) (cond (is_skipped l) (Ok xs) (judged_rows xs (fields l))) (cond (is_skipped l) (Ok s) (judged s (fields l))) Bytes refl (λ p. by (is_skipped l) (judged_matches xs s (fields l) t))
  where
    by : (b : Bool) → Matches (judged_rows xs (fields l)) (judged s (fields l)) → Matches (cond b (Ok xs) (judged_rows xs (fields l))) (cond b (Ok s) (judged s (fields l)))
    by true m = t
    by false m = m

-- the same, of a whole text
abbrev MatchesText : Result (List Row) TaskFault → Result Task TaskFault → Type 0
MatchesText (Ok xs) (Ok t) = t ≡ task_of xs
MatchesText (Err a) (Err b) = a ≡ b
MatchesText _ _ = ⊥

place_newest : (xs : List Row) → place_or_zero (newest_of xs) ≡ newest_place xs
place_newest [] = refl
place_newest (r ∷ older) = refl

walk_matches : (ls : List (List ℕ)) (xs : List Row) (s : Reader) (n : ℕ) → Tracks xs s → MatchesText (walk_rows ls xs n) (walk ls s n)
walk_matches [] xs s n t = by (is_ended xs) (nat_le last_needed (place_or_zero s.newest)) (ap (nat_le last_needed) (sym (place_newest xs) ∙ ap place_or_zero (sym t.newest)))
  where
    by : (a b : Bool) → a ≡ b → MatchesText (cond a (Ok xs) (Err (Line n End))) (cond b (Ok s.task) (Err (Line n End)))
    by true true e = t.task
    by true false e = cc
    by false true e = cc
    by false false e = refl
walk_matches (l ∷ ls) xs s n t = by (judge_rows xs l) (judge s l) (judge_matches xs s l t) (λ ys u k. walk_matches ls ys u (suc n) k)
  where
    by : (a : Result (List Row) LineKind) (b : Result Reader LineKind) → Matches a b → ((ys : List Row) (u : Reader) → Tracks ys u → MatchesText (walk_rows ls ys (suc n)) (walk ls u (suc n))) → MatchesText (walk_on_rows a n (λ more. walk_rows ls more (suc n))) (walk_on b n (λ more. walk ls more (suc n)))
    by (Ok ys) (Ok u) m go = go ys u m
    by (Ok ys) (Err d) m go = absurd m
    by (Err d) (Ok u) m go = absurd m
    by (Err c) (Err d) m go = ap (λ kind. Line n kind) m

opened : Tracks [] opening
opened = record { start = tt; newest = refl; times = refl; task = refl }

-- what the state gives of a whole text is a task of it
pub given_task : (bytes : List ℕ) (t : Task) → walk (lines_of bytes) opening 1 ≡ Ok t → IsTask bytes t
given_task bytes t e = by (walk_rows (lines_of bytes) [] 1) refl (walk_matches (lines_of bytes) [] opening 1 opened)
  where
    by : (a : Result (List Row) TaskFault) → walk_rows (lines_of bytes) [] 1 ≡ a → MatchesText a (walk (lines_of bytes) opening 1) → IsTask bytes t
    by (Ok xs) r m =
        let f = text_found bytes xs r in
        let is : MatchesText (Ok xs) (Ok t) = subst (MatchesText (Ok xs)) e m in
        record { rows = xs; whole = f.0; lines = f.1; task = is }
    by (Err d) r m = absurd (subst (MatchesText (Err d)) e m)

-- and of a text of a task it is that task
pub given_only : (bytes : List ℕ) (t : Task) → IsTask bytes t → walk (lines_of bytes) opening 1 ≡ Ok t
given_only bytes t is = by (walk (lines_of bytes) opening 1) refl (subst (λ a. MatchesText a (walk (lines_of bytes) opening 1)) (text_only bytes is.rows is.whole is.lines) (walk_matches (lines_of bytes) [] opening 1 opened))
  where
    by : (b : Result Task TaskFault) → walk (lines_of bytes) opening 1 ≡ b → MatchesText (Ok is.rows) (walk (lines_of bytes) opening 1) → walk (lines_of bytes) opening 1 ≡ Ok t
    by (Ok u) e m = let h : MatchesText (Ok is.rows) (Ok u) = subst (MatchesText (Ok is.rows)) e m in e ∙ ap (λ x. Ok x) (h ∙ sym is.task)
    by (Err d) e m = absurd (subst (MatchesText (Ok is.rows)) e m)

-- and a refusal of it is the fault of the text
pub given_fault : (bytes : List ℕ) (n : ℕ) (kind : LineKind) → walk (lines_of bytes) opening 1 ≡ Err (Line n kind) → IsFault bytes n kind
given_fault bytes n kind e = by (walk_rows (lines_of bytes) [] 1) refl (walk_matches (lines_of bytes) [] opening 1 opened)
  where
    by : (a : Result (List Row) TaskFault) → walk_rows (lines_of bytes) [] 1 ≡ a → MatchesText a (walk (lines_of bytes) opening 1) → IsFault bytes n kind
    by (Ok xs) r m = absurd (subst (MatchesText (Ok xs)) e m)
    by (Err d) r m =
        let same : MatchesText (Err d) (Err (Line n kind)) = subst (MatchesText (Err d)) e m in
        text_fault bytes n kind (r ∙ ap (λ x. Err x) same)

-- the same, of what the program gives, where memory may be short
pub reads_same : (r w : Result Task TaskFault) → r ≡ w → Reads r w
reads_same (Ok t) w e = sym e
reads_same (Err (Line n kind)) w e = sym e
reads_same (Err Memory) w e = tt

pub walk_ended : (text : List ℕ) (s : Reader) (n : ℕ) → text ≡ [] → walk (lines_of text) s n ≡ ended s n
walk_ended text s n e = ap (λ t. walk (lines_of t) s n) e ∙ ap (λ ls. walk ls s n) no_line

pub read_is_task : (bytes : List ℕ) (r : Result Task TaskFault) → Reads r (walk (lines_of bytes) opening 1) → IfOk r (λ t. IsTask bytes t)
read_is_task bytes (Ok t) g = given_task bytes t g
read_is_task bytes (Err f) g = tt

pub read_is_only : (bytes : List ℕ) (r : Result Task TaskFault) → Reads r (walk (lines_of bytes) opening 1) → (t : Task) → IsTask bytes t → IfOk r (λ u. u ≡ t)
read_is_only bytes (Ok u) g t is = let same : Ok u ≡ Ok t = sym g ∙ given_only bytes t is in cc
read_is_only bytes (Err f) g t is = tt

pub read_is_fault : (bytes : List ℕ) (r : Result Task TaskFault) → Reads r (walk (lines_of bytes) opening 1) → IfErr r (λ e. IsRefusal bytes e)
read_is_fault bytes (Ok t) g = tt
read_is_fault bytes (Err (Line n kind)) g = (given_fault bytes n kind g, λ t is. let clash : Ok t ≡ Err (Line n kind) = sym (given_only bytes t is) ∙ g in cc)
read_is_fault bytes (Err Memory) g = tt
