-- Rows that keep the table, as far as they go, can be made whole.
use Rattle.std.proofs.Common.{◌≡◌, ℕ, zero, suc, Bool, true, false, cond, nat_eq, nat_le, nat_lt, List, [], ◌∷◌, ◌++◌, ◌+◌, ◌<◌, ◌≤◌, ◌-◌, Some, None, codes, refl, sym, ap, ◌∙◌, subst, arith, eqb-true, leb-false, ltb-true, lt-ltb, le-leb, ne_eqb, append_assoc}
use Rattle.std.proofs.lemmas.Bool.{cond-false}
use Rattle.text_fields.proofs.Digits.{and_parts, and_from}
use Rattle.task_text.specs.declared.row.Keyword.{Keyword}
use Rattle.task_text.specs.declared.row.Keyword.TheVariants as k
use Rattle.task_text.specs.declared.row.Row.{Row}
use Rattle.task_text.specs.declared.row.Row.TheVariants as row
use Rattle.task_text.specs.Table.{keyword, rank, place, most, same_keyword, next_needed, in_limits, is_name, is_shape, agrees, agrees_with_all, count, newest_place, newest_rank, may_follow, may_stand}
use Rattle.task_text.specs.Texts.{IsStart, IsWhole}
use Rattle.task_text.proofs.EachKind.{or_parts, or_right}

-- the place by the number
pub place_is : (key : Keyword) → place key ≡ cond (nat_lt (rank key) 10) (rank key) (rank key - 1)
place_is k.Version = refl
place_is k.Order = refl
place_is k.Core = refl
place_is k.Memory = refl
place_is k.Icache = refl
place_is k.Dcache = refl
place_is k.Point = refl
place_is k.Time = refl
place_is k.Image = refl
place_is k.Words = refl
place_is k.Entry = refl
place_is k.Stack = refl
place_is k.Ram = refl
place_is k.Input = refl
place_is k.Output = refl
place_is k.Show = refl
place_is k.Cut = refl
place_is k.Loop = refl
place_is k.Fact = refl

pub rank_place : (a b : Keyword) → rank a ≡ rank b → place a ≡ place b
rank_place a b e = place_is a ∙ ap (λ n. cond (nat_lt n 10) n (n - 1)) e ∙ sym (place_is b)

pub rank_positive : (key : Keyword) → 0 < rank key
rank_positive k.Version = omega arith
rank_positive k.Order = omega arith
rank_positive k.Core = omega arith
rank_positive k.Memory = omega arith
rank_positive k.Icache = omega arith
rank_positive k.Dcache = omega arith
rank_positive k.Point = omega arith
rank_positive k.Time = omega arith
rank_positive k.Image = omega arith
rank_positive k.Words = omega arith
rank_positive k.Entry = omega arith
rank_positive k.Stack = omega arith
rank_positive k.Ram = omega arith
rank_positive k.Input = omega arith
rank_positive k.Output = omega arith
rank_positive k.Show = omega arith
rank_positive k.Cut = omega arith
rank_positive k.Loop = omega arith
rank_positive k.Fact = omega arith

pub most_positive : (key : Keyword) → nat_lt 0 (most key) ≡ true
most_positive k.Version = refl
most_positive k.Order = refl
most_positive k.Core = refl
most_positive k.Memory = refl
most_positive k.Icache = refl
most_positive k.Dcache = refl
most_positive k.Point = refl
most_positive k.Time = refl
most_positive k.Image = refl
most_positive k.Words = refl
most_positive k.Entry = refl
most_positive k.Stack = refl
most_positive k.Ram = refl
most_positive k.Input = refl
most_positive k.Output = refl
most_positive k.Show = refl
most_positive k.Cut = refl
most_positive k.Loop = refl
most_positive k.Fact = refl

-- a row that may stand isn't above the newest in the table
follows_place : (older : List Row) (key : Keyword) → may_stand older key ≡ true → newest_place older ≤ place key
unfolding may_stand
follows_place older key e = by older (and_parts (may_follow older key) _ e).0
  where
    by : (rows : List Row) → may_follow rows key ≡ true → newest_place rows ≤ place key
    by [] f = omega arith
    by (r ∷ rest) f = or_parts (nat_eq (rank (keyword r)) (rank key)) _ (place (keyword r) ≤ place key) f
        (λ t. let same = rank_place (keyword r) key (eqb-true (rank (keyword r)) (rank key) t) in omega (arith, same))
        (λ n t. let l = ltb-true (place (keyword r)) (place key) (and_parts (nat_lt (place (keyword r)) (place key)) _ t).0 in omega (arith, l))

-- all rows stand at this place of the table or before
abbrev pub AllUpTo : ℕ → List Row → Type 0
AllUpTo n [] = Unit {0}
AllUpTo n (r ∷ rows) = (place (keyword r) ≤ n) × AllUpTo n rows

up_to_more : (m n : ℕ) (rows : List Row) → m ≤ n → AllUpTo m rows → AllUpTo n rows
up_to_more m n [] h a = tt
up_to_more m n (r ∷ rows) h a = (omega (arith, a.0), up_to_more m n rows h a.1)

pub rising : (rows : List Row) → IsStart rows → AllUpTo (newest_place rows) rows
rising [] s = tt
rising (r ∷ older) s = (omega arith, up_to_more (newest_place older) (place (keyword r)) older (follows_place older (keyword r) s.0) (rising older s.3))

-- a keyword of a later place hasn't stood
pub fresh : (key : Keyword) (rows : List Row) → IsStart rows → newest_place rows < place key → count key rows ≡ 0
fresh key rows s h = none (newest_place rows) rows (rising rows s) h
  where
    none : (n : ℕ) (xs : List Row) → AllUpTo n xs → n < place key → count key xs ≡ 0
    none n [] a l = refl
    none n (r ∷ xs) a l =
        cond-false (same_keyword key (keyword r)) (suc (count key xs)) (count key xs)
        (ne_eqb (rank key) (rank (keyword r)) (λ e. let same = rank_place key (keyword r) e in absurd (omega (arith, same, a.0))))
        ∙ none n xs a.1 l

-- a row that makes the next needed line
after : Keyword → Row
after k.Version = row.Order true
after k.Order = row.Core (record { width = 1; rob = 8; mul = 1; div = 1 })
after k.Core = row.Memory (record { mem_ps = 1; store_ps = 1; settle_ps = 0; start_ps = 0 })
after k.Memory = row.Icache None
after k.Icache = row.Dcache None
after k.Dcache = row.Point 100
after k.Point = row.Time (record { period_ps = 1; deadline_ps = 1 })
after k.Time = row.Image (codes "a")
after k.Image = row.Entry (Some 0)
after k.Words = row.Entry (Some 0)
after k.Entry = row.Stack 0
after k.Stack = row.Input (record { start = 0; len = 0 })
after k.Ram = row.Input (record { start = 0; len = 0 })
after k.Input = row.Output 1
after _ = row.Output 1

next_row : List Row → Row
next_row [] = row.Version
next_row (r ∷ older) = after (keyword r)

-- its place
after_place : (key : Keyword) → place key < 14 → (place key < place (keyword (after key))) × (nat_le (place (keyword (after key))) (next_needed (place key)) ≡ true)
unfolding after next_needed
after_place k.Version h = (omega arith, refl)
after_place k.Order h = (omega arith, refl)
after_place k.Core h = (omega arith, refl)
after_place k.Memory h = (omega arith, refl)
after_place k.Icache h = (omega arith, refl)
after_place k.Dcache h = (omega arith, refl)
after_place k.Point h = (omega arith, refl)
after_place k.Time h = (omega arith, refl)
after_place k.Image h = (omega arith, refl)
after_place k.Words h = (omega arith, refl)
after_place k.Entry h = (omega arith, refl)
after_place k.Stack h = (omega arith, refl)
after_place k.Ram h = (omega arith, refl)
after_place k.Input h = (omega arith, refl)
after_place _ h = absurd (omega arith)

next_place : (rows : List Row) → newest_place rows < 14 → (newest_place rows < place (keyword (next_row rows))) × (nat_le (place (keyword (next_row rows))) (next_needed (newest_place rows)) ≡ true)
unfolding next_row next_needed
next_place [] h = (omega arith, refl)
next_place (r ∷ older) h = after_place (keyword r) h

-- its limits
after_limits : (key : Keyword) → in_limits (after key) ≡ true
unfolding after in_limits is_name is_shape
after_limits k.Version = refl
after_limits k.Order = refl
after_limits k.Core = refl
after_limits k.Memory = refl
after_limits k.Icache = refl
after_limits k.Dcache = refl
after_limits k.Point = refl
after_limits k.Time = refl
after_limits k.Image = refl
after_limits k.Words = refl
after_limits k.Entry = refl
after_limits k.Stack = refl
after_limits k.Ram = refl
after_limits _ = refl

next_limits : (rows : List Row) → in_limits (next_row rows) ≡ true
unfolding next_row in_limits
next_limits [] = refl
next_limits (r ∷ older) = after_limits (keyword r)

-- no earlier row is against it
after_agrees : (key : Keyword) (e : Row) → place (keyword e) ≤ place key → agrees (after key) e ≡ true
unfolding after agrees
after_agrees k.Dcache (row.Point q) h = absurd (omega arith)
after_agrees k.Dcache _ h = refl
after_agrees _ e h = refl

after_agrees_all : (key : Keyword) (rows : List Row) → AllUpTo (place key) rows → agrees_with_all rows (after key) ≡ true
after_agrees_all key [] a = refl
after_agrees_all key (e ∷ rows) a = and_from (agrees (after key) e) _ (after_agrees key e a.0) (after_agrees_all key rows a.1)

next_agrees : (rows : List Row) → IsStart rows → agrees_with_all rows (next_row rows) ≡ true
unfolding next_row
next_agrees [] s = refl
next_agrees (r ∷ older) s = after_agrees_all (keyword r) (r ∷ older) (rising (r ∷ older) s)

-- a keyword of a later place, with no needed line between, may stand
pub later_stands : (rows : List Row) (key : Keyword) → IsStart rows → newest_place rows < place key → nat_le (place key) (next_needed (newest_place rows)) ≡ true → may_stand rows key ≡ true
unfolding may_stand
later_stands rows key s l n =
    and_from (may_follow rows key) _
    (or_right (nat_eq (newest_rank rows) (rank key)) _ (and_from _ _ (lt-ltb (newest_place rows) (place key) l) n))
    (ap (λ c. nat_lt c (most key)) (fresh key rows s l) ∙ most_positive key)

-- rows that can be made whole
pub record CanBeWhole (rows : List Row) : Type 0 where
  pub more : List Row
  pub whole : IsWhole (more ++ rows)

completed_by : (fuel : ℕ) (xs : List Row) → 14 ≤ newest_place xs + fuel → IsStart xs → CanBeWhole xs
completed_by zero xs h st = record { more = []; whole = (st, le-leb 14 (newest_place xs) (omega arith)) }
completed_by (suc fuel) xs h st = by (λ ys g s. completed_by fuel ys g s) (nat_le 14 (newest_place xs)) refl
  where
    by : ((ys : List Row) → 14 ≤ newest_place ys + fuel → IsStart ys → CanBeWhole ys) → (t : Bool) → nat_le 14 (newest_place xs) ≡ t → CanBeWhole xs
    by go true t = record { more = []; whole = (st, t) }
    by go false t =
        let low : newest_place xs < 14 = leb-false 14 (newest_place xs) t in
        let p = next_place xs low in
        let r : Row = next_row xs in
        let start : IsStart (r ∷ xs) = (later_stands xs (keyword r) st p.0 p.1, next_limits xs, next_agrees xs st, st) in
        let rest : CanBeWhole (r ∷ xs) = go (r ∷ xs) (omega (arith, p.0)) start in
        record { more = rest.more ++ r ∷ []; whole = subst IsWhole (sym (append_assoc rest.more (r ∷ []) xs)) rest.whole }

-- every start can
pub completed : (rows : List Row) → IsStart rows → CanBeWhole rows
completed rows s = completed_by 14 rows (omega arith) s
