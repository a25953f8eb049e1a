-- A text read line by line: what is read is the task's rows, and a refusal names the first line that no task can continue.
use Rattle.std.proofs.Common.{◌≡◌, ℕ, suc, Bool, true, false, cond, List, [], ◌∷◌, ◌++◌, length, ◌⊎◌, inl, inr, Result, Ok, Err, refl, sym, ap, ◌∙◌, subst, append_assoc, append-nil, arith, length-append}
use Rattle.std.specs.List.{list_all}
use Rattle.std.proofs.lemmas.Bool.{cond-true, cond-false}
use Rattle.std.proofs.lemmas.List.Folds.{list_all-append}
use Rattle.text_fields.specs.Lines.{fields, lines_of}
use Rattle.text_fields.proofs.Digits.{and_parts, and_from}
use Rattle.task_text.specs.declared.fault.LineKind.{LineKind}
use Rattle.task_text.specs.declared.fault.LineKind.TheVariants.{Bytes, Word, Field, Value, End}
use Rattle.task_text.specs.declared.fault.TaskFault.TheVariants.{Line}
use Rattle.task_text.specs.declared.row.Row.{Row}
use Rattle.task_text.specs.Table.{fields_of, is_formed, may_stand}
use Rattle.task_text.specs.Texts.{is_plain, is_skipped, kept, spelled, IsStart, IsWhole, is_ended, AreLinesOf, Begins, Fails, IsFaultIn, StopsEarly, IsFault}
use Rattle.task_text.specs.Reading.{judge, walk, walk_on}
use Rattle.task_text.proofs.Starts.{completed}
use Rattle.task_text.proofs.Steps.{cond_ok, key_same, snoc_same, snoc_some, rows_same, judge_skips, judge_again, Took, Refused, judge_took, judge_refused}

-- kept lines, in two parts
pub kept_append : (a b : List (List ℕ)) → kept (a ++ b) ≡ kept a ++ kept b
kept_append [] b = refl
kept_append (l ∷ a) b = by (is_skipped l) (kept_append a b)
  where
    by : (t : Bool) → kept (a ++ b) ≡ kept a ++ kept b → cond t (kept (a ++ b)) (fields l ∷ kept (a ++ b)) ≡ cond t (kept a) (fields l ∷ kept a) ++ kept b
    by true e = e
    by false e = ap (λ x. fields l ∷ x) e

pub kept_skipped : (l : List ℕ) → is_skipped l ≡ true → kept (l ∷ []) ≡ []
kept_skipped l e = cond-true (is_skipped l) [] (fields l ∷ []) e

pub kept_said : (l : List ℕ) → is_skipped l ≡ false → kept (l ∷ []) ≡ fields l ∷ []
kept_said l e = cond-false (is_skipped l) [] (fields l ∷ []) e

-- both parts of plain lines
pub plain_parts : (a b : List (List ℕ)) → list_all is_plain (a ++ b) ≡ true → (list_all is_plain a ≡ true) × (list_all is_plain b ≡ true)
plain_parts a b e = and_parts (list_all is_plain a) (list_all is_plain b) (sym (list_all-append is_plain a b) ∙ e)

pub plain_both : (a b : List (List ℕ)) → list_all is_plain a ≡ true → list_all is_plain b ≡ true → list_all is_plain (a ++ b) ≡ true
plain_both a b p q = list_all-append is_plain a b ∙ and_from (list_all is_plain a) (list_all is_plain b) p q

-- an older part of a start
pub start_rest : (more rows : List Row) → IsStart (more ++ rows) → IsStart rows
start_rest [] rows s = s
start_rest (r ∷ more) rows s = start_rest more rows s.3

-- rows that the lines before said, and one line more
pub lines_more : (before : List (List ℕ)) (l : List ℕ) (rows more : List Row) → AreLinesOf before rows → Took rows l more → AreLinesOf (before ++ l ∷ []) more
lines_more before l rows more a t = elim t.1 [
  | inl w ↦ record {
    plain = plain_both before (l ∷ []) a.plain (and_from (is_plain l) true t.0 refl);
    same = kept_append before (l ∷ []) ∙ ap (λ x. kept before ++ x) (kept_skipped l w.0) ∙ append-nil (kept before) ∙ a.same ∙ ap spelled (sym w.1);
  }
  | inr w ↦ record {
    plain = plain_both before (l ∷ []) a.plain (and_from (is_plain l) true t.0 refl);
    same = kept_append before (l ∷ []) ∙ ap (λ x. kept before ++ x) (kept_said l w.0) ∙ (λ i. a.same i ++ w.1.2.fields_are i ∷ []) ∙ ap spelled (sym w.1.1);
  }
]

-- and they are a start again
pub start_more : (l : List ℕ) (rows more : List Row) → IsStart rows → Took rows l more → IsStart more
start_more l rows more s t = elim t.1 [
  | inl w ↦ subst IsStart (sym w.1) s
  | inr w ↦ subst IsStart (sym w.1.1) (w.1.2.stands, w.1.2.limits, w.1.2.agree, s)
]

-- after a refused line no task goes on
stops_at : (before : List (List ℕ)) (l : List ℕ) (rows : List Row) (kind : LineKind) → IsStart rows → AreLinesOf before rows → judge rows l ≡ Err kind → ¬ (Begins (before ++ l ∷ []))
stops_at before l rows kind s a e b = by_skip (is_skipped l) refl
  where
    plain : is_plain l ≡ true
    plain = (and_parts (is_plain l) true (plain_parts before (l ∷ []) b.lines.plain).1).0

    by_rows : (r2 : List Row) → IsStart r2 → is_skipped l ≡ false → kept before ++ fields l ∷ [] ≡ spelled r2 → ⊥
    by_rows [] st sk k = snoc_some (kept before) (fields l) k
    by_rows (r ∷ older) st sk k =
        let h = snoc_same (kept before) (spelled older) (fields l) (fields_of r) k in
        let same : rows ≡ older = rows_same rows older s st.3 (sym a.same ∙ h.0) in
        let again : judge older l ≡ Ok (r ∷ older) = judge_again older r l plain sk h.1 st.0 st.1 st.2 in
        let other : judge older l ≡ Err kind = ap (λ x. judge x l) (sym same) ∙ e in
        let clash : Ok (r ∷ older) ≡ Err kind = sym again ∙ other in
        cc

    by_skip : (t : Bool) → is_skipped l ≡ t → ⊥
    by_skip true t =
        let clash : Ok rows ≡ Err kind = sym (judge_skips rows l plain t) ∙ e in
        cc
    by_skip false t =
        by_rows b.rows (start_rest b.more b.rows b.whole.0) t
        (ap (λ x. kept before ++ x) (sym (kept_said l t)) ∙ sym (kept_append before (l ∷ [])) ∙ b.lines.same)

-- the lines of a start begin a task
pub begins_from : (before : List (List ℕ)) (rows : List Row) → IsStart rows → AreLinesOf before rows → Begins before
begins_from before rows s a = let c = completed rows s in record { rows = rows; more = c.more; whole = c.whole; lines = a }

-- the test that a refused line fails
fails_at : (before : List (List ℕ)) (l : List ℕ) (rows : List Row) (kind : LineKind) → IsStart rows → AreLinesOf before rows → Refused kind rows l → Fails kind before l
fails_at before l rows Bytes s a r = r
fails_at before l rows Word s a r = (
  r.0,
  λ c.
      let same : rows ≡ c.rows = rows_same rows c.rows s c.start (sym a.same ∙ c.lines.same) in
      r.2 c.key c.others (record { fields_are = c.fields_are; stands = ap (λ x. may_stand x c.key) same ∙ c.stands }),
)
fails_at before l rows Field s a r = (
  r.0,
  record { rows = rows; start = s; lines = a; key = r.2.0; others = r.2.1; fields_are = r.2.2.fields_are; stands = r.2.2.stands },
  λ f.
      let same = key_same r.2.0 f.key r.2.1 f.others (sym r.2.2.fields_are ∙ f.fields_are) in
      let formed : is_formed r.2.0 r.2.1 ≡ true = (λ i. is_formed (same.0 i) (same.1 i)) ∙ f.formed in
      let not_formed = r.2.3 in
      cc,
)
fails_at before l rows Value s a r = (
  r.0,
  record { rows = rows; start = s; lines = a; key = r.2.0; others = r.2.1; fields_are = r.2.2.fields_are; stands = r.2.2.stands },
  record { key = r.2.0; others = r.2.1; fields_are = r.2.2.fields_are; formed = r.2.3 },
)
fails_at before l rows End s a r = absurd r

-- rows of a text have a front for each front of its lines
record Front (rows : List Row) (xs : List (List (List ℕ))) : Type 0 where
  older : List Row
  more : List Row
  parts : rows ≡ more ++ older
  same : spelled older ≡ xs

pub last_of : (ys : List (List (List ℕ))) → (ys ≡ []) ⊎ ((zs : List (List (List ℕ))) × (z : List (List ℕ)) × (ys ≡ zs ++ z ∷ []))
last_of [] = inl refl
last_of (y ∷ ys) = elim (last_of ys) [
  | inl w ↦ inr ([], y, ap (λ x. y ∷ x) w)
  | inr w ↦ inr (y ∷ w.0, w.1, ap (λ x. y ∷ x) w.2)
]

front : (rows : List Row) (xs ys : List (List (List ℕ))) → spelled rows ≡ xs ++ ys → Front rows xs
front [] xs ys e = record { older = []; more = []; parts = refl; same = nil xs ys e }
  where
    nil : (us vs : List (List (List ℕ))) → [] ≡ us ++ vs → [] ≡ us
    nil [] vs h = refl
    nil (u ∷ us) vs h = cc
front (r ∷ older) xs ys e = by (λ zs h. front older xs zs h) (last_of ys)
  where
    by : ((zs : List (List (List ℕ))) → spelled older ≡ xs ++ zs → Front older xs) → (ys ≡ []) ⊎ ((zs : List (List (List ℕ))) × (z : List (List ℕ)) × (ys ≡ zs ++ z ∷ [])) → Front (r ∷ older) xs
    by go (inl w) = record { older = r ∷ older; more = []; parts = refl; same = e ∙ ap (λ y. xs ++ y) w ∙ append-nil xs }
    by go (inr w) =
        let h = snoc_same (spelled older) (xs ++ w.0) (fields_of r) w.1 (e ∙ ap (λ y. xs ++ y) w.2 ∙ sym (append_assoc xs w.0 (w.1 ∷ []))) in
        let f = go w.0 h.0 in
        record { older = f.older; more = r ∷ f.more; parts = ap (λ y. r ∷ y) f.parts; same = f.same }

pub begins_front : (a b : List (List ℕ)) (more rows : List Row) → IsWhole (more ++ rows) → AreLinesOf (a ++ b) rows → Begins a
begins_front a b more rows w l =
    let f = front rows (kept a) (kept b) (sym l.same ∙ kept_append a b) in
    record {
      rows = f.older;
      more = more ++ f.more;
      whole = subst IsWhole (ap (λ xs. more ++ xs) f.parts ∙ sym (append_assoc more f.more f.older)) w;
      lines = record { plain = (plain_parts a b l.plain).0; same = sym f.same };
    }

-- the lines so far, with one more
pub shifted : (before ls : List (List ℕ)) (l : List ℕ) → before ++ l ∷ ls ≡ (before ++ l ∷ []) ++ ls
shifted before ls l = sym (append_assoc before (l ∷ []) ls)

-- what is read to the end is whole, and its lines are those of the text
pub walk_found : (before ls : List (List ℕ)) (rows : List Row) (n : ℕ) (all : List Row) → IsStart rows → AreLinesOf before rows → walk ls rows n ≡ Ok all → IsWhole all × AreLinesOf (before ++ ls) all
walk_found before [] rows n all s a e =
    let h = cond_ok (is_ended rows) (Ok rows) (Line n End) all e in
    let same : rows ≡ all = cc in
    (subst IsWhole same (s, h.0), subst (λ x. AreLinesOf (before ++ []) x) same (subst (λ x. AreLinesOf x rows) (sym (append-nil before)) a))
walk_found before (l ∷ ls) rows n all s a e = by (λ more st ar. walk_found (before ++ l ∷ []) ls more (suc n) all st ar) (judge rows l) refl e
  where
    by : ((more : List Row) → IsStart more → AreLinesOf (before ++ l ∷ []) more → walk ls more (suc n) ≡ Ok all → IsWhole all × AreLinesOf ((before ++ l ∷ []) ++ ls) all) → (j : Result (List Row) LineKind) → judge rows l ≡ j → walk_on j n (λ more. walk ls more (suc n)) ≡ Ok all → IsWhole all × AreLinesOf (before ++ l ∷ ls) all
    by go (Ok more) j w =
        let t = judge_took rows l more j in
        let h = go more (start_more l rows more s t) (lines_more before l rows more a t) w in
        (h.0, subst (λ x. AreLinesOf x all) (sym (shifted before ls l)) h.1)
    by go (Err kind) j w = cc

-- and all of a text is read
pub walk_only : (before ls : List (List ℕ)) (rows : List Row) (n : ℕ) (all : List Row) → IsStart rows → AreLinesOf before rows → IsWhole all → AreLinesOf (before ++ ls) all → walk ls rows n ≡ Ok all
walk_only before [] rows n all s a w l =
    let lines : AreLinesOf before all = subst (λ x. AreLinesOf x all) (append-nil before) l in
    let same : rows ≡ all = rows_same rows all s w.0 (sym a.same ∙ lines.same) in
    cond-true (is_ended rows) (Ok rows) (Err (Line n End)) (ap is_ended same ∙ w.1) ∙ ap (λ x. Ok x) same
walk_only before (l ∷ ls) rows n all s a w lines = by (λ more st ar. walk_only (before ++ l ∷ []) ls more (suc n) all st ar w moved) (judge rows l) refl
  where
    moved : AreLinesOf ((before ++ l ∷ []) ++ ls) all
    moved = subst (λ x. AreLinesOf x all) (shifted before ls l) lines

    by : ((more : List Row) → IsStart more → AreLinesOf (before ++ l ∷ []) more → walk ls more (suc n) ≡ Ok all) → (j : Result (List Row) LineKind) → judge rows l ≡ j → walk_on (judge rows l) n (λ more. walk ls more (suc n)) ≡ Ok all
    by go (Ok more) j =
        let t = judge_took rows l more j in
        ap (λ x. walk_on x n (λ more2. walk ls more2 (suc n))) j ∙ go more (start_more l rows more s t) (lines_more before l rows more a t)
    by go (Err kind) j = absurd (stops_at before l rows kind s a j (begins_front (before ++ l ∷ []) ls [] all w moved))

-- a fault in these lines
FaultOf : List (List ℕ) → ℕ → LineKind → Type 0
FaultOf ls n Bytes = IsFaultIn ls n Bytes
FaultOf ls n Word = IsFaultIn ls n Word
FaultOf ls n Field = IsFaultIn ls n Field
FaultOf ls n Value = IsFaultIn ls n Value
FaultOf ls n End = StopsEarly ls n

fault_in : (ls : List (List ℕ)) (n : ℕ) (kind : LineKind) → IsFaultIn ls n kind → FaultOf ls n kind
unfolding FaultOf
fault_in ls n Bytes f = f
fault_in ls n Word f = f
fault_in ls n Field f = f
fault_in ls n Value f = f
fault_in ls n End f = absurd f.fails

-- a refusal names the first line that no task can continue, or the last line plus one
walk_fault : (before ls : List (List ℕ)) (rows : List Row) (n m : ℕ) (kind : LineKind) → IsStart rows → AreLinesOf before rows → n ≡ suc (length before) → walk ls rows n ≡ Err (Line m kind) → FaultOf (before ++ ls) m kind
unfolding FaultOf
walk_fault before [] rows n m kind s a num e = by (is_ended rows) refl
  where
    none : is_ended rows ≡ false → (all : List Row) → IsWhole all → ¬ (AreLinesOf (before ++ []) all)
    none t all w l =
        let lines : AreLinesOf before all = subst (λ x. AreLinesOf x all) (append-nil before) l in
        let same : rows ≡ all = rows_same rows all s w.0 (sym a.same ∙ lines.same) in
        let yes_so : is_ended rows ≡ true = ap is_ended same ∙ w.1 in
        cc

    by : (t : Bool) → is_ended rows ≡ t → FaultOf (before ++ []) m kind
    by true t = let clash : Ok rows ≡ Err (Line m kind) = sym (cond-true (is_ended rows) (Ok rows) (Err (Line n End)) t) ∙ e in cc
    by false t =
        let same : Err (Line n End) ≡ Err (Line m kind) = sym (cond-false (is_ended rows) (Ok rows) (Err (Line n End)) t) ∙ e in
        let number : n ≡ m = cc in
        let end : End ≡ kind = cc in
        subst (λ x. FaultOf (before ++ []) m x) end (record {
          number = sym number ∙ num ∙ ap (λ x. suc (length x)) (sym (append-nil before));
          begins = subst Begins (sym (append-nil before)) (begins_from before rows s a);
          no_task = none t;
        })
walk_fault before (l ∷ ls) rows n m kind s a num e = by (λ more st ar. walk_fault (before ++ l ∷ []) ls more (suc n) m kind st ar longer) (judge rows l) refl e
  where
    longer : suc n ≡ suc (length (before ++ l ∷ []))
    longer = omega (arith, num, length-append before (l ∷ []))

    by : ((more : List Row) → IsStart more → AreLinesOf (before ++ l ∷ []) more → walk ls more (suc n) ≡ Err (Line m kind) → FaultOf ((before ++ l ∷ []) ++ ls) m kind) → (j : Result (List Row) LineKind) → judge rows l ≡ j → walk_on j n (λ more. walk ls more (suc n)) ≡ Err (Line m kind) → FaultOf (before ++ l ∷ ls) m kind
    by go (Ok more) j w =
        let t = judge_took rows l more j in
        subst (λ x. FaultOf x m kind) (sym (shifted before ls l)) (go more (start_more l rows more s t) (lines_more before l rows more a t) w)
    by go (Err d) j w =
        let number : n ≡ m = cc in
        let same : d ≡ kind = cc in
        fault_in (before ++ l ∷ ls) m kind (subst (λ x. IsFaultIn (before ++ l ∷ ls) m x) same (record {
          before = before;
          at = l;
          after = ls;
          parts = refl;
          number = sym number ∙ num;
          begins = begins_from before rows s a;
          stops = stops_at before l rows d s a j;
          fails = fails_at before l rows d s a (judge_refused rows l d j);
        }))

-- no line says no row
no_lines : AreLinesOf [] []
no_lines = record { plain = refl; same = refl }

-- the three laws, for a text from its first line
pub text_found : (bytes : List ℕ) (rows : List Row) → walk (lines_of bytes) [] 1 ≡ Ok rows → IsWhole rows × AreLinesOf (lines_of bytes) rows
text_found bytes rows e = walk_found [] (lines_of bytes) [] 1 rows tt no_lines e

pub text_only : (bytes : List ℕ) (rows : List Row) → IsWhole rows → AreLinesOf (lines_of bytes) rows → walk (lines_of bytes) [] 1 ≡ Ok rows
text_only bytes rows w l = walk_only [] (lines_of bytes) [] 1 rows tt no_lines w l

pub text_fault : (bytes : List ℕ) (n : ℕ) (kind : LineKind) → walk (lines_of bytes) [] 1 ≡ Err (Line n kind) → IsFault bytes n kind
unfolding FaultOf
text_fault bytes n kind e = same kind (walk_fault [] (lines_of bytes) [] 1 n kind tt no_lines refl e)
  where
    same : (x : LineKind) → FaultOf (lines_of bytes) n x → IsFault bytes n x
    same Bytes f = f
    same Word f = f
    same Field f = f
    same Value f = f
    same End f = f
