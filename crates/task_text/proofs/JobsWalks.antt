-- A jobs text read line by line: what is read is the rows of the text, and a refusal names the first line that no jobs text can continue.
use Rattle.std.proofs.Common.{◌≡◌, ℕ, suc, Bool, true, false, cond, not, ◌&&◌, nat_eq, nat_lt, List, [], ◌∷◌, ◌++◌, length, ◌+◌, ◌⊎◌, inl, inr, Option, Some, None, Result, Ok, Err, IfOk, IfErr, refl, sym, ap, ◌∙◌, subst, subst₂, append_assoc, append-nil, arith, length-append}
use Rattle.std.proofs.lemmas.Bool.{cond-true, cond-false}
use Rattle.text_fields.specs.Lines.{fields, lines_of}
use Rattle.text_fields.proofs.LinesRead.{no_line}
use Rattle.text_fields.proofs.Digits.{and_parts, and_from}
use Rattle.task_text.specs.declared.fault.JobsFault.{JobsFault}
use Rattle.task_text.specs.declared.fault.JobsFault.TheVariants.{Line, Memory}
use Rattle.task_text.specs.declared.jobs.Jobs.{Jobs}
use Rattle.task_text.specs.declared.jobs_reader.JobsReader.{JobsReader}
use Rattle.task_text.specs.declared.task.Task.{Task}
use Rattle.task_text.specs.Texts.{is_plain, is_skipped, kept}
use Rattle.task_text.specs.JobsTexts.{JobsRow, version, past, job, fields_of, in_limits, past_in, jobs_in, is_opened, may_stand, IsStart, IsWhole, spelled, AreLinesOf, Begins, StopsAt, StopsEarly, add, jobs_of, IsJobs, IsRefusal}
use Rattle.task_text.specs.JobsReading.{row_of, limited, took, judge, walk_on, walk, opening, stands, took_state, fields_state, judge_state, walk_on_state, ended_state, walk_state, Reads}
use Rattle.task_text.proofs.Steps.{snoc_same, snoc_some}
use Rattle.task_text.proofs.Walks.{kept_append, kept_skipped, kept_said, plain_parts, plain_both, last_of, shifted}
use Rattle.task_text.proofs.JobsLaws.{print_read, read_print}

module _ (t : Task) where
  -- rows are known by what they spell
  row_same : (r s : JobsRow) → in_limits t r ≡ true → in_limits t s ≡ true → fields_of r ≡ fields_of s → r ≡ s
  row_same r s lr ls e = let h : Some r ≡ Some s = sym (read_print t r lr) ∙ ap (λ fs. limited t (row_of fs)) e ∙ read_print t s ls in cc

  rows_same : (a b : List JobsRow) → IsStart t a → IsStart t b → spelled a ≡ spelled b → a ≡ b
  rows_same [] [] sa sb e = refl
  rows_same [] (s ∷ b) sa sb e = absurd (snoc_some (spelled b) (fields_of s) (sym e))
  rows_same (r ∷ a) [] sa sb e = absurd (snoc_some (spelled a) (fields_of r) e)
  rows_same (r ∷ a) (s ∷ b) sa sb e =
      let h = snoc_same (spelled a) (spelled b) (fields_of r) (fields_of s) e in
      let one = row_same r s sa.1 sb.1 h.1 in
      let rest = rows_same a b sa.2 sb.2 h.0 in
      λ i. one i ∷ rest i

  -- a line that was taken
  abbrev Took : List JobsRow → List ℕ → List JobsRow → Type 0
  Took older l more = (is_plain l ≡ true) × (((is_skipped l ≡ true) × (more ≡ older)) ⊎ ((is_skipped l ≡ false) × ((r : JobsRow) × (more ≡ r ∷ older) × (fields l ≡ fields_of r) × (may_stand older r ≡ true) × (in_limits t r ≡ true))))

  if_some : {A : Type 0} (b : Bool) (o : Option A) (y : A) → cond b o None ≡ Some y → (b ≡ true) × (o ≡ Some y)
  if_some true o y e = (refl, e)
  if_some false o y e = cc

  judge_took : (older : List JobsRow) (l : List ℕ) (more : List JobsRow) → judge t older l ≡ Some more → Took older l more
  unfolding judge
  judge_took older l more e =
      let h = if_some (is_plain l) (cond (is_skipped l) (Some older) (took older (limited t (row_of (fields l))))) more e in
      (h.0, by (is_skipped l) refl h.1)
    where
      row : (o : Option JobsRow) → limited t (row_of (fields l)) ≡ o → took older o ≡ Some more → (r : JobsRow) × (more ≡ r ∷ older) × (fields l ≡ fields_of r) × (may_stand older r ≡ true) × (in_limits t r ≡ true)
      row None o e2 = cc
      row (Some r) o e2 =
          let h = if_some (may_stand older r) (Some (r ∷ older)) more e2 in
          let p = print_read t (fields l) r o in
          let same : r ∷ older ≡ more = cc in
          (r, sym same, sym p.0, h.0, p.1)

      by : (b : Bool) → is_skipped l ≡ b → cond (is_skipped l) (Some older) (took older (limited t (row_of (fields l)))) ≡ Some more → ((is_skipped l ≡ true) × (more ≡ older)) ⊎ ((is_skipped l ≡ false) × ((r : JobsRow) × (more ≡ r ∷ older) × (fields l ≡ fields_of r) × (may_stand older r ≡ true) × (in_limits t r ≡ true)))
      by true b c = let h : Some older ≡ Some more = sym (cond-true (is_skipped l) (Some older) (took older (limited t (row_of (fields l)))) b) ∙ c in inl (b, cc)
      by false b c = inr (b, row (limited t (row_of (fields l))) refl (sym (cond-false (is_skipped l) (Some older) (took older (limited t (row_of (fields l)))) b) ∙ c))

  -- a line that says nothing, and a line that says this row
  judge_skips : (older : List JobsRow) (l : List ℕ) → is_plain l ≡ true → is_skipped l ≡ true → judge t older l ≡ Some older
  unfolding judge
  judge_skips older l p s = cond-true (is_plain l) _ None p ∙ cond-true (is_skipped l) (Some older) _ s

  judge_again : (older : List JobsRow) (r : JobsRow) (l : List ℕ) → is_plain l ≡ true → is_skipped l ≡ false → fields l ≡ fields_of r → may_stand older r ≡ true → in_limits t r ≡ true → judge t older l ≡ Some (r ∷ older)
  unfolding judge
  judge_again older r l p s f m low =
      cond-true (is_plain l) _ None p
      ∙ cond-false (is_skipped l) (Some older) _ s
      ∙ ap (λ fs. took older (limited t (row_of fs))) f
      ∙ ap (took older) (read_print t r low)
      ∙ cond-true (may_stand older r) (Some (r ∷ older)) None m

  lines_more : (before : List (List ℕ)) (l : List ℕ) (rows more : List JobsRow) → AreLinesOf before rows → Took rows l more → AreLinesOf (before ++ l ∷ []) more
  lines_more before l rows more a k = elim k.1 [
    | inl w ↦ record {
      plain = plain_both before (l ∷ []) a.plain (and_from (is_plain l) true k.0 refl);
      same = kept_append before (l ∷ []) ∙ ap (λ x. kept before ++ x) (kept_skipped l w.0) ∙ append-nil (kept before) ∙ a.same ∙ ap spelled (sym w.1);
    }
    | inr w ↦ record {
      plain = plain_both before (l ∷ []) a.plain (and_from (is_plain l) true k.0 refl);
      same = kept_append before (l ∷ []) ∙ ap (λ x. kept before ++ x) (kept_said l w.0) ∙ (λ i. a.same i ++ w.1.2 i ∷ []) ∙ ap spelled (sym w.1.1);
    }
  ]

  start_more : (l : List ℕ) (rows more : List JobsRow) → IsStart t rows → Took rows l more → IsStart t more
  start_more l rows more s k = elim k.1 [
    | inl w ↦ subst (IsStart t) (sym w.1) s
    | inr w ↦ subst (IsStart t) (sym w.1.1) (w.1.3, w.1.4, s)
  ]

  start_rest : (more rows : List JobsRow) → IsStart t (more ++ rows) → IsStart t rows
  start_rest [] rows s = s
  start_rest (r ∷ more) rows s = start_rest more rows s.2

  -- every start can be made whole: the first by the version, and the others are whole
  completed : (before : List (List ℕ)) (rows : List JobsRow) → IsStart t rows → AreLinesOf before rows → Begins t before
  unfolding may_stand in_limits
  completed before [] s a = record { rows = []; more = version ∷ []; whole = ((refl, refl, tt), refl); lines = a }
  completed before (r ∷ rows) s a = record { rows = r ∷ rows; more = []; whole = (s, refl); lines = a }

  -- after a refused line no jobs text goes on
  stops_at : (before : List (List ℕ)) (l : List ℕ) (rows : List JobsRow) → IsStart t rows → AreLinesOf before rows → judge t rows l ≡ None → ¬ (Begins t (before ++ l ∷ []))
  stops_at before l rows s a e b = by_skip (is_skipped l) refl
    where
      plain : is_plain l ≡ true
      plain = (and_parts (is_plain l) true (plain_parts before (l ∷ []) b.lines.plain).1).0

      by_rows : (r2 : List JobsRow) → IsStart t r2 → is_skipped l ≡ false → kept before ++ fields l ∷ [] ≡ spelled r2 → ⊥
      by_rows [] st sk k = snoc_some (kept before) (fields l) k
      by_rows (r ∷ older) st sk k =
          let h = snoc_same (kept before) (spelled older) (fields l) (fields_of r) k in
          let same : rows ≡ older = rows_same rows older s st.2 (sym a.same ∙ h.0) in
          let again : judge t older l ≡ Some (r ∷ older) = judge_again older r l plain sk h.1 st.0 st.1 in
          let other : judge t older l ≡ None = ap (λ x. judge t x l) (sym same) ∙ e in
          let clash : Some (r ∷ older) ≡ None = sym again ∙ other in
          cc

      by_skip : (x : Bool) → is_skipped l ≡ x → ⊥
      by_skip true x = let clash : Some rows ≡ None = sym (judge_skips rows l plain x) ∙ e in cc
      by_skip false x =
          by_rows b.rows (start_rest b.more b.rows b.whole.0) x
          (ap (λ y. kept before ++ y) (sym (kept_said l x)) ∙ sym (kept_append before (l ∷ [])) ∙ b.lines.same)

  -- rows of a text have a front for each front of its lines
  record Front (rows : List JobsRow) (xs : List (List (List ℕ))) : Type 0 where
    older : List JobsRow
    more : List JobsRow
    parts : rows ≡ more ++ older
    same : spelled older ≡ xs

  front : (rows : List JobsRow) (xs ys : List (List (List ℕ))) → spelled rows ≡ xs ++ ys → Front rows xs
  front [] xs ys e = record { older = []; more = []; parts = refl; same = nil xs ys e }
    where
      nil : (us vs : List (List (List ℕ))) → [] ≡ us ++ vs → [] ≡ us
      nil [] vs h = refl
      nil (u ∷ us) vs h = cc
  front (r ∷ older) xs ys e = by (λ zs h. front older xs zs h) (last_of ys)
    where
      by : ((zs : List (List (List ℕ))) → spelled older ≡ xs ++ zs → Front older xs) → (ys ≡ []) ⊎ ((zs : List (List (List ℕ))) × (z : List (List ℕ)) × (ys ≡ zs ++ z ∷ [])) → Front (r ∷ older) xs
      by go (inl w) = record { older = r ∷ older; more = []; parts = refl; same = e ∙ ap (λ y. xs ++ y) w ∙ append-nil xs }
      by go (inr w) =
          let h = snoc_same (spelled older) (xs ++ w.0) (fields_of r) w.1 (e ∙ ap (λ y. xs ++ y) w.2 ∙ sym (append_assoc xs w.0 (w.1 ∷ []))) in
          let f = go w.0 h.0 in
          record { older = f.older; more = r ∷ f.more; parts = ap (λ y. r ∷ y) f.parts; same = f.same }

  pub begins_front : (a b : List (List ℕ)) (more rows : List JobsRow) → IsWhole t (more ++ rows) → AreLinesOf (a ++ b) rows → Begins t a
  begins_front a b more rows w l =
      let f = front rows (kept a) (kept b) (sym l.same ∙ kept_append a b) in
      record {
        rows = f.older;
        more = more ++ f.more;
        whole = subst (IsWhole t) (ap (λ xs. more ++ xs) f.parts ∙ sym (append_assoc more f.more f.older)) w;
        lines = record { plain = (plain_parts a b l.plain).0; same = sym f.same };
      }

  walk_found : (before ls : List (List ℕ)) (rows : List JobsRow) (n : ℕ) (all : List JobsRow) → IsStart t rows → AreLinesOf before rows → walk t ls rows n ≡ Ok all → IsWhole t all × AreLinesOf (before ++ ls) all
  walk_found before [] rows n all s a e = by (is_opened rows) refl
    where
      by : (b : Bool) → is_opened rows ≡ b → IsWhole t all × AreLinesOf (before ++ []) all
      by true b =
          let h : Ok rows ≡ Ok all = sym (cond-true (is_opened rows) (Ok rows) (Err (Line n)) b) ∙ e in
          let same : rows ≡ all = cc in
          (subst (IsWhole t) same (s, b), subst₂ AreLinesOf (sym (append-nil before)) same a)
      by false b = let h : Err (Line n) ≡ Ok all = sym (cond-false (is_opened rows) (Ok rows) (Err (Line n)) b) ∙ e in cc
  walk_found before (l ∷ ls) rows n all s a e = by (λ more st ar. walk_found (before ++ l ∷ []) ls more (suc n) all st ar) (judge t rows l) refl e
    where
      by : ((more : List JobsRow) → IsStart t more → AreLinesOf (before ++ l ∷ []) more → walk t ls more (suc n) ≡ Ok all → IsWhole t all × AreLinesOf ((before ++ l ∷ []) ++ ls) all) → (j : Option (List JobsRow)) → judge t rows l ≡ j → walk_on j n (λ more. walk t ls more (suc n)) ≡ Ok all → IsWhole t all × AreLinesOf (before ++ l ∷ ls) all
      by go (Some more) j w =
          let k = judge_took rows l more j in
          let h = go more (start_more l rows more s k) (lines_more before l rows more a k) w in
          (h.0, subst (λ x. AreLinesOf x all) (sym (shifted before ls l)) h.1)
      by go None j w = cc

  walk_only : (before ls : List (List ℕ)) (rows : List JobsRow) (n : ℕ) (all : List JobsRow) → IsStart t rows → AreLinesOf before rows → IsWhole t all → AreLinesOf (before ++ ls) all → walk t ls rows n ≡ Ok all
  walk_only before [] rows n all s a w l =
      let lines : AreLinesOf before all = subst (λ x. AreLinesOf x all) (append-nil before) l in
      let same : rows ≡ all = rows_same rows all s w.0 (sym a.same ∙ lines.same) in
      cond-true (is_opened rows) (Ok rows) (Err (Line n)) (ap is_opened same ∙ w.1) ∙ ap (λ x. Ok x) same
  walk_only before (l ∷ ls) rows n all s a w lines = by (λ more st ar. walk_only (before ++ l ∷ []) ls more (suc n) all st ar w moved) (judge t rows l) refl
    where
      moved : AreLinesOf ((before ++ l ∷ []) ++ ls) all
      moved = subst (λ x. AreLinesOf x all) (shifted before ls l) lines

      by : ((more : List JobsRow) → IsStart t more → AreLinesOf (before ++ l ∷ []) more → walk t ls more (suc n) ≡ Ok all) → (j : Option (List JobsRow)) → judge t rows l ≡ j → walk_on (judge t rows l) n (λ more. walk t ls more (suc n)) ≡ Ok all
      by go (Some more) j =
          let k = judge_took rows l more j in
          ap (λ x. walk_on x n (λ more2. walk t ls more2 (suc n))) j ∙ go more (start_more l rows more s k) (lines_more before l rows more a k)
      by go None j = absurd (stops_at before l rows s a j (begins_front (before ++ l ∷ []) ls [] all w moved))

  -- the fault of these lines
  abbrev FaultOf : List (List ℕ) → ℕ → Type 0
  FaultOf ls n = StopsAt t ls n ⊎ StopsEarly t ls n

  walk_fault : (before ls : List (List ℕ)) (rows : List JobsRow) (n m : ℕ) → IsStart t rows → AreLinesOf before rows → n ≡ suc (length before) → walk t ls rows n ≡ Err (Line m) → FaultOf (before ++ ls) m
  walk_fault before [] rows n m s a num e = by (is_opened rows) refl
    where
      none : is_opened rows ≡ false → (all : List JobsRow) → IsWhole t all → ¬ (AreLinesOf (before ++ []) all)
      none x all w l =
          let lines : AreLinesOf before all = subst (λ y. AreLinesOf y all) (append-nil before) l in
          let same : rows ≡ all = rows_same rows all s w.0 (sym a.same ∙ lines.same) in
          let so : is_opened rows ≡ true = ap is_opened same ∙ w.1 in
          cc

      by : (x : Bool) → is_opened rows ≡ x → FaultOf (before ++ []) m
      by true x = let clash : Ok rows ≡ Err (Line m) = sym (cond-true (is_opened rows) (Ok rows) (Err (Line n)) x) ∙ e in cc
      by false x =
          let same : Err (Line n) ≡ Err (Line m) = sym (cond-false (is_opened rows) (Ok rows) (Err (Line n)) x) ∙ e in
          let number : n ≡ m = cc in
          inr (record {
            number = sym number ∙ num ∙ ap (λ y. suc (length y)) (sym (append-nil before));
            begins = subst (Begins t) (sym (append-nil before)) (completed before rows s a);
            no_jobs = none x;
          })
  walk_fault before (l ∷ ls) rows n m s a num e = by (λ more st ar. walk_fault (before ++ l ∷ []) ls more (suc n) m st ar longer) (judge t rows l) refl e
    where
      longer : suc n ≡ suc (length (before ++ l ∷ []))
      longer = omega (arith, num, length-append before (l ∷ []))

      by : ((more : List JobsRow) → IsStart t more → AreLinesOf (before ++ l ∷ []) more → walk t ls more (suc n) ≡ Err (Line m) → FaultOf ((before ++ l ∷ []) ++ ls) m) → (j : Option (List JobsRow)) → judge t rows l ≡ j → walk_on j n (λ more. walk t ls more (suc n)) ≡ Err (Line m) → FaultOf (before ++ l ∷ ls) m
      by go (Some more) j w =
          let k = judge_took rows l more j in
          subst (λ x. FaultOf x m) (sym (shifted before ls l)) (go more (start_more l rows more s k) (lines_more before l rows more a k) w)
      by go None j w =
          let number : n ≡ m = cc in
          inl (record {
            before = before;
            at = l;
            after = ls;
            parts = refl;
            number = sym number ∙ num;
            begins = completed before rows s a;
            stops = stops_at before l rows s a j;
          })

  -- the private reader's state stands for rows
  record Tracks (xs : List JobsRow) (s : JobsReader) : Type 0 where
    start : IsStart t xs
    opened : s.opened ≡ is_opened xs
    jobs : s.jobs ≡ jobs_of xs

  past_count : (xs : List JobsRow) → length (jobs_of xs).past ≡ past_in xs
  past_count [] = refl
  past_count (version ∷ xs) = past_count xs
  past_count (past p ∷ xs) = length-append (jobs_of xs).past (p ∷ []) ∙ ap (λ n. n + 1) (past_count xs)
  past_count (job bs ∷ xs) = past_count xs

  pub job_count : (xs : List JobsRow) → length (jobs_of xs).inputs ≡ jobs_in xs
  job_count [] = refl
  job_count (version ∷ xs) = job_count xs
  job_count (past p ∷ xs) = job_count xs
  job_count (job bs ∷ xs) = length-append (jobs_of xs).inputs (record { from = length (jobs_of xs).bytes; len = length bs } ∷ []) ∙ ap (λ n. n + 1) (job_count xs)

  stands_is : (xs : List JobsRow) (s : JobsReader) (r : JobsRow) → Tracks xs s → stands s r ≡ may_stand xs r
  unfolding stands may_stand
  stands_is xs s version k = ap not k.opened
  stands_is xs s (past p) k =
      let n : length s.jobs.inputs ≡ jobs_in xs = ap (λ j. length j.inputs) k.jobs ∙ job_count xs in
      let m : length s.jobs.past ≡ past_in xs = ap (λ j. length j.past) k.jobs ∙ past_count xs in
      λ i. k.opened i && (nat_eq (n i) 0 && nat_lt (m i) 1024)
  stands_is xs s (job bs) k =
      let n : length s.jobs.inputs ≡ jobs_in xs = ap (λ j. length j.inputs) k.jobs ∙ job_count xs in
      λ i. k.opened i && nat_lt (n i) 10000

  abbrev Matches : Option (List JobsRow) → Option JobsReader → Type 0
  Matches (Some xs) (Some s) = Tracks xs s
  Matches None None = Unit {0}
  Matches _ _ = ⊥

  match_if : (x y : Bool) (a : Option (List JobsRow)) (b : Option JobsReader) → x ≡ y → (x ≡ true → Matches a b) → Matches (cond x a None) (cond y b None)
  match_if true true a b e m = m refl
  match_if true false a b e m = cc
  match_if false true a b e m = cc
  match_if false false a b e m = tt

  took_matches : (xs : List JobsRow) (s : JobsReader) (fs : List (List ℕ)) → Tracks xs s → (o : Option JobsRow) → limited t (row_of fs) ≡ o → Matches (took xs o) (took_state s o)
  took_matches xs s fs k None o = tt
  took_matches xs s fs k (Some r) o = match_if (may_stand xs r) (stands s r) (Some (r ∷ xs)) (Some (record { opened = true; jobs = add r s.jobs })) (sym (stands_is xs s r k))
      (λ m. record { start = (m, (print_read t fs r o).1, k.start); opened = refl; jobs = ap (add r) k.jobs })

  judge_matches : (xs : List JobsRow) (s : JobsReader) (l : List ℕ) → Tracks xs s → Matches (judge t xs l) (judge_state t s l)
  unfolding judge judge_state fields_state
  judge_matches xs s l k = match_if (is_plain l) (is_plain l) (cond (is_skipped l) (Some xs) (took xs (limited t (row_of (fields l))))) (cond (is_skipped l) (Some s) (took_state s (limited t (row_of (fields l))))) refl
      (λ p. by (is_skipped l) (took_matches xs s (fields l) k (limited t (row_of (fields l))) refl))
    where
      by : (b : Bool) → Matches (took xs (limited t (row_of (fields l)))) (took_state s (limited t (row_of (fields l)))) → Matches (cond b (Some xs) (took xs (limited t (row_of (fields l))))) (cond b (Some s) (took_state s (limited t (row_of (fields l)))))
      by true m = k
      by false m = m

  abbrev MatchesText : Result (List JobsRow) JobsFault → Result Jobs JobsFault → Type 0
  MatchesText (Ok xs) (Ok j) = j ≡ jobs_of xs
  MatchesText (Err a) (Err b) = a ≡ b
  MatchesText _ _ = ⊥

  walk_matches : (ls : List (List ℕ)) (xs : List JobsRow) (s : JobsReader) (n : ℕ) → Tracks xs s → MatchesText (walk t ls xs n) (walk_state t ls s n)
  walk_matches [] xs s n k = by (is_opened xs) s.opened (sym k.opened)
    where
      by : (a b : Bool) → a ≡ b → MatchesText (cond a (Ok xs) (Err (Line n))) (cond b (Ok s.jobs) (Err (Line n)))
      by true true e = k.jobs
      by true false e = cc
      by false true e = cc
      by false false e = refl
  walk_matches (l ∷ ls) xs s n k = by (judge t xs l) (judge_state t s l) (judge_matches xs s l k) (λ ys u h. walk_matches ls ys u (suc n) h)
    where
      by : (a : Option (List JobsRow)) (b : Option JobsReader) → Matches a b → ((ys : List JobsRow) (u : JobsReader) → Tracks ys u → MatchesText (walk t ls ys (suc n)) (walk_state t ls u (suc n))) → MatchesText (walk_on a n (λ more. walk t ls more (suc n))) (walk_on_state b n (λ more. walk_state t ls more (suc n)))
      by (Some ys) (Some u) m go = go ys u m
      by (Some ys) None m go = absurd m
      by None (Some u) m go = absurd m
      by None None m go = refl

  opened_first : Tracks [] opening
  opened_first = record { start = tt; opened = refl; jobs = refl }

  no_lines : AreLinesOf [] []
  no_lines = record { plain = refl; same = refl }

  -- what the state gives of a whole text
  pub given_jobs : (bytes : List ℕ) (j : Jobs) → walk_state t (lines_of bytes) opening 1 ≡ Ok j → IsJobs bytes t j
  given_jobs bytes j e = by (walk t (lines_of bytes) [] 1) refl (walk_matches (lines_of bytes) [] opening 1 opened_first)
    where
      by : (a : Result (List JobsRow) JobsFault) → walk t (lines_of bytes) [] 1 ≡ a → MatchesText a (walk_state t (lines_of bytes) opening 1) → IsJobs bytes t j
      by (Ok xs) r m =
          let f = walk_found [] (lines_of bytes) [] 1 xs tt no_lines r in
          let is : MatchesText (Ok xs) (Ok j) = subst (MatchesText (Ok xs)) e m in
          record { rows = xs; whole = f.0; lines = f.1; jobs = is }
      by (Err d) r m = absurd (subst (MatchesText (Err d)) e m)

  pub given_only : (bytes : List ℕ) (j : Jobs) → IsJobs bytes t j → walk_state t (lines_of bytes) opening 1 ≡ Ok j
  given_only bytes j is = by (walk_state t (lines_of bytes) opening 1) refl (subst (λ a. MatchesText a (walk_state t (lines_of bytes) opening 1)) (walk_only [] (lines_of bytes) [] 1 is.rows tt no_lines is.whole is.lines) (walk_matches (lines_of bytes) [] opening 1 opened_first))
    where
      by : (b : Result Jobs JobsFault) → walk_state t (lines_of bytes) opening 1 ≡ b → MatchesText (Ok is.rows) (walk_state t (lines_of bytes) opening 1) → walk_state t (lines_of bytes) opening 1 ≡ Ok j
      by (Ok u) e m = let h : MatchesText (Ok is.rows) (Ok u) = subst (MatchesText (Ok is.rows)) e m in e ∙ ap (λ x. Ok x) (h ∙ sym is.jobs)
      by (Err d) e m = absurd (subst (MatchesText (Ok is.rows)) e m)

  given_fault : (bytes : List ℕ) (n : ℕ) → walk_state t (lines_of bytes) opening 1 ≡ Err (Line n) → FaultOf (lines_of bytes) n
  given_fault bytes n e = by (walk t (lines_of bytes) [] 1) refl (walk_matches (lines_of bytes) [] opening 1 opened_first)
    where
      by : (a : Result (List JobsRow) JobsFault) → walk t (lines_of bytes) [] 1 ≡ a → MatchesText a (walk_state t (lines_of bytes) opening 1) → FaultOf (lines_of bytes) n
      by (Ok xs) r m = absurd (subst (MatchesText (Ok xs)) e m)
      by (Err d) r m =
          let same : MatchesText (Err d) (Err (Line n)) = subst (MatchesText (Err d)) e m in
          walk_fault [] (lines_of bytes) [] 1 n tt no_lines refl (r ∙ ap (λ x. Err x) same)

  -- what the program gives
  pub reads_same : (r w : Result Jobs JobsFault) → r ≡ w → Reads r w
  reads_same (Ok j) w e = sym e
  reads_same (Err (Line n)) w e = sym e
  reads_same (Err Memory) w e = tt

  pub walk_ended : (text : List ℕ) (s : JobsReader) (n : ℕ) → text ≡ [] → walk_state t (lines_of text) s n ≡ ended_state s n
  walk_ended text s n e = ap (λ x. walk_state t (lines_of x) s n) e ∙ ap (λ ls. walk_state t ls s n) no_line

  pub read_is_jobs : (bytes : List ℕ) (r : Result Jobs JobsFault) → Reads r (walk_state t (lines_of bytes) opening 1) → IfOk r (λ j. IsJobs bytes t j)
  read_is_jobs bytes (Ok j) g = given_jobs bytes j g
  read_is_jobs bytes (Err f) g = tt

  pub read_is_only : (bytes : List ℕ) (r : Result Jobs JobsFault) → Reads r (walk_state t (lines_of bytes) opening 1) → (j : Jobs) → IsJobs bytes t j → IfOk r (λ u. u ≡ j)
  read_is_only bytes (Ok u) g j is = let same : Ok u ≡ Ok j = sym g ∙ given_only bytes j is in cc
  read_is_only bytes (Err f) g j is = tt

  pub read_is_fault : (bytes : List ℕ) (r : Result Jobs JobsFault) → Reads r (walk_state t (lines_of bytes) opening 1) → IfErr r (λ e. IsRefusal bytes t e)
  read_is_fault bytes (Ok j) g = tt
  read_is_fault bytes (Err (Line n)) g = (given_fault bytes n g, λ j is. let clash : Ok j ≡ Err (Line n) = sym (given_only bytes j is) ∙ g in cc)
  read_is_fault bytes (Err Memory) g = tt
