-- Every task that some text gives keeps the limits.
use Rattle.std.proofs.Common.{nat_lt, inl, ◌≡◌, ℕ, suc, Bool, true, false, cond, ◌&&◌, nat_eq, nat_le, List, [], ◌∷◌, ◌++◌, length, map, ◌+◌, ◌*◌, ◌%◌, ◌^◌, ◌<◌, ◌≤◌, Result, Ok, Err, IfOk, refl, sym, ap, ◌∙◌, subst, arith, leb-true, ltb-true, eqb-true, length-append}
use Rattle.std.specs.Prelude.{All}
use Rattle.std.specs.Int.{is_in_range}
use Rattle.std.specs.List.{list_all, list_any, AllByRecursion}
use Rattle.std.proofs.lemmas.List.{length-map}
use Rattle.std.proofs.lemmas.List.Elements.{All-cons, All-nil, All-push, All-append, recursion_from_All}
use Rattle.std.proofs.lemmas.List.Folds.{list_all-append, list_all-map}
use Rattle.text_fields.specs.Lines.{lines_of}
use Rattle.text_fields.proofs.Digits.{and_parts, and_from}
use Rattle.task_text.proofs.Written.{given}
use Rattle.visa_io.specs.declared.records.Code.{Code}
use Rattle.visa_io.specs.declared.records.Machine.{Machine}
use Rattle.visa_io.specs.declared.records.Span.{Span}
use Rattle.visa_io.specs.ImageCode.{total_len, IsAligned}
use Rattle.task_text.specs.declared.fault.TaskFault.{TaskFault}
use Rattle.task_text.specs.declared.row.Keyword.{Keyword}
use Rattle.task_text.specs.declared.row.Keyword.TheVariants as k
use Rattle.task_text.specs.declared.row.Row.{Row}
use Rattle.task_text.specs.declared.row.Row.TheVariants as row
use Rattle.task_text.specs.declared.row.WordsRow.{WordsRow}
use Rattle.task_text.specs.declared.task.Source.{Source}
use Rattle.task_text.specs.declared.task.Source.TheVariants.{Name, Words}
use Rattle.task_text.specs.declared.task.Task.{Task}
use Rattle.task_text.specs.Table.{keyword, most, same_keyword, count, newest_place, in_limits, is_name, is_word, is_word_or_none, ends_in_time}
use Rattle.task_text.specs.Texts.{IsStart, IsWhole, with_words, code_span, task_of, IsGiven}
use Rattle.task_text.specs.Writing.{image_rows, code_rows, words_rows, extent, section}
use Rattle.task_text.specs.Gives.{Reads, opening, walk}
use Rattle.task_text.specs.Limits.{Within, IsMachine, AreFalling, ArePoints, IsRange, IsCodeRange, IsImage, KeepsLimits}
use Rattle.task_text.proofs.Sections.{of_key, at_most, needed_stands, sections_are}
use Rattle.task_text.proofs.Tracked.{given_task, points_agree}

-- the rows of a keyword are within their limits, and no more than the table says
key_low : (key : Keyword) (xs : List Row) → IsStart xs → list_all in_limits (of_key key xs) ≡ true
key_low key [] s = refl
key_low key (r ∷ xs) s = by (same_keyword key (keyword r)) (key_low key xs s.3)
  where
    by : (t : Bool) → list_all in_limits (of_key key xs) ≡ true → list_all in_limits (cond t (of_key key xs ++ r ∷ []) (of_key key xs)) ≡ true
    by true h = list_all-append in_limits (of_key key xs) (r ∷ []) ∙ and_from _ _ h (and_from (in_limits r) true s.1 refl)
    by false h = h

key_count : (key : Keyword) (xs : List Row) → length (of_key key xs) ≡ count key xs
key_count key [] = refl
key_count key (r ∷ xs) = by (same_keyword key (keyword r)) (key_count key xs)
  where
    by : (t : Bool) → length (of_key key xs) ≡ count key xs → length (cond t (of_key key xs ++ r ∷ []) (of_key key xs)) ≡ cond t (suc (count key xs)) (count key xs)
    by true h = let n = length-append (of_key key xs) (r ∷ []) in omega (arith, n, h)
    by false h = h

section_low : (xs : List Row) → IsWhole xs → (key : Keyword) → list_all in_limits (section (task_of xs) key) ≡ true
section_low xs w key = ap (list_all in_limits) (sym (sections_are xs w key)) ∙ key_low key xs w.0

section_few : (xs : List Row) → IsWhole xs → (key : Keyword) → length (section (task_of xs) key) ≤ most key
section_few xs w key =
    let n = ap length (sections_are xs w key) in
    let c = key_count key xs in
    let m = at_most key xs w.0 in
    omega (arith, n, c, m)

-- a test of each, as a fact on each
pub all_of : {X : Type 0} (p : X → Bool) (P : X → Type 0) → ((x : X) → p x ≡ true → P x) → (xs : List X) → list_all p xs ≡ true → All P xs
all_of p P f [] e = All-nil P
all_of p P f (x ∷ xs) e = let q = and_parts (p x) (list_all p xs) e in All-cons P x xs (f x q.0) (all_of p P f xs q.1)

all_rows : {X : Type 0} (make : X → Row) (P : X → Type 0) → ((x : X) → in_limits (make x) ≡ true → P x) → (xs : List X) → list_all in_limits (map make xs) ≡ true → All P xs
all_rows make P f xs e = all_of (λ x. in_limits (make x)) P f xs (sym (list_all-map in_limits make xs) ∙ e)

few_rows : {X : Type 0} (make : X → Row) (xs : List X) (n : ℕ) → length (map make xs) ≤ n → length xs ≤ n
few_rows make xs n h = let e = length-map xs make in omega (arith, e, h)

one_row : (r : Row) → list_all in_limits (r ∷ []) ≡ true → in_limits r ≡ true
one_row r e = (and_parts (in_limits r) true e).0

within : (low high n : ℕ) → is_in_range low high n ≡ true → Within low high n
within low high n e = let p = and_parts (nat_le low n) (nat_le n high) e in (leb-true low n p.0, leb-true n high p.1)

machine_keeps : (xs : List Row) → IsWhole xs → IsMachine (task_of xs).machine
unfolding in_limits
machine_keeps xs w =
    let m : Machine = (task_of xs).machine in
    let c = one_row (row.Core (record { width = m.width; rob = m.rob; mul = m.mul; div = m.div })) (section_low xs w k.Core) in
    let c1 = and_parts (list_any (λ n. nat_eq m.width n) (1 ∷ 2 ∷ 4 ∷ [])) (is_in_range 8 128 m.rob && (is_in_range 1 32 m.mul && is_in_range 1 64 m.div)) c in
    let c2 = and_parts (is_in_range 8 128 m.rob) (is_in_range 1 32 m.mul && is_in_range 1 64 m.div) c1.1 in
    let c3 = and_parts (is_in_range 1 32 m.mul) (is_in_range 1 64 m.div) c2.1 in
    let r = one_row (row.Memory (record { mem_ps = m.mem_ps; store_ps = m.store_ps; settle_ps = m.settle_ps; start_ps = m.start_ps })) (section_low xs w k.Memory) in
    let r1 = and_parts (is_in_range 1 (10 ^ 7) m.mem_ps) (is_in_range 1 (10 ^ 7) m.store_ps && (nat_le m.settle_ps (10 ^ 9) && nat_le m.start_ps (10 ^ 9))) r in
    let r2 = and_parts (is_in_range 1 (10 ^ 7) m.store_ps) (nat_le m.settle_ps (10 ^ 9) && nat_le m.start_ps (10 ^ 9)) r1.1 in
    let r3 = and_parts (nat_le m.settle_ps (10 ^ 9)) (nat_le m.start_ps (10 ^ 9)) r2.1 in
    record {
      width = c1.0;
      rob = within 8 128 m.rob c2.0;
      mul = within 1 32 m.mul c3.0;
      div = within 1 64 m.div c3.1;
      mem_ps = within 1 (10 ^ 7) m.mem_ps r1.0;
      store_ps = within 1 (10 ^ 7) m.store_ps r2.0;
      settle_ps = leb-true m.settle_ps (10 ^ 9) r3.0;
      start_ps = leb-true m.start_ps (10 ^ 9) r3.1;
      icache = one_row (row.Icache m.icache) (section_low xs w k.Icache);
      dcache = one_row (row.Dcache m.dcache) (section_low xs w k.Dcache);
    }

point_keeps : (p : ℕ) → in_limits (row.Point p) ≡ true → Within 100 (10 ^ 6) p
unfolding in_limits
point_keeps p e = within 100 (10 ^ 6) p e

falling_more : (ps : List ℕ) (p : ℕ) → AreFalling ps → AllByRecursion (λ q. p < q) ps → AreFalling (ps ++ p ∷ [])
falling_more [] p h a = (All-nil (λ q. q < p), tt)
falling_more (q ∷ ps) p h a = (All-push (λ x. x < q) ps p h.0 a.0, falling_more ps p h.1 a.1)

points_fall : (xs : List Row) → IsStart xs → AreFalling (task_of xs).points
points_fall [] s = tt
points_fall (row.Point p ∷ xs) s =
    falling_more (task_of xs).points p (points_fall xs s.3)
    (recursion_from_All (λ q. p < q) (task_of xs).points (all_of (λ q. nat_lt p q) (λ q. p < q) (λ q h. ltb-true p q h) (task_of xs).points (sym (points_agree p xs) ∙ s.2)))
points_fall (row.Version ∷ xs) s = points_fall xs s.3
points_fall (row.Order _ ∷ xs) s = points_fall xs s.3
points_fall (row.Core _ ∷ xs) s = points_fall xs s.3
points_fall (row.Memory _ ∷ xs) s = points_fall xs s.3
points_fall (row.Icache _ ∷ xs) s = points_fall xs s.3
points_fall (row.Dcache _ ∷ xs) s = points_fall xs s.3
points_fall (row.Time _ ∷ xs) s = points_fall xs s.3
points_fall (row.Image _ ∷ xs) s = points_fall xs s.3
points_fall (row.Words _ ∷ xs) s = points_fall xs s.3
points_fall (row.Entry _ ∷ xs) s = points_fall xs s.3
points_fall (row.Stack _ ∷ xs) s = points_fall xs s.3
points_fall (row.Ram _ ∷ xs) s = points_fall xs s.3
points_fall (row.Input _ ∷ xs) s = points_fall xs s.3
points_fall (row.Output _ ∷ xs) s = points_fall xs s.3
points_fall (row.Show _ ∷ xs) s = points_fall xs s.3
points_fall (row.Cut _ ∷ xs) s = points_fall xs s.3
points_fall (row.Loop _ ∷ xs) s = points_fall xs s.3
points_fall (row.Fact _ ∷ xs) s = points_fall xs s.3

points_keep : (xs : List Row) → IsWhole xs → ArePoints (task_of xs).points
points_keep xs w = record {
  some =
      let e = leb-true 14 (newest_place xs) w.1 in
      let stood = needed_stands k.Point xs w.0 (inl (omega arith)) (omega arith) (omega arith) (omega (arith, e)) in
      let n = ap length (sections_are xs w k.Point) in
      let c = key_count k.Point xs in
      let m = length-map (task_of xs).points row.Point in
      omega (arith, stood, n, c, m);
  few = few_rows row.Point (task_of xs).points 8 (section_few xs w k.Point);
  each = all_rows row.Point (Within 100 (10 ^ 6)) point_keeps (task_of xs).points (section_low xs w k.Point);
  falling = points_fall xs w.0;
}

period_keeps : (xs : List Row) → IsWhole xs → Within 1 (10 ^ 12) (task_of xs).period_ps × Within 1 (task_of xs).period_ps (task_of xs).deadline_ps
unfolding in_limits
period_keeps xs w =
    let t : Task = task_of xs in
    let p = and_parts (is_in_range 1 (10 ^ 12) t.period_ps) (is_in_range 1 t.period_ps t.deadline_ps) (one_row (row.Time (record { period_ps = t.period_ps; deadline_ps = t.deadline_ps })) (section_low xs w k.Time)) in
    (within 1 (10 ^ 12) t.period_ps p.0, within 1 t.period_ps t.deadline_ps p.1)

ram_keeps : (s : Span) → in_limits (row.Ram (extent s)) ≡ true → IsRange 1 (2 ^ 32) s
unfolding in_limits
ram_keeps s e =
    let p = and_parts (is_word s.start) (is_word s.len && (nat_le 1 s.len && ends_in_time s.start s.len)) e in
    let q = and_parts (is_word s.len) (nat_le 1 s.len && ends_in_time s.start s.len) p.1 in
    let r = and_parts (nat_le 1 s.len) (ends_in_time s.start s.len) q.1 in
    let ends = leb-true (s.start + s.len) (2 ^ 32) r.1 in
    record { len = (leb-true 1 s.len r.0, omega (arith, ends)); ends = ends }

show_keeps : (s : Span) → in_limits (row.Show (extent s)) ≡ true → IsRange 1 256 s
unfolding in_limits
show_keeps s e =
    let p = and_parts (is_word s.start) (is_in_range 1 256 s.len && ends_in_time s.start s.len) e in
    let q = and_parts (is_in_range 1 256 s.len) (ends_in_time s.start s.len) p.1 in
    record { len = within 1 256 s.len q.0; ends = leb-true (s.start + s.len) (2 ^ 32) q.1 }

input_keeps : (xs : List Row) → IsWhole xs → ((task_of xs).input_len ≤ 65536) × ((task_of xs).input_at + (task_of xs).input_len ≤ 2 ^ 32)
unfolding in_limits
input_keeps xs w =
    let t : Task = task_of xs in
    let p = and_parts (is_word t.input_at) (nat_le t.input_len 65536 && ends_in_time t.input_at t.input_len) (one_row (row.Input (record { start = t.input_at; len = t.input_len })) (section_low xs w k.Input)) in
    let q = and_parts (nat_le t.input_len 65536) (ends_in_time t.input_at t.input_len) p.1 in
    (leb-true t.input_len 65536 q.0, leb-true (t.input_at + t.input_len) (2 ^ 32) q.1)

output_keeps : (xs : List Row) → IsWhole xs → Within 1 65536 (task_of xs).out_max
unfolding in_limits
output_keeps xs w = within 1 65536 (task_of xs).out_max (one_row (row.Output (task_of xs).out_max) (section_low xs w k.Output))

entry_keeps : (xs : List Row) → IsWhole xs → is_word_or_none (task_of xs).entry ≡ true
unfolding in_limits
entry_keeps xs w = one_row (row.Entry (task_of xs).entry) (section_low xs w k.Entry)

stack_keeps : (xs : List Row) → IsWhole xs → (task_of xs).stack < 2 ^ 32
unfolding in_limits
stack_keeps xs w = ltb-true (task_of xs).stack (2 ^ 32) (one_row (row.Stack (task_of xs).stack) (section_low xs w k.Stack))

cut_keeps : (a : ℕ) → in_limits (row.Cut a) ≡ true → a < 2 ^ 32
unfolding in_limits
cut_keeps a e = ltb-true a (2 ^ 32) e

-- the code, line by line
record AreWords (c : Code) : Type 0 where
  words_are : 4 * length c.words ≡ total_len c.spans
  aligned : All IsAligned c.spans
  each : All IsCodeRange c.spans
  low : All (λ w. w < 2 ^ 32) c.words

abbrev IsCoded : Source → Type 0
IsCoded (Name n) = Unit {0}
IsCoded (Words c) = AreWords c

total_more : (spans : List Span) (s : Span) → total_len (spans ++ s ∷ []) ≡ total_len spans + s.len
total_more [] s = omega arith
total_more (x ∷ spans) s = omega (arith, total_more spans s)

words_fit : (w : WordsRow) → in_limits (row.Words w) ≡ true → IsAligned (code_span w.start (length w.words)) × IsCodeRange (code_span w.start (length w.words)) × All (λ v. v < 2 ^ 32) w.words
unfolding in_limits
words_fit w e =
    let p = and_parts (nat_eq (w.start % 4) 0) (nat_le (w.start + 4 * length w.words) 0xffff_0000 && (is_in_range 1 64 (length w.words) && list_all is_word w.words)) e in
    let q = and_parts (nat_le (w.start + 4 * length w.words) 0xffff_0000) (is_in_range 1 64 (length w.words) && list_all is_word w.words) p.1 in
    let r = and_parts (is_in_range 1 64 (length w.words)) (list_all is_word w.words) q.1 in
    let n = within 1 64 (length w.words) r.0 in (
      record { start = eqb-true (w.start % 4) 0 p.0; len = omega arith },
      record { len = (omega (arith, n.0), omega (arith, n.1)); ends = leb-true (w.start + 4 * length w.words) 0xffff_0000 q.0; runs = refl },
      all_of is_word (λ v. v < 2 ^ 32) (λ v h. ltb-true v (2 ^ 32) h) w.words r.1,
    )

words_keep : (i : Source) (start : ℕ) (words : List ℕ) → IsAligned (code_span start (length words)) → IsCodeRange (code_span start (length words)) → All (λ v. v < 2 ^ 32) words → IsCoded i → IsCoded (with_words i start words)
words_keep (Name m) start words a e low c = record {
  words_are = omega arith;
  aligned = All-cons IsAligned (code_span start (length words)) [] a (All-nil IsAligned);
  each = All-cons IsCodeRange (code_span start (length words)) [] e (All-nil IsCodeRange);
  low = low;
}
words_keep (Words d) start words a e low c = record {
  words_are = omega (arith, length-append d.words words, total_more d.spans (code_span start (length words)), c.words_are);
  aligned = All-push IsAligned d.spans (code_span start (length words)) c.aligned a;
  each = All-push IsCodeRange d.spans (code_span start (length words)) c.each e;
  low = All-append (λ v. v < 2 ^ 32) d.words words c.low low;
}

coded : (xs : List Row) → IsStart xs → IsCoded (task_of xs).image
coded [] s = tt
coded (row.Image n ∷ xs) s = tt
coded (row.Words w ∷ xs) s = let f = words_fit w s.1 in words_keep (task_of xs).image w.start w.words f.0 f.1 f.2 (coded xs s.3)
coded (row.Version ∷ xs) s = coded xs s.3
coded (row.Order _ ∷ xs) s = coded xs s.3
coded (row.Core _ ∷ xs) s = coded xs s.3
coded (row.Memory _ ∷ xs) s = coded xs s.3
coded (row.Icache _ ∷ xs) s = coded xs s.3
coded (row.Dcache _ ∷ xs) s = coded xs s.3
coded (row.Point _ ∷ xs) s = coded xs s.3
coded (row.Time _ ∷ xs) s = coded xs s.3
coded (row.Entry _ ∷ xs) s = coded xs s.3
coded (row.Stack _ ∷ xs) s = coded xs s.3
coded (row.Ram _ ∷ xs) s = coded xs s.3
coded (row.Input _ ∷ xs) s = coded xs s.3
coded (row.Output _ ∷ xs) s = coded xs s.3
coded (row.Show _ ∷ xs) s = coded xs s.3
coded (row.Cut _ ∷ xs) s = coded xs s.3
coded (row.Loop _ ∷ xs) s = coded xs s.3
coded (row.Fact _ ∷ xs) s = coded xs s.3

code_count : (spans : List Span) (words : List ℕ) → length (code_rows spans words) ≡ length spans
code_count [] words = refl
code_count (s ∷ spans) words = ap (λ n. suc n) (code_count spans _)

image_keeps : (xs : List Row) → IsWhole xs → IsImage (task_of xs).image
unfolding in_limits
image_keeps xs w = by (task_of xs).image (coded xs w.0) (section_low xs w k.Image) (section_few xs w k.Words)
  where
    by : (i : Source) → IsCoded i → list_all in_limits (image_rows i) ≡ true → length (words_rows i) ≤ 256 → IsImage i
    by (Name n) c low few =
        let p = and_parts (is_name n) (nat_le (length n) 255) (one_row (row.Image n) low) in
        record { form = p.0; short = leb-true (length n) 255 p.1 }
    by (Words d) c low few = record {
      whole = record { words = c.words_are; aligned = c.aligned };
      few = let n = code_count d.spans d.words in omega (arith, n, few);
      each = c.each;
      words = c.low;
    }

whole_keeps : (xs : List Row) → IsWhole xs → KeepsLimits (task_of xs)
whole_keeps xs w = record {
  machine = machine_keeps xs w;
  points = points_keep xs w;
  period = (period_keeps xs w).0;
  deadline = (period_keeps xs w).1;
  image = image_keeps xs w;
  entry = entry_keeps xs w;
  stack = stack_keeps xs w;
  ram = record {
    few = few_rows (λ s. row.Ram (extent s)) (task_of xs).ram 32 (section_few xs w k.Ram);
    each = all_rows (λ s. row.Ram (extent s)) (IsRange 1 (2 ^ 32)) ram_keeps (task_of xs).ram (section_low xs w k.Ram);
  };
  input_len = (input_keeps xs w).0;
  input_ends = (input_keeps xs w).1;
  out_max = output_keeps xs w;
  show = record {
    few = few_rows (λ s. row.Show (extent s)) (task_of xs).show 16 (section_few xs w k.Show);
    each = all_rows (λ s. row.Show (extent s)) (IsRange 1 256) show_keeps (task_of xs).show (section_low xs w k.Show);
  };
  few_cuts = few_rows row.Cut (task_of xs).cuts 31 (section_few xs w k.Cut);
  cuts = all_rows row.Cut (λ a. a < 2 ^ 32) cut_keeps (task_of xs).cuts (section_low xs w k.Cut);
  few_regions = few_rows row.Loop (task_of xs).regions 256 (section_few xs w k.Loop);
  regions = all_rows row.Loop (λ r. in_limits (row.Loop r) ≡ true) (λ r h. h) (task_of xs).regions (section_low xs w k.Loop);
  few_facts = few_rows row.Fact (task_of xs).facts 4096 (section_few xs w k.Fact);
  facts = all_rows row.Fact (λ f. in_limits (row.Fact f) ≡ true) (λ f h. h) (task_of xs).facts (section_low xs w k.Fact);
}

pub keeps_limits : (t : Task) → IsGiven t → KeepsLimits t
keeps_limits t g = subst KeepsLimits (sym g.task) (whole_keeps g.rows g.whole)

-- a task that was read keeps the limits
pub read_keeps : (bytes : List ℕ) (r : Result Task TaskFault) → Reads r (walk (lines_of bytes) opening 1) → IfOk r KeepsLimits
read_keeps bytes (Ok t) g = keeps_limits t (given bytes t (given_task bytes t g))
read_keeps bytes (Err f) g = tt
