-- The text of a task is read back.
use Rattle.std.proofs.Common.{◌≡◌, ℕ, Bool, true, false, cond, not, ◌&&◌, nat_eq, nat_le, nat_lt, List, [], ◌∷◌, ◌++◌, length, map, refl, sym, ap, ◌∙◌, arith, codes, append_assoc, append-nil}
use Rattle.std.specs.List.{list_all, flat_map}
use Rattle.std.specs.Char.{is_ascii_digit}
use Rattle.std.specs.Str.{bytes_eq}
use Rattle.std.proofs.lemmas.Bool.{cond-false}
use Rattle.std.proofs.lemmas.Bool.Decides.{nat_tests}
use Rattle.std.proofs.lemmas.Grind.{flat_map-append}
use Rattle.std.proofs.lemmas.List.{map-append}
use Rattle.std.proofs.lemmas.List.Folds.{list_all-append}
use Rattle.text_fields.specs.Lines.{is_graphic, is_printable, is_feed, is_space, has_no_feed, has_no_space, lines_of, fields, spaced, written}
use Rattle.text_fields.specs.Numbers.{is_number, is_signed_number, number, is_hex, is_hex_digit}
use Rattle.text_fields.proofs.Digits.{and_parts, and_from}
use Rattle.text_fields.proofs.LinesRead.{lines_written, fields_spaced}
use Rattle.task_text.specs.declared.row.Keyword.{Keyword}
use Rattle.task_text.specs.declared.row.Keyword.TheVariants as k
use Rattle.task_text.specs.declared.row.Row.{Row}
use Rattle.task_text.specs.declared.task.Task.{Task}
use Rattle.task_text.specs.Table.{keyword, keywords, name, values, fields_of, is_size, is_name, is_shape_text, is_formed, in_limits}
use Rattle.task_text.specs.Texts.{is_plain, is_skipped, kept, spelled, IsStart, IsWhole, task_of, IsTask, IsGiven}
use Rattle.task_text.specs.Writing.{section, row_text, section_text, text_of}
use Rattle.task_text.proofs.EachKind.{or_parts, bytes_same, read_print}
use Rattle.task_text.proofs.Sections.{oldest_first, rows_back}

-- bytes 21 to 7e
abbrev graphic : List ℕ → Bool
graphic f = list_all is_graphic f

-- a test that another one implies
all_imply : (p q : ℕ → Bool) → ((b : ℕ) → p b ≡ true → q b ≡ true) → (xs : List ℕ) → list_all p xs ≡ true → list_all q xs ≡ true
all_imply p q h [] e = refl
all_imply p q h (x ∷ xs) e = let w = and_parts (p x) (list_all p xs) e in and_from (q x) _ (h x w.0) (all_imply p q h xs w.1)

lists_imply : (p q : List ℕ → Bool) → ((b : List ℕ) → p b ≡ true → q b ≡ true) → (xs : List (List ℕ)) → list_all p xs ≡ true → list_all q xs ≡ true
lists_imply p q h [] e = refl
lists_imply p q h (x ∷ xs) e = let w = and_parts (p x) (list_all p xs) e in and_from (q x) _ (h x w.0) (lists_imply p q h xs w.1)

number_graphic : (f : List ℕ) → is_number f ≡ true → graphic f ≡ true
unfolding is_number
number_graphic f e = all_imply is_ascii_digit is_graphic each f (and_parts (list_all is_ascii_digit f) _ e).0
  where
    each : (b : ℕ) → is_ascii_digit b ≡ true → is_graphic b ≡ true
    each b h = grind (arith, nat_tests)

hex_graphic : (f : List ℕ) → is_hex f ≡ true → graphic f ≡ true
unfolding is_hex
hex_graphic f e = all_imply is_hex_digit is_graphic each f (and_parts (nat_eq (length f) 8) (list_all is_hex_digit f) e).1
  where
    each : (b : ℕ) → is_hex_digit b ≡ true → is_graphic b ≡ true
    each b h = grind (arith, nat_tests)

signed_graphic : (f : List ℕ) → is_signed_number f ≡ true → graphic f ≡ true
unfolding is_signed_number
signed_graphic [] e = refl
signed_graphic (c ∷ cs) e = by (nat_eq c 45) refl e
  where
    minus : (b : ℕ) → nat_eq b 45 ≡ true → is_graphic b ≡ true
    minus b h = grind (arith, nat_tests)

    by : (t : Bool) → nat_eq c 45 ≡ t → cond t (is_number cs && not (nat_eq (number cs) 0)) (is_number (c ∷ cs)) ≡ true → graphic (c ∷ cs) ≡ true
    by true t h = and_from (is_graphic c) _ (minus c t) (number_graphic cs (and_parts (is_number cs) _ h).0)
    by false t h = number_graphic (c ∷ cs) h

size_graphic : (f : List ℕ) → is_size f ≡ true → graphic f ≡ true
unfolding is_size
size_graphic f e = or_parts (is_number f) (bytes_eq f (codes "none")) (graphic f ≡ true) e (λ t. number_graphic f t) (λ n t. ap graphic (bytes_same f (codes "none") t))

shape_graphic : (fs : List (List ℕ)) → is_shape_text fs ≡ true → list_all graphic fs ≡ true
unfolding is_shape_text
shape_graphic [] e = refl
shape_graphic (s ∷ []) e = and_from (graphic s) true (size_graphic s e) refl
shape_graphic (s ∷ w ∷ l ∷ []) e =
    let p = and_parts (is_size s) (is_number w && is_number l) e in
    let q = and_parts (is_number w) (is_number l) p.1 in
    and_from (graphic s) _ (size_graphic s p.0) (and_from (graphic w) _ (number_graphic w q.0) (and_from (graphic l) true (number_graphic l q.1) refl))
shape_graphic _ e = cc

one_graphic : (a : List ℕ) → graphic a ≡ true → list_all graphic (a ∷ []) ≡ true
one_graphic a e = and_from (graphic a) true e refl

extent_graphic : (a n : List ℕ) → (is_hex a && is_number n) ≡ true → list_all graphic (a ∷ n ∷ []) ≡ true
extent_graphic a n e = let p = and_parts (is_hex a) (is_number n) e in and_from (graphic a) _ (hex_graphic a p.0) (one_graphic n (number_graphic n p.1))

four_graphic : (a b c d : List ℕ) → (is_number a && (is_number b && (is_number c && is_number d))) ≡ true → list_all graphic (a ∷ b ∷ c ∷ d ∷ []) ≡ true
four_graphic a b c d e =
    let p = and_parts (is_number a) (is_number b && (is_number c && is_number d)) e in
    let q = and_parts (is_number b) (is_number c && is_number d) p.1 in
    let r = and_parts (is_number c) (is_number d) q.1 in
    and_from (graphic a) _ (number_graphic a p.0) (and_from (graphic b) _ (number_graphic b q.0) (and_from (graphic c) _ (number_graphic c r.0) (one_graphic d (number_graphic d r.1))))

-- fields of the form are of bytes 21 to 7e
formed_graphic : (key : Keyword) (fs : List (List ℕ)) → is_formed key fs ≡ true → list_all graphic fs ≡ true
unfolding is_formed is_name
formed_graphic k.Version (v ∷ []) e = one_graphic v (number_graphic v e)
formed_graphic k.Order (o ∷ []) e = one_graphic o (or_parts (bytes_eq o (codes "big")) (bytes_eq o (codes "little")) (graphic o ≡ true) e (λ t. ap graphic (bytes_same o (codes "big") t)) (λ n t. ap graphic (bytes_same o (codes "little") t)))
formed_graphic k.Core (a ∷ b ∷ c ∷ d ∷ []) e = four_graphic a b c d e
formed_graphic k.Memory (a ∷ b ∷ c ∷ d ∷ []) e = four_graphic a b c d e
formed_graphic k.Icache fs e = shape_graphic fs e
formed_graphic k.Dcache fs e = shape_graphic fs e
formed_graphic k.Point (p ∷ []) e = one_graphic p (number_graphic p e)
formed_graphic k.Time (p ∷ d ∷ []) e = let q = and_parts (is_number p) (is_number d) e in and_from (graphic p) _ (number_graphic p q.0) (one_graphic d (number_graphic d q.1))
formed_graphic k.Image (n ∷ []) e = one_graphic n (and_parts (nat_lt 0 (length n)) (graphic n) e).1
formed_graphic k.Words (a ∷ w ∷ ws) e =
    let p = and_parts (is_hex a) (nat_le (length (w ∷ ws)) 64 && list_all is_hex (w ∷ ws)) e in
    let q = and_parts (nat_le (length (w ∷ ws)) 64) (list_all is_hex (w ∷ ws)) p.1 in
    and_from (graphic a) _ (hex_graphic a p.0) (lists_imply is_hex graphic hex_graphic (w ∷ ws) q.1)
formed_graphic k.Entry (a ∷ []) e = one_graphic a (or_parts (is_hex a) (bytes_eq a (codes "-")) (graphic a ≡ true) e (λ t. hex_graphic a t) (λ n t. ap graphic (bytes_same a (codes "-") t)))
formed_graphic k.Stack (a ∷ []) e = one_graphic a (hex_graphic a e)
formed_graphic k.Ram (a ∷ n ∷ []) e = extent_graphic a n e
formed_graphic k.Input (a ∷ n ∷ []) e = extent_graphic a n e
formed_graphic k.Output (n ∷ []) e = one_graphic n (number_graphic n e)
formed_graphic k.Show (a ∷ n ∷ []) e = extent_graphic a n e
formed_graphic k.Cut (a ∷ []) e = one_graphic a (hex_graphic a e)
formed_graphic k.Loop (a ∷ b ∷ c ∷ n ∷ r ∷ []) e =
    let pa = and_parts (is_hex a) (is_hex b && (is_hex c && (is_number n && is_number r))) e in
    let pb = and_parts (is_hex b) (is_hex c && (is_number n && is_number r)) pa.1 in
    let pc = and_parts (is_hex c) (is_number n && is_number r) pb.1 in
    let pn = and_parts (is_number n) (is_number r) pc.1 in
    and_from (graphic a) _ (hex_graphic a pa.0) (and_from (graphic b) _ (hex_graphic b pb.0) (and_from (graphic c) _ (hex_graphic c pc.0) (and_from (graphic n) _ (number_graphic n pn.0) (one_graphic r (number_graphic r pn.1)))))
formed_graphic k.Fact (a ∷ r ∷ l ∷ h ∷ s ∷ []) e =
    let pa = and_parts (is_hex a) (is_signed_number r && (is_signed_number l && (is_signed_number h && is_signed_number s))) e in
    let pr = and_parts (is_signed_number r) (is_signed_number l && (is_signed_number h && is_signed_number s)) pa.1 in
    let pl = and_parts (is_signed_number l) (is_signed_number h && is_signed_number s) pr.1 in
    let ph = and_parts (is_signed_number h) (is_signed_number s) pl.1 in
    and_from (graphic a) _ (hex_graphic a pa.0) (and_from (graphic r) _ (signed_graphic r pr.0) (and_from (graphic l) _ (signed_graphic l pl.0) (and_from (graphic h) _ (signed_graphic h ph.0) (one_graphic s (signed_graphic s ph.1)))))
formed_graphic _ _ e = cc

name_graphic : (key : Keyword) → graphic (name key) ≡ true
name_graphic k.Version = refl
name_graphic k.Order = refl
name_graphic k.Core = refl
name_graphic k.Memory = refl
name_graphic k.Icache = refl
name_graphic k.Dcache = refl
name_graphic k.Point = refl
name_graphic k.Time = refl
name_graphic k.Image = refl
name_graphic k.Words = refl
name_graphic k.Entry = refl
name_graphic k.Stack = refl
name_graphic k.Ram = refl
name_graphic k.Input = refl
name_graphic k.Output = refl
name_graphic k.Show = refl
name_graphic k.Cut = refl
name_graphic k.Loop = refl
name_graphic k.Fact = refl

row_graphic : (r : Row) → in_limits r ≡ true → list_all graphic (fields_of r) ≡ true
row_graphic r low = and_from (graphic (name (keyword r))) _ (name_graphic (keyword r)) (formed_graphic (keyword r) (values r) (read_print r low).0)

graphic_plain : (b : ℕ) → is_graphic b ≡ true → is_printable b ≡ true
graphic_plain b h = grind (arith, nat_tests)

-- the line of a row
abbrev line_of : Row → List ℕ
line_of r = spaced (fields_of r)

plain_spaced : (fs : List (List ℕ)) → list_all graphic fs ≡ true → list_all is_printable (spaced fs) ≡ true
plain_spaced [] e = refl
plain_spaced (f ∷ []) e = all_imply is_graphic is_printable graphic_plain f (and_parts (graphic f) true e).0
plain_spaced (f ∷ g ∷ gs) e =
    let p = and_parts (graphic f) (list_all graphic (g ∷ gs)) e in
    list_all-append is_printable f (32 ∷ spaced (g ∷ gs))
    ∙ and_from (list_all is_printable f) _ (all_imply is_graphic is_printable graphic_plain f p.0) (plain_spaced (g ∷ gs) p.1)

line_plain : (r : Row) → in_limits r ≡ true → is_plain (line_of r) ≡ true
unfolding is_plain
line_plain r low = plain_spaced (fields_of r) (row_graphic r low)

line_no_feed : (r : Row) → in_limits r ≡ true → has_no_feed (line_of r) ≡ true
line_no_feed r low = all_imply is_printable (λ b. not (is_feed b)) each (line_of r) (plain_spaced (fields_of r) (row_graphic r low))
  where
    each : (b : ℕ) → is_printable b ≡ true → not (is_feed b) ≡ true
    each b h = grind (arith, nat_tests)

line_fields : (r : Row) → in_limits r ≡ true → fields (line_of r) ≡ fields_of r
line_fields r low = fields_spaced (name (keyword r)) (values r) (lists_imply graphic has_no_space no_space (fields_of r) (row_graphic r low))
  where
    each : (b : ℕ) → is_graphic b ≡ true → not (is_space b) ≡ true
    each b h = grind (arith, nat_tests)

    no_space : (f : List ℕ) → graphic f ≡ true → has_no_space f ≡ true
    no_space f h = all_imply is_graphic (λ b. not (is_space b)) each f h

-- a line begins with its keyword
tails : List (List ℕ) → List ℕ
tails [] = []
tails (v ∷ vs) = 32 ∷ (v ++ tails vs)

spaced_is : (f : List ℕ) (fs : List (List ℕ)) → spaced (f ∷ fs) ≡ f ++ tails fs
unfolding tails
spaced_is f [] = sym (append-nil f)
spaced_is f (g ∷ gs) = ap (λ x. f ++ (32 ∷ x)) (spaced_is g gs)

name_says : (key : Keyword) (rest : List ℕ) → is_skipped (name key ++ rest) ≡ false
unfolding is_skipped
name_says k.Version rest = refl
name_says k.Order rest = refl
name_says k.Core rest = refl
name_says k.Memory rest = refl
name_says k.Icache rest = refl
name_says k.Dcache rest = refl
name_says k.Point rest = refl
name_says k.Time rest = refl
name_says k.Image rest = refl
name_says k.Words rest = refl
name_says k.Entry rest = refl
name_says k.Stack rest = refl
name_says k.Ram rest = refl
name_says k.Input rest = refl
name_says k.Output rest = refl
name_says k.Show rest = refl
name_says k.Cut rest = refl
name_says k.Loop rest = refl
name_says k.Fact rest = refl

line_says : (r : Row) → is_skipped (line_of r) ≡ false
line_says r = ap is_skipped (spaced_is (name (keyword r)) (values r)) ∙ name_says (keyword r) (tails (values r))

-- rows within their limits
all_low : (xs : List Row) → IsStart xs → list_all in_limits (oldest_first xs) ≡ true
all_low [] s = refl
all_low (r ∷ xs) s = list_all-append in_limits (oldest_first xs) (r ∷ []) ∙ and_from (list_all in_limits (oldest_first xs)) _ (all_low xs s.3) (and_from (in_limits r) true s.1 refl)

rows_plain : (rs : List Row) → list_all in_limits rs ≡ true → list_all is_plain (map line_of rs) ≡ true
rows_plain [] e = refl
rows_plain (r ∷ rs) e = let p = and_parts (in_limits r) (list_all in_limits rs) e in and_from (is_plain (line_of r)) _ (line_plain r p.0) (rows_plain rs p.1)

rows_no_feed : (rs : List Row) → list_all in_limits rs ≡ true → list_all has_no_feed (map line_of rs) ≡ true
rows_no_feed [] e = refl
rows_no_feed (r ∷ rs) e = let p = and_parts (in_limits r) (list_all in_limits rs) e in and_from (has_no_feed (line_of r)) _ (line_no_feed r p.0) (rows_no_feed rs p.1)

rows_kept : (rs : List Row) → list_all in_limits rs ≡ true → kept (map line_of rs) ≡ map fields_of rs
rows_kept [] e = refl
rows_kept (r ∷ rs) e =
    let p = and_parts (in_limits r) (list_all in_limits rs) e in
    cond-false (is_skipped (line_of r)) (kept (map line_of rs)) (fields (line_of r) ∷ kept (map line_of rs)) (line_says r)
    ∙ (λ i. line_fields r p.0 i ∷ rows_kept rs p.1 i)

spelled_is : (xs : List Row) → spelled xs ≡ map fields_of (oldest_first xs)
spelled_is [] = refl
spelled_is (r ∷ xs) = ap (λ y. y ++ fields_of r ∷ []) (spelled_is xs) ∙ sym (map-append fields_of (oldest_first xs) (r ∷ []))

-- the text of rows is that of their lines
rows_text : (rs : List Row) → flat_map row_text rs ≡ written (map line_of rs)
rows_text [] = refl
rows_text (r ∷ rs) = append_assoc (line_of r) (10 ∷ []) (flat_map row_text rs) ∙ ap (λ x. line_of r ++ (10 ∷ x)) (rows_text rs)

sections_text : (t : Task) (keys : List Keyword) → flat_map (section_text t) keys ≡ flat_map row_text (flat_map (section t) keys)
unfolding section_text
sections_text t [] = refl
sections_text t (key ∷ keys) = ap (λ x. flat_map row_text (section t key) ++ x) (sections_text t keys) ∙ sym (flat_map-append row_text (section t key) (flat_map (section t) keys))

text_is : (xs : List Row) → IsWhole xs → text_of (task_of xs) ≡ written (map line_of (oldest_first xs))
unfolding text_of
text_is xs w = sections_text (task_of xs) keywords ∙ ap (flat_map row_text) (rows_back xs w) ∙ rows_text (oldest_first xs)

-- a task that some text gives has its own text
pub text_back : (t : Task) → IsGiven t → IsTask (text_of t) t
text_back t g =
    let low = all_low g.rows g.whole.0 in
    let text : text_of t ≡ written (map line_of (oldest_first g.rows)) = ap text_of g.task ∙ text_is g.rows g.whole in
    let lines : lines_of (text_of t) ≡ map line_of (oldest_first g.rows) = ap lines_of text ∙ lines_written (map line_of (oldest_first g.rows)) (rows_no_feed (oldest_first g.rows) low) in
    record {
      rows = g.rows;
      whole = g.whole;
      lines = record {
        plain = ap (list_all is_plain) lines ∙ rows_plain (oldest_first g.rows) low;
        same = ap kept lines ∙ rows_kept (oldest_first g.rows) low ∙ sym (spelled_is g.rows);
      };
      task = g.task;
    }

-- what is read of a text is a task that some text gives
pub given : (bytes : List ℕ) (t : Task) → IsTask bytes t → IsGiven t
given bytes t is = record { rows = is.rows; whole = is.whole; task = is.task }
