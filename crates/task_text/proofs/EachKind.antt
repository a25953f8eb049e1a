-- Each kind of row: what is read of fields is written as they stood, and what is written is read back.
use Rattle.std.proofs.Common.{◌≡◌, ℕ, suc, Bool, true, false, cond, ◌&&◌, ◌||◌, nat_eq, nat_le, List, [], ◌∷◌, length, map, ◌+◌, ◌*◌, ◌-◌, ◌^◌, ◌<◌, ◌≤◌, Option, Some, None, codes, decimal, refl, sym, ap, ◌∙◌, subst, arith, eqb-true, leb-true, ltb-true, le-leb, ◌%◌}
use Rattle.std.specs.Option.{option_map}
use Rattle.std.specs.List.{list_all, list_any}
use Rattle.std.specs.Int.{is_in_range}
use Rattle.std.specs.Str.{bytes_eq}
use Rattle.std.proofs.lemmas.Fmt.{decimal_digit}
use Rattle.std.proofs.lemmas.Bool.{cond-true, cond-false}
use Rattle.std.proofs.lemmas.Slice.Eq.{bytes_eq-Decides}
use Rattle.text_fields.specs.Numbers.{is_number, saturated, is_signed_number, signed_saturated, is_signed_word, is_hex, hex, hex_text}
use Rattle.text_fields.proofs.Digits.{and_parts, and_from, saturated_text, number_formed, saturated_again, signed_text, signed_formed, signed_again, hex_number_text, signed_of_number, hex_length, hex_formed, hex_again}
use Rattle.visa_io.specs.declared.records.Shape.{Shape}
use Rattle.task_text.specs.declared.row.Keyword.{Keyword}
use Rattle.task_text.specs.declared.row.Keyword.TheVariants as k
use Rattle.task_text.specs.declared.row.Row.{Row}
use Rattle.task_text.specs.declared.row.Row.TheVariants as row
use Rattle.task_text.specs.Table.{keyword, values, shape_values, entry_value, is_size, is_name, is_shape_text, is_shape, is_shape_or_none, is_word, is_strided, is_formed, in_limits}
use Rattle.task_text.specs.Reading.{shape_of, entry_of, row_of, limited}

-- either test passes
pub or_parts : (a b : Bool) → (P : Type 0) → (a || b) ≡ true → (a ≡ true → P) → (a ≡ false → b ≡ true → P) → P
or_parts true b P e left right = left refl
or_parts false b P e left right = right refl e

or_left : (a b : Bool) → a ≡ true → (a || b) ≡ true
or_left true b e = refl
or_left false b e = cc

pub or_right : (a b : Bool) → b ≡ true → (a || b) ≡ true
or_right true b e = refl
or_right false b e = e

-- equal bytes
pub bytes_same : (xs ys : List ℕ) → bytes_eq xs ys ≡ true → xs ≡ ys
bytes_same xs ys e = (bytes_eq-Decides xs ys).0 e

-- a field of a form and its text
hex_back : (a : List ℕ) → is_hex a ≡ true → hex_text (hex a) ≡ a
hex_back a e = (hex_number_text a e).0

-- a number in a range
in_range : (lo hi n : ℕ) → is_in_range lo hi n ≡ true → (lo ≤ n) × (n ≤ hi)
in_range lo hi n e = let p = and_parts (nat_le lo n) (nat_le n hi) e in (leb-true _ _ p.0, leb-true _ _ p.1)

-- one of some numbers, all small
one_of : (n : ℕ) (xs : List ℕ) (most : ℕ) → list_all (λ x. nat_le x most) xs ≡ true → list_any (λ x. nat_eq n x) xs ≡ true → n ≤ most
one_of n [] most low e = cc
one_of n (x ∷ xs) most low e = or_parts (nat_eq n x) (list_any (λ y. nat_eq n y) xs) (n ≤ most) e
    (λ is. let h = eqb-true n x is in let l = leb-true x most (and_parts (nat_le x most) _ low).0 in omega arith)
    (λ is more. one_of n xs most (and_parts (nat_le x most) _ low).1 more)

-- words of a line
words_back : (ws : List (List ℕ)) → list_all is_hex ws ≡ true → map hex_text (map hex ws) ≡ ws
words_back [] e = refl
words_back (w ∷ ws) e = let p = and_parts (is_hex w) (list_all is_hex ws) e in λ i. hex_back w p.0 i ∷ words_back ws p.1 i

words_again : (ws : List ℕ) → list_all is_word ws ≡ true → map hex (map hex_text ws) ≡ ws
words_again [] e = refl
words_again (w ∷ ws) e = let p = and_parts (is_word w) (list_all is_word ws) e in λ i. hex_again w (ltb-true w (2 ^ 32) p.0) i ∷ words_again ws p.1 i

words_formed : (ws : List ℕ) → list_all is_hex (map hex_text ws) ≡ true
words_formed [] = refl
words_formed (w ∷ ws) = and_from _ _ (hex_formed w) (words_formed ws)

length_words : (ws : List ℕ) → length (map hex_text ws) ≡ length ws
length_words [] = refl
length_words (w ∷ ws) = ap suc (length_words ws)

-- what a row that was read of the fields shows of them
abbrev Shown : Keyword → List (List ℕ) → Row → Type 0
Shown key fs r = in_limits r ≡ true → (keyword r ≡ key) × (values r ≡ fs)

abbrev ShownMaybe : Keyword → List (List ℕ) → Option Row → Type 0
ShownMaybe key fs None = Unit {0}
ShownMaybe key fs (Some r) = Shown key fs r

shown_if : (t : Bool) (key : Keyword) (fs : List (List ℕ)) (r : Row) → (t ≡ true → Shown key fs r) → ShownMaybe key fs (cond t (Some r) None)
shown_if true key fs r h = h refl
shown_if false key fs r h = tt

abbrev ShapeShown : List (List ℕ) → Option (Option Shape) → Type 0
ShapeShown fs None = Unit {0}
ShapeShown fs (Some s) = is_shape_or_none s ≡ true → shape_values s ≡ fs

shape_shown_if : (t : Bool) (fs : List (List ℕ)) (s : Option Shape) → (t ≡ true → is_shape_or_none s ≡ true → shape_values s ≡ fs) → ShapeShown fs (cond t (Some s) None)
shape_shown_if true fs s h = h refl
shape_shown_if false fs s h = tt

-- the limits of a shape
shape_small : (s w l : ℕ) → is_shape s w l ≡ true → (s ≤ 1024) × (w ≤ 8) × (l ≤ 64)
unfolding is_shape
shape_small s w l e =
    let p = and_parts (list_any (λ n. nat_eq s n) (1 ∷ 2 ∷ 4 ∷ 8 ∷ 16 ∷ 32 ∷ 64 ∷ 128 ∷ 256 ∷ 512 ∷ 1024 ∷ [])) (is_in_range 1 8 w && list_any (λ n. nat_eq l n) (8 ∷ 16 ∷ 32 ∷ 64 ∷ [])) e in
    let q = and_parts (is_in_range 1 8 w) (list_any (λ n. nat_eq l n) (8 ∷ 16 ∷ 32 ∷ 64 ∷ [])) p.1 in
    let a : s ≤ 1024 = one_of s (1 ∷ 2 ∷ 4 ∷ 8 ∷ 16 ∷ 32 ∷ 64 ∷ 128 ∷ 256 ∷ 512 ∷ 1024 ∷ []) 1024 refl p.0 in
    let b = in_range 1 8 w q.0 in
    let c : l ≤ 64 = one_of l (8 ∷ 16 ∷ 32 ∷ 64 ∷ []) 64 refl q.1 in
    (a, b.1, c)

shape_shown : (fs : List (List ℕ)) → is_shape_text fs ≡ true → ShapeShown fs (shape_of fs)
unfolding is_shape_text shape_of is_size
shape_shown (s ∷ []) f = shape_shown_if (bytes_eq s (codes "none")) (s ∷ []) None (λ t low i. sym (bytes_same s (codes "none") t) i ∷ [])
shape_shown (s ∷ w ∷ l ∷ []) f = shape_shown_if (is_number s) (s ∷ w ∷ l ∷ []) (Some (record { sets = saturated s; ways = saturated w; line = saturated l }))
    (λ t low.
    let p = and_parts (is_number s || bytes_eq s (codes "none")) (is_number w && is_number l) f in
    let q = and_parts (is_number w) (is_number l) p.1 in
    let m = shape_small (saturated s) (saturated w) (saturated l) low in
    λ i. saturated_text s t (omega (arith, m.0)) i ∷ saturated_text w q.0 (omega (arith, m.1)) i ∷ saturated_text l q.1 (omega (arith, m.2)) i ∷ [])
shape_shown _ f = tt

shape_row : (key : Keyword) (make : Option Shape → Row) → ((s : Option Shape) → keyword (make s) ≡ key) → ((s : Option Shape) → values (make s) ≡ shape_values s) → ((s : Option Shape) → in_limits (make s) ≡ is_shape_or_none s) → (fs : List (List ℕ)) (o : Option (Option Shape)) → ShapeShown fs o → ShownMaybe key fs (option_map make o)
shape_row key make of vs lim fs None h = tt
shape_row key make of vs lim fs (Some s) h = λ low. (of s, vs s ∙ h (sym (lim s) ∙ low))

-- a range's fields
extent_shown : (a n : List ℕ) → (is_hex a && is_number n) ≡ true → saturated n < 2 ^ 64 - 1 → hex_text (hex a) ∷ decimal (saturated n) ∷ [] ≡ a ∷ n ∷ []
extent_shown a n f small = let p = and_parts (is_hex a) (is_number n) f in λ i. hex_back a p.0 i ∷ saturated_text n p.1 small i ∷ []

shown : (key : Keyword) (fs : List (List ℕ)) → is_formed key fs ≡ true → ShownMaybe key fs (row_of key fs)
unfolding is_formed row_of in_limits entry_of
shown k.Version (v ∷ []) f = shown_if (nat_eq (saturated v) 1) k.Version (v ∷ []) row.Version
    (λ t low. let one = eqb-true (saturated v) 1 t in (refl, λ i. (sym (decimal_digit 1 (omega arith)) ∙ ap decimal (sym one) ∙ saturated_text v f (omega (arith, one))) i ∷ []))
shown k.Order (o ∷ []) f = λ low. (
  refl,
  λ i. or_parts (bytes_eq o (codes "big")) (bytes_eq o (codes "little")) (cond (bytes_eq o (codes "big")) (codes "big") (codes "little") ≡ o) f
      (λ t. cond-true (bytes_eq o (codes "big")) (codes "big") (codes "little") t ∙ sym (bytes_same o (codes "big") t))
      (λ n t. cond-false (bytes_eq o (codes "big")) (codes "big") (codes "little") n ∙ sym (bytes_same o (codes "little") t)) i ∷ [],
)
shown k.Core (a ∷ b ∷ c ∷ d ∷ []) f = λ low.
    let p = and_parts (is_number a) (is_number b && (is_number c && is_number d)) f in
    let q = and_parts (is_number b) (is_number c && is_number d) p.1 in
    let r = and_parts (is_number c) (is_number d) q.1 in
    let x = and_parts (list_any (λ n. nat_eq (saturated a) n) (1 ∷ 2 ∷ 4 ∷ [])) (is_in_range 8 128 (saturated b) && (is_in_range 1 32 (saturated c) && is_in_range 1 64 (saturated d))) low in
    let y = and_parts (is_in_range 8 128 (saturated b)) (is_in_range 1 32 (saturated c) && is_in_range 1 64 (saturated d)) x.1 in
    let z = and_parts (is_in_range 1 32 (saturated c)) (is_in_range 1 64 (saturated d)) y.1 in
    let la : saturated a ≤ 4 = one_of (saturated a) (1 ∷ 2 ∷ 4 ∷ []) 4 refl x.0 in
    let lb = in_range 8 128 (saturated b) y.0 in
    let lc = in_range 1 32 (saturated c) z.0 in
    let ld = in_range 1 64 (saturated d) z.1 in
    (refl, λ i. saturated_text a p.0 (omega arith) i ∷ saturated_text b q.0 (omega (arith, lb.1)) i ∷ saturated_text c r.0 (omega (arith, lc.1)) i ∷ saturated_text d r.1 (omega (arith, ld.1)) i ∷ [])
shown k.Memory (a ∷ b ∷ c ∷ d ∷ []) f = λ low.
    let p = and_parts (is_number a) (is_number b && (is_number c && is_number d)) f in
    let q = and_parts (is_number b) (is_number c && is_number d) p.1 in
    let r = and_parts (is_number c) (is_number d) q.1 in
    let x = and_parts (is_in_range 1 (10 ^ 7) (saturated a)) (is_in_range 1 (10 ^ 7) (saturated b) && (nat_le (saturated c) (10 ^ 9) && nat_le (saturated d) (10 ^ 9))) low in
    let y = and_parts (is_in_range 1 (10 ^ 7) (saturated b)) (nat_le (saturated c) (10 ^ 9) && nat_le (saturated d) (10 ^ 9)) x.1 in
    let z = and_parts (nat_le (saturated c) (10 ^ 9)) (nat_le (saturated d) (10 ^ 9)) y.1 in
    let la = in_range 1 (10 ^ 7) (saturated a) x.0 in
    let lb = in_range 1 (10 ^ 7) (saturated b) y.0 in
    let lc = leb-true (saturated c) (10 ^ 9) z.0 in
    let ld = leb-true (saturated d) (10 ^ 9) z.1 in
    (refl, λ i. saturated_text a p.0 (omega (arith, la.1)) i ∷ saturated_text b q.0 (omega (arith, lb.1)) i ∷ saturated_text c r.0 (omega (arith, lc)) i ∷ saturated_text d r.1 (omega (arith, ld)) i ∷ [])
shown k.Icache fs f = shape_row k.Icache row.Icache (λ s. refl) (λ s. refl) (λ s. refl) fs (shape_of fs) (shape_shown fs f)
shown k.Dcache fs f = shape_row k.Dcache row.Dcache (λ s. refl) (λ s. refl) (λ s. refl) fs (shape_of fs) (shape_shown fs f)
shown k.Point (p ∷ []) f = λ low. let l = in_range 100 (10 ^ 6) (saturated p) low in (refl, λ i. saturated_text p f (omega (arith, l.1)) i ∷ [])
shown k.Time (p ∷ d ∷ []) f = λ low.
    let q = and_parts (is_number p) (is_number d) f in
    let x = and_parts (is_in_range 1 (10 ^ 12) (saturated p)) (is_in_range 1 (saturated p) (saturated d)) low in
    let lp = in_range 1 (10 ^ 12) (saturated p) x.0 in
    let ld = in_range 1 (saturated p) (saturated d) x.1 in
    (refl, λ i. saturated_text p q.0 (omega (arith, lp.1)) i ∷ saturated_text d q.1 (omega (arith, lp.1, ld.1)) i ∷ [])
shown k.Image (n ∷ []) f = λ low. (refl, refl)
shown k.Words (a ∷ w ∷ ws) f = λ low.
    let p = and_parts (is_hex a) (nat_le (length (w ∷ ws)) 64 && list_all is_hex (w ∷ ws)) f in
    let q = and_parts (nat_le (length (w ∷ ws)) 64) (list_all is_hex (w ∷ ws)) p.1 in
    (refl, λ i. hex_back a p.0 i ∷ words_back (w ∷ ws) q.1 i)
shown k.Entry (a ∷ []) f = λ low. (refl, λ i. entry_shown (bytes_eq a (codes "-")) refl i ∷ [])
  where
    hexed : is_hex a ≡ true → hex_text (hex a) ≡ a
    hexed e = hex_back a e

    no_dash : bytes_eq a (codes "-") ≡ false → is_hex a ≡ true
    no_dash n = or_parts (is_hex a) (bytes_eq a (codes "-")) (is_hex a ≡ true) f (λ t. t) (λ h t. cc)

    entry_shown : (t : Bool) → bytes_eq a (codes "-") ≡ t → entry_value (cond (bytes_eq a (codes "-")) None (Some (hex a))) ≡ a
    entry_shown true t = ap entry_value (cond-true (bytes_eq a (codes "-")) None (Some (hex a)) t) ∙ sym (bytes_same a (codes "-") t)
    entry_shown false t = ap entry_value (cond-false (bytes_eq a (codes "-")) None (Some (hex a)) t) ∙ hexed (no_dash t)
shown k.Stack (a ∷ []) f = λ low. (refl, λ i. hex_back a f i ∷ [])
shown k.Ram (a ∷ n ∷ []) f = λ low.
    let x = and_parts (is_word (hex a)) (is_word (saturated n) && (nat_le 1 (saturated n) && nat_le (hex a + saturated n) (2 ^ 32))) low in
    let y = and_parts (is_word (saturated n)) (nat_le 1 (saturated n) && nat_le (hex a + saturated n) (2 ^ 32)) x.1 in
    let l = ltb-true (saturated n) (2 ^ 32) y.0 in
    (refl, extent_shown a n f (omega (arith, l)))
shown k.Input (a ∷ n ∷ []) f = λ low.
    let x = and_parts (is_word (hex a)) (nat_le (saturated n) 65536 && nat_le (hex a + saturated n) (2 ^ 32)) low in
    let y = and_parts (nat_le (saturated n) 65536) (nat_le (hex a + saturated n) (2 ^ 32)) x.1 in
    let l = leb-true (saturated n) 65536 y.0 in
    (refl, extent_shown a n f (omega (arith, l)))
shown k.Output (n ∷ []) f = λ low. let l = in_range 1 65536 (saturated n) low in (refl, λ i. saturated_text n f (omega (arith, l.1)) i ∷ [])
shown k.Show (a ∷ n ∷ []) f = λ low.
    let x = and_parts (is_word (hex a)) (is_in_range 1 256 (saturated n) && nat_le (hex a + saturated n) (2 ^ 32)) low in
    let y = and_parts (is_in_range 1 256 (saturated n)) (nat_le (hex a + saturated n) (2 ^ 32)) x.1 in
    let l = in_range 1 256 (saturated n) y.0 in
    (refl, extent_shown a n f (omega (arith, l.1)))
shown k.Cut (a ∷ []) f = λ low. (refl, λ i. hex_back a f i ∷ [])
shown k.Loop (a ∷ b ∷ c ∷ n ∷ r ∷ []) f = λ low.
    let pa = and_parts (is_hex a) (is_hex b && (is_hex c && (is_number n && is_number r))) f in
    let pb = and_parts (is_hex b) (is_hex c && (is_number n && is_number r)) pa.1 in
    let pc = and_parts (is_hex c) (is_number n && is_number r) pb.1 in
    let pn = and_parts (is_number n) (is_number r) pc.1 in
    let xa = and_parts (is_word (hex a)) (is_word (hex b) && (is_word (hex c) && (is_word (saturated n) && (nat_le 1 (saturated n) && is_in_range 1 31 (saturated r))))) low in
    let xb = and_parts (is_word (hex b)) (is_word (hex c) && (is_word (saturated n) && (nat_le 1 (saturated n) && is_in_range 1 31 (saturated r)))) xa.1 in
    let xc = and_parts (is_word (hex c)) (is_word (saturated n) && (nat_le 1 (saturated n) && is_in_range 1 31 (saturated r))) xb.1 in
    let xn = and_parts (is_word (saturated n)) (nat_le 1 (saturated n) && is_in_range 1 31 (saturated r)) xc.1 in
    let xr = and_parts (nat_le 1 (saturated n)) (is_in_range 1 31 (saturated r)) xn.1 in
    let ln = ltb-true (saturated n) (2 ^ 32) xn.0 in
    let lr = in_range 1 31 (saturated r) xr.1 in
    (refl, λ i. hex_back a pa.0 i ∷ hex_back b pb.0 i ∷ hex_back c pc.0 i ∷ saturated_text n pn.0 (omega (arith, ln)) i ∷ saturated_text r pn.1 (omega (arith, lr.1)) i ∷ [])
shown k.Fact (a ∷ r ∷ l ∷ h ∷ s ∷ []) f = shown_if (is_number r && is_number s) k.Fact (a ∷ r ∷ l ∷ h ∷ s ∷ []) (row.Fact (record { at = hex a; register = saturated r; lo = signed_saturated l; hi = signed_saturated h; stride = saturated s }))
    (λ t low.
    let n = and_parts (is_number r) (is_number s) t in
    let pa = and_parts (is_hex a) (is_signed_number r && (is_signed_number l && (is_signed_number h && is_signed_number s))) f in
    let pr = and_parts (is_signed_number r) (is_signed_number l && (is_signed_number h && is_signed_number s)) pa.1 in
    let pl = and_parts (is_signed_number l) (is_signed_number h && is_signed_number s) pr.1 in
    let ph = and_parts (is_signed_number h) (is_signed_number s) pl.1 in
    let rest = is_strided (signed_saturated l) (signed_saturated h) (saturated s) in
    let xa = and_parts (is_word (hex a)) (is_in_range 1 31 (saturated r) && (is_signed_word (signed_saturated l) && (is_signed_word (signed_saturated h) && (is_word (saturated s) && rest)))) low in
    let xr = and_parts (is_in_range 1 31 (saturated r)) (is_signed_word (signed_saturated l) && (is_signed_word (signed_saturated h) && (is_word (saturated s) && rest))) xa.1 in
    let xl = and_parts (is_signed_word (signed_saturated l)) (is_signed_word (signed_saturated h) && (is_word (saturated s) && rest)) xr.1 in
    let xh = and_parts (is_signed_word (signed_saturated h)) (is_word (saturated s) && rest) xl.1 in
    let xs = and_parts (is_word (saturated s)) rest xh.1 in
    let lr = in_range 1 31 (saturated r) xr.0 in
    let ls = ltb-true (saturated s) (2 ^ 32) xs.0 in
    (refl, λ i. hex_back a pa.0 i ∷ saturated_text r n.0 (omega (arith, lr.1)) i ∷ signed_text l pl.0 xl.0 i ∷ signed_text h ph.0 xh.0 i ∷ saturated_text s n.1 (omega (arith, ls)) i ∷ []))
shown k.Words (a ∷ []) f = cc
shown _ _ f = tt

-- the row that is read of fields has their keyword and their text
pub print_read : (key : Keyword) (fs : List (List ℕ)) (r : Row) → is_formed key fs ≡ true → limited (row_of key fs) ≡ Some r → (keyword r ≡ key) × (values r ≡ fs) × (in_limits r ≡ true)
print_read key fs r f e = by_row (row_of key fs) (shown key fs f) e
  where
    by_limits : (x : Row) (t : Bool) → in_limits x ≡ t → Shown key fs x → cond t (Some x) None ≡ Some r → (keyword r ≡ key) × (values r ≡ fs) × (in_limits r ≡ true)
    by_limits x true t s i = let same : x ≡ r = cc in let h = s t in subst (λ y. (keyword y ≡ key) × (values y ≡ fs) × (in_limits y ≡ true)) same (h.0, h.1, t)
    by_limits x false t s i = cc

    by_row : (o : Option Row) → ShownMaybe key fs o → limited o ≡ Some r → (keyword r ≡ key) × (values r ≡ fs) × (in_limits r ≡ true)
    by_row None s i = cc
    by_row (Some x) s i = by_limits x (in_limits x) refl s i

-- a shape's fields
shape_again : (s : Option Shape) → is_shape_or_none s ≡ true → (is_shape_text (shape_values s) ≡ true) × (shape_of (shape_values s) ≡ Some s)
unfolding is_shape_text shape_of is_size
shape_again None low = (or_right (is_number (codes "none")) _ refl, refl)
shape_again (Some s) low =
    let m = shape_small s.sets s.ways s.line low in
    let a : s.sets < 2 ^ 64 = omega (arith, m.0) in
    let b : s.ways < 2 ^ 64 = omega (arith, m.1) in
    let c : s.line < 2 ^ 64 = omega (arith, m.2) in (
      and_from _ _ (or_left (is_number (decimal s.sets)) _ (number_formed s.sets a)) (and_from _ _ (number_formed s.ways b) (number_formed s.line c)),
      cond-true (is_number (decimal s.sets)) _ None (number_formed s.sets a) ∙ ap Some (ap Some (λ i. record { sets = saturated_again s.sets a i; ways = saturated_again s.ways b i; line = saturated_again s.line c i })),
    )

extent_formed : (a n : ℕ) → n < 2 ^ 64 → (is_hex (hex_text a) && is_number (decimal n)) ≡ true
extent_formed a n l = and_from _ _ (hex_formed a) (number_formed n l)

-- the fields of a row have the form, and say the row
pub read_print : (r : Row) → in_limits r ≡ true → (is_formed (keyword r) (values r) ≡ true) × (row_of (keyword r) (values r) ≡ Some r)
unfolding is_formed row_of in_limits entry_of
read_print row.Version low = (
  subst (λ v. is_number v ≡ true) (decimal_digit 1 (omega arith)) (number_formed 1 (omega arith)),
  ap (λ n. cond (nat_eq n 1) (Some row.Version) None) (ap saturated (sym (decimal_digit 1 (omega arith))) ∙ saturated_again 1 (omega arith)),
)
read_print (row.Order true) low = (refl, refl)
read_print (row.Order false) low = (refl, refl)
read_print (row.Core c) low =
    let x = and_parts (list_any (λ n. nat_eq c.width n) (1 ∷ 2 ∷ 4 ∷ [])) (is_in_range 8 128 c.rob && (is_in_range 1 32 c.mul && is_in_range 1 64 c.div)) low in
    let y = and_parts (is_in_range 8 128 c.rob) (is_in_range 1 32 c.mul && is_in_range 1 64 c.div) x.1 in
    let z = and_parts (is_in_range 1 32 c.mul) (is_in_range 1 64 c.div) y.1 in
    let la : c.width ≤ 4 = one_of c.width (1 ∷ 2 ∷ 4 ∷ []) 4 refl x.0 in
    let lb = in_range 8 128 c.rob y.0 in
    let lc = in_range 1 32 c.mul z.0 in
    let ld = in_range 1 64 c.div z.1 in
    let sa : c.width < 2 ^ 64 = omega arith in
    let sb : c.rob < 2 ^ 64 = omega (arith, lb.1) in
    let sc : c.mul < 2 ^ 64 = omega (arith, lc.1) in
    let sd : c.div < 2 ^ 64 = omega (arith, ld.1) in (
      and_from _ _ (number_formed c.width sa) (and_from _ _ (number_formed c.rob sb) (and_from _ _ (number_formed c.mul sc) (number_formed c.div sd))),
      ap Some (λ i. row.Core (record { width = saturated_again c.width sa i; rob = saturated_again c.rob sb i; mul = saturated_again c.mul sc i; div = saturated_again c.div sd i })),
    )
read_print (row.Memory m) low =
    let x = and_parts (is_in_range 1 (10 ^ 7) m.mem_ps) (is_in_range 1 (10 ^ 7) m.store_ps && (nat_le m.settle_ps (10 ^ 9) && nat_le m.start_ps (10 ^ 9))) low in
    let y = and_parts (is_in_range 1 (10 ^ 7) m.store_ps) (nat_le m.settle_ps (10 ^ 9) && nat_le m.start_ps (10 ^ 9)) x.1 in
    let z = and_parts (nat_le m.settle_ps (10 ^ 9)) (nat_le m.start_ps (10 ^ 9)) y.1 in
    let la = in_range 1 (10 ^ 7) m.mem_ps x.0 in
    let lb = in_range 1 (10 ^ 7) m.store_ps y.0 in
    let lc = leb-true m.settle_ps (10 ^ 9) z.0 in
    let ld = leb-true m.start_ps (10 ^ 9) z.1 in
    let sa : m.mem_ps < 2 ^ 64 = omega (arith, la.1) in
    let sb : m.store_ps < 2 ^ 64 = omega (arith, lb.1) in
    let sc : m.settle_ps < 2 ^ 64 = omega (arith, lc) in
    let sd : m.start_ps < 2 ^ 64 = omega (arith, ld) in (
      and_from _ _ (number_formed m.mem_ps sa) (and_from _ _ (number_formed m.store_ps sb) (and_from _ _ (number_formed m.settle_ps sc) (number_formed m.start_ps sd))),
      ap Some (λ i. row.Memory (record { mem_ps = saturated_again m.mem_ps sa i; store_ps = saturated_again m.store_ps sb i; settle_ps = saturated_again m.settle_ps sc i; start_ps = saturated_again m.start_ps sd i })),
    )
read_print (row.Icache s) low = let h = shape_again s low in (h.0, ap (option_map row.Icache) h.1)
read_print (row.Dcache s) low = let h = shape_again s low in (h.0, ap (option_map row.Dcache) h.1)
read_print (row.Point p) low =
    let l = in_range 100 (10 ^ 6) p low in
    let s : p < 2 ^ 64 = omega (arith, l.1) in
    (number_formed p s, ap Some (λ i. row.Point (saturated_again p s i)))
read_print (row.Time t) low =
    let x = and_parts (is_in_range 1 (10 ^ 12) t.period_ps) (is_in_range 1 t.period_ps t.deadline_ps) low in
    let lp = in_range 1 (10 ^ 12) t.period_ps x.0 in
    let ld = in_range 1 t.period_ps t.deadline_ps x.1 in
    let sp : t.period_ps < 2 ^ 64 = omega (arith, lp.1) in
    let sd : t.deadline_ps < 2 ^ 64 = omega (arith, lp.1, ld.1) in (
      and_from _ _ (number_formed t.period_ps sp) (number_formed t.deadline_ps sd),
      ap Some (λ i. row.Time (record { period_ps = saturated_again t.period_ps sp i; deadline_ps = saturated_again t.deadline_ps sd i })),
    )
read_print (row.Image n) low = ((and_parts (is_name n) (nat_le (length n) 255) low).0, refl)
read_print (row.Words w) low = words_read w.words w.start low
  where
    words_read : (ws : List ℕ) (a : ℕ) → in_limits (row.Words (record { start = a; words = ws })) ≡ true → (is_formed k.Words (hex_text a ∷ map hex_text ws) ≡ true) × (row_of k.Words (hex_text a ∷ map hex_text ws) ≡ Some (row.Words (record { start = a; words = ws })))
    words_read [] a e =
        let x = and_parts (nat_eq (a % 4) 0) (nat_le (a + 4 * 0) 0xffff_0000 && (is_in_range 1 64 0 && list_all is_word [])) e in
        let y = and_parts (nat_le (a + 4 * 0) 0xffff_0000) (is_in_range 1 64 0 && list_all is_word []) x.1 in
        let z = and_parts (is_in_range 1 64 0) (list_all is_word []) y.1 in
        let none = in_range 1 64 0 z.0 in
        absurd (omega (arith, none.0))
    words_read (v ∷ vs) a e =
        let x = and_parts (nat_eq (a % 4) 0) (nat_le (a + 4 * length (v ∷ vs)) 0xffff_0000 && (is_in_range 1 64 (length (v ∷ vs)) && list_all is_word (v ∷ vs))) e in
        let y = and_parts (nat_le (a + 4 * length (v ∷ vs)) 0xffff_0000) (is_in_range 1 64 (length (v ∷ vs)) && list_all is_word (v ∷ vs)) x.1 in
        let z = and_parts (is_in_range 1 64 (length (v ∷ vs))) (list_all is_word (v ∷ vs)) y.1 in
        let most = in_range 1 64 (length (v ∷ vs)) z.0 in
        let bound = leb-true (a + 4 * length (v ∷ vs)) 0xffff_0000 y.0 in
        let small : a < 2 ^ 32 = omega (arith, bound) in
        let short : nat_le (suc (length (map hex_text vs))) 64 ≡ true = le-leb _ 64 (omega (arith, length_words vs, most.1)) in (
          and_from _ _ (hex_formed a) (and_from _ _ short (words_formed (v ∷ vs))),
          ap Some (λ i. row.Words (record { start = hex_again a small i; words = words_again (v ∷ vs) z.1 i })),
        )
read_print (row.Entry None) low = (or_right (is_hex (codes "-")) _ refl, refl)
read_print (row.Entry (Some a)) low = (
  or_left (is_hex (hex_text a)) _ (hex_formed a),
  ap Some (ap row.Entry (cond-false (bytes_eq (hex_text a) (codes "-")) None (Some (hex (hex_text a))) (longer a) ∙ ap Some (hex_again a (ltb-true a (2 ^ 32) low)))),
)
  where
    longer : (n : ℕ) → bytes_eq (hex_text n) (codes "-") ≡ false
    longer n = not_dash (hex_text n) (hex_length (hex_text n) (hex_formed n))
      where
        not_dash : (x : List ℕ) → length x ≡ 8 → bytes_eq x (codes "-") ≡ false
        not_dash x l = by (bytes_eq x (codes "-")) refl
          where
            by : (t : Bool) → bytes_eq x (codes "-") ≡ t → bytes_eq x (codes "-") ≡ false
            by true t = let e : length x ≡ 1 = ap length (bytes_same x (codes "-") t) in absurd (omega arith)
            by false t = t
read_print (row.Stack a) low = (hex_formed a, ap Some (λ i. row.Stack (hex_again a (ltb-true a (2 ^ 32) low) i)))
read_print (row.Ram e) low =
    let x = and_parts (is_word e.start) (is_word e.len && (nat_le 1 e.len && nat_le (e.start + e.len) (2 ^ 32))) low in
    let y = and_parts (is_word e.len) (nat_le 1 e.len && nat_le (e.start + e.len) (2 ^ 32)) x.1 in
    let l = ltb-true e.len (2 ^ 32) y.0 in
    let s : e.len < 2 ^ 64 = omega (arith, l) in
    (extent_formed e.start e.len s, ap Some (λ i. row.Ram (record { start = hex_again e.start (ltb-true e.start (2 ^ 32) x.0) i; len = saturated_again e.len s i })))
read_print (row.Input e) low =
    let x = and_parts (is_word e.start) (nat_le e.len 65536 && nat_le (e.start + e.len) (2 ^ 32)) low in
    let y = and_parts (nat_le e.len 65536) (nat_le (e.start + e.len) (2 ^ 32)) x.1 in
    let l = leb-true e.len 65536 y.0 in
    let s : e.len < 2 ^ 64 = omega (arith, l) in
    (extent_formed e.start e.len s, ap Some (λ i. row.Input (record { start = hex_again e.start (ltb-true e.start (2 ^ 32) x.0) i; len = saturated_again e.len s i })))
read_print (row.Output n) low =
    let l = in_range 1 65536 n low in
    let s : n < 2 ^ 64 = omega (arith, l.1) in
    (number_formed n s, ap Some (λ i. row.Output (saturated_again n s i)))
read_print (row.Show e) low =
    let x = and_parts (is_word e.start) (is_in_range 1 256 e.len && nat_le (e.start + e.len) (2 ^ 32)) low in
    let y = and_parts (is_in_range 1 256 e.len) (nat_le (e.start + e.len) (2 ^ 32)) x.1 in
    let l = in_range 1 256 e.len y.0 in
    let s : e.len < 2 ^ 64 = omega (arith, l.1) in
    (extent_formed e.start e.len s, ap Some (λ i. row.Show (record { start = hex_again e.start (ltb-true e.start (2 ^ 32) x.0) i; len = saturated_again e.len s i })))
read_print (row.Cut a) low = (hex_formed a, ap Some (λ i. row.Cut (hex_again a (ltb-true a (2 ^ 32) low) i)))
read_print (row.Loop r) low =
    let xa = and_parts (is_word r.first) (is_word r.last && (is_word r.header && (is_word r.count && (nat_le 1 r.count && is_in_range 1 31 r.counter)))) low in
    let xb = and_parts (is_word r.last) (is_word r.header && (is_word r.count && (nat_le 1 r.count && is_in_range 1 31 r.counter))) xa.1 in
    let xc = and_parts (is_word r.header) (is_word r.count && (nat_le 1 r.count && is_in_range 1 31 r.counter)) xb.1 in
    let xn = and_parts (is_word r.count) (nat_le 1 r.count && is_in_range 1 31 r.counter) xc.1 in
    let xr = and_parts (nat_le 1 r.count) (is_in_range 1 31 r.counter) xn.1 in
    let ln = ltb-true r.count (2 ^ 32) xn.0 in
    let lr = in_range 1 31 r.counter xr.1 in
    let sn : r.count < 2 ^ 64 = omega (arith, ln) in
    let sr : r.counter < 2 ^ 64 = omega (arith, lr.1) in (
      and_from _ _ (hex_formed r.first) (and_from _ _ (hex_formed r.last) (and_from _ _ (hex_formed r.header) (and_from _ _ (number_formed r.count sn) (number_formed r.counter sr)))),
      ap Some (λ i. row.Loop (record { first = hex_again r.first (ltb-true r.first (2 ^ 32) xa.0) i; last = hex_again r.last (ltb-true r.last (2 ^ 32) xb.0) i; header = hex_again r.header (ltb-true r.header (2 ^ 32) xc.0) i; count = saturated_again r.count sn i; counter = saturated_again r.counter sr i })),
    )
read_print (row.Fact f) low =
    let rest = is_strided f.lo f.hi f.stride in
    let xa = and_parts (is_word f.at) (is_in_range 1 31 f.register && (is_signed_word f.lo && (is_signed_word f.hi && (is_word f.stride && rest)))) low in
    let xr = and_parts (is_in_range 1 31 f.register) (is_signed_word f.lo && (is_signed_word f.hi && (is_word f.stride && rest))) xa.1 in
    let xl = and_parts (is_signed_word f.lo) (is_signed_word f.hi && (is_word f.stride && rest)) xr.1 in
    let xh = and_parts (is_signed_word f.hi) (is_word f.stride && rest) xl.1 in
    let xs = and_parts (is_word f.stride) rest xh.1 in
    let lr = in_range 1 31 f.register xr.0 in
    let ls = ltb-true f.stride (2 ^ 32) xs.0 in
    let sr : f.register < 2 ^ 64 = omega (arith, lr.1) in
    let ss : f.stride < 2 ^ 64 = omega (arith, ls) in (
      and_from _ _ (hex_formed f.at) (and_from _ _ (signed_of_number (decimal f.register) (number_formed f.register sr)) (and_from _ _ (signed_formed f.lo xl.0) (and_from _ _ (signed_formed f.hi xh.0) (signed_of_number (decimal f.stride) (number_formed f.stride ss))))),
      cond-true (is_number (decimal f.register) && is_number (decimal f.stride)) _ None (and_from _ _ (number_formed f.register sr) (number_formed f.stride ss))
          ∙ ap Some (λ i. row.Fact (record { at = hex_again f.at (ltb-true f.at (2 ^ 32) xa.0) i; register = saturated_again f.register sr i; lo = signed_again f.lo xl.0 i; hi = signed_again f.hi xh.0 i; stride = saturated_again f.stride ss i })),
    )
