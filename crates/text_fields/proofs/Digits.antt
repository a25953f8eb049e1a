-- Numbers are read back from their texts, and their texts from the numbers.
use Rattle.std.proofs.lemmas.List.{take_all}
use Rattle.std.proofs.lemmas.Bool.{cond-true, cond-false}
use Rattle.std.proofs.Common.{div-one, ltb-true, min, Some, None, rules, add-suc, add-zero, add-one, pow-suc, ◌≡◌, ℕ, zero, suc, Bool, true, false, cond, not, ◌&&◌, nat_eq, nat_lt, List, [], ◌∷◌, length, take, get_or, ℤ, pos, negsuc, neg_ℤ, ◌+◌, ◌-◌, ◌*◌, ◌/◌, ◌%◌, ◌^◌, ◌<◌, ◌≤◌, refl, sym, ap, ◌∙◌, subst, arith, decimal, eqb-true, ne_eqb, eq-eqb, ap₂}
use Rattle.std.specs.Fmt.{signed_decimal}
use Rattle.std.specs.List.{list_all}
use Rattle.std.specs.Char.{digit_char, digit_value, is_ascii_digit}
use Rattle.std.specs.Str.Parse.{digits_value, digits_value_after}
use Rattle.std.proofs.lemmas.Str.Parse.{IsNumeralModel, IsDigitsTest, numerals_by_value, digit_at}
use Rattle.std.proofs.lemmas.Int.Digits.{digits_value_more}
use Rattle.std.proofs.lemmas.List.Folds.{list_all_more}
use Rattle.std.proofs.lemmas.Fmt.{decimal-digits_value, digits_decimal, digits_value-decimal, first_decimal, decimal_nonempty, decimal_digit}
use Rattle.std.proofs.lemmas.Bool.Decides.{nat_tests}
use Rattle.text_fields.specs.Numbers.{is_number, number, has_no_zero_in_front, saturated, is_signed_number, signed_saturated, is_signed_word, is_hex, hex, hex_text, hex_digit, is_hex_digit}

-- both parts of a test that passes
pub and_parts : (a b : Bool) → (a && b) ≡ true → (a ≡ true) × (b ≡ true)
and_parts true b e = (refl, e)
and_parts false b e = cc

pub and_from : (a b : Bool) → a ≡ true → b ≡ true → (a && b) ≡ true
and_from true b p q = q
and_from false b p q = cc

-- std's lemmas speak of our digits
pub tells : IsDigitsTest (λ ds. list_all is_ascii_digit ds ≡ true)
tells = Prim.search rules

pub own : IsNumeralModel (λ ds. list_all is_ascii_digit ds ≡ true) (digits_value 10)
own = numerals_by_value _ tells

-- a number in the range of std's lemmas is written as it stood
pub number_text : (f : List ℕ) → is_number f ≡ true → number f < 2 ^ 64 → decimal (number f) ≡ f
unfolding is_number number
number_text f e small = let k = and_parts _ _ e in decimal-digits_value own f k.0 (filled f k.1) (alone f k.1) small
  where
    filled : (g : List ℕ) → has_no_zero_in_front g ≡ true → 0 < length g
    filled [] h = cc
    filled (c ∷ cs) h = omega arith

    alone : (g : List ℕ) → has_no_zero_in_front g ≡ true → get_or g 0 0 ≡ 48 → length g ≡ 1
    alone [] h z = cc
    alone (c ∷ []) h z = refl
    alone (c ∷ d ∷ ds) h z = absurd (grind (arith, nat_tests))

-- the text of a number is canonical
pub number_formed : (n : ℕ) → n < 2 ^ 64 → is_number (decimal n) ≡ true
unfolding is_number
number_formed n small = and_from _ _ (digits_decimal own n small) (by_zero (nat_eq n 0) refl)
  where
    short : (ds : List ℕ) → 0 < length ds → 48 < get_or ds 0 0 → has_no_zero_in_front ds ≡ true
    short [] l h = absurd (omega arith)
    short (c ∷ []) l h = refl
    short (c ∷ d ∷ ds) l h = grind (arith, nat_tests)

    by_zero : (t : Bool) → nat_eq n 0 ≡ t → has_no_zero_in_front (decimal n) ≡ true
    by_zero true e = let z : n ≡ 0 = eqb-true n 0 e in subst (λ m. has_no_zero_in_front (decimal m) ≡ true) (sym z) (rw (decimal_digit 0 (omega arith)))
    by_zero false e = short (decimal n) (decimal_nonempty n small) (first_decimal n (grind (arith, nat_tests)) small)

-- and writes it
pub number_again : (n : ℕ) → n < 2 ^ 64 → number (decimal n) ≡ n
unfolding number
number_again n small = digits_value-decimal own n small

-- every digit of a number
pub digit_range : (f : List ℕ) (i : ℕ) → is_number f ≡ true → i < length f → (48 ≤ get_or f i 0) × (get_or f i 0 ≤ 57)
unfolding is_number
digit_range f i e h = digit_at f i (own.to f (and_parts _ _ e).0) h

-- digits read one by one, none of them counted beyond a cap
pub digit_worth : (c : ℕ) → is_ascii_digit c ≡ true → (48 ≤ c) × (digit_value c ≡ c - 48)
digit_worth c e = (grind (arith, nat_tests), grind (arith, nat_tests))

pub capped_more : (f : List ℕ) (i sum cap : ℕ) → i < length f → is_ascii_digit (get_or f i 0) ≡ true → sum ≡ min (digits_value 10 (take i f)) cap
    → min (sum * 10 + (get_or f i 0 - 48)) cap ≡ min (digits_value 10 (take (i + 1) f)) cap
capped_more f i sum cap h digit is =
    let more = digits_value_more 10 f i h in
    let worth = (digit_worth (get_or f i 0) digit).1 in
    omega (arith, more, worth, is)

pub capped_whole : (f : List ℕ) (i sum cap : ℕ) → length f ≤ i → list_all is_ascii_digit (take i f) ≡ true → sum ≡ min (digits_value 10 (take i f)) cap
    → Some sum ≡ cond (list_all is_ascii_digit f) (Some (min (digits_value 10 f) cap)) None
capped_whole f i sum cap end digits is =
    let whole = take_all i f end in
    ap Some (is ∙ ap (λ g. min (digits_value 10 g) cap) whole) ∙ sym (cond-true _ _ _ (ap (list_all is_ascii_digit) (sym whole) ∙ digits))

-- each test of the first elements, and the next one's
pub all_more : (p : ℕ → Bool) (xs : List ℕ) (i : ℕ) → i < length xs → list_all p (take i xs) ≡ true → p (get_or xs i 0) ≡ true → list_all p (take (i + 1) xs) ≡ true
all_more p xs i h before it = list_all_more p xs i 0 h ∙ and_from _ _ before it

pub hex_length : (f : List ℕ) → is_hex f ≡ true → length f ≡ 8
unfolding is_hex
hex_length f e = eqb-true _ _ (and_parts _ _ e).0

pub hex_value_low : (c : ℕ) → is_hex_digit c ≡ true → digit_value c < 16
hex_value_low c e = grind (arith, nat_tests)

-- one hexadecimal digit more
pub hex_more : (f : List ℕ) (i n : ℕ) → i < length f → n ≡ digits_value 16 (take i f) → n * 16 + digit_value (get_or f i 0) ≡ digits_value 16 (take (i + 1) f)
hex_more f i n h is = ap (λ m. m * 16 + digit_value (get_or f i 0)) is ∙ sym (digits_value_more 16 f i h)

pub hex_whole : (f : List ℕ) (i n : ℕ) → length f ≤ i → list_all is_hex_digit (take i f) ≡ true → n ≡ digits_value 16 (take i f)
    → Some n ≡ cond (list_all is_hex_digit f) (Some (digits_value 16 f)) None
hex_whole f i n end digits is =
    let whole = take_all i f end in
    ap Some (is ∙ ap (digits_value 16) whole) ∙ sym (cond-true _ _ _ (ap (list_all is_hex_digit) (sym whole) ∙ digits))

-- room for one hexadecimal digit more
pub sixteen_more : (n i d : ℕ) → n < 16 ^ i → d < 16 → n * 16 + d < 16 ^ (i + 1)
sixteen_more n i d h l = let e : 16 ^ (i + 1) ≡ 16 ^ i * 16 = rw (add-one, pow-suc) in omega arith

sixteen_up : (i k : ℕ) → 16 ^ i ≤ 16 ^ (i + k)
sixteen_up i zero = rw add-zero (omega arith)
sixteen_up i (suc k) = let e : 16 ^ (i + suc k) ≡ 16 ^ (i + k) * 16 = rw (add-suc, pow-suc) in let h = sixteen_up i k in omega arith

pub sixteen_room : (n i : ℕ) → i < 8 → n < 16 ^ i → n < 16 ^ 7
sixteen_room n i l h = let e : i + (7 - i) ≡ 7 = omega arith in let p = subst (λ k. 16 ^ i ≤ 16 ^ k) e (sixteen_up i (7 - i)) in omega arith

-- a number that isn't saturated is the number itself
pub saturated_low : (f : List ℕ) → saturated f < 2 ^ 64 - 1 → saturated f ≡ number f
unfolding saturated
saturated_low f low = omega arith

pub saturated_text : (f : List ℕ) → is_number f ≡ true → saturated f < 2 ^ 64 - 1 → decimal (saturated f) ≡ f
saturated_text f e low = let same = saturated_low f low in ap decimal same ∙ number_text f e (omega (arith, same))

pub saturated_again : (n : ℕ) → n < 2 ^ 64 → saturated (decimal n) ≡ n
unfolding saturated
saturated_again n small = let same = number_again n small in omega (arith, same)

pub saturated_zero : (f : List ℕ) → nat_eq (saturated f) 0 ≡ nat_eq (number f) 0
unfolding saturated
saturated_zero f = grind (arith, nat_tests)

-- what was read of a number: whether it is one, and its value
pub number_is : {X : Type 0} (t : Bool) (x y : X) → Some x ≡ cond t (Some y) None → (t ≡ true) × (x ≡ y)
number_is true x y e = (refl, cc)
number_is false x y e = cc

-- a number below zero, of the digits behind its sign
pub below_none : (f : List ℕ) (n : ℕ) → Some n ≡ cond (is_number f) (Some (saturated f)) None → n ≡ 0
    → None ≡ cond (is_number f && not (nat_eq (number f) 0)) (Some (neg_ℤ (pos (saturated f)))) None
below_none f n e is =
    let read = number_is (is_number f) n (saturated f) e in
    let same : nat_eq (number f) 0 ≡ true = sym (saturated_zero f) ∙ eq-eqb (saturated f) 0 (sym read.1 ∙ is) in
    sym (cond-false _ _ _ (ap₂ (λ a b. a && not b) read.0 same))

pub below_found : (f : List ℕ) (n : ℕ) → Some n ≡ cond (is_number f) (Some (saturated f)) None → (n ≡ 0 → ⊥) → (z : ℤ) → z ≡ neg_ℤ (pos n)
    → Some z ≡ cond (is_number f && not (nat_eq (number f) 0)) (Some (neg_ℤ (pos (saturated f)))) None
below_found f n e some z is =
    let read = number_is (is_number f) n (saturated f) e in
    let other : nat_eq (number f) 0 ≡ false = sym (saturated_zero f) ∙ ap (λ m. nat_eq m 0) (sym read.1) ∙ ne_eqb n 0 some in
    ap Some (is ∙ ap (λ m. neg_ℤ (pos m)) read.1) ∙ sym (cond-true _ _ _ (ap₂ (λ a b. a && not b) read.0 other))

-- no bytes are no number
no_number : is_number [] ≡ true → ⊥
unfolding is_number
no_number e = cc

-- a number is a number with a sign that may lack
pub signed_of_number : (f : List ℕ) → is_number f ≡ true → is_signed_number f ≡ true
unfolding is_signed_number
signed_of_number [] e = absurd (no_number e)
signed_of_number (c ∷ cs) e = let r = digit_range (c ∷ cs) 0 e (omega arith) in cond-false (nat_eq c 45) _ _ (ne_eqb c 45 (omega (arith, r.0))) ∙ e

-- the text of a signed word is of the form
pub signed_formed : (z : ℤ) → is_signed_word z ≡ true → is_signed_number (signed_decimal z) ≡ true
unfolding is_signed_number is_signed_word
signed_formed (pos n) low = signed_of_number (decimal n) (number_formed n (let h : n < 2 ^ 31 = ltb-true n (2 ^ 31) low in omega arith))
signed_formed (negsuc n) low =
    let h : n < 2 ^ 31 = ltb-true n (2 ^ 31) low in
    and_from _ _ (number_formed (suc n) (omega arith)) (ap not (ap (λ m. nat_eq m 0) (number_again (suc n) (omega arith)) ∙ ne_eqb (suc n) 0 (omega arith)))

-- and writes it
pub signed_again : (z : ℤ) → is_signed_word z ≡ true → signed_saturated (signed_decimal z) ≡ z
unfolding signed_saturated is_signed_word
signed_again (pos n) low = first (decimal n) (number_formed n small) ∙ ap pos (saturated_again n small)
  where
    small : n < 2 ^ 64
    small = let h : n < 2 ^ 31 = ltb-true n (2 ^ 31) low in omega arith

    first : (ds : List ℕ) → is_number ds ≡ true → signed_saturated ds ≡ pos (saturated ds)
    first [] e = absurd (no_number e)
    first (c ∷ cs) e = let r = digit_range (c ∷ cs) 0 e (omega arith) in cond-false (nat_eq c 45) _ _ (ne_eqb c 45 (omega (arith, r.0)))
signed_again (negsuc n) low =
    let h : n < 2 ^ 31 = ltb-true n (2 ^ 31) low in
    ap (λ m. neg_ℤ (pos m)) (saturated_again (suc n) (omega arith))

-- a signed number in range is written as it stood
pub signed_text : (f : List ℕ) → is_signed_number f ≡ true → is_signed_word (signed_saturated f) ≡ true → signed_decimal (signed_saturated f) ≡ f
unfolding is_signed_number signed_saturated is_signed_word
signed_text [] e low = cc
signed_text (c ∷ cs) e low = by_sign (nat_eq c 45) refl
  where
    below : (m : ℕ) → is_signed_word (neg_ℤ (pos m)) ≡ true → (m < 2 ^ 64 - 1) × ((nat_eq m 0 ≡ false) → signed_decimal (neg_ℤ (pos m)) ≡ 45 ∷ decimal m)
    below zero l = (omega arith, λ h. cc)
    below (suc m) l = let h : m < 2 ^ 31 = ltb-true m (2 ^ 31) l in (omega arith, λ n. refl)

    not_zero : (t : Bool) → not t ≡ true → t ≡ false
    not_zero true h = cc
    not_zero false h = refl

    by_sign : (t : Bool) → nat_eq c 45 ≡ t → signed_decimal (cond (nat_eq c 45) (neg_ℤ (pos (saturated cs))) (pos (saturated (c ∷ cs)))) ≡ c ∷ cs
    by_sign true is =
        let form : (is_number cs && not (nat_eq (number cs) 0)) ≡ true = sym (cond-true (nat_eq c 45) _ (is_number (c ∷ cs)) is) ∙ e in
        let parts = and_parts (is_number cs) _ form in
        let value : cond (nat_eq c 45) (neg_ℤ (pos (saturated cs))) (pos (saturated (c ∷ cs))) ≡ neg_ℤ (pos (saturated cs)) = cond-true _ _ _ is in
        let word : is_signed_word (neg_ℤ (pos (saturated cs))) ≡ true = ap is_signed_word (sym value) ∙ low in
        let b = below (saturated cs) word in
        ap signed_decimal value ∙ b.1 (saturated_zero cs ∙ not_zero _ parts.1) ∙ ap (λ ds. 45 ∷ ds) (saturated_text cs parts.0 b.0) ∙ ap (λ d. d ∷ cs) (sym (eqb-true c 45 is))
    by_sign false is =
        let form : is_number (c ∷ cs) ≡ true = sym (cond-false (nat_eq c 45) (is_number cs && not (nat_eq (number cs) 0)) _ is) ∙ e in
        let value : cond (nat_eq c 45) (neg_ℤ (pos (saturated cs))) (pos (saturated (c ∷ cs))) ≡ pos (saturated (c ∷ cs)) = cond-false _ _ _ is in
        let low2 : nat_lt (saturated (c ∷ cs)) (2 ^ 31) ≡ true = ap is_signed_word (sym value) ∙ low in
        let h : saturated (c ∷ cs) < 2 ^ 31 = ltb-true _ _ low2 in
        ap signed_decimal value ∙ saturated_text (c ∷ cs) form (omega arith)

-- one hexadecimal digit, written and read
pub digit_text : (n : ℕ) → n < 16 → is_hex_digit (digit_char n) ≡ true
digit_text n h = grind (arith, nat_tests)

pub digit_again : (n : ℕ) → n < 16 → digit_value (digit_char n) ≡ n
digit_again n h = grind (arith, nat_tests)

pub digit_back : (c : ℕ) → is_hex_digit c ≡ true → digit_char (digit_value c) ≡ c
digit_back c h = grind (arith, nat_tests)

-- the text of a word is of the form
pub hex_formed : (n : ℕ) → is_hex (hex_text n) ≡ true
unfolding is_hex hex_text
hex_formed n = each (n / 16 ^ 7) (each (n / 16 ^ 6) (each (n / 16 ^ 5) (each (n / 16 ^ 4) (each (n / 16 ^ 3) (each (n / 16 ^ 2) (each (n / 16) (each (n / 1) refl)))))))
  where
    each : (q : ℕ) {b : Bool} → b ≡ true → (is_hex_digit (digit_char (q % 16)) && b) ≡ true
    each q e = and_from _ _ (digit_text (q % 16) (omega arith)) e

-- one digit more, of a number whose front is read
telescope : (s q : ℕ) (cs : List ℕ) → s ≡ q / 16 → digits_value_after 16 s (digit_char (q % 16) ∷ cs) ≡ digits_value_after 16 q cs
telescope s q cs e =
    ap (λ d. digits_value_after 16 (s * 16 + d) cs) (digit_again (q % 16) (omega arith))
    ∙ ap (λ m. digits_value_after 16 m cs) (let h : s * 16 + q % 16 ≡ q = omega arith in h)

-- and writes it
pub hex_again : (n : ℕ) → n < 2 ^ 32 → hex (hex_text n) ≡ n
unfolding hex hex_text
hex_again n small =
    let t1 : List ℕ = hex_digit n 1 ∷ [] in
    let t2 : List ℕ = hex_digit n 16 ∷ t1 in
    let t3 : List ℕ = hex_digit n (16 ^ 2) ∷ t2 in
    let t4 : List ℕ = hex_digit n (16 ^ 3) ∷ t3 in
    let t5 : List ℕ = hex_digit n (16 ^ 4) ∷ t4 in
    let t6 : List ℕ = hex_digit n (16 ^ 5) ∷ t5 in
    let t7 : List ℕ = hex_digit n (16 ^ 6) ∷ t6 in
    telescope 0 (n / 16 ^ 7) t7 (omega arith)
    ∙ telescope (n / 16 ^ 7) (n / 16 ^ 6) t6 (omega arith)
    ∙ telescope (n / 16 ^ 6) (n / 16 ^ 5) t5 (omega arith)
    ∙ telescope (n / 16 ^ 5) (n / 16 ^ 4) t4 (omega arith)
    ∙ telescope (n / 16 ^ 4) (n / 16 ^ 3) t3 (omega arith)
    ∙ telescope (n / 16 ^ 3) (n / 16 ^ 2) t2 (omega arith)
    ∙ telescope (n / 16 ^ 2) (n / 16) t1 (omega arith)
    ∙ telescope (n / 16) (n / 1) [] (omega arith)
    ∙ div-one n

-- the number of eight digits, digit by digit
abbrev eight_value : ℕ → ℕ → ℕ → ℕ → ℕ → ℕ → ℕ → ℕ → ℕ
eight_value a b c d e f g h = (((((((0 * 16 + a) * 16 + b) * 16 + c) * 16 + d) * 16 + e) * 16 + f) * 16 + g) * 16 + h

module _ (a b c d e f g h : ℕ) (la : a < 16) (lb : b < 16) (lc : c < 16) (ld : d < 16) (le : e < 16) (lf : f < 16) (lg : g < 16) (lh : h < 16) where
  place_a : eight_value a b c d e f g h / 16 ^ 7 % 16 ≡ a
  place_a = omega arith

  place_b : eight_value a b c d e f g h / 16 ^ 6 % 16 ≡ b
  place_b = omega arith

  place_c : eight_value a b c d e f g h / 16 ^ 5 % 16 ≡ c
  place_c = omega arith

  place_d : eight_value a b c d e f g h / 16 ^ 4 % 16 ≡ d
  place_d = omega arith

  place_e : eight_value a b c d e f g h / 16 ^ 3 % 16 ≡ e
  place_e = omega arith

  place_f : eight_value a b c d e f g h / 16 ^ 2 % 16 ≡ f
  place_f = omega arith

  place_g : eight_value a b c d e f g h / 16 % 16 ≡ g
  place_g = omega arith

  place_h : eight_value a b c d e f g h / 1 % 16 ≡ h
  place_h = omega arith

  eight_small : eight_value a b c d e f g h < 2 ^ 32
  eight_small = omega arith

-- eight digits are written as they stood
eight : (x : List ℕ) → length x ≡ 8 → list_all is_hex_digit x ≡ true → (hex_text (digits_value 16 x) ≡ x) × (digits_value 16 x < 2 ^ 32)
unfolding hex_text
eight (a ∷ b ∷ c ∷ d ∷ e ∷ f ∷ g ∷ h ∷ []) l all =
    let pa = and_parts (is_hex_digit a) _ all in
    let pb = and_parts (is_hex_digit b) _ pa.1 in
    let pc = and_parts (is_hex_digit c) _ pb.1 in
    let pd = and_parts (is_hex_digit d) _ pc.1 in
    let pe = and_parts (is_hex_digit e) _ pd.1 in
    let pf = and_parts (is_hex_digit f) _ pe.1 in
    let pg = and_parts (is_hex_digit g) _ pf.1 in
    let ph = and_parts (is_hex_digit h) _ pg.1 in
    by (hex_value_low a pa.0) (hex_value_low b pb.0) (hex_value_low c pc.0) (hex_value_low d pd.0) (hex_value_low e pe.0) (hex_value_low f pf.0) (hex_value_low g pg.0) (hex_value_low h ph.0) (digit_back a pa.0) (digit_back b pb.0) (digit_back c pc.0) (digit_back d pd.0) (digit_back e pe.0) (digit_back f pf.0) (digit_back g pg.0) (digit_back h ph.0)
  where
    by : digit_value a < 16 → digit_value b < 16 → digit_value c < 16 → digit_value d < 16 → digit_value e < 16 → digit_value f < 16 → digit_value g < 16 → digit_value h < 16 → digit_char (digit_value a) ≡ a → digit_char (digit_value b) ≡ b → digit_char (digit_value c) ≡ c → digit_char (digit_value d) ≡ d → digit_char (digit_value e) ≡ e → digit_char (digit_value f) ≡ f → digit_char (digit_value g) ≡ g → digit_char (digit_value h) ≡ h → (hex_text (digits_value 16 (a ∷ b ∷ c ∷ d ∷ e ∷ f ∷ g ∷ h ∷ [])) ≡ a ∷ b ∷ c ∷ d ∷ e ∷ f ∷ g ∷ h ∷ []) × (digits_value 16 (a ∷ b ∷ c ∷ d ∷ e ∷ f ∷ g ∷ h ∷ []) < 2 ^ 32)
    by la lb lc ld le lf lg lh ba bb bc bd be bf bg bh =
        let xa = ap digit_char (place_a _ _ _ _ _ _ _ _ la lb lc ld le lf lg lh) ∙ ba in
        let xb = ap digit_char (place_b _ _ _ _ _ _ _ _ la lb lc ld le lf lg lh) ∙ bb in
        let xc = ap digit_char (place_c _ _ _ _ _ _ _ _ la lb lc ld le lf lg lh) ∙ bc in
        let xd = ap digit_char (place_d _ _ _ _ _ _ _ _ la lb lc ld le lf lg lh) ∙ bd in
        let xe = ap digit_char (place_e _ _ _ _ _ _ _ _ la lb lc ld le lf lg lh) ∙ be in
        let xf = ap digit_char (place_f _ _ _ _ _ _ _ _ la lb lc ld le lf lg lh) ∙ bf in
        let xg = ap digit_char (place_g _ _ _ _ _ _ _ _ la lb lc ld le lf lg lh) ∙ bg in
        let xh = ap digit_char (place_h _ _ _ _ _ _ _ _ la lb lc ld le lf lg lh) ∙ bh in
        (λ i. xa i ∷ xb i ∷ xc i ∷ xd i ∷ xe i ∷ xf i ∷ xg i ∷ xh i ∷ [], eight_small (digit_value a) (digit_value b) (digit_value c) (digit_value d) (digit_value e) (digit_value f) (digit_value g) (digit_value h) la lb lc ld le lf lg lh)
eight x l all = absurd (omega arith)

pub hex_number_text : (f : List ℕ) → is_hex f ≡ true → (hex_text (hex f) ≡ f) × (hex f < 2 ^ 32)
unfolding is_hex hex
hex_number_text f e = eight f (hex_length f e) (and_parts _ _ e).1
