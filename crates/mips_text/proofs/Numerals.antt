-- Canonical decimals, digit by digit.
use Rattle.std.proofs.Common.{◌≡◌, refl, sym, ap, ◌∙◌, subst, ℕ, zero, suc, ◌+◌, ◌-◌, ◌*◌, ◌^◌, ◌≤◌, ◌<◌, Bool, true, false, not, nat_eq, List, [], ◌∷◌, ◌++◌, append-nil, decimal, arith, inl, inr, eqb-true}
use Rattle.std.specs.Char.{digit_value, is_ascii_digit}
use Rattle.std.specs.List.{list_all}
use Rattle.std.specs.Str.Parse.{digits_value, digits_value_after}
use Rattle.std.proofs.lemmas.Bool.Decides.{nat_tests}
use Rattle.std.proofs.lemmas.Fmt.{decimal_digit, decimal_injective}
use Rattle.std.proofs.lemmas.Int.Digits.{digits_value_push}
use Rattle.text_fields.specs.Numbers.{is_number, number, has_no_zero_in_front}
use Rattle.text_fields.proofs.Digits.{and_from, and_parts, digit_worth, number_again, number_formed, number_text}
use Rattle.mips_text.specs.Forms.{HasNoDigitFirst, IsLongest}
use Rattle.mips_text.proofs.FaultLaws.{levi}

-- the value of a digit
pub digit_is : (c : ℕ) → is_ascii_digit c ≡ true → (48 ≤ c) × (c ≤ 57)
digit_is c e = (grind (arith, nat_tests), grind (arith, nat_tests))

all_digits : (n : ℕ) → n < 2 ^ 64 → list_all is_ascii_digit (decimal n) ≡ true
unfolding is_number
all_digits n small = (and_parts _ _ (number_formed n small)).0

not_padded : (n : ℕ) → n < 2 ^ 64 → has_no_zero_in_front (decimal n) ≡ true
unfolding is_number
not_padded n small = (and_parts _ _ (number_formed n small)).1

value_again : (n : ℕ) → n < 2 ^ 64 → digits_value 10 (decimal n) ≡ n
unfolding number
value_again n small = number_again n small

-- a byte among digits
digit_among : (f g : List ℕ) (c : ℕ) → list_all is_ascii_digit (f ++ c ∷ g) ≡ true → is_ascii_digit c ≡ true
digit_among [] g c e = (and_parts (is_ascii_digit c) _ e).0
digit_among (x ∷ f) g c e = digit_among f g c (and_parts (is_ascii_digit x) _ e).1

-- digits more are worth more
after_more : (n : ℕ) (f g : List ℕ) → digits_value_after 10 n (f ++ g) ≡ digits_value_after 10 (digits_value_after 10 n f) g
after_more n [] g = refl
after_more n (c ∷ f) g = after_more (n * 10 + digit_value c) f g

after_le : (n : ℕ) (g : List ℕ) → n ≤ digits_value_after 10 n g
after_le n [] = omega arith
after_le n (c ∷ g) = omega (arith, after_le (n * 10 + digit_value c) g)

not_zero : (v c : ℕ) (more : List ℕ) → has_no_zero_in_front (decimal v ++ c ∷ more) ≡ true → 0 < v
not_zero zero c more e = let h : has_no_zero_in_front (48 ∷ c ∷ more) ≡ true = subst (λ q. has_no_zero_in_front (q ++ c ∷ more) ≡ true) (decimal_digit 0 (omega arith)) e in cc
not_zero (suc v) c more e = omega arith

-- the number of a text that goes on with a byte
pub record Goes (v c w : ℕ) : Type 0 where
  pub digit : is_ascii_digit c ≡ true
  pub positive : 0 < v
  pub more : v * 10 + (c - 48) ≤ w

pub goes_on : (v w c : ℕ) (more : List ℕ) → v < 2 ^ 64 → w < 2 ^ 64 → decimal w ≡ decimal v ++ c ∷ more → Goes v c w
goes_on v w c more sv sw e =
    let digit : is_ascii_digit c ≡ true = digit_among (decimal v) more c (subst (λ q. list_all is_ascii_digit q ≡ true) e (all_digits w sw)) in
    let worth : w ≡ digits_value_after 10 (digits_value 10 (decimal v) * 10 + digit_value c) more = sym (value_again w sw) ∙ ap (digits_value 10) e ∙ after_more 0 (decimal v) (c ∷ more) in
    let front : digits_value 10 (decimal v) * 10 + digit_value c ≡ v * 10 + (c - 48) = ap (λ n. n * 10 + digit_value c) (value_again v sv) ∙ ap (λ n. v * 10 + n) ((digit_worth c digit).1) in
    record {
      digit = digit;
      positive = not_zero v c more (subst (λ q. has_no_zero_in_front q ≡ true) e (not_padded w sw));
      more = omega (arith, worth, front, after_le (digits_value 10 (decimal v) * 10 + digit_value c) more);
    }

-- a digit more behind a number that isn't 0
pub digit_more : (v c : ℕ) → 0 < v → v * 10 + (c - 48) < 2 ^ 64 → is_ascii_digit c ≡ true → decimal (v * 10 + (c - 48)) ≡ decimal v ++ c ∷ []
unfolding is_number number
digit_more v c positive small digit =
    let sv : v < 2 ^ 64 = omega arith in
    let worth : number (decimal v ++ c ∷ []) ≡ v * 10 + (c - 48) = digits_value_push 10 (decimal v) c ∙ ap (λ n. n * 10 + digit_value c) (value_again v sv) ∙ ap (λ n. v * 10 + n) ((digit_worth c digit).1) in
    let formed : is_number (decimal v ++ c ∷ []) ≡ true = and_from _ _ (all_more (decimal v) (all_digits v sv)) (front_more (decimal v) refl (not_padded v sv)) in
    ap decimal (sym worth) ∙ number_text (decimal v ++ c ∷ []) formed (omega (arith, worth))
  where
    all_more : (f : List ℕ) → list_all is_ascii_digit f ≡ true → list_all is_ascii_digit (f ++ c ∷ []) ≡ true
    all_more [] e = and_from (is_ascii_digit c) true digit refl
    all_more (x ∷ f) e = let p = and_parts (is_ascii_digit x) _ e in and_from (is_ascii_digit x) _ p.0 (all_more f p.1)

    front_more : (f : List ℕ) → decimal v ≡ f → has_no_zero_in_front f ≡ true → has_no_zero_in_front (f ++ c ∷ []) ≡ true
    front_more [] is e = cc
    front_more (x ∷ []) is e = by (nat_eq x 48) refl
      where
        by : (t : Bool) → nat_eq x 48 ≡ t → not (nat_eq x 48) ≡ true
        by true z = absurd (let w : v ≡ 0 = sym (value_again v (omega arith)) ∙ ap (digits_value 10) (is ∙ ap (λ q. q ∷ []) (eqb-true x 48 z)) in omega arith)
        by false z = ap not z
    front_more (x ∷ y ∷ f) is e = e

-- the first digit of a number
pub record StartsNumber (c w : ℕ) : Type 0 where
  pub digit : is_ascii_digit c ≡ true
  pub least : c - 48 ≤ w
  pub zero_alone : c ≡ 48 → w ≡ 0

pub starts : (w c : ℕ) (more : List ℕ) → w < 2 ^ 64 → decimal w ≡ c ∷ more → StartsNumber c w
starts w c more sw e =
    let digit : is_ascii_digit c ≡ true = digit_among [] more c (subst (λ q. list_all is_ascii_digit q ≡ true) e (all_digits w sw)) in
    let worth : w ≡ digits_value_after 10 (0 * 10 + digit_value c) more = sym (value_again w sw) ∙ ap (digits_value 10) e in
    record {
      digit = digit;
      least = omega (arith, worth, (digit_worth c digit).1, after_le (0 * 10 + digit_value c) more);
      zero_alone = λ z. alone more (subst (λ q. has_no_zero_in_front q ≡ true) e (not_padded w sw)) e z;
    }
  where
    alone : (m : List ℕ) → has_no_zero_in_front (c ∷ m) ≡ true → decimal w ≡ c ∷ m → c ≡ 48 → w ≡ 0
    alone [] h is z = sym (value_again w sw) ∙ ap (digits_value 10) (is ∙ ap (λ q. q ∷ []) z)
    alone (d ∷ m) h is z = absurd (let k : has_no_zero_in_front (48 ∷ d ∷ m) ≡ true = subst (λ q. has_no_zero_in_front (q ∷ d ∷ m) ≡ true) z h in cc)

-- where no digit follows, the number and what follows are determined
pub number_same : (v w : ℕ) (r s : List ℕ) → v < 2 ^ 64 → w < 2 ^ 64 → HasNoDigitFirst r → HasNoDigitFirst s → decimal v ++ r ≡ decimal w ++ s → (v ≡ w) × (r ≡ s)
number_same v w r s sv sw pr ps e = elim (levi (decimal v) r (decimal w) s e) [
  | inl l ↦ by v w r s sv sw pr l.middle l.long_is l.rest_is
  | inr l ↦ (let p = by w v s r sw sv ps l.middle l.long_is l.rest_is in (sym p.0, sym p.1))
]
  where
    by : (a b : ℕ) (x y : List ℕ) → a < 2 ^ 64 → b < 2 ^ 64 → HasNoDigitFirst x → (m : List ℕ) → decimal b ≡ decimal a ++ m → x ≡ m ++ y → (a ≡ b) × (x ≡ y)
    by a b x y sa sb px [] long is = (decimal_injective a b sa sb (sym (append-nil (decimal a)) ∙ sym long), is)
    by a b x y sa sb px (c ∷ m) long is =
        let g = goes_on a b c m sa sb long in
        let no : is_ascii_digit c ≡ false = subst HasNoDigitFirst is px in
        absurd (cc (g.digit, no))

-- no number of the range goes on with a digit behind the longest one
pub longest_ends : (most v c : ℕ) (others more : List ℕ) → most < 2 ^ 64 → v ≤ most → IsLongest most v (c ∷ others) → is_ascii_digit c ≡ true → (w : ℕ) (s : List ℕ) → w ≤ most → HasNoDigitFirst s → ¬ (decimal v ++ c ∷ more ≡ decimal w ++ s)
longest_ends most v c others more small high longest digit w s wh ps e = elim (levi (decimal v) (c ∷ more) (decimal w) s e) [
  | inl l ↦ further l.middle l.long_is l.rest_is
  | inr l ↦ shorter l.middle l.long_is l.rest_is
]
  where
    further : (m : List ℕ) → decimal w ≡ decimal v ++ m → c ∷ more ≡ m ++ s → ⊥
    further [] long is = let no : is_ascii_digit c ≡ false = subst HasNoDigitFirst (sym is) ps in cc
    further (d ∷ m) long is =
        let same : c ≡ d = cc in
        let g = goes_on v w d m (omega arith) (omega arith) long in
        let past = longest digit g.positive in
        omega (arith, past, g.more)

    shorter : (m : List ℕ) → decimal v ≡ decimal w ++ m → s ≡ m ++ c ∷ more → ⊥
    shorter [] long is = let no : is_ascii_digit c ≡ false = subst HasNoDigitFirst is ps in cc
    shorter (d ∷ m) long is =
        let g = goes_on w v d m (omega arith) (omega arith) long in
        let no : is_ascii_digit d ≡ false = subst HasNoDigitFirst is ps in
        cc (g.digit, no)
