-- Which leading digits an address of an arc can have.
use Rattle.std.proofs.Common.{◌≡◌, refl, sym, ap, ◌∙◌, subst, ℕ, zero, suc, ◌+◌, ◌-◌, ◌*◌, ◌/◌, ◌%◌, ◌^◌, ◌≤◌, ◌<◌, ◌≢◌, true, false, List, [], ◌∷◌, length, arith, pow-suc, nat_eq, nat_lt, ltb-true}
use borrow.Author.Tests.{ltb-false, eqb-false}
use Rattle.std.proofs.Math.Nat.{div-lt_iff_lt-mul, mul-le-mul_left, mul-le-mul_right}
use Rattle.std.specs.Char.{digit_char, digit_value}
use Rattle.std.specs.List.{list_all}
use Rattle.std.specs.Str.Parse.{digits_value_after}
use Rattle.text_fields.specs.Numbers.{is_hex_digit}
use Rattle.text_fields.proofs.Digits.{and_from, and_parts, digit_again, digit_text, hex_value_low}
use Rattle.mips_text.specs.Faults.{Begins}
use Rattle.mips_text.specs.Targets.{IsInArc, IsTargetEnd}

-- so many digits of a number
abbrev low_digits : ℕ → ℕ → List ℕ
low_digits zero x = []
low_digits (suc k) x = digit_char (x / 16 ^ k) ∷ low_digits k (x % 16 ^ k)

positive : (k : ℕ) → 0 < 16 ^ k
positive zero = omega arith
positive (suc k) = let e : 16 ^ suc k ≡ 16 ^ k * 16 = rw pow-suc in omega (arith, positive k)

pub record HasDigits (k x v : ℕ) (text : List ℕ) : Type 0 where
  pub digits : list_all is_hex_digit text ≡ true
  pub long : length text ≡ k
  pub worth : digits_value_after 16 v text ≡ v * 16 ^ k + x

below_sixteen : (x p : ℕ) → 0 < p → x < 16 * p → x / p < 16
below_sixteen x p some h = (div-lt_iff_lt-mul some).1 h

one_digit : (v q r p x : ℕ) → q * p + r ≡ x → (v * 16 + q) * p + r ≡ v * (p * 16) + x
one_digit v q r p x e = omega arith

has_digits : (k x v : ℕ) → x < 16 ^ k → HasDigits k x v (low_digits k x)
has_digits zero x v h = record { digits = refl; long = refl; worth = omega arith }
has_digits (suc k) x v h =
    let e : 16 ^ suc k ≡ 16 ^ k * 16 = rw pow-suc in
    let p = positive k in
    let high : x / 16 ^ k < 16 = below_sixteen x (16 ^ k) p (omega arith) in
    let rest = has_digits k (x % 16 ^ k) (v * 16 + digit_value (digit_char (x / 16 ^ k))) (omega arith) in
    let whole : x / 16 ^ k * 16 ^ k + x % 16 ^ k ≡ x = omega arith in
    record {
      digits = and_from _ _ (digit_text (x / 16 ^ k) high) rest.digits;
      long = omega (arith, rest.long);
      worth = rest.worth ∙ ap (λ d. (v * 16 + d) * 16 ^ k + x % 16 ^ k) (digit_again (x / 16 ^ k) high) ∙ one_digit v (x / 16 ^ k) (x % 16 ^ k) (16 ^ k) x whole ∙ ap (λ q. v * q + x) (sym e);
    }

-- what digits behind a value are worth
pub record Within (k v : ℕ) (text : List ℕ) : Type 0 where
  pub x : ℕ
  pub low : x < 16 ^ k
  pub worth : digits_value_after 16 v text ≡ v * 16 ^ k + x

digit_room : (d x p : ℕ) → d < 16 → x < p → d * p + x < p * 16
digit_room d x p h l = let m : d * p ≤ 15 * p = mul-le-mul_right p (omega arith) in omega arith

within_more : (k v d a : ℕ) (x : ℕ) → d < 16 → x < 16 ^ k → a ≡ (v * 16 + d) * 16 ^ k + x → (d * 16 ^ k + x < 16 ^ suc k) × (a ≡ v * 16 ^ suc k + (d * 16 ^ k + x))
within_more k v d a x h l w =
    let e : 16 ^ suc k ≡ 16 ^ k * 16 = rw pow-suc in
    (subst (λ q. d * 16 ^ k + x < q) (sym e) (digit_room d x (16 ^ k) h l), w ∙ (let m : (v * 16 + d) * 16 ^ k + x ≡ v * (16 ^ k * 16) + (d * 16 ^ k + x) = omega arith in m) ∙ ap (λ q. v * q + (d * 16 ^ k + x)) (sym e))

pub within : (k v : ℕ) (text : List ℕ) → list_all is_hex_digit text ≡ true → length text ≡ k → Within k v text
within zero v [] d l = record { x = 0; low = omega arith; worth = omega arith }
within zero v (c ∷ t) d l = absurd (omega arith)
within (suc k) v [] d l = absurd (omega arith)
within (suc k) v (c ∷ t) d l =
    let parts = and_parts (is_hex_digit c) _ d in
    let w = within k (v * 16 + digit_value c) t parts.1 (omega arith) in
    let m = within_more k v (digit_value c) (digits_value_after 16 (v * 16 + digit_value c) t) w.x (hex_value_low c parts.0) w.low w.worth in
    record { x = digit_value c * 16 ^ k + w.x; low = m.0; worth = m.1 }

-- the block of the addresses with some leading digits, and the arc: they meet where one begins in the other
module _ (first size left v w block : ℕ) (fw : first < 2 ^ 32) (fa : first % 4 ≡ 0) (fs : 0 < size) (room : v * 16 ^ left + 16 ^ left ≤ 2 ^ 32) (is : w ≡ v) (wide : block ≡ 16 ^ left) where
  start_is : w * block ≡ v * 16 ^ left
  start_is = λ i. is i * wide i

  at_offset : (x : ℕ) → x < 16 ^ left → IsInArc first size (w * block + x) → Begins (IsTargetEnd first size left v) []
  at_offset x h inside =
      let d = has_digits left x v h in
      record { more = low_digits left x; whole = record { digits = d.digits; long = d.long; inside = subst (IsInArc first size) (ap (λ q. q + x) start_is ∙ sym d.worth) inside } }

  pub reached_start : w * block % 4 ≡ 0 → nat_lt ((w * block + (2 ^ 32 - first)) % 2 ^ 32) size ≡ true → Begins (IsTargetEnd first size left v) []
  reached_start e near =
      let p = positive left in
      let s = start_is in
      let n = ltb-true ((w * block + (2 ^ 32 - first)) % 2 ^ 32) size near in
      let z : w * block + 0 ≡ w * block = omega arith in
      at_offset 0 p (record { word = omega arith; aligned = ap (λ q. q % 4) z ∙ e; near = subst (λ q. (q + (2 ^ 32 - first)) % 2 ^ 32 < size) (sym z) n })

  pub reached_first : (d : ℕ) → d ≡ (first + (2 ^ 32 - w * block)) % 2 ^ 32 → nat_lt d block ≡ true → Begins (IsTargetEnd first size left v) []
  reached_first d distance near =
      let s = start_is in
      let n : d < block = ltb-true _ _ near in
      let same : first ≡ w * block + d = omega arith in
      at_offset d (omega arith) (subst (IsInArc first size) same (record { word = fw; aligned = fa; near = omega arith }))

  pub missed_far : (d : ℕ) → d ≡ (first + (2 ^ 32 - w * block)) % 2 ^ 32 → size ≤ (w * block + (2 ^ 32 - first)) % 2 ^ 32 → nat_lt d block ≡ false → (text : List ℕ) → ¬ (IsTargetEnd first size left v text)
  missed_far d distance far past text t =
      let n : block ≤ d = ltb-false _ _ past in
      let x = within left v text t.digits t.long in
      apart (w * block) x.x block (digits_value_after 16 v text) (omega (arith, x.low)) (x.worth ∙ ap (λ q. q + x.x) (sym start_is)) (omega (arith, start_is)) t.inside.near far (subst (λ q. block ≤ q) distance n)
    where
      apart : (s x b a : ℕ) → x < b → a ≡ s + x → s + b ≤ 2 ^ 32 → (a + (2 ^ 32 - first)) % 2 ^ 32 < size → size ≤ (s + (2 ^ 32 - first)) % 2 ^ 32 → b ≤ (first + (2 ^ 32 - s)) % 2 ^ 32 → ⊥
      apart s x b a h e r near far past = omega arith

  pub missed_odd : nat_eq (w * block % 4) 0 ≡ false → (text : List ℕ) → ¬ (IsTargetEnd first size left v text)
  missed_odd odd text t =
      let x = within left v text t.digits t.long in
      by left refl x.x x.low (x.worth ∙ ap (λ q. q + x.x) (sym start_is))
    where
      by : (k : ℕ) → left ≡ k → (x : ℕ) → x < 16 ^ left → digits_value_after 16 v text ≡ w * block + x → ⊥
      by zero e x h worth = eqb-false (w * block % 4) 0 odd (let z : 16 ^ left ≡ 1 = ap (λ q. 16 ^ q) e in let a = t.inside.aligned in omega arith)
      by (suc k) e x h worth = eqb-false (w * block % 4) 0 odd (let z : 16 ^ left ≡ 16 ^ k * 16 = ap (λ q. 16 ^ q) e ∙ rw pow-suc in quarter (w * block) (v * 16 ^ k) (start_is ∙ ap (λ q. v * q) z ∙ (let m : v * (16 ^ k * 16) ≡ v * 16 ^ k * 16 = omega arith in m)))
        where
          quarter : (s q : ℕ) → s ≡ q * 16 → s % 4 ≡ 0
          quarter s q e = omega arith

-- one digit less is left
module _ (v d left : ℕ) (some : left ≢ 0) (low : d < 16) (room : v * 16 ^ left + 16 ^ left ≤ 2 ^ 32) where
  down : 16 ^ left ≡ 16 ^ (left - 1) * 16
  down = let e : left ≡ suc (left - 1) = omega arith in ap (λ q. 16 ^ q) e ∙ rw pow-suc

  pub room_next : (v * 16 + d) * 16 ^ (left - 1) + 16 ^ (left - 1) ≤ 2 ^ 32
  room_next = by (16 ^ (left - 1)) (16 ^ left) down room
    where
      by : (p q : ℕ) → q ≡ p * 16 → v * q + q ≤ 2 ^ 32 → (v * 16 + d) * p + p ≤ 2 ^ 32
      by p q e h = let m : d * p ≤ 15 * p = mul-le-mul_right p (omega arith) in let n : v * q ≡ v * (p * 16) = ap (λ x. v * x) e in omega arith

  pub small_next : v * 16 + 15 < 2 ^ 32
  small_next = by (16 ^ (left - 1)) (16 ^ left) (positive (left - 1)) down room
    where
      by : (p q : ℕ) → 0 < p → q ≡ p * 16 → v * q + q ≤ 2 ^ 32 → v * 16 + 15 < 2 ^ 32
      by p q some e h = let m : v * 1 ≤ v * p = mul-le-mul_left v (omega arith) in let n : v * q ≡ v * (p * 16) = ap (λ x. v * x) e in omega arith
