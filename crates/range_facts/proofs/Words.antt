-- Words read as signed numbers.
use Rattle.std.proofs.Common.{◌≡◌, ◌∙◌, sym, ap, ap₂, subst, ℕ, zero, suc, ◌+◌, ◌-◌, ◌*◌, ◌^◌, ◌<◌, ◌≤◌, true, arith, ◌⊎◌, inl, inr, pos, negsuc, ℤ}
use Rattle.std.specs.Prelude.{◌+ℤ◌, ◌-ℤ◌, ◌*ℤ◌, ◌≤ℤ◌, FitsSigned, int_lt, nat_lt}
use Rattle.std.specs.Int.{cast_signed, int_wrap, w8, w16, w32}
use Rattle.std.proofs.lemmas.Bool.{cases_lt, ltb-true}
use Rattle.std.proofs.lemmas.Int.{ints, int_wrap_fits, int_wrap-mul_right, of_z-to_z, to_z_pos, to_z-of_z, wrapping_add-bits, wrapping_mul-bits, wrapping_sub-bits}
use Rattle.std.proofs.Math.Facts.{sfits_to_z, to_z-neg}
use Rattle.std.proofs.Math.IntN.{*ℤ_comm, *ℤ-zero, suc_ℤ-*ℤ}
use Rattle.std.proofs.Math.Nat.{mod-eq_of_lt}
use Rattle.mips_isa.specs.Words.{extended_byte, extended_half, low_word, signed, unsigned, word_difference, word_sum}
use Rattle.mips_ref.specs.Act.{fits_word}

pub low_below : (w : ℕ) → low_word w < 2 ^ 32
low_below w = omega arith

pub low_same : (w : ℕ) → w < 2 ^ 32 → low_word w ≡ w
low_same w below = mod-eq_of_lt below

-- the lower and the upper half of the words
pub signed_small : (x : ℕ) → x < 2 ^ 31 → signed x ≡ pos x
signed_small x small = to_z_pos w32 x small

pub signed_large : (x k : ℕ) → x + suc k ≡ 2 ^ 32 → k < 2 ^ 31 → signed x ≡ negsuc k
signed_large x k sum small = let is : x ≡ 2 ^ 32 - suc k = omega (arith, sum) in ap signed is ∙ to_z-neg w32 k small

-- a signed word
pub record IsWord (z : ℤ) : Type 0 where
  pub low : negsuc (2 ^ 31 - 1) ≤ℤ z
  pub high : z ≤ℤ pos (2 ^ 31 - 1)

pub word_from : (z : ℤ) → FitsSigned w32 z → IsWord z
word_from (pos n) f = record { low = omega (arith, ints); high = omega (arith, ints, f.sfits) }
word_from (negsuc n) f = record { low = omega (arith, ints, f.sfits); high = omega (arith, ints) }

pub word_to : (z : ℤ) → negsuc (2 ^ 31 - 1) ≤ℤ z → z ≤ℤ pos (2 ^ 31 - 1) → FitsSigned w32 z
word_to (pos n) low high = record { sfits = omega (arith, ints, high) }
word_to (negsuc n) low high = record { sfits = omega (arith, ints, low) }

pub fits_holds : (z : ℤ) → fits_word z ≡ true → FitsSigned w32 z
fits_holds (pos n) is = record { sfits = ltb-true n (2 ^ 31) is }
fits_holds (negsuc n) is = record { sfits = ltb-true n (2 ^ 31) is }

pub signed_fits : (x : ℕ) → x < 2 ^ 32 → FitsSigned w32 (signed x)
signed_fits x below = by_half (cases_lt x (2 ^ 31))
  where
    by_half : (x < 2 ^ 31) ⊎ (2 ^ 31 ≤ x) → FitsSigned w32 (signed x)
    by_half (inl small) = subst (λ z. FitsSigned w32 z) (sym (signed_small x small)) (record { sfits = small })
    by_half (inr large) =
        let k : ℕ = 2 ^ 32 - suc x in
        let little : k < 2 ^ 31 = omega (arith, large, below) in
        let sum : x + suc k ≡ 2 ^ 32 = omega (arith, large, below) in
        subst (λ z. FitsSigned w32 z) (sym (signed_large x k sum little)) (record { sfits = little })

pub signed_word : (x : ℕ) → x < 2 ^ 32 → IsWord (signed x)
signed_word x below = word_from (signed x) (signed_fits x below)

-- there and back
pub unsigned_signed : (x : ℕ) → x < 2 ^ 32 → unsigned (signed x) ≡ x
unsigned_signed x below = of_z-to_z w32 x below

pub unsigned_below : (z : ℤ) → FitsSigned w32 z → unsigned z < 2 ^ 32
unsigned_below (pos n) f = omega (arith, f.sfits)
unsigned_below (negsuc n) f = omega (arith, f.sfits)

pub signed_unsigned : (z : ℤ) → FitsSigned w32 z → signed (low_word (unsigned z)) ≡ z
signed_unsigned z f = ap signed (low_same (unsigned z) (unsigned_below z f)) ∙ to_z-of_z w32 z f

-- sums, differences and products that fit
pub sum_exact : (x y : ℕ) → x < 2 ^ 32 → y < 2 ^ 32 → FitsSigned w32 (signed x +ℤ signed y) → signed (word_sum x y) ≡ signed x +ℤ signed y
sum_exact x y p q fits = wrapping_add-bits w32 x y p q ∙ int_wrap_fits w32 (signed x +ℤ signed y) fits

pub difference_exact : (x y : ℕ) → x < 2 ^ 32 → y < 2 ^ 32 → FitsSigned w32 (signed x -ℤ signed y) → signed (word_difference x y) ≡ signed x -ℤ signed y
difference_exact x y p q fits = wrapping_sub-bits w32 x y p q ∙ int_wrap_fits w32 (signed x -ℤ signed y) fits

wrapped : (n : ℕ) → n < 2 ^ 32 → signed n ≡ int_wrap w32 (pos n)
unfolding int_wrap
wrapped n below = ap signed (sym (mod-eq_of_lt below))

pub product_exact : (x n : ℕ) → x < 2 ^ 32 → n < 2 ^ 32 → FitsSigned w32 (signed x *ℤ pos n) → signed (low_word (x * n)) ≡ signed x *ℤ pos n
product_exact x n p q fits =
    wrapping_mul-bits w32 x n p q ∙ ap (λ z. int_wrap w32 (signed x *ℤ z)) (wrapped n q) ∙ int_wrap-mul_right w32 (signed x) (pos n)
    ∙ int_wrap_fits w32 (signed x *ℤ pos n) fits

-- products, by the second factor
times_suc : (z : ℤ) (m : ℕ) → z *ℤ pos (suc m) ≡ z *ℤ pos m +ℤ z
times_suc z m = *ℤ_comm z (pos (suc m)) ∙ suc_ℤ-*ℤ (pos m) z ∙ ap (λ v. v +ℤ z) (*ℤ_comm (pos m) z)

pub spread : (z : ℤ) (a m : ℕ) → (z +ℤ pos a) *ℤ pos m ≡ z *ℤ pos m +ℤ pos (a * m)
spread z a zero =
    let none : a * 0 ≡ 0 = omega arith in
    omega (arith, ints, *ℤ-zero (z +ℤ pos a), *ℤ-zero z, none)
spread z a (suc m) =
    let more : a * suc m ≡ a * m + a = omega arith in
    omega (arith, ints, times_suc (z +ℤ pos a) m, times_suc z m, spread z a m, more)

-- a sign extended half or byte
half_fits : (h : ℕ) → h < 2 ^ 16 → FitsSigned w16 (cast_signed w16 h)
half_fits h below = sfits_to_z {w = w16} {n = h} (record { fits = below })

byte_fits : (b : ℕ) → b < 2 ^ 8 → FitsSigned w8 (cast_signed w8 b)
byte_fits b below = sfits_to_z {w = w8} {n = b} (record { fits = below })

pub record IsBetween (n : ℕ) (z : ℤ) : Type 0 where
  pub low : negsuc n ≤ℤ z
  pub high : z ≤ℤ pos n

between_half : (z : ℤ) → FitsSigned w16 z → IsBetween 32767 z
between_half (pos n) f = record { low = omega (arith, ints); high = omega (arith, ints, f.sfits) }
between_half (negsuc n) f = record { low = omega (arith, ints, f.sfits); high = omega (arith, ints) }

between_byte : (z : ℤ) → FitsSigned w8 z → IsBetween 127 z
between_byte (pos n) f = record { low = omega (arith, ints); high = omega (arith, ints, f.sfits) }
between_byte (negsuc n) f = record { low = omega (arith, ints, f.sfits); high = omega (arith, ints) }

between_fits : (n : ℕ) (z : ℤ) → n < 2 ^ 31 → IsBetween n z → FitsSigned w32 z
between_fits n z small b = word_to z (omega (arith, ints, b.low, small)) (omega (arith, ints, b.high, small))

pub half_between : (h : ℕ) → h < 2 ^ 16 → IsBetween 32767 (cast_signed w16 h)
half_between h below = between_half (cast_signed w16 h) (half_fits h below)

pub byte_between : (b : ℕ) → b < 2 ^ 8 → IsBetween 127 (cast_signed w8 b)
byte_between b below = between_byte (cast_signed w8 b) (byte_fits b below)

pub half_word_fits : (h : ℕ) → h < 2 ^ 16 → FitsSigned w32 (cast_signed w16 h)
half_word_fits h below = between_fits 32767 (cast_signed w16 h) (omega arith) (half_between h below)

pub extended_half_below : (h : ℕ) → h < 2 ^ 16 → extended_half h < 2 ^ 32
extended_half_below h below = unsigned_below (cast_signed w16 h) (half_word_fits h below)

pub signed_half : (h : ℕ) → h < 2 ^ 16 → signed (extended_half h) ≡ cast_signed w16 h
signed_half h below = to_z-of_z w32 (cast_signed w16 h) (half_word_fits h below)

pub signed_low_half : (h : ℕ) → h < 2 ^ 16 → signed (low_word (extended_half h)) ≡ cast_signed w16 h
signed_low_half h below = signed_unsigned (cast_signed w16 h) (half_word_fits h below)

pub signed_low_byte : (b : ℕ) → b < 2 ^ 8 → signed (low_word (extended_byte b)) ≡ cast_signed w8 b
signed_low_byte b below = signed_unsigned (cast_signed w8 b) (between_fits 127 (cast_signed w8 b) (omega arith) (byte_between b below))

-- of two natural words the signed order is the unsigned one
pub natural_order : (x y : ℕ) → x < 2 ^ 32 → y < 2 ^ 32 → pos 0 ≤ℤ signed x → pos 0 ≤ℤ signed y → nat_lt x y ≡ int_lt (signed x) (signed y)
natural_order x y p q xs ys =
    let small : (w : ℕ) → w < 2 ^ 32 → pos 0 ≤ℤ signed w → w < 2 ^ 31 = λ w below natural. natural_small w below natural in
    sym (ap₂ int_lt (signed_small x (small x p xs)) (signed_small y (small y q ys)))
  where
    natural_small : (w : ℕ) → w < 2 ^ 32 → pos 0 ≤ℤ signed w → w < 2 ^ 31
    natural_small w below natural = by_half (cases_lt w (2 ^ 31))
      where
        by_half : (w < 2 ^ 31) ⊎ (2 ^ 31 ≤ w) → w < 2 ^ 31
        by_half (inl small) = small
        by_half (inr large) =
            let k : ℕ = 2 ^ 32 - suc w in
            let little : k < 2 ^ 31 = omega (arith, large, below) in
            let sum : w + suc k ≡ 2 ^ 32 = omega (arith, large, below) in
            let negative : pos 0 ≤ℤ negsuc k = subst (λ z. pos 0 ≤ℤ z) (signed_large w k sum little) natural in
            absurd (omega (arith, ints, negative))

-- a signed half is a word
pub half_word : (y z : ℤ) → FitsSigned w16 y → z ≡ y → IsWord z
half_word (pos n) z f is = record { low = omega (arith, ints, is); high = omega (arith, ints, is, f.sfits) }
half_word (negsuc n) z f is = record { low = omega (arith, ints, is, f.sfits); high = omega (arith, ints, is) }
