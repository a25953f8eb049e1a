-- Words of signed results.
use Rattle.std.proofs.Common.{◌≡◌, ℕ, ℤ, pos, negsuc, neg_ℤ, zero, suc, ◌/◌, ◌^◌, ◌<◌, ◌≤◌, ap, ap₂, ◌∙◌, arith}
use Rattle.std.proofs.Math.Nat.{div-le_self}
use Rattle.std.specs.Prelude.{int_div, int_rem, unsigned_abs, FitsSigned, ◌*ℤ◌}
use Rattle.std.specs.Int.{cast_signed, cast_unsigned, w32, w64}
use Rattle.std.proofs.lemmas.Int.{fits_signed_from_abs, fits_signed_mul, of_z-to_z, to_z-of_z}
use Rattle.mips_ref.specs.Act.{signed_product}

-- the word of a number from -2^31 to 2^32 - 1 is below 2^32
word_neg : (n : ℕ) → n ≤ 2 ^ 31 → cast_unsigned w32 (neg_ℤ (pos n)) < 2 ^ 32
word_neg zero below = omega arith
word_neg (suc n) below = omega arith

-- the quotient of two words
word_quotient : (x d : ℤ) → FitsSigned w32 x → cast_unsigned w32 (int_div x d) < 2 ^ 32
word_quotient (pos a) (pos b) fits = omega (arith, div-le_self a b, fits.sfits)
word_quotient (pos a) (negsuc b) fits = word_neg (a / suc b) (omega (arith, div-le_self a (suc b), fits.sfits))
word_quotient (negsuc a) (pos b) fits = word_neg (suc a / b) (omega (arith, div-le_self (suc a) b, fits.sfits))
word_quotient (negsuc a) (negsuc b) fits = omega (arith, div-le_self (suc a) (suc b), fits.sfits)

pub remainder_is : (a b result : ℕ) (x y r : ℤ) → a < 2 ^ 32 → b < 2 ^ 32 → x ≡ cast_signed w32 a → y ≡ cast_signed w32 b → FitsSigned w32 r
    → r ≡ int_rem (cast_signed w32 (cast_unsigned w32 x)) (cast_signed w32 (cast_unsigned w32 y))
    → result ≡ cast_unsigned w32 (cast_signed w32 (cast_unsigned w32 r))
    → result ≡ cast_unsigned w32 (int_rem (cast_signed w32 a) (cast_signed w32 b))
remainder_is a b result x y r low high first second fits is out =
    let back : (z : ℤ) (n : ℕ) → n < 2 ^ 32 → z ≡ cast_signed w32 n → cast_signed w32 (cast_unsigned w32 z) ≡ cast_signed w32 n =
    λ z n below e. ap (λ t. cast_signed w32 (cast_unsigned w32 t)) e ∙ ap (cast_signed w32) (of_z-to_z w32 n below) in
    out ∙ ap (cast_unsigned w32) (to_z-of_z w32 r fits ∙ is ∙ ap₂ int_rem (back x a low first) (back y b high second))

pub quotient_is : (a b result : ℕ) (x y r : ℤ) → a < 2 ^ 32 → b < 2 ^ 32 → x ≡ cast_signed w32 a → y ≡ cast_signed w32 b → FitsSigned w32 r
    → r ≡ cast_signed w32 (cast_unsigned w32 (int_div (cast_signed w32 (cast_unsigned w32 x)) (cast_signed w32 (cast_unsigned w32 y))))
    → result ≡ cast_unsigned w32 (cast_signed w32 (cast_unsigned w32 r))
    → FitsSigned w32 (cast_signed w32 a) → result ≡ cast_unsigned w32 (int_div (cast_signed w32 a) (cast_signed w32 b))
quotient_is a b result x y r low high first second fits is out word =
    let back : (z : ℤ) (n : ℕ) → n < 2 ^ 32 → z ≡ cast_signed w32 n → cast_signed w32 (cast_unsigned w32 z) ≡ cast_signed w32 n =
    λ z n below e. ap (λ t. cast_signed w32 (cast_unsigned w32 t)) e ∙ ap (cast_signed w32) (of_z-to_z w32 n below) in
    let same : r ≡ cast_signed w32 (cast_unsigned w32 (int_div (cast_signed w32 a) (cast_signed w32 b))) =
    is ∙ ap (λ t. cast_signed w32 (cast_unsigned w32 t)) (ap₂ int_div (back x a low first) (back y b high second)) in
    out ∙ ap (cast_unsigned w32) (to_z-of_z w32 r fits ∙ same)
    ∙ of_z-to_z w32 (cast_unsigned w32 (int_div (cast_signed w32 a) (cast_signed w32 b))) (word_quotient (cast_signed w32 a) (cast_signed w32 b) word)

abs_word : (x : ℤ) → FitsSigned w32 x → unsigned_abs x ≤ 2 ^ 31
abs_word (pos n) fits = omega (arith, fits.sfits)
abs_word (negsuc n) fits = omega (arith, fits.sfits)

wide : (x : ℤ) → FitsSigned w32 x → FitsSigned w64 x
wide x fits = fits_signed_from_abs w64 x (omega (arith, abs_word x fits))

pub product_is : (a b result : ℕ) (x y p q : ℤ) → FitsSigned w32 x → FitsSigned w32 y → x ≡ cast_signed w32 a → y ≡ cast_signed w32 b
    → p ≡ cast_signed w32 (cast_unsigned w32 x) → q ≡ cast_signed w32 (cast_unsigned w32 y)
    → result ≡ cast_unsigned w64 (cast_signed w64 (cast_unsigned w64 (cast_signed w64 (cast_unsigned w64 p) *ℤ cast_signed w64 (cast_unsigned w64 q))))
    → result ≡ signed_product a b
product_is a b result x y p q fx fy first second third fourth out =
    let px = ap (λ t. cast_signed w64 (cast_unsigned w64 t)) (third ∙ to_z-of_z w32 x fx) ∙ to_z-of_z w64 x (wide x fx) in
    let qy = ap (λ t. cast_signed w64 (cast_unsigned w64 t)) (fourth ∙ to_z-of_z w32 y fy) ∙ to_z-of_z w64 y (wide y fy) in
    let fits = fits_signed_mul w64 x y (2 ^ 31) (2 ^ 31) (abs_word x fx) (abs_word y fy) (omega arith) in
    out ∙ ap (λ t. cast_unsigned w64 (cast_signed w64 (cast_unsigned w64 t))) (ap₂ (λ s t. s *ℤ t) px qy) ∙ ap (cast_unsigned w64) (to_z-of_z w64 (x *ℤ y) fits)
    ∙ ap₂ (λ s t. cast_unsigned w64 (s *ℤ t)) first second
