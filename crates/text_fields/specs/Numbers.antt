-- Numbers as texts: canonical decimals, decimals with a sign, and words of eight hexadecimal digits.
-- This project's own. Decimals are std's `decimal` and `signed_decimal`.
use Rattle.std.specs.Prelude.{ℕ, Bool, true, false, cond, not, ◌&&◌, ◌||◌, nat_eq, nat_lt, List, [], ◌∷◌, length, ℤ, pos, negsuc, neg_ℤ, min, ◌-◌, ◌/◌, ◌%◌, ◌^◌}
use Rattle.std.specs.List.{list_all}
use Rattle.std.specs.Str.Parse.{digits_value}
use Rattle.std.specs.Int.{is_in_range}
use Rattle.std.specs.Char.{digit_char, is_ascii_digit}

-- the digit 0, and the sign of a number below 0
abbrev pub digit_zero : ℕ
digit_zero = 48

abbrev pub minus : ℕ
minus = 45

-- one digit, or more of which the first isn't 0
abbrev pub has_no_zero_in_front : List ℕ → Bool
has_no_zero_in_front [] = false
has_no_zero_in_front (c ∷ []) = true
has_no_zero_in_front (c ∷ d ∷ ds) = not (nat_eq c digit_zero)

-- a canonical decimal, of any length
unfoldable pub is_number : List ℕ → Bool
is_number f = list_all is_ascii_digit f && has_no_zero_in_front f

-- its value
unfoldable pub number : List ℕ → ℕ
number f = digits_value 10 f

-- its value, or the greatest number of 64 bits where it is more
unfoldable pub saturated : List ℕ → ℕ
saturated f = min (number f) (2 ^ 64 - 1)

-- a canonical decimal, or `-` and one that isn't 0
unfoldable pub is_signed_number : List ℕ → Bool
is_signed_number [] = false
is_signed_number (c ∷ cs) = cond (nat_eq c minus) (is_number cs && not (nat_eq (number cs) 0)) (is_number (c ∷ cs))

-- its value, each number of digits saturated
unfoldable pub signed_saturated : List ℕ → ℤ
signed_saturated [] = pos 0
signed_saturated (c ∷ cs) = cond (nat_eq c minus) (neg_ℤ (pos (saturated cs))) (pos (saturated (c ∷ cs)))

-- a value of a signed word of 32 bits
unfoldable pub is_signed_word : ℤ → Bool
is_signed_word (pos n) = nat_lt n (2 ^ 31)
is_signed_word (negsuc n) = nat_lt n (2 ^ 31)

-- 0 to 9 and a to f
abbrev pub is_hex_digit : ℕ → Bool
is_hex_digit c = is_ascii_digit c || is_in_range 97 102 c

-- eight lower-case hexadecimal digits
unfoldable pub is_hex : List ℕ → Bool
is_hex f = nat_eq (length f) 8 && list_all is_hex_digit f

-- the number that they write
unfoldable pub hex : List ℕ → ℕ
hex f = digits_value 16 f

-- the digit of n that is worth p
abbrev pub hex_digit : ℕ → ℕ → ℕ
hex_digit n p = digit_char (n / p % 16)

-- the eight digits of a word
unfoldable pub hex_text : ℕ → List ℕ
hex_text n = hex_digit n (16 ^ 7) ∷ hex_digit n (16 ^ 6) ∷ hex_digit n (16 ^ 5) ∷ hex_digit n (16 ^ 4) ∷ hex_digit n (16 ^ 3) ∷ hex_digit n (16 ^ 2) ∷ hex_digit n 16 ∷ hex_digit n 1 ∷ []
