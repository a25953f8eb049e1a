-- Words of 32 bits as numbers below 2 ^ 32. Source: MIPS32 Architecture For Programmers, volume I
-- ("Operation" notation: sign extension, fields GPR[rd]31..0, the pair HI and LO) and volume II (targets of
-- branches and jumps).
use Rattle.std.specs.Prelude.{ℕ, ℤ, ◌+◌, ◌-◌, ◌*◌, ◌/◌, ◌%◌, ◌^◌}
use Rattle.std.specs.Int.{cast_signed, cast_unsigned, w8, w16, w32}

-- the low 32 bits of a number
abbrev pub low_word : ℕ → ℕ
low_word n = n % 2 ^ 32

-- what stands above the low 32 bits
abbrev pub high_word : ℕ → ℕ
high_word n = n / 2 ^ 32

-- sum, difference and product of two words, modulo 2 ^ 32
abbrev pub word_sum : ℕ → ℕ → ℕ
word_sum a b = (a + b) % 2 ^ 32

abbrev pub word_difference : ℕ → ℕ → ℕ
word_difference a b = (a + (2 ^ 32 - b)) % 2 ^ 32

abbrev pub word_product : ℕ → ℕ → ℕ
word_product a b = (a * b) % 2 ^ 32

-- HI and LO as one number of 64 bits
abbrev pub pair_of : ℕ → ℕ → ℕ
pair_of hi lo = hi * 2 ^ 32 + lo

-- a word read as a signed number, in two's complement
abbrev pub signed : ℕ → ℤ
signed word = cast_signed w32 word

-- the word of a signed number
abbrev pub unsigned : ℤ → ℕ
unsigned z = cast_unsigned w32 z

-- sixteen bits, sign extended to a word
abbrev pub extended_half : ℕ → ℕ
extended_half half = cast_unsigned w32 (cast_signed w16 half)

-- eight bits, sign extended to a word
abbrev pub extended_byte : ℕ → ℕ
extended_byte byte = cast_unsigned w32 (cast_signed w8 byte)

-- the `width` bits of a word from bit `low` on
abbrev pub field : ℕ → ℕ → ℕ → ℕ
field word low width = word / 2 ^ low % 2 ^ width

-- where a taken branch at `pc` with the field `off` goes: pc + 4 + 4 * off
abbrev pub branch_target : ℕ → ℕ → ℕ
branch_target pc off = word_sum (pc + 4) (4 * extended_half off)

-- where a jump at `pc` with the field `target` goes: the upper four bits of the slot's address, then target *
-- 4
abbrev pub jump_target : ℕ → ℕ → ℕ
jump_target pc target = word_sum pc 4 / 2 ^ 28 * 2 ^ 28 + 4 * target
