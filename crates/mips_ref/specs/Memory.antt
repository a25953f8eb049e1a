-- Flat memory with declared ranges. Source: this project's own.
use Rattle.std.specs.Prelude.{ℕ, ◌+◌, ◌-◌, ◌*◌, ◌/◌, ◌%◌, ◌^◌, ◌≤◌, ◌<◌, ◌≡◌, ◌⊎◌, Bool, true, false, ◌&&◌, ◌||◌, not, nat_le, nat_lt, ◌==◌, if◌then◌else◌, List, [], ◌∷◌, ◌++◌, replicate, Option, Some, None, length, slice_index, slice_set, count_by, take, drop, min}
use Rattle.visa_io.specs.declared.records.Span.{Span}
use Rattle.mips_ref.specs.declared.place.Place.{Place}

-- declared ranges, the bytes of all of them one after the other, and the byte order
pub record Flat : Type 0 where
  pub spans : List Span
  pub bytes : List ℕ
  -- whether the byte at the lowest address of a word or half is its most significant one
  pub big : Bool

-- the address of the output port; what stands from here on is never declared
abbrev pub port : ℕ
port = 4294901760

-- the four addresses of the port
abbrev pub in_port : ℕ → Bool
in_port a = nat_le port a && nat_lt a (port + 4)

-- a range has an address
abbrev pub has : Span → ℕ → Bool
has s a = nat_le s.start a && nat_lt a (s.start + s.len)

-- an executable range can't be stored to, whatever its flags
abbrev pub takes_stores : Span → Bool
takes_stores s = s.w && not s.x

-- the place of an address in these ranges, which stand after so many bytes: its range, and the number of its byte
unfoldable pub place_from : ℕ → List Span → ℕ → Option Place
place_from before [] a = None
place_from before (s ∷ rest) a =
    if has s a then Some (record { span = s; index = before + (a - s.start) }) else place_from (before + s.len) rest a

abbrev pub place_of : Flat → ℕ → Option Place
place_of m a = place_from 0 m.spans a

-- a fact of the place of an address; false where it isn't declared
abbrev pub at_place : Option Place → (Place → Bool) → Bool
at_place None test = false
at_place (Some p) test = test p

-- an address is declared, can be loaded from, can be stored to
abbrev pub declared_at : Flat → ℕ → Bool
declared_at m a = at_place (place_of m a) (λ p. true)

abbrev pub readable_at : Flat → ℕ → Bool
readable_at m a = in_port a || at_place (place_of m a) (λ p. p.span.r)

abbrev pub storable_at : Flat → ℕ → Bool
storable_at m a = at_place (place_of m a) (λ p. takes_stores p.span)

abbrev pub byte_of : List ℕ → Option Place → Option ℕ
byte_of bytes None = None
byte_of bytes (Some p) = Some (slice_index bytes p.index)

-- the byte at an address
abbrev pub byte_at : Flat → ℕ → Option ℕ
byte_at m a = byte_of m.bytes (place_of m a)

-- of bytes from an address on, those that stand in the range of its place, so many at most
abbrev pub run_of : List ℕ → ℕ → ℕ → Option Place → Option (List ℕ)
run_of bytes a most None = None
run_of bytes a most (Some p) = Some (take (min (p.span.start + p.span.len - a) most) (drop p.index bytes))

unfoldable pub run_from : Flat → ℕ → ℕ → Option (List ℕ)
run_from m a most = run_of m.bytes a most (place_of m a)

abbrev pub or_zero : Option ℕ → ℕ
or_zero None = 0
or_zero (Some b) = b

-- the four bytes from an address on, the byte at the address + j as bits 8j to 8j + 7; bytes that aren't declared are 0
abbrev pub lanes_at : Flat → ℕ → ℕ
lanes_at m w =
    or_zero (byte_at m w) + 2 ^ 8 * or_zero (byte_at m (w + 1)) + 2 ^ 16 * or_zero (byte_at m (w + 2)) + 2 ^ 24 * or_zero (byte_at m (w + 3))

-- the byte of such a word at the address + j
abbrev pub lane : ℕ → ℕ → ℕ
lane j word = word / 2 ^ (8 * j) % 2 ^ 8

-- the same bytes in the opposite order
abbrev pub turned : ℕ → ℕ
turned word = lane 3 word + 2 ^ 8 * lane 2 word + 2 ^ 16 * lane 1 word + 2 ^ 24 * lane 0 word

-- the word that a byte order reads in such bytes; and the bytes of a word
abbrev pub in_order : Bool → ℕ → ℕ
in_order big word = if big then turned word else word

-- the whole word at an address stands in one executable range
abbrev pub is_code : ℕ → Place → Bool
is_code a p = p.span.x && nat_le (a + 4) (p.span.start + p.span.len)

-- an address of code: a multiple of four whose four bytes stand in one executable range
abbrev pub code_at : Flat → ℕ → Bool
code_at m a = (a % 4 == 0) && at_place (place_of m a) (is_code a)

-- the word at an address of code
unfoldable pub code_word_at : Flat → ℕ → Option ℕ
code_word_at m a = if code_at m a then Some (in_order m.big (lanes_at m a)) else None

-- one byte changes, where its address is declared
abbrev pub put_at : Flat → ℕ → Option Place → Flat
put_at m b None = m
put_at m b (Some p) = record m { bytes = slice_set m.bytes p.index b }

unfoldable pub put_byte : Flat → ℕ → ℕ → Flat
put_byte m a b = put_at m b (place_of m a)

-- the bytes from an address on change
unfoldable pub put_bytes : Flat → ℕ → List ℕ → Flat
put_bytes m a [] = m
put_bytes m a (b ∷ bs) = put_bytes (put_byte m a b) (a + 1) bs

-- the input at the start of its buffer, and zero in the rest of it
abbrev pub input_buffer : ℕ → List ℕ → List ℕ
input_buffer len input = input ++ replicate (len - length input) 0

-- bit j of a mask
abbrev pub masks : ℕ → ℕ → Bool
masks mask j = mask / 2 ^ j % 2 == 1

abbrev pub put_lane : ℕ → ℕ → ℕ → ℕ → Flat → Flat
put_lane j w mask word m = if masks mask j then put_byte m (w + j) (lane j word) else m

-- of the four bytes from an address on, those of the mask become those of the word
unfoldable pub put_lanes : Flat → ℕ → ℕ → ℕ → Flat
put_lanes m w mask word = put_lane 3 w mask word (put_lane 2 w mask word (put_lane 1 w mask word (put_lane 0 w mask word m)))

-- ranges by rising address, none of them empty, no two with an address in common, all of them from an address on and
-- below the port
unfoldable pub LaidOut : ℕ → List Span → Type 0
LaidOut from [] = Unit {0}
LaidOut from (s ∷ rest) =
    (from ≤ s.start) × (0 < s.len) × (s.start + s.len ≤ port) × LaidOut (s.start + s.len) rest

-- how many bytes ranges have
unfoldable pub total_len : List Span → ℕ
total_len [] = 0
total_len (s ∷ rest) = s.len + total_len rest

-- the greatest memory, in bytes
abbrev pub greatest_memory : ℕ
greatest_memory = 4194304

-- what every memory keeps
pub record IsMemory (m : Flat) : Type 0 where
  pub laid_out : LaidOut 0 m.spans
  pub full : length m.bytes ≡ total_len m.spans
  pub small : total_len m.spans ≤ greatest_memory

-- two ranges share an address, or a range has one at the port or above
abbrev pub Refused : List Span → ℕ → Type 0
Refused spans a = (2 ≤ count_by (λ s. has s a) spans) ⊎ ((port ≤ a) × (1 ≤ count_by (λ s. has s a) spans))

-- each address of a range of addresses is declared
abbrev pub AllDeclared : Flat → ℕ → ℕ → Type 0
AllDeclared m at len = (k : ℕ) → k < len → declared_at m (at + k) ≡ true

-- and can be stored to
abbrev pub AllStorable : Flat → ℕ → ℕ → Type 0
AllStorable m at len = (k : ℕ) → k < len → storable_at m (at + k) ≡ true
