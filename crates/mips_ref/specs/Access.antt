-- What loads and stores move. Source: MIPS32 Architecture For Programmers, volume II, release 1, "Operation" of LB, LH, LW, LWL,
-- LWR, SB, SH, SW, SWL and SWR; what may be accessed is this project's own.
use Rattle.std.specs.Prelude.{ℕ, ◌+◌, ◌-◌, ◌*◌, ◌/◌, ◌%◌, ◌^◌, Bool, true, false, ◌&&◌, ◌||◌, not, ◌==◌, if◌then◌else◌, Option, Some, None}
use Rattle.mips_isa.specs.Words.{extended_byte, extended_half}
use Rattle.mips_isa.specs.declared.instr.Instr.{Instr}
use Rattle.mips_isa.specs.declared.instr.Instr.TheVariants.{Load, Store}
use Rattle.mips_isa.specs.declared.instr.LoadOp.{LoadOp}
use Rattle.mips_isa.specs.declared.instr.LoadOp.TheVariants.{Lb, Lh, Lwl, Lw, Lbu, Lhu, Lwr}
use Rattle.mips_isa.specs.declared.instr.StoreOp.{StoreOp}
use Rattle.mips_isa.specs.declared.instr.StoreOp.TheVariants.{Sb, Sh, Swl, Sw, Swr}
use Rattle.mips_ref.specs.Memory.{Flat, in_order, masks, port, readable_at, storable_at}
use Rattle.mips_ref.specs.declared.records.TrapKind.{TrapKind}
use Rattle.mips_ref.specs.declared.records.TrapKind.TheVariants.{AddressLoad, AddressStore}

-- the word around an address, and the number of the address in it
abbrev pub word_start : ℕ → ℕ
word_start at = at - at % 4

abbrev pub in_word : ℕ → ℕ
in_word at = at % 4

-- the rank of the byte at an address in the word that the byte order reads, 0 for the lowest byte; the manual's
-- `byte`, vAddr 1..0 xor BigEndianCPU^2
abbrev pub rank : ℕ → Bool → ℕ
rank at big = if big then 3 - in_word at else in_word at

-- the byte of a rank in a word, and the half around it
abbrev pub ranked_byte : ℕ → ℕ → ℕ
ranked_byte word rank = word / 2 ^ (8 * rank) % 2 ^ 8

abbrev pub ranked_half : ℕ → ℕ → ℕ
ranked_half word rank = word / 2 ^ (16 * (rank / 2)) % 2 ^ 16

-- the bytes up to a rank, moved to the most significant end; the rest stays
abbrev pub left_of : ℕ → ℕ → ℕ → ℕ
left_of word rank rt = word % 2 ^ (8 * (rank + 1)) * 2 ^ (8 * (3 - rank)) + rt % 2 ^ (8 * (3 - rank))

-- the bytes from a rank on, moved to the least significant end; the rest stays
abbrev pub right_of : ℕ → ℕ → ℕ → ℕ
right_of word rank rt = rt / 2 ^ (8 * (4 - rank)) * 2 ^ (8 * (4 - rank)) + word / 2 ^ (8 * rank)

-- what a load makes of the word that the byte order reads around its address
unfoldable pub load_value : LoadOp → ℕ → ℕ → ℕ → ℕ
load_value Lb rank rt word = extended_byte (ranked_byte word rank)
load_value Lbu rank rt word = ranked_byte word rank
load_value Lh rank rt word = extended_half (ranked_half word rank)
load_value Lhu rank rt word = ranked_half word rank
load_value Lw rank rt word = word
load_value Lwl rank rt word = left_of word rank rt
load_value Lwr rank rt word = right_of word rank rt

-- the new rt of a load, over the four bytes around its address (the byte at the word's start + j as bits 8j to 8j + 7)
unfoldable pub loaded_of : Instr → ℕ → ℕ → ℕ → Bool → ℕ
loaded_of (Load m rs t off) at rt word big = load_value m (rank at big) rt (in_order big word)
loaded_of _ at rt word big = 0

-- the word around its address as a store leaves it, as the byte order reads it; a byte that isn't stored is 0
unfoldable pub store_value : StoreOp → ℕ → ℕ → ℕ
store_value Sb rank rt = rt % 2 ^ 8 * 2 ^ (8 * rank)
store_value Sh rank rt = rt % 2 ^ 16 * 2 ^ (16 * (rank / 2))
store_value Sw rank rt = rt
store_value Swl rank rt = rt / 2 ^ (8 * (3 - rank))
store_value Swr rank rt = rt * 2 ^ (8 * rank) % 2 ^ 32

-- the bytes of a word, bit j for the byte at its start + j: those from number k on, and those up to number k
abbrev pub from_here : ℕ → ℕ
from_here k = 16 - 2 ^ k

abbrev pub up_to_here : ℕ → ℕ
up_to_here k = 2 ^ (k + 1) - 1

abbrev pub left_mask : ℕ → Bool → ℕ
left_mask k big = if big then from_here k else up_to_here k

abbrev pub right_mask : ℕ → Bool → ℕ
right_mask k big = if big then up_to_here k else from_here k

-- the bytes that a load or store moves, from the number of its address in the word
unfoldable pub load_mask : LoadOp → ℕ → Bool → ℕ
load_mask Lb k big = 2 ^ k
load_mask Lbu k big = 2 ^ k
load_mask Lh k big = 3 * 2 ^ k
load_mask Lhu k big = 3 * 2 ^ k
load_mask Lw k big = 15
load_mask Lwl k big = left_mask k big
load_mask Lwr k big = right_mask k big

unfoldable pub store_mask : StoreOp → ℕ → Bool → ℕ
store_mask Sb k big = 2 ^ k
store_mask Sh k big = 3 * 2 ^ k
store_mask Sw k big = 15
store_mask Swl k big = left_mask k big
store_mask Swr k big = right_mask k big

-- the bytes that a store writes, and the word that has them (the byte at the word's start + j as bits 8j to 8j + 7)
unfoldable pub stored_of : Instr → ℕ → ℕ → Bool → ℕ × ℕ
stored_of (Store m rs t off) at rt big = (store_mask m (in_word at) big, in_order big (store_value m (rank at big) rt))
stored_of _ at rt big = (0, 0)

-- halves stand at even addresses, words at multiples of four; single bytes and the parts of words anywhere
unfoldable pub load_aligned : LoadOp → ℕ → Bool
load_aligned Lh k = k % 2 == 0
load_aligned Lhu k = k % 2 == 0
load_aligned Lw k = k == 0
load_aligned _ k = true

unfoldable pub store_aligned : StoreOp → ℕ → Bool
store_aligned Sh k = k % 2 == 0
store_aligned Sw k = k == 0
store_aligned _ k = true

-- each byte of a mask passes, in the word from `w` on
abbrev pub lane_passes : ℕ → (ℕ → Bool) → ℕ → ℕ → Bool
lane_passes mask test w j = not (masks mask j) || test (w + j)

abbrev pub each_lane : ℕ → (ℕ → Bool) → ℕ → Bool
each_lane mask test w =
    lane_passes mask test w 0 && lane_passes mask test w 1 && lane_passes mask test w 2 && lane_passes mask test w 3

unfoldable pub load_allowed : LoadOp → Flat → ℕ → Bool
load_allowed m x at =
    load_aligned m (in_word at) && each_lane (load_mask m (in_word at) x.big) (readable_at x) (word_start at)

-- a store word to the port is allowed too
abbrev pub is_output : StoreOp → ℕ → Bool
is_output Sw at = at == port
is_output _ at = false

unfoldable pub store_allowed : StoreOp → Flat → ℕ → Bool
store_allowed m x at =
    is_output m at || (store_aligned m (in_word at) && each_lane (store_mask m (in_word at) x.big) (storable_at x) (word_start at))

abbrev pub is_load : Instr → Bool
is_load (Load m rs rt off) = true
is_load _ = false

abbrev pub is_store : Instr → Bool
is_store (Store m rs rt off) = true
is_store _ = false

-- the trap of a load or store at an address, a full output aside
unfoldable pub refuses_of : Flat → Instr → ℕ → Option TrapKind
refuses_of x (Load m rs rt off) at = if load_allowed m x at then None else Some AddressLoad
refuses_of x (Store m rs rt off) at = if store_allowed m x at then None else Some AddressStore
refuses_of x _ at = None
