-- What an instruction does to the facts of the registers: the first rule that fits. This project's own.
use Rattle.std.specs.Prelude.{ℕ, zero, suc, ℤ, pos, negsuc, ◌-◌, ◌*◌, ◌%◌, ◌^◌, ◌+ℤ◌, ◌-ℤ◌, ◌*ℤ◌, ◌≡◌, Bool, true, false, ◌&&◌, ◌==◌, nat_lt, if◌then◌else◌, List, [], ◌∷◌, length, replicate, Option, Some, None, slice_index_or, slice_set}
use Rattle.std.specs.Int.{cast_signed, w16}
use Rattle.std.specs.Ordering.{int_eq}
use Rattle.mips_isa.specs.Names.{reads_of, writes_of}
use Rattle.mips_isa.specs.Words.{low_word, signed, unsigned, word_sum}
use Rattle.mips_isa.specs.declared.instr.Instr.{Instr}
use Rattle.mips_isa.specs.declared.instr.Instr.TheVariants.{R3, Shift, Count, Imm, Lui, Load, Branch1, Jump, Jalr}
use Rattle.mips_isa.specs.declared.instr.R3Op.{R3Op}
use Rattle.mips_isa.specs.declared.instr.R3Op.TheVariants.{Add, Addu, Sub, Subu, Or, Slt, Sltu}
use Rattle.mips_isa.specs.declared.instr.ShiftOp.{ShiftOp}
use Rattle.mips_isa.specs.declared.instr.ShiftOp.TheVariants.{Sll, Srl, Sra}
use Rattle.mips_isa.specs.declared.instr.ImmOp.{ImmOp}
use Rattle.mips_isa.specs.declared.instr.ImmOp.TheVariants.{Addi, Addiu, Slti, Sltiu, Andi, Ori, Xori}
use Rattle.mips_isa.specs.declared.instr.LoadOp.{LoadOp}
use Rattle.mips_isa.specs.declared.instr.LoadOp.TheVariants.{Lb, Lh, Lbu, Lhu}
use Rattle.mips_ref.specs.Act.{act_of, fits_word}
use Rattle.mips_ref.specs.Mips.{exit_address}
use Rattle.mips_ref.specs.declared.records.Values.{Values}
use Rattle.range_facts.specs.Ranges.{IsFact, constant, is_constant, range, unknown, up_to}
use Rattle.range_facts.specs.declared.strided.Strided.{Strided}
use Rattle.range_facts.specs.declared.facts.Facts.{Facts}

-- the fact of a register
abbrev pub fact_of : Facts → ℕ → Strided
fact_of f r = slice_index_or f.ranges r unknown

-- one fact a register; register 0 is the constant 0
pub record AreFacts (f : Facts) : Type 0 where
  pub long : length f.ranges ≡ 32
  pub each : (r : ℕ) → IsFact (fact_of f r)
  pub zero_is : fact_of f 0 ≡ constant (pos 0)

-- the fact of a word, read as signed
abbrev pub word_fact : ℕ → Strided
word_fact word = constant (signed (low_word word))

-- a range, or unknown where an end isn't a signed word
abbrev pub within_words : ℤ → ℤ → ℕ → Strided
within_words lo hi stride = if fits_word lo && fits_word hi then range lo hi stride else unknown

-- the greatest number up to n that divides both a and b
unfoldable pub divisor_up_to : ℕ → ℕ → ℕ → ℕ
divisor_up_to zero a b = 1
divisor_up_to (suc n) a b = if (a % suc n == 0) && (b % suc n == 0) then suc n else divisor_up_to n a b

-- the greatest common divisor of the strides, those of constants aside
unfoldable pub common_stride : Strided → Strided → ℕ
common_stride a b =
    if is_constant a then b.stride else (if is_constant b then a.stride else divisor_up_to a.stride a.stride b.stride)

-- sums and differences of values
unfoldable pub sum_fact : Strided → Strided → Strided
sum_fact a b = within_words (a.lo +ℤ b.lo) (a.hi +ℤ b.hi) (common_stride a b)

unfoldable pub difference_fact : Strided → Strided → Strided
difference_fact a b = within_words (a.lo -ℤ b.hi) (a.hi -ℤ b.lo) (common_stride a b)

unfoldable pub moved_fact : Strided → ℤ → Strided
moved_fact a by = within_words (a.lo +ℤ by) (a.hi +ℤ by) a.stride

unfoldable pub scaled_fact : Strided → ℕ → Strided
scaled_fact a sa =
    if nat_lt (a.stride * 2 ^ sa) (2 ^ 32) then within_words (a.lo *ℤ pos (2 ^ sa)) (a.hi *ℤ pos (2 ^ sa)) (a.stride * 2 ^ sa) else unknown

-- the other operand where one is the constant 0
abbrev pub is_zero : Strided → Bool
is_zero s = int_eq s.lo (pos 0) && int_eq s.hi (pos 0)

abbrev pub copied_or : Strided → Strided → Strided → Strided
copied_or a b other = if is_zero b then a else (if is_zero a then b else other)

-- rule 1: the registers that are read are constants, and the value is that of the instruction
abbrev pub constant_at : Facts → Option ℕ → Bool
constant_at f None = true
constant_at f (Some r) = is_constant (fact_of f r)

abbrev pub all_constant : Facts → List (Option ℕ) → Bool
all_constant f [] = true
all_constant f (name ∷ names) = constant_at f name && all_constant f names

abbrev pub is_computed : Instr → Bool
is_computed (R3 m rs rt rd) = true
is_computed (Shift m rt rd sa) = true
is_computed (Imm m rs rt imm) = true
is_computed (Lui rt imm) = true
is_computed (Count m rs rd) = true
is_computed i = false

-- registers at the least values of their facts
abbrev pub values_at : Facts → ℕ → ℕ → ℕ → Values
values_at f rs rt rd =
    record { rs = unsigned (fact_of f rs).lo; rt = unsigned (fact_of f rt).lo; rd = unsigned (fact_of f rd).lo; pair = 0 }

-- those that an instruction computes with; register 0 is 0
abbrev pub least_values : Instr → Facts → Values
least_values (R3 m rs rt rd) f = values_at f rs rt rd
least_values (Shift m rt rd sa) f = values_at f 0 rt 0
least_values (Imm m rs rt imm) f = values_at f rs 0 0
least_values (Count m rs rd) f = values_at f rs 0 0
least_values i f = values_at f 0 0 0

abbrev pub value_fact : Option ℕ → Strided
value_fact None = unknown
value_fact (Some value) = word_fact value

-- a trap has no value
unfoldable pub computed_fact : Instr → Facts → Strided
computed_fact i f = value_fact (act_of i 0 0 (least_values i f)).write

-- rules 3, 4 and 6 for three registers
unfoldable pub r3_fact : R3Op → Strided → Strided → Strided
r3_fact Or a b = copied_or a b unknown
r3_fact Addu a b = copied_or a b (sum_fact a b)
r3_fact Add a b = copied_or a b (sum_fact a b)
r3_fact Subu a b = difference_fact a b
r3_fact Sub a b = difference_fact a b
r3_fact Slt a b = up_to 1
r3_fact Sltu a b = up_to 1
r3_fact m a b = unknown

-- rules 5 and 6 for shifts
unfoldable pub shift_fact : ShiftOp → ℕ → Strided → Strided
shift_fact Sll sa a = scaled_fact a sa
shift_fact Srl sa a = if sa == 0 then unknown else up_to (2 ^ (32 - sa) - 1)
shift_fact Sra sa a = unknown

-- rules 2 and 6 for a register and a constant
unfoldable pub imm_fact : ImmOp → ℕ → Strided → Strided
imm_fact Addi imm a = moved_fact a (cast_signed w16 imm)
imm_fact Addiu imm a = moved_fact a (cast_signed w16 imm)
imm_fact Andi imm a = up_to imm
imm_fact Slti imm a = up_to 1
imm_fact Sltiu imm a = up_to 1
imm_fact Ori imm a = unknown
imm_fact Xori imm a = unknown

-- rule 6 for loads
unfoldable pub load_fact : LoadOp → Strided
load_fact Lb = record { lo = negsuc 127; hi = pos 127; stride = 1 }
load_fact Lbu = up_to 255
load_fact Lh = record { lo = negsuc 32767; hi = pos 32767; stride = 1 }
load_fact Lhu = up_to 65535
load_fact m = unknown

-- rules 2 to 7; a link is the address behind the delay slot
unfoldable pub ruled_fact : Instr → ℕ → Facts → Strided
ruled_fact (R3 m rs rt rd) at f = r3_fact m (fact_of f rs) (fact_of f rt)
ruled_fact (Shift m rt rd sa) at f = shift_fact m sa (fact_of f rt)
ruled_fact (Imm m rs rt imm) at f = imm_fact m imm (fact_of f rs)
ruled_fact (Load m rs rt off) at f = load_fact m
ruled_fact (Branch1 m rs off) at f = word_fact (word_sum at 8)
ruled_fact (Jump m target) at f = word_fact (word_sum at 8)
ruled_fact (Jalr rs rd) at f = word_fact (word_sum at 8)
ruled_fact i at f = unknown

-- the fact of the register that an instruction at an address writes
unfoldable pub written_fact : Instr → ℕ → Facts → Strided
written_fact i at f = if is_computed i && all_constant f (reads_of i) then computed_fact i f else ruled_fact i at f

-- the register that an instruction writes; register 0 isn't written, and the pair HI and LO is no register
abbrev pub register_of : Option ℕ → Option ℕ
register_of None = None
register_of (Some name) = if nat_lt name 32 then Some name else None

abbrev pub with_fact : Facts → Option ℕ → Strided → Facts
with_fact f None s = f
with_fact f (Some r) s = record { ranges = slice_set f.ranges r s }

-- the facts after an instruction at an address
unfoldable pub transfer_of : Instr → ℕ → Facts → Facts
transfer_of i at f = with_fact f (register_of (writes_of i)) (written_fact i at f)

-- the facts as a job opens: the registers that aren't zero are the address of the input, its length, which is at most that of its
-- buffer, the stack and the exit address
unfoldable pub opening_of : ℕ → ℕ → ℕ → Facts
opening_of input_at input_len stack =
    record {
      ranges = slice_set (slice_set (slice_set (slice_set (replicate 32 (constant (pos 0))) 4 (word_fact input_at)) 5 (up_to input_len)) 29 (word_fact stack)) 31 (word_fact exit_address);
    }
