-- A state of the reference machine. Source: MIPS32 Architecture For Programmers, volume I, chapter 2 (general registers,
-- HI and LO, the delay slot); the return stack and the output are this project's own.
use Rattle.std.specs.Prelude.{ℕ, List, [], replicate, ◌==◌, ◌≡◌, ◌≤◌, if◌then◌else◌, length, slice_index}
use Rattle.mips_isa.specs.Words.{pair_of}
use Rattle.mips_ref.specs.Memory.{Flat}

pub record Mips : Type 0 where
  -- the 32 general registers
  pub registers : List ℕ
  pub hi : ℕ
  pub lo : ℕ
  -- the address of the instruction that acts next, and of the one after it
  pub pc : ℕ
  pub next_pc : ℕ
  pub memory : Flat
  -- the addresses that calls pushed, newest first
  pub returns : List ℕ
  -- the words stored to the output port, oldest first, and how many there may be
  pub output : List ℕ
  pub output_max : ℕ

abbrev pub register_of : Mips → ℕ → ℕ
register_of x r = slice_index x.registers r

-- the value of a name: a register, or 32 for HI and LO
abbrev pub name_value : Mips → ℕ → ℕ
name_value x n = if n == 32 then pair_of x.hi x.lo else register_of x n

-- the exit address of a job
abbrev pub exit_address : ℕ
exit_address = 4294967280

-- a machine before its first job: all zero and empty, but for the memory
unfoldable pub blank : Flat → ℕ → Mips
blank memory output_max =
    record {
      registers = replicate 32 0;
      hi = 0;
      lo = 0;
      pc = 0;
      next_pc = 0;
      memory = memory;
      returns = [];
      output = [];
      output_max = output_max;
    }

-- how many addresses the return stack holds at most
abbrev pub greatest_depth : ℕ
greatest_depth = 64

-- a state, and how many steps a machine has made by itself since its job opened
pub record Held : Type 0 where
  pub mips : Mips
  pub computed : ℕ

-- what every machine's state keeps: 32 registers, register 0 zero, a return stack of at most 64, an output within its length
pub record IsState (x : Mips) : Type 0 where
  pub registers : length x.registers ≡ 32
  pub zero : slice_index x.registers 0 ≡ 0
  pub depth : length x.returns ≤ greatest_depth
  pub output : length x.output ≤ x.output_max
