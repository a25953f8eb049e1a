-- One step of the reference machine. Source: MIPS32 Architecture For Programmers, volume II, release 1; the return stack, the output
-- port, the exit address and the traps that speak of them are this project's own.
use Rattle.std.specs.Prelude.{ℕ, ◌+◌, ◌-◌, ◌^◌, min, ◌++◌, Bool, true, false, not, ◌&&◌, nat_lt, ◌==◌, if◌then◌else◌, List, [], ◌∷◌, drop, length, slice_set, Option, Some, None}
use Rattle.mips_isa.specs.Decoding.{decode_of}
use Rattle.mips_isa.specs.Names.{writes_of}
use Rattle.mips_isa.specs.Words.{high_word, low_word, pair_of, word_sum}
use Rattle.mips_isa.specs.declared.instr.Instr.{Instr}
use Rattle.mips_isa.specs.declared.instr.Instr.TheVariants.{R3, Shift, Acc, HiLo, Count, Imm, Lui, Load, Store, Pref, Branch2, Branch1, Jump, Jr, Jalr, TrapIf, Stop, Sync}
use Rattle.mips_isa.specs.declared.instr.Branch1Op.TheVariants.{Bltzal, Bgezal}
use Rattle.mips_isa.specs.declared.instr.JumpOp.TheVariants.{Jal}
use Rattle.mips_ref.specs.Access.{loaded_of, refuses_of, stored_of, word_start}
use Rattle.mips_ref.specs.Act.{act_of, to_register}
use Rattle.mips_ref.specs.Memory.{Flat, code_word_at, in_order, lanes_at, or_zero, port, put_lanes}
use Rattle.mips_ref.specs.Mips.{Mips, exit_address, greatest_depth, register_of}
use Rattle.mips_ref.specs.declared.records.Act.{Act}
use Rattle.mips_ref.specs.declared.records.Operands.{Operands}
use Rattle.mips_ref.specs.declared.records.Retired.{Retired}
use Rattle.mips_ref.specs.declared.records.Step.{Step}
use Rattle.mips_ref.specs.declared.records.Step.TheVariants.{Went, Exit, Trap}
use Rattle.mips_ref.specs.declared.records.TrapKind.{TrapKind}
use Rattle.mips_ref.specs.declared.records.TrapKind.TheVariants.{FetchFault, OutputFull, Reserved, ReturnFull, ReturnMismatch}
use Rattle.mips_ref.specs.declared.records.Values.{Values}

-- what a step answers, and the state that it leaves
pub record Stepped : Type 0 where
  pub answer : Step
  pub state : Mips

-- a trap leaves the state as it is, and names its pc
abbrev pub trapped : TrapKind → Mips → Stepped
trapped kind x = record { answer = Trap kind x.pc; state = x }

abbrev pub fields : ℕ → ℕ → ℕ → Operands
fields rs rt rd = record { rs = rs; rt = rt; rd = rd }

-- the registers in the fields rs, rt and rd, each 0 where the instruction has no such field
unfoldable pub operands_of : Instr → Operands
operands_of (R3 m rs rt rd) = fields rs rt rd
operands_of (Shift m rt rd sa) = fields 0 rt rd
operands_of (Acc m rs rt) = fields rs rt 0
operands_of (HiLo m rs rd) = fields rs 0 rd
operands_of (Count m rs rd) = fields rs 0 rd
operands_of (Imm m rs rt imm) = fields rs rt 0
operands_of (Lui rt imm) = fields 0 rt 0
operands_of (Load m rs rt off) = fields rs rt 0
operands_of (Store m rs rt off) = fields rs rt 0
operands_of (Pref rs hint off) = fields rs 0 0
operands_of (Branch2 m rs rt off) = fields rs rt 0
operands_of (Branch1 m rs off) = fields rs 0 0
operands_of (Jump m target) = fields 0 0 0
operands_of (Jr rs) = fields rs 0 0
operands_of (Jalr rs rd) = fields rs 0 rd
operands_of (TrapIf m rs rt code) = fields rs rt 0
operands_of (Stop m code) = fields 0 0 0
operands_of (Sync stype) = fields 0 0 0

-- the values that an instruction is given
unfoldable pub values_of : Instr → Mips → Values
values_of i x =
    record {
      rs = register_of x (operands_of i).rs;
      rt = register_of x (operands_of i).rt;
      rd = register_of x (operands_of i).rd;
      pair = pair_of x.hi x.lo;
    }

-- what an instruction does in a state, memory and the return stack aside
abbrev pub acted : Instr → Mips → Act
acted i x = act_of i x.pc x.next_pc (values_of i x)

-- the trap of a load or store at its address
abbrev pub access_trap : Flat → Instr → Option ℕ → Option TrapKind
access_trap m i None = None
access_trap m i (Some at) = refuses_of m i at

-- the first of two traps
abbrev pub first_trap : Option TrapKind → Option TrapKind → Option TrapKind
first_trap None late = late
first_trap (Some kind) late = Some kind

-- the trap of an instruction with what it does; those that only its parts find aside
abbrev pub trap_in : Instr → Act → Mips → Option TrapKind
trap_in i a x = first_trap a.trap (access_trap x.memory i a.at)

unfoldable pub trap_of : Instr → Mips → Option TrapKind
trap_of i x = trap_in i (acted i x) x

-- the value for the name that an instruction writes; a load's comes from the bytes around its address
unfoldable pub write_of : Instr → Act → Mips → Option ℕ
write_of (Load m rs rt off) a x =
    to_register rt
    (loaded_of (Load m rs rt off) (or_zero a.at) (register_of x rt) (lanes_at x.memory (word_start (or_zero a.at))) x.memory.big)
write_of i a x = a.write

-- the mask and the word of a store
abbrev pub bytes_of : Instr → Act → Mips → ℕ × ℕ
bytes_of i a x = stored_of i (or_zero a.at) (values_of i x).rt x.memory.big

-- the parts of a step whose instruction has no trap
unfoldable pub parts_of : Instr → Act → Mips → Retired
parts_of i a x =
    record {
      write = write_of i a x;
      next = a.next;
      taken = a.taken;
      at = a.at;
      mask = (bytes_of i a x).0;
      word = (bytes_of i a x).1;
    }

unfoldable pub retired_of : Instr → Mips → Retired
retired_of i x = parts_of i (acted i x) x

-- a call pushes the address after its delay slot; a branch that links does where it is taken
abbrev pub links : Instr → Bool
links (Branch1 Bltzal rs off) = true
links (Branch1 Bgezal rs off) = true
links (Jump Jal target) = true
links (Jalr rs rd) = true
links _ = false

-- a jump to register 31 is a return
abbrev pub returns_here : Instr → Bool
returns_here (Jr rs) = rs == 31
returns_here _ = false

-- a return to another address than the one that the newest call pushed, or without a call
abbrev pub mismatch : ℕ → List ℕ → Option TrapKind
mismatch a [] = Some ReturnMismatch
mismatch a (b ∷ rest) = if a == b then None else Some ReturnMismatch

-- the trap of the return stack
abbrev pub return_trap : Instr → Bool → ℕ → List ℕ → Option TrapKind
return_trap i taken target stack =
    if links i && taken then (if nat_lt (length stack) greatest_depth then None else Some ReturnFull)
    else (if returns_here i then mismatch target stack else None)

-- the return stack after an instruction at `pc`
abbrev pub returns_after : Instr → Bool → ℕ → List ℕ → List ℕ
returns_after i taken pc stack =
    if links i && taken then word_sum pc 8 ∷ stack else (if returns_here i then drop 1 stack else stack)

-- the address of a store
abbrev pub store_at : Instr → Option ℕ → Option ℕ
store_at (Store m rs rt off) at = at
store_at _ at = None

-- the trap of a store to the port
abbrev pub output_trap : Option ℕ → ℕ → List ℕ → Option TrapKind
output_trap None most output = None
output_trap (Some at) most output = if at == port && not (nat_lt (length output) most) then Some OutputFull else None

-- a store to the port makes its word the output's last one; any other store changes memory
abbrev pub output_after : Option ℕ → ℕ → List ℕ → List ℕ
output_after None word output = output
output_after (Some at) word output = if at == port then output ++ word ∷ [] else output

abbrev pub memory_after : Option ℕ → ℕ → ℕ → Flat → Flat
memory_after None mask word m = m
memory_after (Some at) mask word m = if at == port then m else put_lanes m (word_start at) mask word

-- the registers, HI and LO with a new value of a name: a register takes its low word, the pair (name 32) both words
abbrev pub registers_after : Option ℕ → Option ℕ → List ℕ → List ℕ
registers_after None value registers = registers
registers_after (Some name) None registers = registers
registers_after (Some name) (Some value) registers = if name == 32 then registers else slice_set registers name (low_word value)

abbrev pub pair_after : Option ℕ → Option ℕ → ℕ → ℕ → ℕ
pair_after None value new old = old
pair_after (Some name) None new old = old
pair_after (Some name) (Some value) new old = if name == 32 then new else old

abbrev pub hi_after : Option ℕ → Option ℕ → ℕ → ℕ
hi_after name value hi = pair_after name value (high_word (or_zero value)) hi

abbrev pub lo_after : Option ℕ → Option ℕ → ℕ → ℕ
lo_after name value lo = pair_after name value (low_word (or_zero value)) lo

-- the trap that only the parts of a step find: ReturnFull, ReturnMismatch or OutputFull
unfoldable pub late_trap : Instr → Retired → Mips → Option TrapKind
late_trap i r x =
    first_trap (return_trap i r.taken (register_of x 31) x.returns) (output_trap (store_at i r.at) x.output_max x.output)

-- the state with the parts of a step applied
unfoldable pub changed : Instr → Retired → Mips → Mips
changed i r x =
    record {
      registers = registers_after (writes_of i) r.write x.registers;
      hi = hi_after (writes_of i) r.write x.hi;
      lo = lo_after (writes_of i) r.write x.lo;
      pc = x.next_pc;
      next_pc = r.next;
      memory = memory_after (store_at i r.at) r.mask r.word x.memory;
      returns = returns_after i r.taken x.pc x.returns;
      output = output_after (store_at i r.at) (in_order x.memory.big r.word) x.output;
      output_max = x.output_max;
    }

abbrev pub unless_late : Option TrapKind → Instr → Retired → Mips → Stepped
unless_late (Some kind) i r x = trapped kind x
unless_late None i r x = record { answer = Went; state = changed i r x }

-- the parts of a step, applied to a state
unfoldable pub applied : Instr → Retired → Mips → Stepped
applied i r x = unless_late (late_trap i r x) i r x

-- an instruction in a state
abbrev pub unless_trapped : Option TrapKind → Instr → Mips → Stepped
unless_trapped (Some kind) i x = trapped kind x
unless_trapped None i x = applied i (retired_of i x) x

unfoldable pub executed : Instr → Mips → Stepped
executed i x = unless_trapped (trap_of i x) i x

-- the word at the pc, decoded
abbrev pub decoded : Option Instr → Mips → Stepped
decoded None x = trapped Reserved x
decoded (Some i) x = executed i x

abbrev pub fetched : Option ℕ → Mips → Stepped
fetched None x = trapped FetchFault x
fetched (Some word) x = decoded (decode_of word) x

-- a job is over where it reaches the exit address and has returned from all its calls
abbrev pub at_exit : Mips → Bool
at_exit x = (x.pc == exit_address) && (length x.returns == 0)

-- one step
unfoldable pub step_of : Mips → Stepped
step_of x = if at_exit x then record { answer = Exit; state = x } else fetched (code_word_at x.memory x.pc) x

-- how many steps went, after one with this answer; the count stays at 2^64 - 1 once there
abbrev pub counted : Step → ℕ → ℕ
counted Went n = min (n + 1) (2 ^ 64 - 1)
counted Exit n = n
counted (Trap kind pc) n = n
