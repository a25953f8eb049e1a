-- The names that an instruction reads and writes: 0 to 31 are the registers, 32 is the pair HI and LO, which
-- is one name. Source: MIPS32 manual, volume II, the operands of each instruction.
use Rattle.std.specs.Prelude.{ℕ, Bool, true, false, Option, Some, None, List, [], ◌∷◌, ◌==◌, if◌then◌else◌}
use Rattle.mips_isa.specs.declared.instr.Instr.{Instr}
use Rattle.mips_isa.specs.declared.instr.Instr.TheVariants.{R3, Shift, Acc, HiLo, Count, Imm, Lui, Load, Store, Pref, Branch2, Branch1, Jump, Jr, Jalr, TrapIf, Stop, Sync}
use Rattle.mips_isa.specs.declared.instr.R3Op.{R3Op}
use Rattle.mips_isa.specs.declared.instr.R3Op.TheVariants.{Movz, Movn}
use Rattle.mips_isa.specs.declared.instr.AccOp.{AccOp}
use Rattle.mips_isa.specs.declared.instr.AccOp.TheVariants.{Mult, Multu}
use Rattle.mips_isa.specs.declared.instr.HiLoOp.{HiLoOp}
use Rattle.mips_isa.specs.declared.instr.HiLoOp.TheVariants.{Mfhi, Mflo}
use Rattle.mips_isa.specs.declared.instr.LoadOp.{LoadOp}
use Rattle.mips_isa.specs.declared.instr.LoadOp.TheVariants.{Lwl, Lwr}
use Rattle.mips_isa.specs.declared.instr.Branch1Op.{Branch1Op}
use Rattle.mips_isa.specs.declared.instr.Branch1Op.TheVariants.{Bltzal, Bgezal}
use Rattle.mips_isa.specs.declared.instr.JumpOp.{JumpOp}
use Rattle.mips_isa.specs.declared.instr.JumpOp.TheVariants.{Jal}

-- the name of the pair HI and LO
abbrev pub pair_name : ℕ
pair_name = 32

-- the register that a branch or jump writes its link to
abbrev pub link_register : ℕ
link_register = 31

-- movz and movn, which may keep the register that they write, and so read it
abbrev pub may_keep : R3Op → Bool
may_keep Movz = true
may_keep Movn = true
may_keep m = false

-- mult and multu don't read the pair: a quotient by zero keeps it, and the others add to it or subtract from
-- it
abbrev pub reads_pair : AccOp → Bool
reads_pair Mult = false
reads_pair Multu = false
reads_pair m = true

-- mfhi and mflo, which move from the pair into a register
abbrev pub moves_from_pair : HiLoOp → Bool
moves_from_pair Mfhi = true
moves_from_pair Mflo = true
moves_from_pair m = false

-- lwl and lwr, which keep a part of the register that they load
abbrev pub is_partial_load : LoadOp → Bool
is_partial_load Lwl = true
is_partial_load Lwr = true
is_partial_load m = false

-- bltzal and bgezal
abbrev pub branch_links : Branch1Op → Bool
branch_links Bltzal = true
branch_links Bgezal = true
branch_links m = false

-- jal
abbrev pub jump_links : JumpOp → Bool
jump_links Jal = true
jump_links m = false

-- the name where the test holds
abbrev pub name_if : Bool → ℕ → Option ℕ
name_if test name = if test then Some name else None

-- a register as a name to write: register 0 isn't written
abbrev pub register_written : ℕ → Option ℕ
register_written r = if r == 0 then None else Some r

-- the three places: rs where it is read, rt where it is read, then rd or the pair where it is read
abbrev pub places : Option ℕ → Option ℕ → Option ℕ → List (Option ℕ)
places rs rt third = rs ∷ rt ∷ third ∷ []

-- what an instruction reads, by place
unfoldable pub reads_of : Instr → List (Option ℕ)
reads_of (R3 m rs rt rd) = places (Some rs) (Some rt) (name_if (may_keep m) rd)
reads_of (Shift m rt rd sa) = places None (Some rt) None
reads_of (Acc m rs rt) = places (Some rs) (Some rt) (name_if (reads_pair m) pair_name)
reads_of (HiLo m rs rd) = places (if moves_from_pair m then None else Some rs) None (Some pair_name)
reads_of (Count m rs rd) = places (Some rs) None None
reads_of (Imm m rs rt imm) = places (Some rs) None None
reads_of (Lui rt imm) = places None None None
reads_of (Load m rs rt off) = places (Some rs) (name_if (is_partial_load m) rt) None
reads_of (Store m rs rt off) = places (Some rs) (Some rt) None
reads_of (Pref rs hint off) = places (Some rs) None None
reads_of (Branch2 m rs rt off) = places (Some rs) (Some rt) None
reads_of (Branch1 m rs off) = places (Some rs) None None
reads_of (Jump m target) = places None None None
reads_of (Jr rs) = places (Some rs) None None
reads_of (Jalr rs rd) = places (Some rs) None None
reads_of (TrapIf m rs rt code) = places (Some rs) (Some rt) None
reads_of (Stop m code) = places None None None
reads_of (Sync stype) = places None None None

-- what an instruction writes; a branch that links writes its link taken or not
unfoldable pub writes_of : Instr → Option ℕ
writes_of (R3 m rs rt rd) = register_written rd
writes_of (Shift m rt rd sa) = register_written rd
writes_of (Acc m rs rt) = Some pair_name
writes_of (HiLo m rs rd) = if moves_from_pair m then register_written rd else Some pair_name
writes_of (Count m rs rd) = register_written rd
writes_of (Imm m rs rt imm) = register_written rt
writes_of (Lui rt imm) = register_written rt
writes_of (Load m rs rt off) = register_written rt
writes_of (Store m rs rt off) = None
writes_of (Pref rs hint off) = None
writes_of (Branch2 m rs rt off) = None
writes_of (Branch1 m rs off) = name_if (branch_links m) link_register
writes_of (Jump m target) = name_if (jump_links m) link_register
writes_of (Jr rs) = None
writes_of (Jalr rs rd) = register_written rd
writes_of (TrapIf m rs rt code) = None
writes_of (Stop m code) = None
writes_of (Sync stype) = None
