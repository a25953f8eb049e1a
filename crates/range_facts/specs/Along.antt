-- Facts along a block, with the comparisons that still hold, and along its edges. This project's own.
use Rattle.std.specs.Prelude.{ℕ, ℤ, pos, negsuc, ◌-ℤ◌, Bool, true, not, ◌&&◌, ◌==◌, int_le, if◌then◌else◌, List, map, replicate, Option, Some, None, slice_index_or, slice_set}
use Rattle.std.specs.Int.{cast_signed, w16}
use Rattle.mips_isa.specs.Names.{writes_of}
use Rattle.mips_isa.specs.declared.instr.Instr.{Instr}
use Rattle.mips_isa.specs.declared.instr.Instr.TheVariants.{R3, Imm, Branch2, Branch1}
use Rattle.mips_isa.specs.declared.instr.R3Op.{R3Op}
use Rattle.mips_isa.specs.declared.instr.R3Op.TheVariants.{Slt, Sltu}
use Rattle.mips_isa.specs.declared.instr.ImmOp.{ImmOp}
use Rattle.mips_isa.specs.declared.instr.ImmOp.TheVariants.{Slti, Sltiu}
use Rattle.mips_isa.specs.declared.instr.Branch2Op.{Branch2Op}
use Rattle.mips_isa.specs.declared.instr.Branch2Op.TheVariants.{Beq, Bne}
use Rattle.mips_isa.specs.declared.instr.Branch1Op.{Branch1Op}
use Rattle.mips_isa.specs.declared.instr.Branch1Op.TheVariants.{Blez, Bgtz, Bltz, Bgez}
use Rattle.range_facts.specs.Ranges.{is_constant}
use Rattle.range_facts.specs.Refining.{left_of}
use Rattle.range_facts.specs.Transfer.{fact_of, register_of, transfer_of}
use Rattle.range_facts.specs.declared.strided.Strided.{Strided}
use Rattle.range_facts.specs.declared.strided.Cond.{Cond}
use Rattle.range_facts.specs.declared.strided.Cond.TheVariants.{Eq, Ne, AtMost, AtLeast}
use Rattle.range_facts.specs.declared.facts.Facts.{Facts}
use Rattle.range_facts.specs.declared.along.Along.{Along}
use Rattle.range_facts.specs.declared.tests.Test.{Test}

-- the comparison that a register still holds the answer of: whether another register, unchanged since, is below a bound
abbrev pub test_of : Along → ℕ → Option Test
test_of a r = slice_index_or a.tests r None

-- at a block's start no comparison is known
abbrev pub begun : Facts → Along
begun f = record { facts = f; tests = replicate 32 None }

abbrev pub test : ℕ → ℤ → Test
test of bound = record { of = of; bound = bound }

abbrev pub is_natural : ℤ → Bool
is_natural z = int_le (pos 0) z

abbrev pub test_if : Bool → ℕ → ℤ → Option Test
test_if b of bound = if b then Some (test of bound) else None

-- the comparison of a register with a constant that an instruction makes; one of unsigned words is one of signed words where both are
-- at least 0
abbrev pub r3_test : R3Op → ℕ → ℕ → Facts → Option Test
r3_test Slt rs rt f = test_if (is_constant (fact_of f rt)) rs (fact_of f rt).lo
r3_test Sltu rs rt f =
    test_if (is_constant (fact_of f rt) && is_natural (fact_of f rt).lo && is_natural (fact_of f rs).lo) rs (fact_of f rt).lo
r3_test m rs rt f = None

abbrev pub imm_test : ImmOp → ℕ → ℕ → Facts → Option Test
imm_test Slti rs imm f = test_if true rs (cast_signed w16 imm)
imm_test Sltiu rs imm f = test_if (is_natural (cast_signed w16 imm) && is_natural (fact_of f rs).lo) rs (cast_signed w16 imm)
imm_test m rs imm f = None

unfoldable pub made_test : Instr → Facts → Option Test
made_test (R3 m rs rt rd) f = r3_test m rs rt f
made_test (Imm m rs rt imm) f = imm_test m rs imm f
made_test i f = None

-- a comparison is forgotten as its operand is written
abbrev pub unless_of : ℕ → Option Test → Option Test
unless_of r None = None
unless_of r (Some t) = if t.of == r then None else Some t

-- the comparisons after a register is written
abbrev pub tests_after : List (Option Test) → Option ℕ → Option Test → List (Option Test)
tests_after tests None made = tests
tests_after tests (Some r) made = slice_set (map (unless_of r) tests) r (unless_of r made)

-- facts and comparisons after an instruction at an address
unfoldable pub after_instr : Instr → ℕ → Along → Along
after_instr i at a =
    record { facts = transfer_of i at a.facts; tests = tests_after a.tests (register_of (writes_of i)) (made_test i a.facts) }

-- one register's fact refined; None where no value meets the condition
abbrev pub with_left : Along → ℕ → Option Strided → Option Along
with_left a r None = None
with_left a r (Some s) = Some (record { facts = record { ranges = slice_set a.facts.ranges r s }; tests = a.tests })

unfoldable pub refined_at : ℕ → Cond → Along → Option Along
refined_at r c a = with_left a r (left_of (fact_of a.facts r) c)

abbrev pub and_then : Option Along → (Along → Option Along) → Option Along
and_then None next = None
and_then (Some a) next = next a

-- a branch says that its two registers are equal
abbrev pub says_equal : Branch2Op → Bool → Bool
says_equal Beq taken = taken
says_equal Bne taken = not taken

abbrev pub equals : Bool → ℤ → Cond
equals b c = if b then Eq c else Ne c

-- one register against the other where that is a constant; rs where both are
unfoldable pub pair_refined : Bool → ℕ → ℕ → Along → Option Along
pair_refined equal rs rt a =
    if is_constant (fact_of a.facts rt) then refined_at rs (equals equal (fact_of a.facts rt).lo) a
    else (if is_constant (fact_of a.facts rs) then refined_at rt (equals equal (fact_of a.facts rs).lo) a else Some a)

-- the register that a branch compares with register 0
abbrev pub compared_with_zero : ℕ → ℕ → Option ℕ
compared_with_zero rs rt = if rt == 0 then Some rs else (if rs == 0 then Some rt else None)

-- the test of a register, if any
abbrev pub test_held : Along → Option ℕ → Option Test
test_held a None = None
test_held a (Some r) = test_of a r

-- the answer 0 says that the operand isn't below the bound, any other answer that it is
abbrev pub bound : Bool → Test → Cond
bound is_zero t = if is_zero then AtLeast t.bound else AtMost (t.bound -ℤ pos 1)

abbrev pub bounded : Bool → Option Test → Along → Option Along
bounded is_zero None a = Some a
bounded is_zero (Some t) a = refined_at t.of (bound is_zero t) a

unfoldable pub test_refined : Bool → ℕ → ℕ → Along → Option Along
test_refined equal rs rt a = bounded equal (test_held a (compared_with_zero rs rt)) a

-- the condition of a comparison with zero, taken or not
abbrev pub sign_condition : Branch1Op → Bool → Option Cond
sign_condition Blez taken = Some (if taken then AtMost (pos 0) else AtLeast (pos 1))
sign_condition Bgtz taken = Some (if taken then AtLeast (pos 1) else AtMost (pos 0))
sign_condition Bltz taken = Some (if taken then AtMost (negsuc 0) else AtLeast (pos 0))
sign_condition Bgez taken = Some (if taken then AtLeast (pos 0) else AtMost (negsuc 0))
sign_condition m taken = None

abbrev pub sign_refined : Option Cond → ℕ → Along → Option Along
sign_refined None rs a = Some a
sign_refined (Some c) rs a = refined_at rs c a

-- what a branch, taken or not, says of the facts before it; None where no registers that fit them go that way
unfoldable pub refined_by : Instr → Bool → Along → Option Along
refined_by (Branch2 m rs rt off) taken a =
    and_then (pair_refined (says_equal m taken) rs rt a) (test_refined (says_equal m taken) rs rt)
refined_by (Branch1 m rs off) taken a = sign_refined (sign_condition m taken) rs a
refined_by i taken a = Some a
