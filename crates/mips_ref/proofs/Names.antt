-- Which names an instruction writes.
use Rattle.std.proofs.Common.{◌≡◌, ℕ, ◌<◌, ◌≤◌, Bool, true, false, cond, eqb, Some, None, refl, lit<, lit≤, arith}
use Rattle.std.specs.Prelude.{IfSome}
use Rattle.std.proofs.lemmas.Grind.{common_steps}
use Rattle.mips_isa.specs.Fits.{FieldsFit}
use Rattle.mips_isa.specs.Names.{writes_of, register_written}
use Rattle.mips_isa.specs.declared.instr.Instr.{Instr}
use Rattle.mips_isa.specs.declared.instr.Instr.TheVariants.{R3, Shift, Acc, HiLo, Count, Imm, Lui, Load, Store, Pref, Branch2, Branch1, Jump, Jr, Jalr, TrapIf, Stop, Sync}
use Rattle.mips_isa.specs.declared.instr.HiLoOp.TheVariants.{Mfhi, Mflo, Mthi, Mtlo}
use Rattle.mips_isa.specs.declared.instr.Branch1Op.TheVariants.{Blez, Bgtz, Bltz, Bgez, Bltzal, Bgezal}
use Rattle.mips_isa.specs.declared.instr.JumpOp.TheVariants.{J, Jal}

abbrev pub IsName : ℕ → Type 0
IsName n = (0 < n) × (n ≤ 32)

written : (r : ℕ) (b : Bool) → eqb r 0 ≡ b → r < 32 → IfSome (cond b None (Some r)) IsName
written r true e below = tt
written r false e below = (grind (arith, common_steps, e), omega arith)

register_named : (r : ℕ) → r < 32 → IfSome (register_written r) IsName
register_named r below = written r (eqb r 0) refl below

pub writes_named : (i : Instr) → FieldsFit i → IfSome (writes_of i) IsName
unfolding writes_of
writes_named (R3 m rs rt rd) fits = register_named rd fits.2
writes_named (Shift m rt rd sa) fits = register_named rd fits.1
writes_named (Acc m rs rt) fits = (lit< tt, lit≤ tt)
writes_named (HiLo Mfhi rs rd) fits = register_named rd fits.1
writes_named (HiLo Mflo rs rd) fits = register_named rd fits.1
writes_named (HiLo Mthi rs rd) fits = (lit< tt, lit≤ tt)
writes_named (HiLo Mtlo rs rd) fits = (lit< tt, lit≤ tt)
writes_named (Count m rs rd) fits = register_named rd fits.1
writes_named (Imm m rs rt imm) fits = register_named rt fits.1
writes_named (Lui rt imm) fits = register_named rt fits.0
writes_named (Load m rs rt off) fits = register_named rt fits.1
writes_named (Store m rs rt off) fits = tt
writes_named (Pref rs hint off) fits = tt
writes_named (Branch2 m rs rt off) fits = tt
writes_named (Branch1 Blez rs off) fits = tt
writes_named (Branch1 Bgtz rs off) fits = tt
writes_named (Branch1 Bltz rs off) fits = tt
writes_named (Branch1 Bgez rs off) fits = tt
writes_named (Branch1 Bltzal rs off) fits = (lit< tt, lit≤ tt)
writes_named (Branch1 Bgezal rs off) fits = (lit< tt, lit≤ tt)
writes_named (Jump J target) fits = tt
writes_named (Jump Jal target) fits = (lit< tt, lit≤ tt)
writes_named (Jr rs) fits = tt
writes_named (Jalr rs rd) fits = register_named rd fits.1
writes_named (TrapIf m rs rt code) fits = tt
writes_named (Stop m code) fits = tt
writes_named (Sync stype) fits = tt
