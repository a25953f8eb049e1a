-- Which names an instruction reads. Belongs in mips_ref, beside the names that it writes.
use Rattle.std.proofs.Common.{ℕ, ◌<◌, ◌≤◌, Bool, true, false, List, [], ◌∷◌, Option, Some, None, lit≤, arith}
use Rattle.mips_isa.specs.Fits.{FieldsFit}
use Rattle.mips_isa.specs.Names.{is_partial_load, may_keep, name_if, reads_of, reads_pair}
use Rattle.mips_isa.specs.declared.instr.HiLoOp.TheVariants.{Mfhi, Mflo, Mthi, Mtlo}
use Rattle.mips_isa.specs.declared.instr.Instr.{Instr}
use Rattle.mips_isa.specs.declared.instr.Instr.TheVariants.{R3, Shift, Acc, HiLo, Count, Imm, Lui, Load, Store, Pref, Branch2, Branch1, Jump, Jr, Jalr, TrapIf, Stop, Sync}

-- each name of these is one of the registers or the pair
abbrev pub AllNamed : List (Option ℕ) → Type 0
AllNamed [] = Unit {0}
AllNamed (None ∷ names) = AllNamed names
AllNamed (Some n ∷ names) = (n ≤ 32) × AllNamed names

named-if : (b : Bool) (n : ℕ) (names : List (Option ℕ)) → n ≤ 32 → AllNamed names → AllNamed (name_if b n ∷ names)
named-if true n names h k = (h, k)
named-if false n names h k = k

low : (r : ℕ) → r < 32 → r ≤ 32
low r h = omega (arith, h)

pub reads-named : (i : Instr) → FieldsFit i → AllNamed (reads_of i)
unfolding reads_of
reads-named (R3 m rs rt rd) fits = (low rs fits.0, (low rt fits.1, named-if (may_keep m) rd [] (low rd fits.2) tt))
reads-named (Shift m rt rd sa) fits = (low rt fits.0, tt)
reads-named (Acc m rs rt) fits = (low rs fits.0, (low rt fits.1, named-if (reads_pair m) 32 [] (lit≤ tt) tt))
reads-named (HiLo Mfhi rs rd) fits = (lit≤ tt, tt)
reads-named (HiLo Mflo rs rd) fits = (lit≤ tt, tt)
reads-named (HiLo Mthi rs rd) fits = (low rs fits.0, (lit≤ tt, tt))
reads-named (HiLo Mtlo rs rd) fits = (low rs fits.0, (lit≤ tt, tt))
reads-named (Count m rs rd) fits = (low rs fits.0, tt)
reads-named (Imm m rs rt imm) fits = (low rs fits.0, tt)
reads-named (Lui rt imm) fits = tt
reads-named (Load m rs rt off) fits = (low rs fits.0, named-if (is_partial_load m) rt (None ∷ []) (low rt fits.1) tt)
reads-named (Store m rs rt off) fits = (low rs fits.0, (low rt fits.1, tt))
reads-named (Pref rs hint off) fits = (low rs fits.0, tt)
reads-named (Branch2 m rs rt off) fits = (low rs fits.0, (low rt fits.1, tt))
reads-named (Branch1 m rs off) fits = (low rs fits.0, tt)
reads-named (Jump m target) fits = tt
reads-named (Jr rs) fits = (low rs fits, tt)
reads-named (Jalr rs rd) fits = (low rs fits.0, tt)
reads-named (TrapIf m rs rt code) fits = (low rs fits.0, (low rt fits.1, tt))
reads-named (Stop m code) fits = tt
reads-named (Sync stype) fits = tt
