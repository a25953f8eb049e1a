-- Instructions by their templates and the values of their operands.
use Rattle.std.proofs.Common.{◌≡◌, refl, ap, ◌∙◌, ℕ, [], ◌∷◌, ◌++◌, append-nil, arith}
use Rattle.mips_isa.specs.Fits.{FieldsFit}
use Rattle.mips_isa.specs.Words.{branch_target, jump_target}
use Rattle.mips_isa.specs.declared.instr.Instr.{Instr}
use Rattle.mips_isa.specs.declared.instr.Instr.TheVariants.{R3, Shift, Acc, HiLo, Count, Imm, Lui, Load, Store, Pref, Branch2, Branch1, Jump, Jr, Jalr, TrapIf, Stop, Sync}
use Rattle.mips_isa.specs.declared.instr.R3Op.TheVariants.{Sllv, Srlv, Srav}
use Rattle.mips_isa.specs.declared.instr.HiLoOp.TheVariants.{Mfhi, Mflo, Mthi, Mtlo}
use Rattle.mips_isa.specs.declared.instr.ImmOp.{ImmOp}
use Rattle.mips_isa.specs.declared.instr.ImmOp.TheVariants.{Andi, Ori, Xori}
use Rattle.mips_text.specs.declared.piece.Piece.{Piece}
use Rattle.mips_text.specs.declared.piece.Piece.TheVariants.{Address, Number, Register, Signed}
use Rattle.mips_text.specs.Mnemonics.{name_of, r3_name, shift_name, acc_name, hi_lo_name, count_name, imm_name, load_name, store_name, branch2_name, branch1_name, jump_name, trap_if_name, stop_name}
use Rattle.mips_text.specs.Operands.{based, immediate, instr_text, operands, piece_text, pieces_text, three, two}
use Rattle.mips_text.specs.Forms.{FormFits, form_text, operand_text}
use Rattle.mips_text.specs.Templates.{filled, form_of, immediate_kind}

one_text : (p : Piece) → pieces_text (p ∷ []) ≡ piece_text p
one_text p = append-nil (piece_text p)

two_text : (p q : Piece) → pieces_text (two p q) ≡ piece_text p ++ 44 ∷ piece_text q
unfolding piece_text
two_text p q = ap (λ x. piece_text p ++ 44 ∷ x) (append-nil (piece_text q))

three_text : (p q r : Piece) → pieces_text (three p q r) ≡ piece_text p ++ 44 ∷ (piece_text q ++ 44 ∷ piece_text r)
unfolding piece_text
three_text p q r = ap (λ x. piece_text p ++ 44 ∷ (piece_text q ++ 44 ∷ x)) (append-nil (piece_text r))

based_text : (p : Piece) (off base : ℕ) → pieces_text (based p off base) ≡ piece_text p ++ 44 ∷ (piece_text (Signed off) ++ 40 ∷ (piece_text (Register base) ++ 41 ∷ []))
unfolding piece_text
based_text p off base = refl

immediate_text : (m : ImmOp) (c at : ℕ) → piece_text (immediate m c) ≡ operand_text (immediate_kind m) at c
unfolding piece_text
immediate_text Andi c at = refl
immediate_text Ori c at = refl
immediate_text Xori c at = refl
immediate_text m c at = refl

-- the text of a template with operands
pub filled_text : (t : Instr) (a b c at : ℕ) → instr_text (filled t a b c) at ≡ name_of t ++ 32 ∷ form_text (form_of t) at a b c
unfolding instr_text operands piece_text form_of filled name_of
filled_text (R3 Sllv rs rt rd) a b c at = ap (λ x. r3_name Sllv ++ 32 ∷ x) (three_text (Register a) (Register b) (Register c))
filled_text (R3 m rs rt rd) a b c at = ap (λ x. r3_name m ++ 32 ∷ x) (three_text (Register a) (Register b) (Register c))
filled_text (Shift m rt rd sa) a b c at = ap (λ x. shift_name m ++ 32 ∷ x) (three_text (Register a) (Register b) (Number c))
filled_text (Acc m rs rt) a b c at = ap (λ x. acc_name m ++ 32 ∷ x) (two_text (Register a) (Register b))
filled_text (HiLo Mfhi rs rd) a b c at = ap (λ x. hi_lo_name Mfhi ++ 32 ∷ x) (one_text (Register a))
filled_text (HiLo m rs rd) a b c at = ap (λ x. hi_lo_name m ++ 32 ∷ x) (one_text (Register a))
filled_text (Count m rs rd) a b c at = ap (λ x. count_name m ++ 32 ∷ x) (two_text (Register a) (Register b))
filled_text (Imm m rs rt imm) a b c at = ap (λ x. imm_name m ++ 32 ∷ x) (three_text (Register a) (Register b) (immediate m c) ∙ ap (λ x. piece_text (Register a) ++ 44 ∷ (piece_text (Register b) ++ 44 ∷ x)) (immediate_text m c at))
filled_text (Lui rt imm) a b c at = ap (λ x. name_of (Lui rt imm) ++ 32 ∷ x) (two_text (Register a) (Number b))
filled_text (Load m rs rt off) a b c at = ap (λ x. load_name m ++ 32 ∷ x) (based_text (Register a) b c)
filled_text (Store m rs rt off) a b c at = ap (λ x. store_name m ++ 32 ∷ x) (based_text (Register a) b c)
filled_text (Pref rs hint off) a b c at = ap (λ x. name_of (Pref rs hint off) ++ 32 ∷ x) (based_text (Number a) b c)
filled_text (Branch2 m rs rt off) a b c at = ap (λ x. branch2_name m ++ 32 ∷ x) (three_text (Register a) (Register b) (Address (branch_target at c)))
filled_text (Branch1 m rs off) a b c at = ap (λ x. branch1_name m ++ 32 ∷ x) (two_text (Register a) (Address (branch_target at b)))
filled_text (Jump m target) a b c at = ap (λ x. jump_name m ++ 32 ∷ x) (one_text (Address (jump_target at a)))
filled_text (Jr rs) a b c at = ap (λ x. name_of (Jr rs) ++ 32 ∷ x) (one_text (Register a))
filled_text (Jalr rs rd) a b c at = ap (λ x. name_of (Jalr rs rd) ++ 32 ∷ x) (two_text (Register a) (Register b))
filled_text (TrapIf m rs rt code) a b c at = ap (λ x. trap_if_name m ++ 32 ∷ x) (three_text (Register a) (Register b) (Number c))
filled_text (Stop m code) a b c at = ap (λ x. stop_name m ++ 32 ∷ x) (one_text (Number a))
filled_text (Sync stype) a b c at = ap (λ x. name_of (Sync stype) ++ 32 ∷ x) (one_text (Number a))

-- operands that fit make an instruction that fits
pub filled_fits : (t : Instr) (a b c : ℕ) → FormFits (form_of t) a b c → FieldsFit (filled t a b c)
unfolding form_of filled
filled_fits (R3 Sllv rs rt rd) a b c f = (f.2, f.1, f.0)
filled_fits (R3 Srlv rs rt rd) a b c f = (f.2, f.1, f.0)
filled_fits (R3 Srav rs rt rd) a b c f = (f.2, f.1, f.0)
filled_fits (R3 m rs rt rd) a b c f = (f.1, f.2, f.0)
filled_fits (Shift m rt rd sa) a b c f = (f.1, f.0, omega (arith, f.2))
filled_fits (Acc m rs rt) a b c f = (f.0, f.1)
filled_fits (HiLo Mfhi rs rd) a b c f = (refl, f.0)
filled_fits (HiLo Mflo rs rd) a b c f = (refl, f.0)
filled_fits (HiLo Mthi rs rd) a b c f = (f.0, refl)
filled_fits (HiLo Mtlo rs rd) a b c f = (f.0, refl)
filled_fits (Count m rs rd) a b c f = (f.1, f.0)
filled_fits (Imm Andi rs rt imm) a b c f = (f.1, f.0, omega (arith, f.2))
filled_fits (Imm Ori rs rt imm) a b c f = (f.1, f.0, omega (arith, f.2))
filled_fits (Imm Xori rs rt imm) a b c f = (f.1, f.0, omega (arith, f.2))
filled_fits (Imm m rs rt imm) a b c f = (f.1, f.0, f.2)
filled_fits (Lui rt imm) a b c f = (f.0, omega (arith, f.1))
filled_fits (Load m rs rt off) a b c f = (f.2, f.0, f.1)
filled_fits (Store m rs rt off) a b c f = (f.2, f.0, f.1)
filled_fits (Pref rs hint off) a b c f = (f.2, omega (arith, f.0), f.1)
filled_fits (Branch2 m rs rt off) a b c f = (f.0, f.1, f.2)
filled_fits (Branch1 m rs off) a b c f = (f.0, f.1)
filled_fits (Jump m target) a b c f = f.0
filled_fits (Jr rs) a b c f = f.0
filled_fits (Jalr rs rd) a b c f = (f.1, f.0)
filled_fits (TrapIf m rs rt code) a b c f = (f.0, f.1, omega (arith, f.2))
filled_fits (Stop m code) a b c f = omega (arith, f.0)
filled_fits (Sync stype) a b c f = omega (arith, f.0)

-- and each instruction that fits is its template with operands that fit
pub record IsFilled (t i : Instr) : Type 0 where
  pub a : ℕ
  pub b : ℕ
  pub c : ℕ
  pub fits : FormFits (form_of t) a b c
  pub is : i ≡ filled t a b c

pub spelled : (i : Instr) → FieldsFit i → IsFilled (filled i 0 0 0) i
unfolding form_of filled
spelled (R3 Sllv rs rt rd) f = record { a = rd; b = rt; c = rs; fits = (f.2, f.1, f.0); is = refl }
spelled (R3 Srlv rs rt rd) f = record { a = rd; b = rt; c = rs; fits = (f.2, f.1, f.0); is = refl }
spelled (R3 Srav rs rt rd) f = record { a = rd; b = rt; c = rs; fits = (f.2, f.1, f.0); is = refl }
spelled (R3 m rs rt rd) f = record { a = rd; b = rs; c = rt; fits = (f.2, f.0, f.1); is = refl }
spelled (Shift m rt rd sa) f = record { a = rd; b = rt; c = sa; fits = (f.1, f.0, (omega (arith, f.2), omega (arith, f.2))); is = refl }
spelled (Acc m rs rt) f = record { a = rs; b = rt; c = 0; fits = (f.0, f.1, refl); is = refl }
spelled (HiLo Mfhi rs rd) f = record { a = rd; b = 0; c = 0; fits = (f.1, refl, refl); is = ap (λ x. HiLo Mfhi x rd) f.0 }
spelled (HiLo Mflo rs rd) f = record { a = rd; b = 0; c = 0; fits = (f.1, refl, refl); is = ap (λ x. HiLo Mflo x rd) f.0 }
spelled (HiLo Mthi rs rd) f = record { a = rs; b = 0; c = 0; fits = (f.0, refl, refl); is = ap (λ x. HiLo Mthi rs x) f.1 }
spelled (HiLo Mtlo rs rd) f = record { a = rs; b = 0; c = 0; fits = (f.0, refl, refl); is = ap (λ x. HiLo Mtlo rs x) f.1 }
spelled (Count m rs rd) f = record { a = rd; b = rs; c = 0; fits = (f.1, f.0, refl); is = refl }
spelled (Imm Andi rs rt imm) f = record { a = rt; b = rs; c = imm; fits = (f.1, f.0, (omega (arith, f.2), omega (arith, f.2))); is = refl }
spelled (Imm Ori rs rt imm) f = record { a = rt; b = rs; c = imm; fits = (f.1, f.0, (omega (arith, f.2), omega (arith, f.2))); is = refl }
spelled (Imm Xori rs rt imm) f = record { a = rt; b = rs; c = imm; fits = (f.1, f.0, (omega (arith, f.2), omega (arith, f.2))); is = refl }
spelled (Imm m rs rt imm) f = record { a = rt; b = rs; c = imm; fits = (f.1, f.0, f.2); is = refl }
spelled (Lui rt imm) f = record { a = rt; b = imm; c = 0; fits = (f.0, (omega (arith, f.1), omega (arith, f.1)), refl); is = refl }
spelled (Load m rs rt off) f = record { a = rt; b = off; c = rs; fits = (f.1, f.2, f.0); is = refl }
spelled (Store m rs rt off) f = record { a = rt; b = off; c = rs; fits = (f.1, f.2, f.0); is = refl }
spelled (Pref rs hint off) f = record { a = hint; b = off; c = rs; fits = ((omega (arith, f.1), omega (arith, f.1)), f.2, f.0); is = refl }
spelled (Branch2 m rs rt off) f = record { a = rs; b = rt; c = off; fits = (f.0, f.1, f.2); is = refl }
spelled (Branch1 m rs off) f = record { a = rs; b = off; c = 0; fits = (f.0, f.1, refl); is = refl }
spelled (Jump m target) f = record { a = target; b = 0; c = 0; fits = (f, refl, refl); is = refl }
spelled (Jr rs) f = record { a = rs; b = 0; c = 0; fits = (f, refl, refl); is = refl }
spelled (Jalr rs rd) f = record { a = rd; b = rs; c = 0; fits = (f.1, f.0, refl); is = refl }
spelled (TrapIf m rs rt code) f = record { a = rs; b = rt; c = code; fits = (f.0, f.1, (omega (arith, f.2), omega (arith, f.2))); is = refl }
spelled (Stop m code) f = record { a = code; b = 0; c = 0; fits = ((omega arith, omega arith), refl, refl); is = refl }
spelled (Sync stype) f = record { a = stype; b = 0; c = 0; fits = ((omega arith, omega arith), refl, refl); is = refl }
