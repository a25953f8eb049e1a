-- What follows an operand and is no digit is determined, and so is the operand.
use Rattle.std.proofs.Common.{◌≡◌, refl, sym, ap, ◌∙◌, ℕ, ◌-◌, ◌%◌, ◌^◌, ◌<◌, List, ◌∷◌, ◌++◌, decimal, arith, inl, inr}
use Rattle.mips_isa.specs.Words.{branch_target, jump_target}
use Rattle.mips_text.specs.declared.form.Operand.{Operand}
use Rattle.mips_text.specs.declared.form.Operand.TheVariants as o
use Rattle.mips_text.specs.Forms.{HasNoDigitFirst, OperandFits, operand_text}
use Rattle.mips_text.proofs.Numerals.{number_same}
use Rattle.mips_text.proofs.OperandsRead.{no_sign, side}
use Rattle.mips_text.proofs.OperandTargets.{branch_into, branch_same, hex_same, jump_into, jump_same}

abbrev IsSame : ℕ → ℕ → List ℕ → List ℕ → Type 0
IsSame v w r s = (v ≡ w) × (r ≡ s)

signed_same : (at v w : ℕ) (r s : List ℕ) → v < 2 ^ 16 → w < 2 ^ 16 → HasNoDigitFirst r → HasNoDigitFirst s → operand_text o.Signed at v ++ r ≡ operand_text o.Signed at w ++ s → IsSame v w r s
signed_same at v w r s h k p q e = elim (side v h) [
  | inl a ↦ elim (side w k) [
    | inl b ↦ (let l = a.low in let m = b.low in number_same v w r s (omega arith) (omega arith) p q (ap (λ x. x ++ r) (sym a.is) ∙ e ∙ ap (λ x. x ++ s) b.is))
    | inr b ↦ absurd (no_sign v 45 r (decimal (65536 - w) ++ s) (omega arith) refl (ap (λ x. x ++ r) (sym a.is) ∙ e ∙ ap (λ x. x ++ s) b.is))
  ]
  | inr a ↦ elim (side w k) [
    | inl b ↦ absurd (no_sign w 45 s (decimal (65536 - v) ++ r) (omega arith) refl (ap (λ x. x ++ s) (sym b.is) ∙ sym e ∙ ap (λ x. x ++ r) a.is))
    | inr b ↦ (let i = a.some in
        let j = b.some in
        let whole : 45 ∷ (decimal (65536 - v) ++ r) ≡ 45 ∷ (decimal (65536 - w) ++ s) = ap (λ x. x ++ r) (sym a.is) ∙ e ∙ ap (λ x. x ++ s) b.is in
        let n = number_same (65536 - v) (65536 - w) r s (omega arith) (omega arith) p q cc in
        (omega (arith, n.0), n.1))
  ]
]

pub operand_same : (kind : Operand) (at v w : ℕ) (r s : List ℕ) → at % 4 ≡ 0 → OperandFits kind v → OperandFits kind w → HasNoDigitFirst r → HasNoDigitFirst s → operand_text kind at v ++ r ≡ operand_text kind at w ++ s → IsSame v w r s
operand_same o.Register at v w r s aligned h k p q e = number_same v w r s (omega arith) (omega arith) p q (let whole : 36 ∷ (decimal v ++ r) ≡ 36 ∷ (decimal w ++ s) = e in cc)
operand_same (o.Number most) at v w r s aligned h k p q e = number_same v w r s (omega (arith, h.1)) (omega (arith, k.1)) p q e
operand_same o.Signed at v w r s aligned h k p q e = signed_same at v w r s h k p q e
operand_same o.Branch at v w r s aligned h k p q e =
    let t = hex_same (branch_target at v) (branch_target at w) r s (branch_into at aligned v h).word (branch_into at aligned w k).word e in
    (branch_same at aligned v w h k t.0, t.1)
operand_same o.Jump at v w r s aligned h k p q e =
    let t = hex_same (jump_target at v) (jump_target at w) r s (jump_into at v h).word (jump_into at w k).word e in
    (jump_same at v w h k t.0, t.1)
