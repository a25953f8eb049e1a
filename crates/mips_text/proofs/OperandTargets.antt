-- The targets of branches and jumps, as operands.
use Rattle.std.proofs.Common.{◌≡◌, refl, sym, ap, ◌∙◌, subst, ℕ, suc, ◌+◌, ◌-◌, ◌*◌, ◌/◌, ◌%◌, ◌^◌, ◌≤◌, ◌<◌, ◌⊎◌, Bool, true, false, nat_eq, nat_lt, List, [], ◌∷◌, ◌++◌, length, append-nil, arith, inl, inr, ltb-true}
use borrow.Author.Tests.{ltb-false}
use Rattle.std.specs.Char.{is_ascii_digit}
use Rattle.std.specs.Int.{cast_signed, cast_unsigned, w16, w32}
use Rattle.std.specs.Str.Parse.{digits_value}
use Rattle.std.proofs.Math.Facts.{to_z-neg}
use Rattle.std.proofs.lemmas.Int.{to_z_pos, ints}
use Rattle.mips_isa.specs.Words.{branch_target, extended_half, jump_target, word_sum}
use Rattle.text_fields.specs.Numbers.{hex, hex_text, is_hex}
use Rattle.text_fields.proofs.Digits.{and_from, and_parts, hex_again, hex_formed, hex_number_text}
use Rattle.mips_text.specs.declared.form.Operand.{Operand}
use Rattle.mips_text.specs.Faults.{Begins, IsFault}
use Rattle.mips_text.specs.Forms.{HasNoDigitFirst, IsOperand, IsOperandRead, OpensOperand, OperandFits, operand_text}
use Rattle.mips_text.specs.Targets.{IsInArc, IsTargetEnd, IsTargetRead, OpensTargetEnd}
use Rattle.mips_text.proofs.FaultLaws.{widened}

pub halves_same : (a b x y : List ℕ) → length a ≡ length b → a ++ x ≡ b ++ y → (a ≡ b) × (x ≡ y)
halves_same [] [] x y l e = (refl, e)
halves_same [] (d ∷ b) x y l e = absurd (omega arith)
halves_same (c ∷ a) [] x y l e = absurd (omega arith)
halves_same (c ∷ a) (d ∷ b) x y l e =
    let head : c ≡ d = cc in
    let tail : a ++ x ≡ b ++ y = cc in
    let r = halves_same a b x y (omega arith) tail in
    (λ i. head i ∷ r.0 i, r.1)

hex_long : (a : ℕ) → length (hex_text a) ≡ 8
unfolding hex_text
hex_long a = refl

-- two words are written alike, with what follows, only if they are the same
pub hex_same : (a b : ℕ) (x y : List ℕ) → a < 2 ^ 32 → b < 2 ^ 32 → hex_text a ++ x ≡ hex_text b ++ y → (a ≡ b) × (x ≡ y)
hex_same a b x y sa sb e =
    let h = halves_same (hex_text a) (hex_text b) x y (hex_long a ∙ sym (hex_long b)) e in
    (sym (hex_again a sa) ∙ ap hex h.0 ∙ hex_again b sb, h.1)

-- eight digits of an arc are the text of an address of it
target_text : (first size : ℕ) (t : List ℕ) → IsTargetEnd first size 8 0 t → hex_text (digits_value 16 t) ≡ t
unfolding is_hex hex
target_text first size t e = (hex_number_text t (and_from (nat_eq (length t) 8) _ (ap (λ n. nat_eq n 8) e.long) e.digits)).0

pub target_of : (first size a : ℕ) → IsInArc first size a → IsTargetEnd first size 8 0 (hex_text a)
unfolding is_hex hex
target_of first size a inside = record { digits = (and_parts (nat_eq (length (hex_text a)) 8) _ (hex_formed a)).1; long = hex_long a; inside = subst (IsInArc first size) (sym (hex_again a inside.word)) inside }

pub arc_of : (first size : ℕ) (text : List ℕ) (a : ℕ) (rest : List ℕ) → IsTargetRead first size 8 0 text a rest → IsInArc first size a
arc_of first size text a rest r = subst (IsInArc first size) (sym r.worth) r.target.inside

-- what a target says of an operand: each value gives an address of the arc, and each address comes of a value
module _ (kind : Operand) (at first size : ℕ) (target : ℕ → ℕ) (named : (v : ℕ) → operand_text kind at v ≡ hex_text (target v)) (into : (v : ℕ) → OperandFits kind v → IsInArc first size (target v)) where
  pub target_read : (text : List ℕ) (a v : ℕ) (rest : List ℕ) → OperandFits kind v → target v ≡ a → IsTargetRead first size 8 0 text a rest → IsOperandRead kind at text v rest
  target_read text a v rest fits is r =
      let name : r.digits ≡ operand_text kind at v = sym (target_text first size r.digits r.target) ∙ ap hex_text (sym r.worth ∙ sym is) ∙ sym (named v) in
      record { fits = fits; is = r.is ∙ ap (λ q. q ++ rest) name; ends = λ c others more e digit m. ends c more digit m }
    where
      ends : (c : ℕ) (more : List ℕ) → is_ascii_digit c ≡ true → ¬ (OpensOperand kind at (operand_text kind at v ++ c ∷ more))
      ends c more digit m =
          let whole : hex_text (target v) ++ c ∷ more ≡ hex_text (target m.value) ++ m.rest = ap (λ q. q ++ c ∷ more) (sym (named v)) ∙ m.is ∙ ap (λ q. q ++ m.rest) (named m.value) in
          let s = hex_same (target v) (target m.value) (c ∷ more) m.rest (into v fits).word (into m.value m.fits).word whole in
          let mark : is_ascii_digit c ≡ false = subst HasNoDigitFirst (sym s.1) m.plain in
          cc (digit, mark)

  pub target_fault : (text rest : List ℕ) → ((a : ℕ) → IsInArc first size a → (v : ℕ) × OperandFits kind v × (target v ≡ a)) → IsFault (IsTargetEnd first size 8 0) (OpensTargetEnd first size 8 0) text rest
      → IsFault (IsOperand kind at) (OpensOperand kind at) text rest
  target_fault text rest from f =
      widened (IsTargetEnd first size 8 0) (OpensTargetEnd first size 8 0) (IsOperand kind at) (OpensOperand kind at) text rest
      (λ t e. let p = from (digits_value 16 t) e.inside in record { more = []; whole = record { value = p.0; fits = p.1; is = append-nil t ∙ sym (target_text first size t e) ∙ ap hex_text (sym p.2) ∙ sym (named p.0) } })
      (λ t m. record { digits = hex_text (target m.value); target = target_of first size (target m.value) (into m.value m.fits); rest = m.rest; is = m.is ∙ ap (λ q. q ++ m.rest) (named m.value) })
      f

  pub target_some : OperandFits kind 0 → Begins (IsTargetEnd first size 8 0) []
  target_some fits = record { more = hex_text (target 0); whole = target_of first size (target 0) (into 0 fits) }

-- sixteen bits, extended
extended_low : (v : ℕ) → v < 32768 → extended_half v ≡ v
extended_low v h = ap (cast_unsigned w32) (to_z_pos w16 v h) ∙ (omega (arith, ints))

extended_high : (v : ℕ) → 32768 ≤ v → v < 65536 → extended_half v ≡ v + 4294901760
extended_high v l h = by (65535 - v) (omega arith) (omega arith)
  where
    by : (k : ℕ) → k < 32768 → 65536 - suc k ≡ v → extended_half v ≡ v + 4294901760
    by k few e = ap (λ n. cast_unsigned w32 (cast_signed w16 n)) (sym e) ∙ ap (cast_unsigned w32) (to_z-neg w16 k few) ∙ (omega (arith, ints))

extended : (v : ℕ) → v < 65536 → ((v < 32768) × (extended_half v ≡ v)) ⊎ ((32768 ≤ v) × (extended_half v ≡ v + 4294901760))
extended v h = by (nat_lt v 32768) refl
  where
    by : (t : Bool) → nat_lt v 32768 ≡ t → ((v < 32768) × (extended_half v ≡ v)) ⊎ ((32768 ≤ v) × (extended_half v ≡ v + 4294901760))
    by true e = let l : v < 32768 = ltb-true v 32768 e in inl (l, extended_low v l)
    by false e = let l : 32768 ≤ v = ltb-false v 32768 e in inr (l, extended_high v l h)

-- the targets of branches
abbrev pub branch_first : ℕ → ℕ
branch_first at = ((at + 4) % 4294967296 + 4294836224) % 4294967296

abbrev pub branch_field : ℕ → ℕ → ℕ
branch_field at a = (a + (4294967296 - (at + 4) % 4294967296)) % 4294967296 / 4 % 65536

module _ (at : ℕ) (aligned : at % 4 ≡ 0) where
  slot_aligned : (at + 4) % 2 ^ 32 % 4 ≡ 0
  slot_aligned = omega arith

  pub branch_into : (v : ℕ) → v < 2 ^ 16 → IsInArc (branch_first at) 262144 (word_sum (at + 4) (4 * extended_half v))
  branch_into v h = elim (extended v h) [ inl p ↦ low (at + 4) (extended_half v) slot_aligned p.1 p.0 | inr p ↦ high (at + 4) (extended_half v) slot_aligned p.1 p.0 ]
    where
      low : (s x : ℕ) → s % 2 ^ 32 % 4 ≡ 0 → x ≡ v → v < 32768 → IsInArc ((s % 4294967296 + 4294836224) % 4294967296) 262144 ((s + 4 * x) % 2 ^ 32)
      low s x z e l = record { word = omega arith; aligned = omega arith; near = omega arith }

      high : (s x : ℕ) → s % 2 ^ 32 % 4 ≡ 0 → x ≡ v + 4294901760 → 32768 ≤ v → IsInArc ((s % 4294967296 + 4294836224) % 4294967296) 262144 ((s + 4 * x) % 2 ^ 32)
      high s x z e l = record { word = omega arith; aligned = omega arith; near = omega arith }

  pub branch_from : (a : ℕ) → IsInArc (branch_first at) 262144 a → branch_target at (branch_field at a) ≡ a
  branch_from a i = by (branch_field at a) refl
    where
      by : (v : ℕ) → v ≡ branch_field at a → branch_target at v ≡ a
      by v e = elim (extended v (omega arith)) [ inl p ↦ low (at + 4) (extended_half v) slot_aligned p.1 p.0 e i.word i.aligned i.near | inr p ↦ high (at + 4) (extended_half v) slot_aligned p.1 p.0 e i.word i.aligned i.near ]
        where
          low : (s x : ℕ) → s % 2 ^ 32 % 4 ≡ 0 → x ≡ v → v < 32768 → v ≡ (a + (4294967296 - s % 4294967296)) % 4294967296 / 4 % 65536 → a < 2 ^ 32 → a % 4 ≡ 0
              → (a + (2 ^ 32 - (s % 4294967296 + 4294836224) % 4294967296)) % 2 ^ 32 < 262144 → (s + 4 * x) % 2 ^ 32 ≡ a
          low s x z f l e w g n = omega arith

          high : (s x : ℕ) → s % 2 ^ 32 % 4 ≡ 0 → x ≡ v + 4294901760 → 32768 ≤ v → v ≡ (a + (4294967296 - s % 4294967296)) % 4294967296 / 4 % 65536 → a < 2 ^ 32 → a % 4 ≡ 0
              → (a + (2 ^ 32 - (s % 4294967296 + 4294836224) % 4294967296)) % 2 ^ 32 < 262144 → (s + 4 * x) % 2 ^ 32 ≡ a
          high s x z f l e w g n = omega arith

  -- and no two fields have one target
  pub branch_same : (v w : ℕ) → v < 2 ^ 16 → w < 2 ^ 16 → branch_target at v ≡ branch_target at w → v ≡ w
  branch_same v w h k e = elim (extended v h) [
    | inl p ↦ elim (extended w k) [ inl q ↦ (let a = p.1 in let b = q.1 in omega arith) | inr q ↦ (let a = p.1 in let b = q.1 in let c = p.0 in let d = q.0 in omega arith) ]
    | inr p ↦ elim (extended w k) [ inl q ↦ (let a = p.1 in let b = q.1 in let c = p.0 in let d = q.0 in omega arith) | inr q ↦ (let a = p.1 in let b = q.1 in omega arith) ]
  ]

-- the targets of jumps
abbrev pub jump_first : ℕ → ℕ
jump_first at = (at + 4) % 4294967296 / 268435456 * 268435456 % 4294967296

abbrev pub jump_field : ℕ → ℕ → ℕ
jump_field at a = (a + (4294967296 - (at + 4) % 4294967296 / 268435456 * 268435456 % 4294967296)) % 4294967296 / 4

pub jump_into : (at v : ℕ) → v < 2 ^ 26 → IsInArc (jump_first at) 268435456 (jump_target at v)
jump_into at v h = record { word = omega arith; aligned = omega arith; near = omega arith }

pub jump_from : (at a : ℕ) → IsInArc (jump_first at) 268435456 a → (jump_field at a < 2 ^ 26) × (jump_target at (jump_field at a) ≡ a)
jump_from at a i = let w = i.word in let g = i.aligned in let n = i.near in (omega arith, omega arith)

pub jump_same : (at v w : ℕ) → v < 2 ^ 26 → w < 2 ^ 26 → jump_target at v ≡ jump_target at w → v ≡ w
jump_same at v w h k e = omega arith
