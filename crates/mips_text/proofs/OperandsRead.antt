-- Operands read off the front of a text.
use Rattle.std.proofs.Common.{◌≡◌, refl, sym, ap, ◌∙◌, subst, ℕ, suc, ◌-◌, ◌^◌, ◌≤◌, ◌<◌, ◌⊎◌, Bool, true, false, nat_lt, List, [], ◌∷◌, ◌++◌, length, append-nil, decimal, arith, inl, inr, ltb-true}
use borrow.Author.Tests.{ltb-false}
use Rattle.std.specs.Char.{is_ascii_digit}
use Rattle.std.specs.Fmt.{signed_decimal}
use Rattle.std.specs.Int.{cast_signed, w16}
use Rattle.std.proofs.Math.Facts.{to_z-neg}
use Rattle.std.proofs.lemmas.Int.{to_z_pos}
use Rattle.std.proofs.lemmas.Fmt.{decimal_nonempty}
use Rattle.mips_text.specs.declared.form.Operand.TheVariants as o
use Rattle.mips_text.specs.Faults.{Begins, IsFault, IsWord, OpensWord, Stops}
use Rattle.mips_text.specs.Forms.{IsLongest, IsNumberOf, IsNumberRead, IsOperand, IsOperandRead, OpensNumber, OpensOperand}
use Rattle.mips_text.proofs.FaultLaws.{behind, begins_widely, both_stop, stops_later, widened}
use Rattle.mips_text.proofs.Numerals.{longest_ends, starts}

-- plain numbers
module _ (most at : ℕ) (text : List ℕ) (narrow : most < 2 ^ 32) where
  pub number_read : (v : ℕ) (rest : List ℕ) → IsNumberRead 0 most text v rest → IsOperandRead (o.Number most) at text v rest
  number_read v rest r =
      record { fits = (r.high, (let h = r.high in omega arith)); is = r.is; ends = λ c others more e digit m. longest_ends most v c others more (omega arith) r.high (subst (IsLongest most v) e r.longest) digit m.value m.rest m.fits.0 m.plain m.is }

  pub number_fault : (rest : List ℕ) → IsFault (IsNumberOf 0 most) (OpensNumber 0 most) text rest → IsFault (IsOperand (o.Number most) at) (OpensOperand (o.Number most) at) text rest
  number_fault rest f =
      widened (IsNumberOf 0 most) (OpensNumber 0 most) (IsOperand (o.Number most) at) (OpensOperand (o.Number most) at) text rest (λ t n. record { more = []; whole = record { value = n.value; fits = (n.high, (let h = n.high in omega arith)); is = append-nil t ∙ n.is } })
      (λ t m. record { value = m.value; low = omega arith; high = m.fits.0; rest = m.rest; plain = m.plain; is = m.is }) f

-- registers
module _ (at : ℕ) (text : List ℕ) where
  pub register_mark : (rest : List ℕ) → IsFault (IsWord (36 ∷ [])) (OpensWord (36 ∷ [])) text rest → IsFault (IsOperand o.Register at) (OpensOperand o.Register at) text rest
  register_mark rest f =
      widened (IsWord (36 ∷ [])) (OpensWord (36 ∷ [])) (IsOperand o.Register at) (OpensOperand o.Register at) text rest (λ t n. record { more = decimal 0; whole = record { value = 0; fits = omega arith; is = ap (λ q. q ++ decimal 0) n } })
      (λ t m. record { rest = decimal m.value ++ m.rest; is = m.is }) f

  pub register_read : (digits : List ℕ) → text ≡ 36 ∷ digits → (v : ℕ) (rest : List ℕ) → IsNumberRead 0 31 digits v rest → IsOperandRead o.Register at text v rest
  register_read digits marked v rest r =
      record {
        fits = omega (arith, r.high);
        is = marked ∙ ap (λ q. 36 ∷ q) r.is;
        ends = λ c others more e digit m. longest_ends 31 v c others more (omega arith) r.high (subst (IsLongest 31 v) e r.longest) digit m.value m.rest (omega (arith, m.fits)) m.plain (let whole : 36 ∷ (decimal v ++ c ∷ more) ≡ 36 ∷ (decimal m.value ++ m.rest) = m.is in cc);
      }

  pub register_fault : (digits : List ℕ) → text ≡ 36 ∷ digits → (rest : List ℕ) → IsFault (IsNumberOf 0 31) (OpensNumber 0 31) digits rest → IsFault (IsOperand o.Register at) (OpensOperand o.Register at) text rest
  register_fault digits marked rest f =
      behind (IsNumberOf 0 31) (OpensNumber 0 31) (IsOperand o.Register at) (OpensOperand o.Register at) text (36 ∷ []) digits rest marked
      (λ t n. record { more = []; whole = record { value = n.value; fits = omega (arith, n.high); is = ap (λ q. 36 ∷ q) (append-nil t ∙ n.is) } })
      (λ t m. record { value = m.value; low = omega arith; high = omega (arith, m.fits); rest = m.rest; plain = m.plain; is = (let whole : 36 ∷ t ≡ 36 ∷ (decimal m.value ++ m.rest) = m.is in cc) })
      f

-- signed numbers: sixteen bits are a number from 0 on, or `-` and one
pub record IsPlus (v : ℕ) : Type 0 where
  pub low : v < 2 ^ 15
  pub is : signed_decimal (cast_signed w16 v) ≡ decimal v

pub record IsMinus (v : ℕ) : Type 0 where
  pub some : 1 ≤ 65536 - v
  pub few : 65536 - v ≤ 32768
  pub is : signed_decimal (cast_signed w16 v) ≡ 45 ∷ decimal (65536 - v)

pub side : (v : ℕ) → v < 2 ^ 16 → IsPlus v ⊎ IsMinus v
side v h = by (nat_lt v 32768) refl
  where
    minus : (k : ℕ) → k < 32768 → 65536 - suc k ≡ v → 65536 - v ≡ suc k → IsMinus v
    minus k few e f =
        record { some = omega arith; few = omega arith; is = ap (λ n. signed_decimal (cast_signed w16 n)) (sym e) ∙ ap signed_decimal (to_z-neg w16 k few) ∙ ap (λ n. 45 ∷ decimal n) (sym f) }

    by : (t : Bool) → nat_lt v 32768 ≡ t → IsPlus v ⊎ IsMinus v
    by true e = let l : v < 32768 = ltb-true v 32768 e in inl (record { low = l; is = ap signed_decimal (to_z_pos w16 v l) })
    by false e = let l : 32768 ≤ v = ltb-false v 32768 e in inr (minus (65535 - v) (omega arith) (omega arith) (omega arith))

-- a number never begins with a mark
pub no_sign : (v c : ℕ) (rest more : List ℕ) → v < 2 ^ 64 → is_ascii_digit c ≡ false → ¬ (decimal v ++ rest ≡ c ∷ more)
no_sign v c rest more small mark e = by (decimal v) refl (decimal_nonempty v small) e
  where
    by : (f : List ℕ) → decimal v ≡ f → 0 < length f → ¬ (f ++ rest ≡ c ∷ more)
    by [] is l e = absurd (omega arith)
    by (d ∷ f) is l e = let same : d ≡ c = cc in let s = (starts v d f small is).digit in let t : is_ascii_digit c ≡ true = subst (λ q. is_ascii_digit q ≡ true) same s in cc

pub record OpensMinus (text : List ℕ) : Type 0 where
  pub digits : List ℕ
  pub is : text ≡ 45 ∷ digits
  pub number : OpensNumber 1 32768 digits

pub signed_opens : (at : ℕ) (text : List ℕ) → OpensOperand o.Signed at text → OpensNumber 0 32767 text ⊎ OpensMinus text
signed_opens at text m = elim (side m.value m.fits) [
  | inl p ↦ inl (record { value = m.value; low = omega arith; high = (let l = p.low in omega arith); rest = m.rest; plain = m.plain; is = m.is ∙ ap (λ q. q ++ m.rest) p.is })
  | inr p ↦ inr (record { digits = decimal (65536 - m.value) ++ m.rest; is = m.is ∙ ap (λ q. q ++ m.rest) p.is; number = record { value = 65536 - m.value; low = p.some; high = p.few; rest = m.rest; plain = m.plain; is = refl } })
]

-- the sixteen bits of a number below 0
pub minus_text : (n : ℕ) → 1 ≤ n → n ≤ 32768 → signed_decimal (cast_signed w16 (65536 - n)) ≡ 45 ∷ decimal n
minus_text n some few = elim (side (65536 - n) (omega arith)) [
  | inl p ↦ absurd (let l = p.low in omega arith)
  | inr p ↦ p.is ∙ ap (λ k. 45 ∷ decimal k) (let e : 65536 - (65536 - n) ≡ n = omega arith in e)
]

pub plus_text : (n : ℕ) → n ≤ 32767 → signed_decimal (cast_signed w16 n) ≡ decimal n
plus_text n few = ap signed_decimal (to_z_pos w16 n (omega arith))

module _ (at : ℕ) (text : List ℕ) where
  pub minus_read : (digits : List ℕ) → text ≡ 45 ∷ digits → (n : ℕ) (rest : List ℕ) → IsNumberRead 1 32768 digits n rest → IsOperandRead o.Signed at text (65536 - n) rest
  minus_read digits marked n rest r =
      let l = r.low in
      let h = r.high in
      let name = minus_text n l h in
      record { fits = omega arith; is = marked ∙ ap (λ q. 45 ∷ q) r.is ∙ ap (λ q. q ++ rest) (sym name); ends = λ c others more e digit m. ends c others more e digit (subst (λ q. OpensOperand o.Signed at (q ++ c ∷ more)) name m) }
    where
      ends : (c : ℕ) (others more : List ℕ) → rest ≡ c ∷ others → is_ascii_digit c ≡ true → ¬ (OpensOperand o.Signed at (45 ∷ (decimal n ++ c ∷ more)))
      ends c others more e digit m = elim (signed_opens at _ m) [
        | inl p ↦ no_sign p.value 45 p.rest (decimal n ++ c ∷ more) (let h = p.high in omega arith) refl (sym p.is)
        | inr p ↦ (let tail : decimal n ++ c ∷ more ≡ p.digits = cc (p.is) in longest_ends 32768 n c others more (omega arith) r.high (subst (IsLongest 32768 n) e r.longest) digit p.number.value p.number.rest p.number.high p.number.plain (tail ∙ p.number.is))
      ]

  pub minus_fault : (digits : List ℕ) → text ≡ 45 ∷ digits → (rest : List ℕ) → IsFault (IsNumberOf 1 32768) (OpensNumber 1 32768) digits rest → IsFault (IsOperand o.Signed at) (OpensOperand o.Signed at) text rest
  minus_fault digits marked rest f =
      behind (IsNumberOf 1 32768) (OpensNumber 1 32768) (IsOperand o.Signed at) (OpensOperand o.Signed at) text (45 ∷ []) digits rest marked
      (λ t n. let l = n.low in let h = n.high in record { more = []; whole = record { value = 65536 - n.value; fits = omega arith; is = ap (λ q. 45 ∷ q) (append-nil t ∙ n.is) ∙ sym (minus_text n.value n.low n.high) } })
      opens f
    where
      opens : (t : List ℕ) → OpensOperand o.Signed at (45 ∷ t) → OpensNumber 1 32768 t
      opens t m = elim (signed_opens at (45 ∷ t) m) [
        | inl p ↦ absurd (no_sign p.value 45 p.rest t (let h = p.high in omega arith) refl (sym p.is))
        | inr p ↦ (let tail : p.digits ≡ t = cc (p.is) in subst (OpensNumber 1 32768) tail p.number)
      ]

  pub plus_read : (v : ℕ) (rest : List ℕ) → IsNumberRead 0 32767 text v rest → IsOperandRead o.Signed at text v rest
  plus_read v rest r =
      let h = r.high in
      let name = plus_text v h in
      record { fits = omega arith; is = r.is ∙ ap (λ q. q ++ rest) (sym name); ends = λ c others more e digit m. ends c others more e digit (subst (λ q. OpensOperand o.Signed at (q ++ c ∷ more)) name m) }
    where
      ends : (c : ℕ) (others more : List ℕ) → rest ≡ c ∷ others → is_ascii_digit c ≡ true → ¬ (OpensOperand o.Signed at (decimal v ++ c ∷ more))
      ends c others more e digit m = elim (signed_opens at _ m) [
        | inl p ↦ longest_ends 32767 v c others more (omega arith) r.high (subst (IsLongest 32767 v) e r.longest) digit p.value p.rest p.high p.plain p.is
        | inr p ↦ no_sign v 45 (c ∷ more) p.digits (let h = r.high in omega arith) refl p.is
      ]

  -- no sign stands in front
  unsigned : (r : List ℕ) → IsFault (IsWord (45 ∷ [])) (OpensWord (45 ∷ [])) text r → Stops (OpensWord (45 ∷ [])) [] text
  unsigned r f = by f.before r f.parts f.begins f.stops
    where
      by : (b q : List ℕ) → text ≡ b ++ q → Begins (IsWord (45 ∷ [])) b → Stops (OpensWord (45 ∷ [])) b q → Stops (OpensWord (45 ∷ [])) [] text
      by [] q is g s = subst (λ t. Stops (OpensWord (45 ∷ [])) [] t) (sym is) s
      by (c ∷ b) [] is g s = absurd (s (record { rest = b; is = (let w : c ∷ (b ++ g.more) ≡ 45 ∷ [] = g.whole in let e : c ≡ 45 = cc in ap (λ x. x ∷ b) e) }))
      by (c ∷ b) (d ∷ q) is g s = absurd (s [] (record { rest = b ++ d ∷ []; is = (let w : c ∷ (b ++ g.more) ≡ 45 ∷ [] = g.whole in let e : c ≡ 45 = cc in ap (λ x. x ∷ (b ++ d ∷ [])) e) }))

  pub plus_fault : (r rest : List ℕ) → IsFault (IsWord (45 ∷ [])) (OpensWord (45 ∷ [])) text r → IsFault (IsNumberOf 0 32767) (OpensNumber 0 32767) text rest → IsFault (IsOperand o.Signed at) (OpensOperand o.Signed at) text rest
  plus_fault r rest g f =
      record {
        before = f.before;
        parts = f.parts;
        begins = begins_widely (IsNumberOf 0 32767) (IsOperand o.Signed at) (λ t n. record { more = []; whole = record { value = n.value; fits = (let h = n.high in omega arith); is = append-nil t ∙ n.is ∙ sym (plus_text n.value n.high) } }) f.before f.begins;
        stops = both_stop (OpensNumber 0 32767) (OpensWord (45 ∷ [])) (OpensOperand o.Signed at) either f.before rest f.stops (stops_later (OpensWord (45 ∷ [])) [] f.before rest (subst (λ t. Stops (OpensWord (45 ∷ [])) [] t) f.parts (unsigned r g)));
      }
    where
      either : (t : List ℕ) → OpensOperand o.Signed at t → OpensNumber 0 32767 t ⊎ OpensWord (45 ∷ []) t
      either t m = elim (signed_opens at t m) [ inl p ↦ inl p | inr p ↦ inr (record { rest = p.digits; is = p.is }) ]
