-- Operands and marks, one behind the other.
use Rattle.std.proofs.Common.{◌≡◌, refl, sym, ap, ◌∙◌, subst, ℕ, ◌%◌, ◌≤◌, ◌<◌, ◌≢◌, Bool, true, false, List, [], ◌∷◌, ◌++◌, length, get_or, append_assoc, append-nil, arith, ◌==◌}
use Rattle.std.specs.Char.{is_ascii_digit}
use Rattle.mips_text.specs.declared.form.Operand.{Operand}
use Rattle.mips_text.specs.declared.form.Operand.TheVariants as o
use Rattle.mips_text.specs.declared.form.Form.{Form}
use Rattle.mips_text.specs.declared.form.Form.TheVariants as f
use Rattle.mips_text.specs.Faults.{Begins, IsFault, IsWord}
use Rattle.mips_text.specs.Forms.{Chain, FormFits, IsBased, IsFormText, IsMarked, IsOperand, IsOperandRead, IsPair, IsTriple, OpensMarked, OpensOperand, OperandFits, form_text, operand_text}
use Rattle.mips_text.proofs.FaultLaws.{behind, widened}
use Rattle.mips_text.proofs.NumbersRead.{behind_first, behind_is}
use Rattle.mips_text.proofs.OperandSame.{operand_same}

module _ (kind : Operand) (mark at : ℕ) (plain : is_ascii_digit mark ≡ false) (aligned : at % 4 ≡ 0) where
  -- behind an operand that was read stands nothing but the mark
  only_mark : (text : List ℕ) (v : ℕ) (rest : List ℕ) → IsOperandRead kind at text v rest → (c : ℕ) (others more : List ℕ) → rest ≡ c ∷ others → c ≢ mark → ¬ (OpensMarked kind mark at (operand_text kind at v ++ c ∷ more))
  only_mark text v rest r c others more e other m = by (is_ascii_digit c) refl
    where
      by : (t : Bool) → is_ascii_digit c ≡ t → ⊥
      by true digit = r.ends c others more e digit (record { value = m.value; fits = m.fits; rest = mark ∷ m.rest; plain = plain; is = m.is })
      by false not_digit =
          let s = (operand_same kind at v m.value (c ∷ more) (mark ∷ m.rest) aligned r.fits m.fits not_digit plain m.is).1 in
          let same : c ≡ mark = cc in
          other same

  mark_begins : (v : ℕ) → OperandFits kind v → Begins (IsMarked kind mark at) (operand_text kind at v)
  mark_begins v fits = record { more = mark ∷ []; whole = record { value = v; fits = fits; is = refl } }

  pub mark_lacks : (text : List ℕ) (v : ℕ) (rest : List ℕ) → IsOperandRead kind at text v rest → length rest < 1 → IsFault (IsMarked kind mark at) (OpensMarked kind mark at) text rest
  mark_lacks text v [] r h =
      record {
        before = operand_text kind at v;
        parts = r.is;
        begins = mark_begins v r.fits;
        stops = λ m. let s = (operand_same kind at v m.value [] (mark ∷ m.rest) aligned r.fits m.fits tt plain (append-nil (operand_text kind at v) ∙ m.is)).1 in cc;
      }
  mark_lacks text v (c ∷ t) r h = absurd (omega arith)

  pub mark_other : (text : List ℕ) (v : ℕ) (rest : List ℕ) → IsOperandRead kind at text v rest → 1 ≤ length rest → get_or rest 0 0 ≢ mark → IsFault (IsMarked kind mark at) (OpensMarked kind mark at) text rest
  mark_other text v [] r h n = absurd (omega arith)
  mark_other text v (c ∷ t) r h n = record { before = operand_text kind at v; parts = r.is; begins = mark_begins v r.fits; stops = λ more m. only_mark text v (c ∷ t) r c t more refl n m }

  pub mark_fault : (text rest : List ℕ) → IsFault (IsOperand kind at) (OpensOperand kind at) text rest → IsFault (IsMarked kind mark at) (OpensMarked kind mark at) text rest
  mark_fault text rest f =
      widened (IsOperand kind at) (OpensOperand kind at) (IsMarked kind mark at) (OpensMarked kind mark at) text rest (λ t m. record { more = mark ∷ []; whole = record { value = m.value; fits = m.fits; is = ap (λ q. q ++ mark ∷ []) m.is } })
      (λ t m. record { value = m.value; fits = m.fits; rest = mark ∷ m.rest; plain = plain; is = m.is }) f

  pub mark_read : (text : List ℕ) (v : ℕ) (rest : List ℕ) → IsOperandRead kind at text v rest → 1 ≤ length rest → get_or rest 0 0 ≡ mark → text ≡ operand_text kind at v ++ mark ∷ behind_first rest
  mark_read text v [] r h e = absurd (omega arith)
  mark_read text v (c ∷ t) r h e = r.is ∙ (λ i. operand_text kind at v ++ e i ∷ sym (behind_is c t) i)

  -- then a text of a set
  module _ (T : List ℕ → Type 0) where
    pub chain_first : (text rest example : List ℕ) → T example → IsFault (IsMarked kind mark at) (OpensMarked kind mark at) text rest → IsFault (Chain kind mark at T) (Chain kind mark at T) text rest
    chain_first text rest example some f =
        widened (IsMarked kind mark at) (OpensMarked kind mark at) (Chain kind mark at T) (Chain kind mark at T) text rest
        (λ t m. record { more = example; whole = record { value = m.value; fits = m.fits; rest = example; tail = some; is = ap (λ q. q ++ example) m.is ∙ append_assoc (operand_text kind at m.value) (mark ∷ []) example } })
        (λ t m. record { value = m.value; fits = m.fits; rest = m.rest; is = m.is }) f

    pub chain_rest : (text : List ℕ) (v : ℕ) (after rest : List ℕ) → OperandFits kind v → text ≡ operand_text kind at v ++ mark ∷ after → IsFault T T after rest → IsFault (Chain kind mark at T) (Chain kind mark at T) text rest
    chain_rest text v after rest fits is f =
        behind T T (Chain kind mark at T) (Chain kind mark at T) text (operand_text kind at v ++ mark ∷ []) after rest (is ∙ sym (append_assoc (operand_text kind at v) (mark ∷ []) after))
        (λ t m. record { more = []; whole = record { value = v; fits = fits; rest = t ++ []; tail = subst T (sym (append-nil t)) m; is = ap (λ q. q ++ []) (append_assoc (operand_text kind at v) (mark ∷ []) t) ∙ append_assoc (operand_text kind at v) (mark ∷ t) [] } })
        opens f
      where
        opens : (t : List ℕ) → Chain kind mark at T (operand_text kind at v ++ mark ∷ [] ++ t) → T t
        opens t m =
            let whole : operand_text kind at v ++ mark ∷ t ≡ operand_text kind at m.value ++ mark ∷ m.rest = sym (append_assoc (operand_text kind at v) (mark ∷ []) t) ∙ m.is in
            let s = (operand_same kind at v m.value (mark ∷ t) (mark ∷ m.rest) aligned fits m.fits plain plain whole).1 in
            let tail : m.rest ≡ t = cc in
            subst T tail m.tail

-- an operand that is the whole text
module _ (kind : Operand) (at : ℕ) (aligned : at % 4 ≡ 0) where
  pub one_fault : (text rest : List ℕ) → IsFault (IsOperand kind at) (OpensOperand kind at) text rest → IsFault (IsOperand kind at) (IsOperand kind at) text rest
  one_fault text rest f =
      widened (IsOperand kind at) (OpensOperand kind at) (IsOperand kind at) (IsOperand kind at) text rest (λ t m. record { more = []; whole = record { value = m.value; fits = m.fits; is = append-nil t ∙ m.is } })
      (λ t m. record { value = m.value; fits = m.fits; rest = []; plain = tt; is = m.is ∙ sym (append-nil (operand_text kind at m.value)) }) f

  pub one_longer : (text : List ℕ) (v : ℕ) (rest : List ℕ) → IsOperandRead kind at text v rest → ¬ (rest ≡ []) → IsFault (IsOperand kind at) (IsOperand kind at) text rest
  one_longer text v [] r h = absurd (h refl)
  one_longer text v (c ∷ t) r h =
      record {
        before = operand_text kind at v;
        parts = r.is;
        begins = record { more = []; whole = record { value = v; fits = r.fits; is = append-nil (operand_text kind at v) } };
        stops = λ more m. by more m (is_ascii_digit c) refl;
      }
    where
      by : (more : List ℕ) → IsOperand kind at (operand_text kind at v ++ c ∷ more) → (b : Bool) → is_ascii_digit c ≡ b → ⊥
      by more m true digit = r.ends c t more refl digit (record { value = m.value; fits = m.fits; rest = []; plain = tt; is = m.is ∙ sym (append-nil (operand_text kind at m.value)) })
      by more m false not_digit =
          let s = (operand_same kind at v m.value (c ∷ more) [] aligned r.fits m.fits not_digit tt (m.is ∙ sym (append-nil (operand_text kind at m.value)))).1 in
          cc

-- no more behind the end
pub ended : (text : List ℕ) → ¬ (text ≡ []) → IsFault (IsWord []) (IsWord []) text text
ended [] h = absurd (h refl)
ended (c ∷ t) h = record { before = []; parts = refl; begins = record { more = []; whole = refl }; stops = λ more m. cc }

-- each operand can be 0
pub zero_fits : (kind : Operand) → OperandFits kind 0
zero_fits o.Register = omega arith
zero_fits (o.Number most) = (omega arith, omega arith)
zero_fits o.Signed = omega arith
zero_fits o.Branch = omega arith
zero_fits o.Jump = omega arith

pub some_operand : (kind : Operand) (at : ℕ) → IsOperand kind at (operand_text kind at 0)
some_operand kind at = record { value = 0; fits = zero_fits kind; is = refl }

pub some_chain : (kind : Operand) (mark at : ℕ) (T : List ℕ → Type 0) (example : List ℕ) → T example → Chain kind mark at T (operand_text kind at 0 ++ mark ∷ example)
some_chain kind mark at T example some = record { value = 0; fits = zero_fits kind; rest = example; tail = some; is = refl }

pub not_empty : (b : Bool) (text : List ℕ) → b ≡ (length text == 0) → b ≡ false → ¬ (text ≡ [])
not_empty b [] e f h = let w : true ≡ false = sym e ∙ f in cc
not_empty b (c ∷ t) e f h = cc

-- the same set, told otherwise
pub renamed : (L M : List ℕ → Type 0) (text rest : List ℕ) → ((t : List ℕ) → L t → M t) → ((t : List ℕ) → M t → L t) → IsFault L L text rest → IsFault M M text rest
renamed L M text rest to from f = widened L L M M text rest (λ t m. record { more = []; whole = subst M (sym (append-nil t)) (to t m) }) from f

module _ (at : ℕ) (text rest : List ℕ) where
  pub one_form : (p : Operand) → IsFault (IsOperand p at) (IsOperand p at) text rest → IsFault (IsFormText (f.One p) at) (IsFormText (f.One p) at) text rest
  one_form p =
      renamed (IsOperand p at) (IsFormText (f.One p) at) text rest
      (λ t m. record { a = m.value; b = 0; c = 0; fits = (m.fits, refl, refl); is = m.is })
      (λ t m. record { value = m.a; fits = m.fits.0; is = m.is })

  pub two_form : (p q : Operand) → IsFault (IsPair p q at) (IsPair p q at) text rest → IsFault (IsFormText (f.Two p q) at) (IsFormText (f.Two p q) at) text rest
  two_form p q =
      renamed (IsPair p q at) (IsFormText (f.Two p q) at) text rest
      (λ t m. record { a = m.value; b = m.tail.value; c = 0; fits = (m.fits, m.tail.fits, refl); is = m.is ∙ ap (λ x. operand_text p at m.value ++ 44 ∷ x) m.tail.is })
      (λ t m. record { value = m.a; fits = m.fits.0; rest = operand_text q at m.b; tail = record { value = m.b; fits = m.fits.1; is = refl }; is = m.is })

  pub three_form : (p q r : Operand) → IsFault (IsTriple p q r at) (IsTriple p q r at) text rest → IsFault (IsFormText (f.Three p q r) at) (IsFormText (f.Three p q r) at) text rest
  three_form p q r =
      renamed (IsTriple p q r at) (IsFormText (f.Three p q r) at) text rest
      (λ t m. record {
        a = m.value;
        b = m.tail.value;
        c = m.tail.tail.value;
        fits = (m.fits, m.tail.fits, m.tail.tail.fits);
        is = m.is ∙ ap (λ x. operand_text p at m.value ++ 44 ∷ x) (m.tail.is ∙ ap (λ x. operand_text q at m.tail.value ++ 44 ∷ x) m.tail.tail.is);
      })
      (λ t m. record {
        value = m.a;
        fits = m.fits.0;
        rest = operand_text q at m.b ++ 44 ∷ operand_text r at m.c;
        tail = record { value = m.b; fits = m.fits.1; rest = operand_text r at m.c; tail = record { value = m.c; fits = m.fits.2; is = refl }; is = refl };
        is = m.is;
      })

  pub based_form : (p : Operand) → IsFault (IsBased p at) (IsBased p at) text rest → IsFault (IsFormText (f.Based p) at) (IsFormText (f.Based p) at) text rest
  based_form p =
      renamed (IsBased p at) (IsFormText (f.Based p) at) text rest
      (λ t m. record {
        a = m.value;
        b = m.tail.value;
        c = m.tail.tail.value;
        fits = (m.fits, m.tail.fits, m.tail.tail.fits);
        is = m.is
            ∙ ap (λ x. operand_text p at m.value ++ 44 ∷ x) (m.tail.is ∙ ap (λ x. operand_text o.Signed at m.tail.value ++ 40 ∷ x) (m.tail.tail.is ∙ ap (λ x. operand_text o.Register at m.tail.tail.value ++ 41 ∷ x) m.tail.tail.tail));
      })
      (λ t m. record {
        value = m.a;
        fits = m.fits.0;
        rest = operand_text o.Signed at m.b ++ 40 ∷ (operand_text o.Register at m.c ++ 41 ∷ []);
        tail = record {
          value = m.b;
          fits = m.fits.1;
          rest = operand_text o.Register at m.c ++ 41 ∷ [];
          tail = record { value = m.c; fits = m.fits.2; rest = []; tail = refl; is = refl };
          is = refl;
        };
        is = m.is;
      })

-- each form has a text
pub form_zero : (form : Form) → FormFits form 0 0 0
form_zero (f.One p) = (zero_fits p, refl, refl)
form_zero (f.Two p q) = (zero_fits p, zero_fits q, refl)
form_zero (f.Three p q r) = (zero_fits p, zero_fits q, zero_fits r)
form_zero (f.Based p) = (zero_fits p, zero_fits o.Signed, zero_fits o.Register)

-- and a text determines its values
module _ (at : ℕ) (aligned : at % 4 ≡ 0) where
  part_same : (p : Operand) (mark v w : ℕ) (x y : List ℕ) → is_ascii_digit mark ≡ false → OperandFits p v → OperandFits p w → operand_text p at v ++ mark ∷ x ≡ operand_text p at w ++ mark ∷ y → (v ≡ w) × (x ≡ y)
  part_same p mark v w x y plain h k e =
      let s = operand_same p at v w (mark ∷ x) (mark ∷ y) aligned h k plain plain e in
      let tails : mark ∷ x ≡ mark ∷ y = s.1 in
      (s.0, cc)

  last_same : (p : Operand) (v w : ℕ) → OperandFits p v → OperandFits p w → operand_text p at v ≡ operand_text p at w → v ≡ w
  last_same p v w h k e = (operand_same p at v w [] [] aligned h k tt tt (append-nil (operand_text p at v) ∙ e ∙ sym (append-nil (operand_text p at w)))).0

  pub form_same : (form : Form) (a b c x y z : ℕ) → FormFits form a b c → FormFits form x y z → form_text form at a b c ≡ form_text form at x y z → (a ≡ x) × (b ≡ y) × (c ≡ z)
  form_same (f.One p) a b c x y z h k e = (last_same p a x h.0 k.0 e, h.1 ∙ sym k.1, h.2 ∙ sym k.2)
  form_same (f.Two p q) a b c x y z h k e = let s = part_same p 44 a x _ _ refl h.0 k.0 e in (s.0, last_same q b y h.1 k.1 s.1, h.2 ∙ sym k.2)
  form_same (f.Three p q r) a b c x y z h k e =
      let s = part_same p 44 a x _ _ refl h.0 k.0 e in
      let t = part_same q 44 b y _ _ refl h.1 k.1 s.1 in
      (s.0, t.0, last_same r c z h.2 k.2 t.1)
  form_same (f.Based p) a b c x y z h k e =
      let s = part_same p 44 a x _ _ refl h.0 k.0 e in
      let t = part_same o.Signed 40 b y _ _ refl h.1 k.1 s.1 in
      let u = part_same o.Register 41 c z [] [] refl h.2 k.2 t.1 in
      (s.0, t.0, u.0)
