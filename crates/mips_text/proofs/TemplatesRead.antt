-- Texts of templates' mnemonics.
use Rattle.std.proofs.Common.{◌≡◌, refl, sym, ap, ◌∙◌, subst, ℕ, ◌+◌, ◌-◌, ◌%◌, ◌≤◌, ◌<◌, ◌⊎◌, List, [], ◌∷◌, ◌++◌, length, get_or, take, Bool, true, false, nat_lt, ltb-true, length-append, append_assoc, append-nil, arith, inl, inr}
use borrow.Author.Tests.{ltb-false}
use Rattle.std.proofs.lemmas.List.{append_cancel_left, get_or_default, take_at}
use Rattle.mips_isa.specs.declared.instr.Instr.{Instr}
use Rattle.mips_text.specs.Beginnings.{IsBeginning, IsFirstFault, IsInstrText, IsTextOf}
use Rattle.mips_text.specs.Faults.{Begins, IsFault, IsWord, OpensWord, Stops}
use Rattle.mips_text.specs.Forms.{FormFits, IsFormText, form_text}
use Rattle.mips_text.specs.Mnemonics.{name_of}
use Rattle.mips_text.specs.Operands.{instr_text}
use Rattle.mips_text.specs.Templates.{HasEachMnemonic, IsAmongFirst, IsTemplateText, filled, form_of}
use Rattle.mips_text.proofs.ChainsRead.{form_same, form_zero}
use Rattle.mips_text.proofs.FaultLaws.{behind, later, stops_within, widened}
use Rattle.mips_text.proofs.Lengths.{text_short}
use Rattle.mips_text.proofs.Names.{named_again, space_same, template_same}
use Rattle.mips_text.proofs.Spelled.{filled_fits, filled_text, spelled}

-- one template
module _ (t : Instr) (at : ℕ) (text : List ℕ) where
  like_name : (rest : List ℕ) → IsFault (IsWord (name_of t)) (OpensWord (name_of t)) text rest → IsFault (IsTemplateText t at) (IsTemplateText t at) text rest
  like_name rest f =
      widened (IsWord (name_of t)) (OpensWord (name_of t)) (IsTemplateText t at) (IsTemplateText t at) text rest
      (λ x m. record { more = 32 ∷ form_text (form_of t) at 0 0 0; whole = record { a = 0; b = 0; c = 0; fits = form_zero (form_of t); is = ap (λ q. q ++ 32 ∷ form_text (form_of t) at 0 0 0) m ∙ sym (filled_text t 0 0 0 at) } })
      (λ x m. record { rest = 32 ∷ form_text (form_of t) at m.a m.b m.c; is = m.is ∙ filled_text t m.a m.b m.c at }) f

  like_space : (spaced rest : List ℕ) → text ≡ name_of t ++ spaced → IsFault (IsWord (32 ∷ [])) (OpensWord (32 ∷ [])) spaced rest → IsFault (IsTemplateText t at) (IsTemplateText t at) text rest
  like_space spaced rest is f =
      behind (IsWord (32 ∷ [])) (OpensWord (32 ∷ [])) (IsTemplateText t at) (IsTemplateText t at) text (name_of t) spaced rest is
      (λ x m. record {
        more = form_text (form_of t) at 0 0 0;
        whole = record {
          a = 0;
          b = 0;
          c = 0;
          fits = form_zero (form_of t);
          is = append_assoc (name_of t) x (form_text (form_of t) at 0 0 0) ∙ ap (λ q. name_of t ++ (q ++ form_text (form_of t) at 0 0 0)) m ∙ sym (filled_text t 0 0 0 at);
        };
      })
      (λ x m. record { rest = form_text (form_of t) at m.a m.b m.c; is = append_cancel_left (name_of t) x (32 ∷ form_text (form_of t) at m.a m.b m.c) (m.is ∙ filled_text t m.a m.b m.c at) })
      f

  like_operands : (after rest : List ℕ) → text ≡ name_of t ++ 32 ∷ after → IsFault (IsFormText (form_of t) at) (IsFormText (form_of t) at) after rest → IsFault (IsTemplateText t at) (IsTemplateText t at) text rest
  like_operands after rest is f =
      behind (IsFormText (form_of t) at) (IsFormText (form_of t) at) (IsTemplateText t at) (IsTemplateText t at) text (name_of t ++ 32 ∷ []) after rest (is ∙ sym (append_assoc (name_of t) (32 ∷ []) after))
      (λ x m. record {
        more = [];
        whole = record { a = m.a; b = m.b; c = m.c; fits = m.fits; is = append-nil (name_of t ++ 32 ∷ [] ++ x) ∙ append_assoc (name_of t) (32 ∷ []) x ∙ ap (λ q. name_of t ++ 32 ∷ q) m.is ∙ sym (filled_text t m.a m.b m.c at) };
      })
      (λ x m. record {
        a = m.a;
        b = m.b;
        c = m.c;
        fits = m.fits;
        is = append_cancel_left (name_of t ++ 32 ∷ []) x (form_text (form_of t) at m.a m.b m.c) (m.is ∙ filled_text t m.a m.b m.c at ∙ sym (append_assoc (name_of t) (32 ∷ []) (form_text (form_of t) at m.a m.b m.c)));
      })
      f

  -- as the code goes
  pub name_fault : (letters rest : List ℕ) → letters ≡ name_of t → IsFault (IsWord letters) (OpensWord letters) text rest → IsFault (IsTemplateText t at) (IsTemplateText t at) text rest
  name_fault letters rest e f = like_name rest (subst (λ q. IsFault (IsWord q) (OpensWord q) text rest) e f)

  pub space_fault : (letters spaced rest : List ℕ) → letters ≡ name_of t → text ≡ letters ++ spaced → IsFault (IsWord (32 ∷ [])) (OpensWord (32 ∷ [])) spaced rest → IsFault (IsTemplateText t at) (IsTemplateText t at) text rest
  space_fault letters spaced rest e is f = like_space spaced rest (is ∙ ap (λ q. q ++ spaced) e) f

  pub operands_fault : (letters spaced after rest : List ℕ) → letters ≡ name_of t → text ≡ letters ++ spaced → spaced ≡ 32 ∷ after → IsFault (IsFormText (form_of t) at) (IsFormText (form_of t) at) after rest → IsFault (IsTemplateText t at) (IsTemplateText t at) text rest
  operands_fault letters spaced after rest e is gap f = like_operands after rest (is ∙ ap (λ q. q ++ spaced) e ∙ ap (λ q. name_of t ++ q) gap) f

  pub told : (letters spaced after : List ℕ) (a b c : ℕ) → letters ≡ name_of t → text ≡ letters ++ spaced → spaced ≡ 32 ∷ after → FormFits (form_of t) a b c → after ≡ form_text (form_of t) at a b c → IsTextOf at text (filled t a b c)
  told letters spaced after a b c e is gap fits form =
      record { fits = filled_fits t a b c fits; is = is ∙ ap (λ q. q ++ spaced) e ∙ ap (λ q. name_of t ++ q) (gap ∙ ap (λ q. 32 ∷ q) form) ∙ sym (filled_text t a b c at) }

-- the templates, one after the other
some_instr : (at : ℕ) (t : Instr) (text : List ℕ) → IsTemplateText t at text → IsInstrText at text
some_instr at t text m = record { instr = filled t m.a m.b m.c; told = record { fits = filled_fits t m.a m.b m.c m.fits; is = m.is } }

module _ (templates : List Instr) (at : ℕ) (text : List ℕ) where
  pub first_fault : (t : Instr) → IsFault (IsInstrText at) (IsAmongFirst templates 0 at) text text
  first_fault t =
      record {
        before = [];
        parts = refl;
        begins = record { more = instr_text (filled t 0 0 0) at; whole = some_instr at t (instr_text (filled t 0 0 0) at) (record { a = 0; b = 0; c = 0; fits = form_zero (form_of t); is = refl }) };
        stops = nothing text;
      }
    where
      none : (x : List ℕ) → ¬ (IsAmongFirst templates 0 at x)
      none x m = let h = m.below in omega arith

      nothing : (x : List ℕ) → Stops (IsAmongFirst templates 0 at) [] x
      nothing [] = λ m. none [] m
      nothing (c ∷ x) = λ more m. none (c ∷ more) m

  instr_fault : (t : Instr) (rest : List ℕ) → IsFault (IsTemplateText t at) (IsTemplateText t at) text rest → IsFault (IsInstrText at) (IsTemplateText t at) text rest
  instr_fault t rest f =
      widened (IsTemplateText t at) (IsTemplateText t at) (IsInstrText at) (IsTemplateText t at) text rest (λ x m. record { more = []; whole = subst (IsInstrText at) (sym (append-nil x)) (some_instr at t x m) }) (λ x m. m) f

  -- the templates up to and with one are that one or before it
  among_next : (k : ℕ) (t : Instr) → k < length templates → get_or templates k t ≡ t → (x : List ℕ) → IsAmongFirst templates (k + 1) at x → IsTemplateText t at x ⊎ IsAmongFirst templates k at x
  among_next k t h e x m = by (nat_lt m.index k) refl
    where
      by : (b : Bool) → nat_lt m.index k ≡ b → IsTemplateText t at x ⊎ IsAmongFirst templates k at x
      by true l = inr (record { template = m.template; index = m.index; below = ltb-true m.index k l; there = m.there; named = m.named })
      by false l =
          let past : k ≤ m.index = ltb-false m.index k l in
          let below = m.below in
          let same : m.index ≡ k = omega arith in
          let template : m.template ≡ t = sym m.there ∙ get_or_default templates m.index m.template t (omega arith) ∙ ap (λ n. get_or templates n t) same ∙ e in
          inl (subst (λ q. IsTemplateText q at x) template m.named)

  pub kept_fault : (k : ℕ) (t : Instr) (last rest : List ℕ) → k < length templates → get_or templates k t ≡ t → length last ≤ length rest → IsFault (IsInstrText at) (IsAmongFirst templates k at) text last
      → IsFault (IsTemplateText t at) (IsTemplateText t at) text rest → IsFault (IsInstrText at) (IsAmongFirst templates (k + 1) at) text last
  kept_fault k t last rest h e shorter f g =
      later (IsInstrText at) (IsAmongFirst templates k at) (IsTemplateText t at) (IsAmongFirst templates (k + 1) at) text last rest shorter (λ x m. elim (among_next k t h e x m) [ inl p ↦ inr p | inr p ↦ inl p ]) f (instr_fault t rest g)

  pub moved_fault : (k : ℕ) (t : Instr) (last rest : List ℕ) → k < length templates → get_or templates k t ≡ t → length rest < length last → IsFault (IsInstrText at) (IsAmongFirst templates k at) text last
      → IsFault (IsTemplateText t at) (IsTemplateText t at) text rest → IsFault (IsInstrText at) (IsAmongFirst templates (k + 1) at) text rest
  moved_fault k t last rest h e shorter f g =
      later (IsInstrText at) (IsTemplateText t at) (IsAmongFirst templates k at) (IsAmongFirst templates (k + 1) at) text rest last (omega arith) (among_next k t h e) (instr_fault t rest g) f

  pub whole_fault : (k : ℕ) (rest : List ℕ) → HasEachMnemonic templates → length templates ≤ k → IsFault (IsInstrText at) (IsAmongFirst templates k at) text rest → IsFault (IsInstrText at) (IsInstrText at) text rest
  whole_fault k rest each all f =
      record { before = f.before; parts = f.parts; begins = f.begins; stops = stops_within (IsAmongFirst templates k at) (IsInstrText at) among f.before rest f.stops }
    where
      among : (x : List ℕ) → IsInstrText at x → IsAmongFirst templates k at x
      among x m =
          let s = spelled m.instr m.told.fits in
          let p = each m.instr in
          record {
            template = filled m.instr 0 0 0;
            index = p.0;
            below = omega (arith, p.1);
            there = p.2;
            named = record { a = s.a; b = s.b; c = s.c; fits = s.fits; is = m.told.is ∙ ap (λ i. instr_text i at) s.is };
          }

-- one text, one instruction
pub text_same : (at : ℕ) (text : List ℕ) (i j : Instr) → at % 4 ≡ 0 → IsTextOf at text i → IsTextOf at text j → i ≡ j
text_same at text i j aligned p q =
    let s = spelled i p.fits in
    let t = spelled j q.fits in
    let m = filled i 0 0 0 in
    let n = filled j 0 0 0 in
    let left : text ≡ name_of m ++ 32 ∷ form_text (form_of m) at s.a s.b s.c = p.is ∙ ap (λ x. instr_text x at) s.is ∙ filled_text m s.a s.b s.c at in
    let right : text ≡ name_of n ++ 32 ∷ form_text (form_of n) at t.a t.b t.c = q.is ∙ ap (λ x. instr_text x at) t.is ∙ filled_text n t.a t.b t.c at in
    let split = space_same (name_of m) (name_of n) _ _ (named_again m).plain (named_again n).plain (sym left ∙ right) in
    let template : m ≡ n = sym (named_again i).same ∙ template_same m n split.0 ∙ (named_again j).same in
    let values = form_same at aligned (form_of m) s.a s.b s.c t.a t.b t.c s.fits (subst (λ x. FormFits (form_of x) t.a t.b t.c) (sym template) t.fits) (split.1 ∙ ap (λ x. form_text (form_of x) at t.a t.b t.c) (sym template)) in
    s.is ∙ (λ k. filled (template k) (values.0 k) (values.1 k) (values.2 k)) ∙ sym t.is

-- the column of a fault
pub column_of : (at : ℕ) (text rest : List ℕ) (column : ℕ) → IsFault (IsInstrText at) (IsInstrText at) text rest → column ≡ length text - length rest + 1 → IsFirstFault at text column
column_of at text rest column f e = by rest f.parts f.stops e
  where
    begun : (b : List ℕ) → Begins (IsInstrText at) b → IsBeginning at b
    begun b g = record { instr = g.whole.instr; fits = g.whole.told.fits; more = g.more; is = g.whole.told.is }

    by : (r : List ℕ) → text ≡ f.before ++ r → Stops (IsInstrText at) f.before r → column ≡ length text - length r + 1 → IsFirstFault at text column
    by r parts stops is =
        let long : length text ≡ length f.before + length r = ap (λ (q : List ℕ). length q) parts ∙ length-append f.before r in
        record {
          counted = omega arith;
          within = omega arith;
          begins = subst (IsBeginning at) (sym (ap (take (column - 1)) parts ∙ take_at f.before r (column - 1) (omega arith))) (begun f.before f.begins);
          stops = λ h m. past r parts stops long is h m;
        }
      where
        past : (r : List ℕ) → text ≡ f.before ++ r → Stops (IsInstrText at) f.before r → length text ≡ length f.before + length r → column ≡ length text - length r + 1 → column ≤ length text → ¬ (IsBeginning at (take column text))
        past [] parts stops long is h m = omega arith
        past (c ∷ t) parts stops long is h m =
            let front : take column text ≡ f.before ++ c ∷ [] = ap (take column) (parts ∙ sym (append_assoc f.before (c ∷ []) t)) ∙ take_at (f.before ++ c ∷ []) t column (omega (arith, length-append f.before (c ∷ []))) in
            stops m.more (record { instr = m.instr; told = record { fits = m.fits; is = sym (append_assoc f.before (c ∷ []) m.more) ∙ ap (λ q. q ++ m.more) (sym front) ∙ m.is } })

-- a fault leaves no instruction
pub none_told : (at : ℕ) (text rest : List ℕ) → IsFault (IsInstrText at) (IsInstrText at) text rest → (i : Instr) → ¬ (IsTextOf at text i)
none_told at text rest f i p = by rest f.parts f.stops
  where
    by : (r : List ℕ) → text ≡ f.before ++ r → Stops (IsInstrText at) f.before r → ⊥
    by [] parts stops = stops (record { instr = i; told = record { fits = p.fits; is = sym (parts ∙ append-nil f.before) ∙ p.is } })
    by (c ∷ t) parts stops = stops t (record { instr = i; told = record { fits = p.fits; is = sym parts ∙ p.is } })

-- and its column is small
pub column_small : (at : ℕ) (text rest : List ℕ) → IsFault (IsInstrText at) (IsInstrText at) text rest → length text - length rest ≤ 48
column_small at text rest f =
    let g = f.begins.whole in
    let short = text_short g.instr at g.told.fits in
    omega (arith, ap (λ (q : List ℕ). length q) f.parts, length-append f.before rest, ap (λ (q : List ℕ). length q) g.told.is, length-append f.before f.begins.more)
