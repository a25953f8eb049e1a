-- The digits of a target, one by one.
use Rattle.std.proofs.Common.{◌≡◌, refl, sym, ap, ◌∙◌, subst, ℕ, ◌+◌, ◌-◌, ◌*◌, ◌≤◌, ◌≢◌, true, false, List, [], ◌∷◌, ◌++◌, length, get_or, append-nil, arith, Result, Ok, Err, IfOk, IfErr}
use Rattle.std.specs.Char.{digit_value}
use Rattle.std.specs.Str.Parse.{digits_value_after}
use Rattle.text_fields.specs.Numbers.{is_hex_digit}
use Rattle.text_fields.proofs.Digits.{and_from, and_parts}
use Rattle.mips_text.specs.Faults.{Begins, IsFault}
use Rattle.mips_text.specs.Targets.{IsTargetEnd, IsTargetRead, OpensTargetEnd}
use Rattle.mips_text.proofs.FaultLaws.{behind}
use Rattle.mips_text.proofs.NumbersRead.{behind_first, behind_is}

pub ok_map : {A E : Type 0} (r : Result A E) (P Q : A → Type 0) → ((x : A) → P x → Q x) → IfOk r P → IfOk r Q
ok_map (Ok x) P Q f h = f x h
ok_map (Err e) P Q f h = h

pub err_map : {A E : Type 0} (r : Result A E) (P Q : E → Type 0) → ((x : E) → P x → Q x) → IfErr r P → IfErr r Q
err_map (Ok x) P Q f h = h
err_map (Err e) P Q f h = f e h

module _ (first size left v : ℕ) (some : left ≢ 0) where
  pub shorter : (c : ℕ) (t : List ℕ) → IsTargetEnd first size left v (c ∷ t) → (is_hex_digit c ≡ true) × IsTargetEnd first size (left - 1) (v * 16 + digit_value c) t
  shorter c t e = let p = and_parts (is_hex_digit c) _ e.digits in (p.0, record { digits = p.1; long = omega (arith, e.long); inside = e.inside })

  pub longer : (c : ℕ) (t : List ℕ) → is_hex_digit c ≡ true → IsTargetEnd first size (left - 1) (v * 16 + digit_value c) t → IsTargetEnd first size left v (c ∷ t)
  longer c t h e = record { digits = and_from (is_hex_digit c) _ h e.digits; long = omega (arith, e.long); inside = e.inside }

  -- an opening's first digit
  opened : (c : ℕ) (more : List ℕ) → OpensTargetEnd first size left v (c ∷ more) → (is_hex_digit c ≡ true) × OpensTargetEnd first size (left - 1) (v * 16 + digit_value c) more
  opened c more o = by o.digits o.target o.is
    where
      by : (ds : List ℕ) → IsTargetEnd first size left v ds → c ∷ more ≡ ds ++ o.rest → (is_hex_digit c ≡ true) × OpensTargetEnd first size (left - 1) (v * 16 + digit_value c) more
      by [] e is = absurd (omega (arith, e.long))
      by (d ∷ ds) e is =
          let head : d ≡ c = cc in
          let tail : more ≡ ds ++ o.rest = cc in
          let s = shorter c ds (subst (λ q. IsTargetEnd first size left v (q ∷ ds)) head e) in
          (s.0, record { digits = ds; target = s.1; rest = o.rest; is = tail })

  refused : (c : ℕ) (t : List ℕ) → Begins (IsTargetEnd first size left v) [] → ((more : List ℕ) → ¬ (OpensTargetEnd first size left v (c ∷ more)))
      → IsFault (IsTargetEnd first size left v) (OpensTargetEnd first size left v) (c ∷ t) (c ∷ t)
  refused c t b bars = record { before = []; parts = refl; begins = b; stops = bars }

  pub not_hex : (text : List ℕ) → 1 ≤ length text → Begins (IsTargetEnd first size left v) [] → is_hex_digit (get_or text 0 0) ≡ false → IsFault (IsTargetEnd first size left v) (OpensTargetEnd first size left v) text text
  not_hex [] l b h = absurd (omega arith)
  not_hex (c ∷ t) l b h = refused c t b (λ more o. let p = (opened c more o).0 in cc)

  pub not_reached : (text : List ℕ) (n : ℕ) → 1 ≤ length text → Begins (IsTargetEnd first size left v) [] → n ≡ v * 16 + digit_value (get_or text 0 0) → ((t : List ℕ) → ¬ (IsTargetEnd first size (left - 1) n t))
      → IsFault (IsTargetEnd first size left v) (OpensTargetEnd first size left v) text text
  not_reached [] n l b e bars = absurd (omega arith)
  not_reached (c ∷ t) n l b e bars = refused c t b (λ more o. let p = (opened c more o).1 in bars p.digits (subst (λ q. IsTargetEnd first size (left - 1) q p.digits) (sym e) p.target))

  pub read_behind : (text : List ℕ) (n a : ℕ) (rest : List ℕ) → 1 ≤ length text → is_hex_digit (get_or text 0 0) ≡ true → n ≡ v * 16 + digit_value (get_or text 0 0) → IsTargetRead first size (left - 1) n (behind_first text) a rest
      → IsTargetRead first size left v text a rest
  read_behind [] n a rest l h e r = absurd (omega arith)
  read_behind (c ∷ t) n a rest l h e r =
      record {
        digits = c ∷ r.digits;
        target = longer c r.digits h (subst (λ q. IsTargetEnd first size (left - 1) q r.digits) e r.target);
        is = ap (λ q. c ∷ q) (sym (behind_is c t) ∙ r.is);
        worth = r.worth ∙ ap (λ q. digits_value_after 16 q r.digits) e;
      }

  pub fault_behind : (text : List ℕ) (n : ℕ) (rest : List ℕ) → 1 ≤ length text → is_hex_digit (get_or text 0 0) ≡ true → n ≡ v * 16 + digit_value (get_or text 0 0)
      → IsFault (IsTargetEnd first size (left - 1) n) (OpensTargetEnd first size (left - 1) n) (behind_first text) rest → IsFault (IsTargetEnd first size left v) (OpensTargetEnd first size left v) text rest
  fault_behind [] n rest l h e f = absurd (omega arith)
  fault_behind (c ∷ t) n rest l h e f =
      behind (IsTargetEnd first size (left - 1) n) (OpensTargetEnd first size (left - 1) n) (IsTargetEnd first size left v) (OpensTargetEnd first size left v) (c ∷ t) (c ∷ []) (behind_first (c ∷ t)) rest (ap (λ q. c ∷ q) (sym (behind_is c t)))
      (λ ds m. record { more = []; whole = longer c (ds ++ []) h (subst (λ q. IsTargetEnd first size (left - 1) (v * 16 + digit_value c) q) (sym (append-nil ds)) (subst (λ q. IsTargetEnd first size (left - 1) q ds) e m)) })
      (λ ds o. let p = (opened c ds o).1 in record { digits = p.digits; target = subst (λ q. IsTargetEnd first size (left - 1) q p.digits) (sym e) p.target; rest = p.rest; is = p.is })
      f
