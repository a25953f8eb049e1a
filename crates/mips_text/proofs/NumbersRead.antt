-- Numbers read off the front of a text.
use Rattle.std.proofs.Common.{◌≡◌, refl, sym, ap, ◌∙◌, subst, ℕ, ◌+◌, ◌-◌, ◌*◌, ◌^◌, ◌≤◌, ◌<◌, ◌⊎◌, true, false, List, [], ◌∷◌, ◌++◌, length, get_or, take, drop, append_assoc, decimal, arith, inl, inr}
use Rattle.std.specs.Char.{is_ascii_digit}
use Rattle.std.proofs.lemmas.List.{take_all}
use Rattle.std.proofs.lemmas.Fmt.{decimal_digit, decimal_nonempty}
use Rattle.mips_text.specs.Forms.{IsLongest, IsNumberOf, IsNumberRead, OpensNumber}
use Rattle.mips_text.specs.Faults.{IsFault, Stops}
use Rattle.mips_text.proofs.Numerals.{digit_is, digit_more, starts}

-- what stands behind the first byte, as code gives it
abbrev pub behind_first : List ℕ → List ℕ
behind_first text = take (length text - 1) (drop 1 text)

pub behind_is : (c : ℕ) (t : List ℕ) → behind_first (c ∷ t) ≡ t
behind_is c t = take_all (length (c ∷ t) - 1) t (omega arith)

-- why no number of a range begins with a byte
abbrev pub IsNoStart : ℕ → ℕ → ℕ → Type 0
IsNoStart least most c = is_ascii_digit c ≡ true → (c - 48 < least) ⊎ (most < c - 48)

module _ (least most : ℕ) (low : least ≤ 1) (some : least ≤ most) (small : most < 2 ^ 32) where
  not_nothing : (v : ℕ) (rest : List ℕ) → v ≤ most → ¬ ([] ≡ decimal v ++ rest)
  not_nothing v rest high e = by (decimal v) (decimal_nonempty v (omega arith)) e
    where
      by : (f : List ℕ) → 0 < length f → ¬ ([] ≡ f ++ rest)
      by [] h e = absurd (omega arith)
      by (x ∷ f) h e = cc

  not_started : (c : ℕ) → IsNoStart least most c → (v : ℕ) (more rest : List ℕ) → least ≤ v → v ≤ most → ¬ (c ∷ more ≡ decimal v ++ rest)
  not_started c bars v more rest l h e = by (decimal v) (decimal_nonempty v (omega arith)) refl e
    where
      by : (f : List ℕ) → 0 < length f → decimal v ≡ f → ¬ (c ∷ more ≡ f ++ rest)
      by [] k is e = absurd (omega arith)
      by (x ∷ f) k is e =
          let same : x ≡ c = cc in
          let s = starts v c f (omega arith) (is ∙ ap (λ q. q ∷ f) same) in
          let range = digit_is c s.digit in
          elim (bars s.digit) [
            | inl below ↦ (let z : c ≡ 48 = omega arith in let w = s.zero_alone z in omega arith)
            | inr past ↦ (let w = s.least in omega arith)
          ]

  stops_at : (text : List ℕ) → ((c : ℕ) (t : List ℕ) → text ≡ c ∷ t → IsNoStart least most c) → Stops (OpensNumber least most) [] text
  stops_at [] bars = λ m. not_nothing m.value m.rest m.high m.is
  stops_at (c ∷ t) bars = λ more m. not_started c (bars c t refl) m.value more m.rest m.low m.high m.is

  pub no_number : (text : List ℕ) → ((c : ℕ) (t : List ℕ) → text ≡ c ∷ t → IsNoStart least most c) → IsFault (IsNumberOf least most) (OpensNumber least most) text text
  no_number text bars =
      record { before = []; parts = refl; begins = record { more = decimal least; whole = record { value = least; low = omega arith; high = some; is = refl } }; stops = stops_at text bars }

  pub no_bytes : (text : List ℕ) → length text < 1 → IsFault (IsNumberOf least most) (OpensNumber least most) text text
  no_bytes text h = no_number text (λ c t e. absurd (omega (arith, ap (λ (q : List ℕ). length q) e)))

  pub no_digit : (text : List ℕ) → is_ascii_digit (get_or text 0 0) ≡ false → IsFault (IsNumberOf least most) (OpensNumber least most) text text
  no_digit text bars = no_number text (λ c t e d. let same : get_or text 0 0 ≡ c = ap (λ q. get_or q 0 0) e in absurd (let w : is_ascii_digit c ≡ false = subst (λ q. is_ascii_digit q ≡ false) same bars in cc))

  pub too_low : (text : List ℕ) → get_or text 0 0 - 48 < least → IsFault (IsNumberOf least most) (OpensNumber least most) text text
  too_low text bars = no_number text (λ c t e d. inl (omega (arith, ap (λ q. get_or q 0 0) e)))

  pub too_high : (text : List ℕ) → most < get_or text 0 0 - 48 → IsFault (IsNumberOf least most) (OpensNumber least most) text text
  too_high text bars = no_number text (λ c t e d. inr (omega (arith, ap (λ q. get_or q 0 0) e)))

  pub number_read : (text : List ℕ) (value w : ℕ) (rest : List ℕ) → 1 ≤ length text → is_ascii_digit (get_or text 0 0) ≡ true → value ≡ get_or text 0 0 - 48 → least ≤ value → value ≤ w → w ≤ most
      → decimal value ++ behind_first text ≡ decimal w ++ rest → IsLongest most w rest → IsNumberRead least most text w rest
  number_read [] value w rest some digit v l m h is longest = absurd (omega arith)
  number_read (c ∷ t) value w rest some digit v l m h is longest =
      let r = digit_is c digit in
      let first : decimal value ≡ c ∷ [] = decimal_digit value (omega arith) ∙ ap (λ q. q ∷ []) (let z : 48 + value ≡ c = omega arith in z) in
      record { low = omega arith; high = h; is = ap (λ q. q ++ t) (sym first) ∙ ap (λ q. decimal value ++ q) (sym (behind_is c t)) ∙ is; longest = longest }

-- a digit more was read
pub one_more : (value : ℕ) (text : List ℕ) (next w : ℕ) (rest : List ℕ) → 1 ≤ length text → is_ascii_digit (get_or text 0 0) ≡ true → 0 < value → next ≡ value * 10 + (get_or text 0 0 - 48) → next < 2 ^ 32
    → decimal next ++ behind_first text ≡ decimal w ++ rest → decimal value ++ text ≡ decimal w ++ rest
one_more value [] next w rest some digit positive is small e = absurd (omega arith)
one_more value (c ∷ t) next w rest some digit positive is small e =
    sym (append_assoc (decimal value) (c ∷ []) t)
    ∙ ap (λ q. q ++ t) (sym (digit_more value c positive (omega arith) digit))
    ∙ ap (λ n. decimal n ++ t) (sym is)
    ∙ ap (λ q. decimal next ++ q) (sym (behind_is c t))
    ∙ e
