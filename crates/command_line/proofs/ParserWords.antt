-- What a word looks like to `clap`: it is `--`, a name, a long flag or a short one.
use Rattle.std.proofs.Common.{◌≡◌, ◌⊎◌, inl, inr, ℕ, suc, ◌+◌, Bool, true, false, cond, not, ◌&&◌, ◌||◌, nat_eq, List, [], ◌∷◌, ◌++◌, take, drop, Some, None, refl, sym, ap, ◌∙◌, subst, codes, arith, eqb-true}
use Rattle.std.specs.Prelude.{◌==◌, slice_get, option_and_then}
use Rattle.std.specs.List.{before_first, after_first, position_or_len}
use Rattle.std.specs.Str.{bytes_eq, chars, IsUtf8}
use Rattle.std.proofs.Math.Utf8.{encodes}
use Rattle.std.proofs.lemmas.Str.{encodes-chars, IsUtf8-drop, IsCharBoundary-after_ascii}
use Rattle.clap.specs.Lexer.{long_of, short_of, long_of_rest, short_of_rest, strip_byte, name_and_value, has_byte}
use Rattle.command_line.specs.Commands.{Word, is_name}
use Rattle.command_line.proofs.Choices.{same_word, name_is_no_dashes}
use Rattle.command_line.proofs.WordByWord.{is_joined}

pub record IsName (w : Word) : Type 0 where
  pub named : is_name w ≡ true
  pub dashes : bytes_eq w (codes "--") ≡ false
  pub long : long_of w ≡ None
  pub short : short_of w ≡ None

pub record IsLong (w : Word) : Type 0 where
  pub named : is_name w ≡ false
  pub dashes : bytes_eq w (codes "--") ≡ false
  pub rest : Word
  pub is : w ≡ 45 ∷ 45 ∷ rest
  pub long : long_of w ≡ Some (name_and_value rest)

pub record IsShort (w : Word) : Type 0 where
  pub named : is_name w ≡ false
  pub dashes : bytes_eq w (codes "--") ≡ false
  pub option : bytes_eq w (codes "--predictor") ≡ false
  pub joined : is_joined w ≡ false
  pub long : long_of w ≡ None
  pub head : ℕ
  pub tail : List ℕ
  pub short : short_of w ≡ Some (head ∷ tail)
  pub character : ℕ
  pub first : slice_get (chars (head ∷ tail)) 0 ≡ Some character

abbrev pub Kinds : Word → Type 0
Kinds w = (w ≡ codes "--") ⊎ (IsName w ⊎ (IsLong w ⊎ IsShort w))

two_dashes : (w : Word) → Kinds (45 ∷ 45 ∷ w)
two_dashes [] = inl refl
two_dashes (x ∷ xs) = inr (inr (inl (record { named = refl; dashes = refl; rest = x ∷ xs; is = refl; long = refl })))

first_character : (b : ℕ) (w cs : List ℕ) → encodes cs ≡ b ∷ w → (y : ℕ) × (slice_get cs 0 ≡ Some y)
first_character b w [] e = cc
first_character b w (y ∷ ys) e = (y, refl)

after_dash : (b : ℕ) (w : Word) → IsUtf8 (45 ∷ b ∷ w) → IsUtf8 (b ∷ w)
after_dash b w u = IsUtf8-drop (45 ∷ b ∷ w) 1 u (IsCharBoundary-after_ascii (45 ∷ b ∷ w) 0 u (omega arith) (omega arith))

one_dash : (b : ℕ) (w : Word) → IsUtf8 (45 ∷ b ∷ w) → (t : Bool) → nat_eq b 45 ≡ t → Kinds (45 ∷ b ∷ w)
one_dash b w u true e = subst (λ x. Kinds (45 ∷ x ∷ w)) (sym (eqb-true b 45 e)) (two_dashes w)
one_dash b w u false e =
    let y = first_character b w (chars (b ∷ w)) (encodes-chars (b ∷ w) (after_dash b w u)) in
    inr (inr (inr (record {
      named = refl;
      dashes = ap (λ t. t && bytes_eq w []) e;
      option = ap (λ t. t && bytes_eq w (codes "predictor")) e;
      joined = ap (λ t. t && bytes_eq (take 10 w) (codes "predictor=")) e;
      long = ap (λ t. option_and_then long_of_rest (cond t (Some w) None)) e;
      head = b;
      tail = w;
      short = ap (λ t. cond t None (Some (b ∷ w))) e;
      character = y.0;
      first = y.1;
    })))

no_dash : (a b : ℕ) (w : Word) → IsUtf8 (a ∷ b ∷ w) → (t : Bool) → nat_eq a 45 ≡ t → Kinds (a ∷ b ∷ w)
no_dash a b w u true e = let is = eqb-true a 45 e in
    subst (λ x. Kinds (x ∷ b ∷ w)) (sym is) (one_dash b w (subst (λ x. IsUtf8 (x ∷ b ∷ w)) is u) (nat_eq b 45) refl)
no_dash a b w u false e = inr (inl (record {
  named = ap not e;
  dashes = name_is_no_dashes (a ∷ b ∷ w) (ap not e);
  long = ap (λ t. option_and_then long_of_rest (option_and_then (strip_byte 45) (cond t (Some (b ∷ w)) None))) e;
  short = ap (λ t. option_and_then short_of_rest (cond t (Some (b ∷ w)) None)) e;
}))

one_byte : (a : ℕ) → (t : Bool) → nat_eq a 45 ≡ t → IsName (a ∷ [])
one_byte a true e = record {
  named = refl;
  dashes = name_is_no_dashes (a ∷ []) refl;
  long = ap (λ t. option_and_then long_of_rest (option_and_then (strip_byte 45) (cond t (Some []) None))) e;
  short = ap (λ t. option_and_then short_of_rest (cond t (Some []) None)) e;
}
one_byte a false e = record {
  named = refl;
  dashes = name_is_no_dashes (a ∷ []) refl;
  long = ap (λ t. option_and_then long_of_rest (option_and_then (strip_byte 45) (cond t (Some []) None))) e;
  short = ap (λ t. option_and_then short_of_rest (cond t (Some []) None)) e;
}

pub kinds : (w : Word) → IsUtf8 w → Kinds w
kinds [] u = inr (inl (record { named = refl; dashes = refl; long = refl; short = refl }))
kinds (a ∷ []) u = inr (inl (one_byte a (nat_eq a 45) refl))
kinds (a ∷ b ∷ w) u = no_dash a b w u (nat_eq a 45) refl

-- ---- the name of a long flag

abbrev is_sign : ℕ → Bool
is_sign x = x == 61

sign_later : (x n : ℕ) (xs : List ℕ) → xs ≡ take n xs ++ 61 ∷ drop (n + 1) xs → x ∷ xs ≡ take (1 + n) (x ∷ xs) ++ 61 ∷ drop (1 + n + 1) (x ∷ xs)
sign_later x n xs e =
    let one : suc n ≡ 1 + n = omega arith in
    let two : suc (n + 1) ≡ 1 + n + 1 = omega arith in
    ap (λ ys. x ∷ ys) e ∙ ap (λ k. take k (x ∷ xs) ++ 61 ∷ drop (suc (n + 1)) (x ∷ xs)) one ∙ ap (λ k. take (1 + n) (x ∷ xs) ++ 61 ∷ drop k (x ∷ xs)) two

sign_at : (x : ℕ) (xs : List ℕ) (t : Bool) → nat_eq x 61 ≡ t → (t || has_byte 61 xs) ≡ true → (has_byte 61 xs ≡ true → xs ≡ before_first is_sign xs ++ 61 ∷ after_first is_sign xs)
    → x ∷ xs ≡ take (cond (not t) (1 + position_or_len is_sign xs) 0) (x ∷ xs) ++ 61 ∷ drop (cond (not t) (1 + position_or_len is_sign xs) 0 + 1) (x ∷ xs)
sign_at x xs true at e later = ap (λ y. y ∷ xs) (eqb-true x 61 at)
sign_at x xs false at e later = sign_later x (position_or_len is_sign xs) xs (later e)

around_sign : (xs : List ℕ) → has_byte 61 xs ≡ true → xs ≡ before_first is_sign xs ++ 61 ∷ after_first is_sign xs
around_sign [] e = cc
around_sign (x ∷ xs) e = sign_at x xs (nat_eq x 61) refl e (around_sign xs)

no_sign_at : (x : ℕ) (xs : List ℕ) (t : Bool) → (t || has_byte 61 xs) ≡ false → (has_byte 61 xs ≡ false → before_first is_sign xs ≡ xs)
    → take (cond (not t) (1 + position_or_len is_sign xs) 0) (x ∷ xs) ≡ x ∷ xs
no_sign_at x xs true e later = cc
no_sign_at x xs false e later = let one : 1 + position_or_len is_sign xs ≡ suc (position_or_len is_sign xs) = omega arith in ap (λ k. take k (x ∷ xs)) one ∙ ap (λ ys. x ∷ ys) (later e)

without_sign : (xs : List ℕ) → has_byte 61 xs ≡ false → before_first is_sign xs ≡ xs
without_sign [] e = refl
without_sign (x ∷ xs) e = no_sign_at x xs (nat_eq x 61) e (without_sign xs)

-- a long flag of another name is no option
pub other_name : (rest : Word) → bytes_eq (45 ∷ 45 ∷ rest) (codes "--predictor") ≡ false → is_joined (45 ∷ 45 ∷ rest) ≡ false → bytes_eq (codes "predictor") (name_and_value rest).0 ≡ false
other_name rest plain joined = by_name (bytes_eq (codes "predictor") (before_first is_sign rest)) refl
  where
    by_sign : codes "predictor" ≡ before_first is_sign rest → (t : Bool) → has_byte 61 rest ≡ t → ⊥
    by_sign e true h =
        let is : rest ≡ codes "predictor" ++ 61 ∷ after_first is_sign rest = around_sign rest h ∙ ap (λ n. n ++ 61 ∷ after_first is_sign rest) (sym e) in
        let bad : true ≡ false = ap (λ r. is_joined (45 ∷ 45 ∷ r)) (sym is) ∙ joined in cc
    by_sign e false h =
        let is : rest ≡ codes "predictor" = sym (without_sign rest h) ∙ sym e in
        let bad : true ≡ false = ap (λ r. bytes_eq (45 ∷ 45 ∷ r) (codes "--predictor")) (sym is) ∙ plain in cc

    by_name : (t : Bool) → bytes_eq (codes "predictor") (before_first is_sign rest) ≡ t → bytes_eq (codes "predictor") (before_first is_sign rest) ≡ false
    by_name true e = absurd (by_sign (same_word _ _ e) (has_byte 61 rest) refl)
    by_name false e = e
