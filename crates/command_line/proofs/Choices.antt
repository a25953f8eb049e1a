-- What a test, a chain of options and the small tests of words say.
use Rattle.std.proofs.Common.{◌≡◌, ◌⊎◌, inl, inr, Bool, true, false, cond, not, ◌&&◌, nat_eq, [], ◌∷◌, ◌++◌, take, drop, Option, Some, None, option_map, refl, sym, ap, ◌∙◌, subst, codes}
use Rattle.std.specs.Option.{option_and_then}
use Rattle.std.specs.Str.{bytes_eq}
use Rattle.std.proofs.lemmas.Slice.Eq.{bytes_eq-Decides}
use Rattle.std.proofs.lemmas.List.{take-append-drop}
use Rattle.command_line.specs.Commands.{Word, is_name, predictor_word}
use Rattle.command_line.specs.Reading.{kind_of}
use Rattle.command_line.specs.declared.forms.PredictorKind.{PredictorKind}
use Rattle.command_line.specs.declared.forms.PredictorKind.TheVariants.{Static, Bimodal, Gshare}
use Rattle.command_line.proofs.WordByWord.{is_joined}

pub chosen : {A : Type 0} (b : Bool) (x y z : A) → cond b x y ≡ z → ((b ≡ true) × (x ≡ z)) ⊎ ((b ≡ false) × (y ≡ z))
chosen true x y z e = inl (refl, e)
chosen false x y z e = inr (refl, e)

pub kept : {A : Type 0} (b : Bool) (x : Option A) (z : A) → cond b x None ≡ Some z → (b ≡ true) × (x ≡ Some z)
kept true x z e = (refl, e)
kept false x z e = cc

pub mapped : {A B : Type 0} (f : A → B) (o : Option A) (y : B) → option_map f o ≡ Some y → (x : A) × (o ≡ Some x) × (f x ≡ y)
mapped f None y e = cc
mapped f (Some x) y e = (x, refl, cc)

pub then_is : {A B : Type 0} (f : A → Option B) (o : Option A) (y : B) → option_and_then f o ≡ Some y → (x : A) × (o ≡ Some x) × (f x ≡ Some y)
then_is f None y e = cc
then_is f (Some x) y e = (x, refl, e)

pub both : (a b : Bool) → (a && b) ≡ true → (a ≡ true) × (b ≡ true)
both true b e = (refl, e)
both false b e = cc

pub same_word : (w t : Word) → bytes_eq w t ≡ true → w ≡ t
same_word w t e = (bytes_eq-Decides w t).0 e

pub joined_word : (w : Word) → is_joined w ≡ true → w ≡ codes "--predictor=" ++ drop 12 w
joined_word w e = sym (take-append-drop 12 w) ∙ ap (λ f. f ++ drop 12 w) (same_word (take 12 w) (codes "--predictor=") e)

never : (t : Bool) → (t && false) ≡ false
never true = refl
never false = refl

not_first : (t s : Bool) → not t ≡ true → (t && s) ≡ false
not_first true s f = cc
not_first false s f = refl

-- a name is neither `--` nor an option
pub name_is_no_dashes : (w : Word) → is_name w ≡ true → bytes_eq w (codes "--") ≡ false
name_is_no_dashes [] e = refl
name_is_no_dashes (a ∷ []) e = never (nat_eq a 45)
name_is_no_dashes (a ∷ b ∷ w) e = not_first (nat_eq a 45) _ e

pub name_is_no_option : (w : Word) → is_name w ≡ true → bytes_eq w (codes "--predictor") ≡ false
name_is_no_option [] e = refl
name_is_no_option (a ∷ []) e = never (nat_eq a 45)
name_is_no_option (a ∷ b ∷ w) e = not_first (nat_eq a 45) _ e

pub name_is_not_joined : (w : Word) → is_name w ≡ true → is_joined w ≡ false
name_is_not_joined [] e = refl
name_is_not_joined (a ∷ []) e = never (nat_eq a 45)
name_is_not_joined (a ∷ b ∷ w) e = not_first (nat_eq a 45) _ e

-- a predictor and its word
pub kind_again : (k : PredictorKind) → kind_of (predictor_word k) ≡ Some k
unfolding kind_of
kind_again Static = refl
kind_again Bimodal = refl
kind_again Gshare = refl

pub kind_word : (w : Word) (k : PredictorKind) → kind_of w ≡ Some k → w ≡ predictor_word k
unfolding kind_of
kind_word w k e = elim (chosen (bytes_eq w (codes "static")) _ _ _ e) [
  | inl h ↦ let is : Static ≡ k = cc in subst (λ j. w ≡ predictor_word j) is (same_word _ _ h.0)
  | inr g ↦ elim (chosen (bytes_eq w (codes "bimodal")) _ _ _ g.1) [
    | inl h ↦ let is : Bimodal ≡ k = cc in subst (λ j. w ≡ predictor_word j) is (same_word _ _ h.0)
    | inr f ↦ let h = kept (bytes_eq w (codes "gshare")) _ _ f.1 in let is : Gshare ≡ k = cc in subst (λ j. w ≡ predictor_word j) is (same_word _ _ h.0)
  ]
]
