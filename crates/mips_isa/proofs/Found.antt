-- What the words of the table find.
use Rattle.std.proofs.Common.{◌≡◌, ℕ, Bool, true, false, List, [], ◌∷◌, Option, Some, cond, ◌==◌, refl, subst}
use Rattle.std.specs.List.{find}
use Rattle.std.specs.Bool.{then_some}
use Rattle.std.proofs.lemmas.Bool.{eqb-true, and_parts}
use Rattle.mips_isa.specs.Codes.{Code, has_code}

found_here : {X : Type 0} (p : X → Bool) (y x : X) (later : Option X) → (later ≡ Some x → p x ≡ true) → (b : Bool) → p y ≡ b → cond b (Some y) later ≡ Some x → p x ≡ true
found_here p y x later go true passes same = let e : y ≡ x = cc in subst (λ z. p z ≡ true) e passes
found_here p y x later go false fails rest = go rest

-- what is found passes the test
pub find_passes : {X : Type 0} (p : X → Bool) (xs : List X) (x : X) → find p xs ≡ Some x → p x ≡ true
find_passes p [] x e = cc
find_passes p (y ∷ ys) x e = found_here p y x (find p ys) (λ h. find_passes p ys x h) (p y) refl e

pub then_some_some : {X : Type 0} (b : Bool) (x y : X) → then_some b x ≡ Some y → (b ≡ true) × (x ≡ y)
then_some_some true x y e = (refl, cc)
then_some_some false x y e = cc

pub has_code_parts : (op part : ℕ) (code : Code) → has_code op part code ≡ true → (code.0 ≡ op) × (code.1 ≡ part)
has_code_parts op part code h =
    let both = and_parts (code.0 == op) (code.1 == part) h in
    (eqb-true code.0 op both.0, eqb-true code.1 part both.1)
