-- The rows that `clap` holds: what a new one says, and what the others say after it.
use Rattle.std.proofs.Common.{◌≡◌, ℕ, Bool, true, false, cond, ◌&&◌, ◌||◌, List, [], ◌∷◌, ◌++◌, Option, Some, None, refl, sym, ap, ◌∙◌}
use Rattle.std.specs.Prelude.{slice_get, is_some, option_and_then, find}
use Rattle.std.specs.List.{list_any}
use Rattle.std.specs.Str.{bytes_eq}
use Rattle.std.proofs.lemmas.List.{append-nil}
use Rattle.std.proofs.lemmas.Slice.Eq.{bytes_eq-Decides}
use Rattle.clap.specs.Walk.{Row, Rule, Text, at_row, first_of, has_row, more_values, used, with_values, reading_by, with_default}
use Rattle.clap.specs.Simple.{new_rule, filled}
use Rattle.clap.specs.Faults.{use_fault, default_fault}
use Rattle.clap.specs.Kinds.{Kinds, or_else}
use Rattle.clap.specs.declared.error.kind.ErrorKind.TheVariants as kind
use Rattle.clap.specs.declared.parser.matches.ValueSource.TheVariants.{CommandLine}
use Rattle.command_line.specs.Commands.{Word}

-- an argument that takes one value
abbrev pub set_rule : Text → Option Text → Option ℕ → Rule
set_rule id long index = record (filled (new_rule id)) { long = long; index = index }

-- the row of an argument with this value
abbrev pub rows_for : Text → Word → List Row
rows_for id w = used (set_rule id None None) (w ∷ []) []

neither : (a b : Bool) → (a || b) ≡ false → (a ≡ false) × (b ≡ false)
neither true b e = cc
neither false b e = (refl, e)

skip_then : {A : Type 0} (b : Bool) (x y : A) → b ≡ false → cond b x y ≡ y
skip_then true x y e = cc
skip_then false x y e = refl

at_none : (id : Text) (change : Row → List Row) (missing rows : List Row) → has_row id rows ≡ false → at_row id change missing rows ≡ rows ++ missing
at_none id change missing [] e = refl
at_none id change missing (r ∷ rows) e =
    let h = neither (bytes_eq r.id id) (has_row id rows) e in
    skip_then (bytes_eq r.id id) (change r ++ rows) (r ∷ at_row id change missing rows) h.0 ∙ ap (λ x. r ∷ x) (at_none id change missing rows h.1)

-- a first use adds a row
pub used_first : (id : Text) (long : Option Text) (index : Option ℕ) (w : Word) (rows : List Row) → has_row id rows ≡ false → used (set_rule id long index) (w ∷ []) rows ≡ rows ++ rows_for id w
used_first id long index w rows e =
    ap (λ x. with_values id (reading_by (set_rule id long index)) CommandLine (w ∷ []) x) (at_none id (λ _. []) [] rows e ∙ append-nil rows) ∙ at_none id (more_values CommandLine (w ∷ [])) (rows_for id w) rows e

any_append : (p : Row → Bool) (xs ys : List Row) → list_any p (xs ++ ys) ≡ (list_any p xs || list_any p ys)
any_append p [] ys = refl
any_append p (x ∷ xs) ys = by_first (p x) (any_append p xs ys)
  where
    by_first : (t : Bool) → list_any p (xs ++ ys) ≡ (list_any p xs || list_any p ys) → (t || list_any p (xs ++ ys)) ≡ ((t || list_any p xs) || list_any p ys)
    by_first true e = refl
    by_first false e = e

find_old : (p : Row → Bool) (xs ys : List Row) → list_any p xs ≡ true → find p (xs ++ ys) ≡ find p xs
find_old p [] ys e = cc
find_old p (x ∷ xs) ys e = by_first (p x) e (find_old p xs ys)
  where
    by_first : (t : Bool) → (t || list_any p xs) ≡ true → (list_any p xs ≡ true → find p (xs ++ ys) ≡ find p xs) → cond t (Some x) (find p (xs ++ ys)) ≡ cond t (Some x) (find p xs)
    by_first true f later = refl
    by_first false f later = later f

find_new : (p : Row → Bool) (xs ys : List Row) → list_any p xs ≡ false → find p (xs ++ ys) ≡ find p ys
find_new p [] ys e = refl
find_new p (x ∷ xs) ys e = let h = neither (p x) (list_any p xs) e in skip_then (p x) (Some x) (find p (xs ++ ys)) h.0 ∙ find_new p xs ys h.1

-- what the rows have for an argument
pub record At (rows : List Row) (id : Text) (value : Option Word) : Type 0 where
  pub row : has_row id rows ≡ is_some value
  pub first : first_of id rows ≡ value

abbrev has_id : Text → Row → Bool
has_id id r = bytes_eq r.id id

abbrev first_in : Option Row → Option Text
first_in o = option_and_then (λ r. slice_get r.values 0) o

same_text : (id : Text) → bytes_eq id id ≡ true
same_text id = (bytes_eq-Decides id id).1 refl

pub new_at : (rows : List Row) (id : Text) (w : Word) → At rows id None → At (rows ++ rows_for id w) id (Some w)
new_at rows id w a = record {
  row = any_append (has_id id) rows (rows_for id w) ∙ ap (λ b. b || (bytes_eq id id || false)) a.row ∙ ap (λ b. b || false) (same_text id);
  first = ap first_in (find_new (has_id id) rows (rows_for id w) a.row) ∙ by_same (bytes_eq id id) (same_text id);
}
  where
    by_same : (t : Bool) → t ≡ true → first_in (cond t (find (λ _. true) (rows_for id w)) None) ≡ Some w
    by_same true e = refl
    by_same false e = cc

pub old_at : (rows : List Row) (id : Text) (w : Word) (j : Text) (value : Option Word) → bytes_eq id j ≡ false → At rows j value → At (rows ++ rows_for id w) j value
old_at rows id w j None other a = record {
  row = any_append (has_id j) rows (rows_for id w) ∙ ap (λ b. b || (bytes_eq id j || false)) a.row ∙ ap (λ b. b || false) other;
  first = ap first_in (find_new (has_id j) rows (rows_for id w) a.row) ∙ ap (λ b. first_in (cond b (find (λ _. true) (rows_for id w)) None)) other;
}
old_at rows id w j (Some v) other a = record {
  row = any_append (has_id j) rows (rows_for id w) ∙ ap (λ b. b || (bytes_eq id j || false)) a.row;
  first = ap first_in (find_old (has_id j) rows (rows_for id w) a.row) ∙ a.first;
}

-- ---- one use

abbrev repeated : Bool → Kinds
repeated t = or_else (cond (t && true) (kind.ArgumentConflict ∷ []) []) []

-- a first use with one value has no fault, a second one has one
pub use_first : (id : Text) (long : Option Text) (index : Option ℕ) (w : Word) (rows : List Row) → has_row id rows ≡ false → use_fault false (set_rule id long index) (w ∷ []) rows ≡ []
use_first id long index w rows e = ap repeated e

pub use_again : (id : Text) (long : Option Text) (index : Option ℕ) (w : Word) (rows : List Row) → has_row id rows ≡ true → use_fault false (set_rule id long index) (w ∷ []) rows ≡ [] → ⊥
use_again id long index w rows e h = let bad : kind.ArgumentConflict ∷ [] ≡ [] = sym (ap repeated e) ∙ h in cc

-- an argument with no default
pub no_default : (id : Text) (long : Option Text) (index : Option ℕ) (rows : List Row) → with_default rows (set_rule id long index) ≡ rows
no_default id long index rows = by_row (has_row id rows)
  where
    by_row : (t : Bool) → cond t rows rows ≡ rows
    by_row true = refl
    by_row false = refl

pub no_default_fault : (id : Text) (long : Option Text) (index : Option ℕ) (rows : List Row) → default_fault rows (set_rule id long index) ≡ []
no_default_fault id long index rows = by_row (has_row id rows)
  where
    by_row : (t : Bool) → cond (t || true) (repeated false) [] ≡ []
    by_row true = refl
    by_row false = refl
