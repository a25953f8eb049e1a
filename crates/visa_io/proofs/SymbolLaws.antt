-- Symbols as the entries of a map from names to values.
use Rattle.std.proofs.Common.{◌≡◌, ℕ, List, [], ◌∷◌, ◌++◌, cond, false, refl, ap, ◌∙◌}
use Rattle.std.specs.Prelude.{Option, None, Some, Vec, bytes_eq, is_some}
use Rattle.std.specs.Map.{lookup}
use Rattle.std.specs.declared.alloc.Global.{Global}
use Rattle.indexmap.specs.IndexMap.{IndexMap, insert_entry}
use Rattle.indexmap.proofs.CallerLemmas.{insert_entry-new}
use Rattle.visa_io.specs.SymbolLists.{pairs_of, value_of, names}

-- a look-up by the map's test is one by the name
pub lookup-pairs_of : (name : List ℕ) (entries : List (Vec ℕ Global × ℕ))
    → lookup (λ key. bytes_eq name key.items) entries ≡ value_of (pairs_of entries) name
lookup-pairs_of name [] = refl
lookup-pairs_of name (e ∷ es) = ap (λ rest. cond (bytes_eq name e.0.items) (Some e.1) rest) (lookup-pairs_of name es)

pub pairs_of-append : (xs ys : List (Vec ℕ Global × ℕ)) → pairs_of (xs ++ ys) ≡ pairs_of xs ++ pairs_of ys
pairs_of-append [] ys = refl
pairs_of-append (x ∷ xs) ys = ap (λ rest. (x.0.items, x.1) ∷ rest) (pairs_of-append xs ys)

pub none_of : {A : Type 0} (o : Option A) → is_some o ≡ false → o ≡ None
none_of None h = refl
none_of (Some x) h = cc

-- a new name goes last
pub pairs_of-inserted : {S : Type 0} (m : IndexMap (Vec ℕ Global) ℕ S) (key : Vec ℕ Global) (name : List ℕ) (value : ℕ) (entries : List (Vec ℕ Global × ℕ))
    → key.items ≡ name → names (pairs_of m.entries) name ≡ false
    → entries ≡ insert_entry (λ x y. bytes_eq x.items y.items) m.entries key value
    → pairs_of entries ≡ pairs_of m.entries ++ (name, value) ∷ []
pairs_of-inserted m key name value entries is_name absent put =
    let none : lookup (λ y. bytes_eq key.items y.items) m.entries ≡ None
    = lookup-pairs_of key.items m.entries ∙ none_of _ (ap (names (pairs_of m.entries)) is_name ∙ absent) in
    ap pairs_of (put ∙ insert_entry-new (λ x y. bytes_eq x.items y.items) m key value none)
    ∙ pairs_of-append m.entries ((key, value) ∷ [])
    ∙ ap (λ n. pairs_of m.entries ++ (n, value) ∷ []) is_name
