-- The units of functions, by the functions' places.
use Rattle.std.proofs.Common.{◌≡◌, ◌≢◌, refl, sym, ap, subst, ◌∙◌, ℕ, zero, suc, ◌<◌, ◌≤◌, Bool, true, false, List, [], ◌∷◌, length, get_or, arith, Err, Ok, Result}
use Rattle.std.specs.Prelude.{◌==◌, if◌then◌else◌}
use Rattle.std.specs.List.{Contains}
use Rattle.std.specs.List.Sorted.{IsBinarySearchResult, IsStrictlyIncreasing}
use Rattle.std.specs.Ordering.{nat_cmp}
use Rattle.std.proofs.lemmas.Bool.{eqb-true}
use Rattle.std.proofs.lemmas.Grind.{get_or_default_zero}
use Rattle.std.proofs.lemmas.List.Kept.{AllPairs-from_increasing}
use Rattle.std.proofs.lemmas.List.Sorted.{searched}
use Rattle.flow_graph.specs.Flow.{Flow}
use Rattle.loop_regions.proofs.Numbers.{not_missed, rising}
use Rattle.loop_regions.proofs.Visits.{other_number, same_number}
use Rattle.subtask_cut.specs.Asked.{HasFunctions, IsOther}
use Rattle.subtask_cut.specs.Search.{SaysWhether}
use Rattle.subtask_cut.specs.Ways.{units_among, units_of}

none_in : {X : Type 0} (x : X) → Contains [] x → ⊥
none_in x (k, below, is) = omega (arith, below)

-- whether something holds that holds just where another thing does
pub says_same : (b : Bool) (P Q : Type 0) → (P → Q) → (Q → P) → SaysWhether b P → SaysWhether b Q
says_same true P Q forth back s = forth s
says_same false P Q forth back s = λ q. s (back q)

-- each number of a list differs from the later ones
abbrev AreApart : List ℕ → Type 0
AreApart hs = (i j : ℕ) → i < j → j < length hs → get_or hs i 0 ≢ get_or hs j 0

apart : (hs : List ℕ) → IsStrictlyIncreasing hs → AreApart hs
apart hs rise i j less inside same = let h = AllPairs-from_increasing hs rise i j 0 less inside in
    omega (arith, h, same)

among_place : (hs : List ℕ) (uss : List (List ℕ)) (f : ℕ) → AreApart hs → length uss ≡ length hs → f < length hs
    → units_among hs uss (get_or hs f 0) ≡ get_or uss f []
among_place [] uss f differ beside inside = absurd (omega (arith, inside))
among_place (h ∷ hs) [] f differ beside inside = absurd (omega (arith, beside))
among_place (h ∷ hs) (us ∷ uss) zero differ beside inside = ap (λ (b : Bool). if b then us else units_among hs uss h)
    (same_number h)
among_place (h ∷ hs) (us ∷ uss) (suc f) differ beside inside =
    ap (λ (b : Bool). if b then us else units_among hs uss (get_or hs f 0))
    (other_number h (get_or hs f 0) (differ 0 (suc f) (omega arith) inside))
    ∙ among_place hs uss f (λ i j less below. differ (suc i) (suc j) (omega arith) (omega (arith, below)))
    (omega (arith, beside)) (omega (arith, inside))

pub units_at : (g : Flow) → HasFunctions g → IsStrictlyIncreasing g.functions → (f : ℕ) → f < length g.functions
    → units_of g (get_or g.functions f 0) ≡ get_or g.function_units f []
units_at g h rise f inside = among_place g.functions g.function_units f (apart g.functions rise) h.beside inside

-- a unit of a function stands at the function's place
pub record IsAtPlace (hs : List ℕ) (uss : List (List ℕ)) (f u : ℕ) : Type 0 where
  pub place : ℕ
  pub inside : place < length hs
  pub at : get_or hs place 0 ≡ f
  pub among : Contains (get_or uss place []) u

place_of : (hs : List ℕ) (uss : List (List ℕ)) (f u : ℕ) → Contains (units_among hs uss f) u → IsAtPlace hs uss f u
place_of [] uss f u among = absurd (none_in u among)
place_of (h ∷ hs) [] f u among = absurd (none_in u among)
place_of (h ∷ hs) (us ∷ uss) f u among = by_test (h == f) refl among (λ later. place_of hs uss f u later)
  where
    by_test : (b : Bool) → (h == f) ≡ b → Contains (if b then us else units_among hs uss f) u
        → (Contains (units_among hs uss f) u → IsAtPlace hs uss f u) → IsAtPlace (h ∷ hs) (us ∷ uss) f u
    by_test true is here more = record { place = 0; inside = omega arith; at = eqb-true h f is; among = here }
    by_test false is here more =
        let p = more here in
        record { place = suc p.place; inside = (let i = p.inside in omega (arith, i)); at = p.at; among = p.among }

pub unit_place : (g : Flow) (f u : ℕ) → Contains (units_of g f) u → IsAtPlace g.functions g.function_units f u
unit_place g f u among = place_of g.functions g.function_units f u among

pub says_own : (g : Flow) (c f : ℕ) (b : Bool) → HasFunctions g → IsStrictlyIncreasing g.functions
    → IsBinarySearchResult (λ y. nat_cmp y g.entry) g.functions (Ok f)
    → SaysWhether b (Contains (get_or g.function_units f []) c)
    → SaysWhether b (Contains (units_of g g.entry) c)
says_own g c f b h rise answer says =
    let m = searched g.functions g.entry (Ok f) answer (rising g.functions rise) in
    let is : units_of g g.entry ≡ get_or g.function_units f [] = ap (λ (n : ℕ). units_of g n) (sym m.1)
    ∙ units_at g h rise f m.0 in
    subst (λ l. SaysWhether b (Contains l c)) (sym is) says

pub not_own : (g : Flow) (c i : ℕ) → IsStrictlyIncreasing g.functions
    → IsBinarySearchResult (λ y. nat_cmp y g.entry) g.functions (Err i) → Contains (units_of g g.entry) c → ⊥
not_own g c i rise answer among =
    let p = unit_place g g.entry c among in
    not_missed g.functions g.entry i rise (
      p.place,
      p.inside,
      get_or_default_zero g.functions p.place g.entry p.inside
          ∙ p.at,
    ) answer

pub another_at : (g : Flow) (f c : ℕ) → HasFunctions g → IsStrictlyIncreasing g.functions → f < length g.functions
    → IsOther g f c
    → (h : ℕ) × (h ≢ g.entry) × Contains (units_of g h) c
another_at g f c h rise inside other =
    (get_or g.functions f 0, other.0, subst (λ (l : List ℕ). Contains l c) (sym (units_at g h rise f inside)) other.1)

pub no_other : (g : Flow) (n c : ℕ) → length g.functions ≤ n → ((k : ℕ) → k < n → IsOther g k c → ⊥)
    → (h : ℕ) × (h ≢ g.entry) × Contains (units_of g h) c → ⊥
no_other g n c past none a =
    let p = unit_place g a.0 c a.2 in
    none p.place (let i = p.inside in omega (arith, i, past)) ((λ e. a.1 (sym p.at ∙ e)), p.among)

pub sought_in : (xs ys : List ℕ) (a b : ℕ) (r : Result ℕ ℕ) → xs ≡ ys → a ≡ b
    → IsBinarySearchResult (λ y. nat_cmp y a) xs r
    → IsBinarySearchResult (λ y. nat_cmp y b) ys r
sought_in xs ys a b r same also answer =
    subst (λ (l : List ℕ). IsBinarySearchResult (λ y. nat_cmp y b) l r) same
    (subst (λ (n : ℕ). IsBinarySearchResult (λ y. nat_cmp y n) xs r) also answer)
