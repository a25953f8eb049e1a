-- How often a stay has met its header, unit by unit; and walks, where one goes on from another.
use Rattle.std.proofs.Common.{◌≡◌, ◌≢◌, ◌∙◌, refl, sym, ap, subst, ℕ, ◌+◌, Bool, true, false, List, [], ◌∷◌, ◌++◌, arith, ◌⊎◌, inl, inr}
use Rattle.std.specs.Prelude.{if◌then◌else◌, ◌==◌}
use Rattle.std.proofs.lemmas.Bool.{eqb-true}
use Rattle.visa_io.specs.declared.records.Region.{Region}
use Rattle.flow_graph.specs.declared.parts.Edge.{Edge}
use Rattle.loop_regions.specs.Walks.{LoopGraph, IsWalk, IsLegal, Comes, follow, open_from, visits, holds}

pub same_number : (u : ℕ) → (u == u) ≡ true
same_number u = grind arith

pub other_number : (u v : ℕ) → u ≢ v → (u == v) ≡ false
other_number u v differ = by_test (u == v) refl
  where
    by_test : (b : Bool) → (u == v) ≡ b → (u == v) ≡ false
    by_test true is = absurd (differ (eqb-true u v is))
    by_test false is = is

pub is_header : (r : Region) (u : ℕ) → (u ≡ r.header) ⊎ (u ≢ r.header)
is_header r u = by_test (u == r.header) refl
  where
    by_test : (b : Bool) → (u == r.header) ≡ b → (u ≡ r.header) ⊎ (u ≢ r.header)
    by_test true is = inl (eqb-true u r.header is)
    by_test false is = inr (λ e. let no : true ≡ false = sym (ap (λ v. u == v) (sym e) ∙ same_number u) ∙ is in cc)

pub is_held : (r : Region) (u : ℕ) → (holds r u ≡ true) ⊎ (holds r u ≡ false)
is_held r u = by_test (holds r u) refl
  where
    by_test : (b : Bool) → holds r u ≡ b → (holds r u ≡ true) ⊎ (holds r u ≡ false)
    by_test true is = inl is
    by_test false is = inr is

-- outside a region the count is 0
pub visits_outside : (r : Region) (u : ℕ) (us : List ℕ) → holds r u ≡ false → visits r (u ∷ us) ≡ 0
visits_outside r u us out = ap (λ (b : Bool). let n : ℕ = (if b then (if u == r.header then 1 else 0) + visits r us else 0) in n) out

-- at the header it is one more
pub visits_header : (r : Region) (u : ℕ) (us : List ℕ) → holds r u ≡ true → u ≡ r.header → visits r (u ∷ us) ≡ 1 + visits r us
visits_header r u us within is =
    ap (λ (b : Bool). let n : ℕ = (if b then (if u == r.header then 1 else 0) + visits r us else 0) in n) within
    ∙ ap (λ (b : Bool). let n : ℕ = (if b then 1 else 0) + visits r us in n) (ap (λ v. u == v) (sym is) ∙ same_number u)

-- at another unit of the region it stays
pub visits_other : (r : Region) (u : ℕ) (us : List ℕ) → holds r u ≡ true → u ≢ r.header → visits r (u ∷ us) ≡ visits r us
visits_other r u us within differ =
    let e = ap (λ (b : Bool). let n : ℕ = (if b then (if u == r.header then 1 else 0) + visits r us else 0) in n) within
    ∙ ap (λ (b : Bool). let n : ℕ = (if b then 1 else 0) + visits r us in n) (other_number u r.header differ) in
    omega (arith, e)

-- runs append
pub open_append : (s : List (List ℕ)) (newer older : List Edge) → open_from s (newer ++ older) ≡ open_from (open_from s older) newer
open_append s [] older = refl
open_append s (e ∷ newer) older = ap (λ o. follow e.kind e.to o) (open_append s newer older)

-- a walk can be cut anywhere
pub walk_newer : (g : LoopGraph) (s : List (List ℕ)) (newer older : List Edge) → IsWalk g s (newer ++ older) → IsWalk g (open_from s older) newer
walk_newer g s [] older walk = tt
walk_newer g s (e ∷ newer) older walk = (
  walk_newer g s newer older walk.0,
  walk.1,
  subst (λ o. Comes e.kind e.from e.to o) (open_append s newer older) walk.2,
  subst (λ o. IsLegal g.regions (follow e.kind e.to o)) (open_append s newer older) walk.3,
)

pub walk_older : (g : LoopGraph) (s : List (List ℕ)) (newer older : List Edge) → IsWalk g s (newer ++ older) → IsWalk g s older
walk_older g s [] older walk = walk
walk_older g s (e ∷ newer) older walk = walk_older g s newer older walk.0

-- and one goes on from where another ends
pub walk_append : (g : LoopGraph) (s : List (List ℕ)) (newer older : List Edge) → IsWalk g s older → IsWalk g (open_from s older) newer → IsWalk g s (newer ++ older)
walk_append g s [] older old new = old
walk_append g s (e ∷ newer) older old new = (
  walk_append g s newer older old new.0,
  new.1,
  subst (λ o. Comes e.kind e.from e.to o) (sym (open_append s newer older)) new.2,
  subst (λ o. IsLegal g.regions (follow e.kind e.to o)) (sym (open_append s newer older)) new.3,
)
