-- A walk that begins at a cut, beside the walk from the entry: the open activations are the same but for the units before the cut.
use Rattle.std.proofs.Common.{◌≡◌, refl, ap, subst, ◌∙◌, ℕ, ◌+◌, ◌≤◌, Bool, true, false, List, [], ◌∷◌, ◌++◌, arith}
use Rattle.std.specs.Prelude.{if◌then◌else◌, ◌==◌}
use Rattle.std.specs.List.{Contains}
use Rattle.visa_io.specs.declared.records.Region.{Region}
use Rattle.flow_graph.specs.declared.parts.Edge.{Edge}
use Rattle.flow_graph.specs.declared.parts.EdgeKind.{EdgeKind}
use Rattle.flow_graph.specs.declared.parts.EdgeKind.TheVariants.{Next, Taken, Call, Return, Over}
use Rattle.loop_regions.specs.Walks.{LoopGraph, IsWalk, IsLegal, Comes, alone, follow, open_from, visits, holds}

-- the bottom activation has older units too
abbrev pub under : List (List ℕ) → List ℕ → List (List ℕ)
under [] tail = []
under (us ∷ []) tail = (us ++ tail) ∷ []
under (us ∷ vs ∷ s) tail = us ∷ under (vs ∷ s) tail

-- there is an activation, and none is empty
abbrev pub AreOpen : List (List ℕ) → Type 0
AreOpen [] = ⊥
AreOpen ([] ∷ s) = ⊥
AreOpen ((u ∷ us) ∷ []) = Unit {0}
AreOpen ((u ∷ us) ∷ vs ∷ s) = AreOpen (vs ∷ s)

pub follow_open : (kind : EdgeKind) (to : ℕ) (s : List (List ℕ)) → AreOpen s → AreOpen (follow kind to s)
follow_open kind to [] o = absurd o
follow_open kind to ([] ∷ s) o = absurd o
follow_open Call to ((u ∷ us) ∷ []) o = tt
follow_open Call to ((u ∷ us) ∷ vs ∷ s) o = o
follow_open Next to ((u ∷ us) ∷ []) o = tt
follow_open Next to ((u ∷ us) ∷ vs ∷ s) o = o
follow_open Taken to ((u ∷ us) ∷ []) o = tt
follow_open Taken to ((u ∷ us) ∷ vs ∷ s) o = o
follow_open Over to ((u ∷ us) ∷ []) o = tt
follow_open Over to ((u ∷ us) ∷ vs ∷ s) o = o
follow_open Return to ((u ∷ us) ∷ []) o = tt
follow_open Return to ((u ∷ us) ∷ [] ∷ s) o = absurd o
follow_open Return to ((u ∷ us) ∷ (v ∷ vs) ∷ []) o = tt
follow_open Return to ((u ∷ us) ∷ (v ∷ vs) ∷ ws ∷ s) o = o

pub follow_under : (kind : EdgeKind) (to : ℕ) (s : List (List ℕ)) (tail : List ℕ) → AreOpen s → follow kind to (under s tail) ≡ under (follow kind to s) tail
follow_under kind to [] tail o = absurd o
follow_under Call to (us ∷ []) tail o = refl
follow_under Call to (us ∷ vs ∷ s) tail o = refl
follow_under Next to (us ∷ []) tail o = refl
follow_under Next to (us ∷ vs ∷ s) tail o = refl
follow_under Taken to (us ∷ []) tail o = refl
follow_under Taken to (us ∷ vs ∷ s) tail o = refl
follow_under Over to (us ∷ []) tail o = refl
follow_under Over to (us ∷ vs ∷ s) tail o = refl
follow_under Return to (us ∷ []) tail o = refl
follow_under Return to (us ∷ vs ∷ []) tail o = refl
follow_under Return to (us ∷ vs ∷ ws ∷ s) tail o = refl

pub comes_under : (kind : EdgeKind) (from to : ℕ) (s : List (List ℕ)) (tail : List ℕ) → AreOpen s → Comes kind from to (under s tail) → Comes kind from to s
comes_under kind from to [] tail o h = absurd o
comes_under kind from to ([] ∷ s) tail o h = absurd o
comes_under Call from to ((u ∷ us) ∷ []) tail o h = h
comes_under Call from to ((u ∷ us) ∷ vs ∷ s) tail o h = h
comes_under Next from to ((u ∷ us) ∷ []) tail o h = h
comes_under Next from to ((u ∷ us) ∷ vs ∷ s) tail o h = h
comes_under Taken from to ((u ∷ us) ∷ []) tail o h = h
comes_under Taken from to ((u ∷ us) ∷ vs ∷ s) tail o h = h
comes_under Over from to ((u ∷ us) ∷ []) tail o h = h
comes_under Over from to ((u ∷ us) ∷ vs ∷ s) tail o h = h
comes_under Return from to ((u ∷ us) ∷ []) tail o h = h
comes_under Return from to ((u ∷ us) ∷ [] ∷ s) tail o h = absurd o
comes_under Return from to ((u ∷ us) ∷ (v ∷ vs) ∷ []) tail o h = h
comes_under Return from to ((u ∷ us) ∷ (v ∷ vs) ∷ ws ∷ s) tail o h = h

-- a later start meets the header no more often
visits_case : (inside header : Bool) (a b : ℕ) → a ≤ b → (if inside then (if header then 1 else 0) + a else 0) ≤ (if inside then (if header then 1 else 0) + b else 0)
visits_case true true a b h = omega arith
visits_case true false a b h = omega arith
visits_case false header a b h = omega arith

pub visits_older : (r : Region) (us tail : List ℕ) → visits r us ≤ visits r (us ++ tail)
visits_older r [] tail = omega arith
visits_older r (u ∷ us) tail = visits_case (holds r u) (u == r.header) (visits r us) (visits r (us ++ tail)) (visits_older r us tail)

pub legal_under : (rs : List Region) (s : List (List ℕ)) (tail : List ℕ) → IsLegal rs (under s tail) → IsLegal rs s
legal_under rs [] tail h = h
legal_under rs (us ∷ []) tail h = λ r among. let a = h r among in let b = visits_older r us tail in omega (arith, a, b)
legal_under rs (us ∷ vs ∷ s) tail h = h

-- one edge more, seen from the later start
pub record IsAlso (g : LoopGraph) (u : ℕ) (es : List Edge) (s : List (List ℕ)) (tail : List ℕ) : Type 0 where
  pub walk : IsWalk g (alone u) es
  pub active : AreOpen (open_from (alone u) es)
  pub state : s ≡ under (open_from (alone u) es) tail

pub also_begins : (g : LoopGraph) (u : ℕ) (tail : List ℕ) → IsAlso g u [] ((u ∷ tail) ∷ []) tail
also_begins g u tail = record { walk = tt; active = tt; state = refl }

pub also_goes : (g : LoopGraph) (u : ℕ) (e : Edge) (es : List Edge) (s : List (List ℕ)) (tail : List ℕ) → IsAlso g u es s tail
    → Contains g.edges e → Comes e.kind e.from e.to s → IsLegal g.regions (follow e.kind e.to s) → IsAlso g u (e ∷ es) (follow e.kind e.to s) tail
also_goes g u e es s tail a edge comes legal =
    let state : follow e.kind e.to s ≡ under (follow e.kind e.to (open_from (alone u) es)) tail = ap (follow e.kind e.to) a.state ∙ follow_under e.kind e.to (open_from (alone u) es) tail a.active in
    record {
      walk = (a.walk, edge, comes_under e.kind e.from e.to (open_from (alone u) es) tail a.active (subst (Comes e.kind e.from e.to) a.state comes), legal_under g.regions (follow e.kind e.to (open_from (alone u) es)) tail (subst (IsLegal g.regions) state legal));
      active = follow_open e.kind e.to (open_from (alone u) es) a.active;
      state = state;
    }

-- what was met before a walk's first unit takes nothing from it
pub also : (g : LoopGraph) (u : ℕ) (tail : List ℕ) (es : List Edge) → IsWalk g ((u ∷ tail) ∷ []) es → IsAlso g u es (open_from ((u ∷ tail) ∷ []) es) tail
also g u tail [] walk = also_begins g u tail
also g u tail (e ∷ es) walk = also_goes g u e es (open_from ((u ∷ tail) ∷ []) es) tail (also g u tail es walk.0) walk.1 walk.2 walk.3
