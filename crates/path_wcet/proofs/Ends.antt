-- Walks that stop at a unit.
use Rattle.std.proofs.Common.{◌≡◌, refl, sym, ap, ◌∙◌, ℕ, Bool, true, false, List, [], ◌∷◌, inl, inr, Option, Some, None}
use Rattle.std.specs.Prelude.{not}
use Rattle.std.specs.List.{Contains, filter}
use Rattle.flow_graph.specs.declared.parts.Edge.{Edge}
use Rattle.flow_graph.specs.declared.parts.EdgeKind.{EdgeKind}
use Rattle.flow_graph.specs.declared.parts.EdgeKind.TheVariants.{Next, Taken, Call, Return, Over}
use Rattle.loop_regions.specs.Walks.{Comes, IsNewest, IsWalk, LoopGraph, alone, follow, open_from}
use Rattle.loop_regions.proofs.FreeWays.{filtered, filters}
use Rattle.loop_regions.proofs.Visits.{other_number}
use Rattle.path_wcet.specs.Known.{is_this}
use Rattle.path_wcet.specs.Longest.{IsMissed}

-- the unit where a walk stands
abbrev pub standing : ℕ → List Edge → ℕ
standing start [] = start
standing start (e ∷ es) = e.to

abbrev IsTop : ℕ → List (List ℕ) → Type 0
IsTop u [] = ⊥
IsTop u (us ∷ s) = IsNewest u us

top_follow : (kind : EdgeKind) (a b : ℕ) (s : List (List ℕ)) → Comes kind a b s → IsTop b (follow kind b s)
top_follow Next a b [] comes = absurd comes
top_follow Next a b (us ∷ s) comes = refl
top_follow Taken a b [] comes = absurd comes
top_follow Taken a b (us ∷ s) comes = refl
top_follow Call a b [] comes = absurd comes
top_follow Call a b (us ∷ s) comes = refl
top_follow Return a b [] comes = absurd comes
top_follow Return a b (us ∷ []) comes = absurd comes
top_follow Return a b (us ∷ vs ∷ s) comes = refl
top_follow Over a b s comes = absurd comes

same_newest : (a b : ℕ) (us : List ℕ) → IsNewest a us → IsNewest b us → a ≡ b
same_newest a b [] first second = absurd first
same_newest a b (u ∷ us) first second = sym first ∙ second

top_comes : (kind : EdgeKind) (a b u : ℕ) (s : List (List ℕ)) → Comes kind a b s → IsTop u s → a ≡ u
top_comes Next a b u [] comes top = absurd comes
top_comes Next a b u (us ∷ s) comes top = same_newest a u us comes top
top_comes Taken a b u [] comes top = absurd comes
top_comes Taken a b u (us ∷ s) comes top = same_newest a u us comes top
top_comes Call a b u [] comes top = absurd comes
top_comes Call a b u (us ∷ s) comes top = same_newest a u us comes top
top_comes Return a b u [] comes top = absurd comes
top_comes Return a b u (us ∷ []) comes top = absurd comes
top_comes Return a b u (us ∷ vs ∷ s) comes top = same_newest a u us comes.0 top
top_comes Over a b u s comes top = absurd comes

top_walk : (g : LoopGraph) (start : ℕ) (es : List Edge) → IsWalk g (alone start) es → IsTop (standing start es) (open_from (alone start) es)
top_walk g start [] walk = refl
top_walk g start (e ∷ es) walk = top_follow e.kind e.from e.to (open_from (alone start) es) walk.2

-- an edge leaves the unit where the walk stands
pub leaves : (g : LoopGraph) (start : ℕ) (e : Edge) (es : List Edge) → IsWalk g (alone start) (e ∷ es) → e.from ≡ standing start es
leaves g start e es walk = top_comes e.kind e.from e.to (standing start es) (open_from (alone start) es) walk.2 (top_walk g start es walk.0)

-- the graph without ways on from a unit
abbrev pub goes_on : Option ℕ → Edge → Bool
goes_on to e = not (is_this to e.from)

abbrev pub without : LoopGraph → Option ℕ → LoopGraph
without g to = record { edges = filter (goes_on to) g.edges; regions = g.regions; is_long = g.is_long }

off_start : (to : Option ℕ) (start : ℕ) (es : List Edge) → is_this to start ≡ false → IsMissed to es → is_this to (standing start es) ≡ false
off_start to start [] off missed = off
off_start None start (e ∷ es) off missed = refl
off_start (Some a) start (e ∷ es) off missed = other_number e.to a (λ is. missed (inl is))

missed_older : (to : Option ℕ) (e : Edge) (es : List Edge) → IsMissed to (e ∷ es) → IsMissed to es
missed_older None e es missed = tt
missed_older (Some a) e es missed = λ m. missed (inr m)

pub kept_into : (g : LoopGraph) (to : Option ℕ) (start : ℕ) → is_this to start ≡ false → (e : Edge) (es : List Edge) → IsWalk g (alone start) (e ∷ es) → IsMissed to es → IsWalk (without g to) (alone start) es → IsWalk (without g to) (alone start) (e ∷ es)
kept_into g to start off e es walk missed before = (
  before,
  filters (goes_on to) g.edges e walk.1 (ap not (ap (is_this to) (leaves g start e es walk) ∙ off_start to start es off missed)),
  walk.2,
  walk.3,
)

pub kept_walk : (g : LoopGraph) (to : Option ℕ) (start : ℕ) → is_this to start ≡ false → (es : List Edge) → IsWalk g (alone start) es → IsMissed to es → IsWalk (without g to) (alone start) es
kept_walk g to start off [] walk missed = tt
kept_walk g to start off (e ∷ es) walk missed =
    kept_into g to start off e es walk (missed_older to e es missed) (kept_walk g to start off es walk.0 (missed_older to e es missed))

not_true : (b : Bool) → not b ≡ true → b ≡ false
not_true true is = sym is
not_true false is = refl

-- an edge of the smaller graph
pub goes_there : (g : LoopGraph) (to : Option ℕ) (e : Edge) → Contains (without g to).edges e → Contains g.edges e × (is_this to e.from ≡ false)
goes_there g to e c = let f = filtered (goes_on to) g.edges e c in (f.0, not_true (is_this to e.from) f.1)

pub stays_there : (g : LoopGraph) (to : Option ℕ) (e : Edge) → Contains g.edges e → is_this to e.from ≡ false → Contains (without g to).edges e
stays_there g to e c off = filters (goes_on to) g.edges e c (ap not off)
