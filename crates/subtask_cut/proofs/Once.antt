-- A walk comes to a cut at most once: else the entry's function would come back to it, and it would lie in a region.
use Rattle.std.proofs.Common.{◌≡◌, refl, sym, ap, subst, ◌∙◌, ℕ, suc, ◌+◌, List, [], ◌∷◌, inl, inr, None}
use Rattle.std.specs.List.{Contains}
use Rattle.flow_graph.specs.Flow.{Flow}
use Rattle.flow_graph.specs.Reached.{is_inner}
use Rattle.flow_graph.specs.declared.parts.Edge.{Edge}
use Rattle.flow_graph.specs.declared.parts.EdgeKind.{EdgeKind}
use Rattle.flow_graph.specs.declared.parts.EdgeKind.TheVariants.{Next, Taken, Call, Return, Over}
use Rattle.loop_regions.specs.Nested.{IsNest, Numbered}
use Rattle.loop_regions.specs.Turns.{IsInnerWay}
use Rattle.loop_regions.specs.Walks.{Comes, Has, IsFirst, IsWalk, LoopGraph, Meets, alone, follow, open_from}
use Rattle.loop_regions.proofs.Turns.{start_on, turn}
use Rattle.subtask_cut.specs.Cuts.{AreSubTasks, SubTasks}
use Rattle.subtask_cut.specs.Functions.{AreFunctions, AreOver}
use Rattle.subtask_cut.specs.Ways.{IsWay, units_of}
use Rattle.subtask_cut.specs.declared.fault.CutFault.TheVariants.{InRegion}
use Rattle.subtask_cut.proofs.Home.{IsAlone, cut_alone, newest_after}
use Rattle.subtask_cut.proofs.Order.{AreWays, ordered}
use Rattle.subtask_cut.proofs.Passed.{cut_of, passed}

-- the units of the activation that opened first
abbrev bottom : List (List ℕ) → List ℕ
bottom [] = []
bottom (us ∷ []) = us
bottom (us ∷ vs ∷ s) = bottom (vs ∷ s)

bottom_under : (c : ℕ) (us vs : List ℕ) (s : List (List ℕ)) → ((u : ℕ) → Has u us → Has u vs) → Has c (bottom (us ∷ s))
    → Has c (bottom (vs ∷ s))
bottom_under c us vs [] more h = more c h
bottom_under c us vs (ws ∷ s) more h = h

bottom_goes : (c : ℕ) (kind : EdgeKind) (from to : ℕ) (s : List (List ℕ)) → Comes kind from to s → Has c (bottom s)
    → Has c (bottom (follow kind to s))
bottom_goes c Next from to [] comes h = absurd comes
bottom_goes c Taken from to [] comes h = absurd comes
bottom_goes c Call from to [] comes h = absurd comes
bottom_goes c Return from to [] comes h = absurd comes
bottom_goes c Over from to s comes h = absurd comes
bottom_goes c Next from to (us ∷ s) comes h = bottom_under c us (to ∷ us) s (λ u more. inr more) h
bottom_goes c Taken from to (us ∷ s) comes h = bottom_under c us (to ∷ us) s (λ u more. inr more) h
bottom_goes c Call from to (us ∷ s) comes h = h
bottom_goes c Return from to (us ∷ []) comes h = absurd comes
bottom_goes c Return from to (us ∷ vs ∷ s) comes h = bottom_under c vs (to ∷ vs) s (λ u more. inr more) h

-- where one activation is open after an edge, it goes on from the one that opened first
bottom_before : (c : ℕ) (kind : EdgeKind) (from to : ℕ) (s : List (List ℕ)) (older : List ℕ) → Comes kind from to s
    → follow kind to s ≡ (to ∷ older) ∷ [] → Has c (bottom s) → Has c older
bottom_before c Next from to [] older comes is h = absurd comes
bottom_before c Taken from to [] older comes is h = absurd comes
bottom_before c Call from to [] older comes is h = absurd comes
bottom_before c Return from to [] older comes is h = absurd comes
bottom_before c Over from to s older comes is h = absurd comes
bottom_before c Next from to (us ∷ []) older comes is h = let e : us ≡ older = cc in subst (Has c) e h
bottom_before c Next from to (us ∷ vs ∷ s) older comes is h = let bad : ⊥ = cc in absurd bad
bottom_before c Taken from to (us ∷ []) older comes is h = let e : us ≡ older = cc in subst (Has c) e h
bottom_before c Taken from to (us ∷ vs ∷ s) older comes is h = let bad : ⊥ = cc in absurd bad
bottom_before c Call from to (us ∷ s) older comes is h = let bad : ⊥ = cc in absurd bad
bottom_before c Return from to (us ∷ []) older comes is h = absurd comes
bottom_before c Return from to (us ∷ vs ∷ []) older comes is h = let e : vs ≡ older = cc in subst (Has c) e h
bottom_before c Return from to (us ∷ vs ∷ ws ∷ s) older comes is h = let bad : ⊥ = cc in absurd bad

-- at a cut one activation is open
alone_at : (g : LoopGraph) (units : ℕ → List ℕ) (main c : ℕ) → AreFunctions g.edges units main → AreOver g.edges
    → ((f : ℕ) → Contains (units f) c → f ≡ main) → (e : Edge) (es : List Edge) → IsWalk g (alone main) (e ∷ es)
    → e.to ≡ c
    → IsAlone c (open_from (alone main) (e ∷ es))
alone_at g units main c fs over own e es walk is =
    cut_alone g.edges units main c own (open_from (alone main) (e ∷ es))
    (newest_after e.kind e.from e.to (open_from (alone main) es) walk.2 ∙ is)
    (ordered g units main fs over (e ∷ es) walk).home

-- a cut that was met is a unit of the activation that opened first
met_below : (g : LoopGraph) (units : ℕ → List ℕ) (main c : ℕ) → AreFunctions g.edges units main → AreOver g.edges
    → ((f : ℕ) → Contains (units f) c → f ≡ main) → (es : List Edge) → IsWalk g (alone main) es → Meets c es
    → Has c (bottom (open_from (alone main) es))
met_below g units main c fs over own [] walk met = absurd met
met_below g units main c fs over own (e ∷ es) walk (inl is) =
    let a = alone_at g units main c fs over own e es walk is in
    subst (λ s. Has c (bottom s)) (sym a.is) (inl refl)
met_below g units main c fs over own (e ∷ es) walk (inr met) =
    bottom_goes c e.kind e.from e.to (open_from (alone main) es) walk.2
    (met_below g units main c fs over own es walk.0 met)

-- a way that met a unit leads on from there
record LeadsFrom (g : Flow) (c v : ℕ) : Type 0 where
  last : ℕ
  before : List ℕ
  way : IsInnerWay g c (last ∷ before) v

leads_from : (g : Flow) (main c v : ℕ) (us : List ℕ) → IsWay g.edges is_inner None main (v ∷ us) → Has c us
    → LeadsFrom g c v
leads_from g main c v [] way h = absurd h
leads_from g main c v (u ∷ us) way (inl is) = record {
  last = u;
  before = [];
  way = ((way.0.edge, record { among = way.0.among; inner = way.0.is_asked }, way.0.from_is, way.0.to_is), sym is);
}
leads_from g main c v (u ∷ us) way (inr h) =
    let l = leads_from g main c u us way.2 h in
    record {
      last = u;
      before = l.last ∷ l.before;
      way = ((way.0.edge, record { among = way.0.among; inner = way.0.is_asked }, way.0.from_is, way.0.to_is), l.way);
    }

pub once : (g : Flow) (n : Numbered) (cuts : List ℕ) (s : SubTasks) → IsNest g n → AreSubTasks g n.regions cuts s
    → AreFunctions g.edges (units_of g) g.entry → AreOver g.edges → (l : LoopGraph) → l.edges ≡ g.edges
    → (e : Edge) (es : List Edge)
    → IsWalk l (alone g.entry) (e ∷ es) → (k u : ℕ) → IsFirst s.firsts (suc k) u → e.to ≡ u → Meets u es → ⊥
once g n cuts s nest are functions is_over l edges e es walk k u first is met =
    let fs : AreFunctions l.edges (units_of g) g.entry = subst (λ d. AreFunctions d (units_of g) g.entry)
    (sym edges) functions in
    let over : AreOver l.edges = subst AreOver (sym edges) is_over in
    let own = (passed g n.regions cuts s are).own k u first in
    let a = alone_at l (units_of g) g.entry u fs over own e es walk is in
    let ways = (ordered l (units_of g) g.entry fs over (e ∷ es) walk).ways in
    let way : IsWay g.edges is_inner None g.entry (u ∷ a.older) = way_at a ways in
    let below = met_below l (units_of g) g.entry u fs over own es walk.0 met in
    let again = bottom_before u e.kind e.from e.to (open_from (alone g.entry) es) a.older walk.2
    (a.is ∙ ap (λ v. (v ∷ a.older) ∷ []) (sym is)) below in
    let c = leads_from g g.entry u u a.older way again in
    let x = turn g n nest u c.last c.before c.way in
    are.sound (InRegion (k + 2)) (
      u,
      cut_of g n.regions cuts s are k u first,
      (x.region, x.among, x.all u (start_on g u u c.last c.before c.way)),
    )
  where
    way_at : (a : IsAlone u (open_from (alone g.entry) (e ∷ es)))
        → AreWays l.edges g.entry (open_from (alone g.entry) (e ∷ es))
        → IsWay g.edges is_inner None g.entry (u ∷ a.older)
    way_at a ways =
        subst (λ d. IsWay d is_inner None g.entry (u ∷ a.older)) edges
        (let w : AreWays l.edges g.entry ((u ∷ a.older) ∷ []) = subst (AreWays l.edges g.entry) a.is ways in w)
