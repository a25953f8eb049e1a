-- A wait for a redirect is paid by the edge into the unit.
use Rattle.std.proofs.Common.{◌≡◌, refl, sym, ap, subst, ◌∙◌, ◌⊎◌, inl, inr, ℕ, ◌≤◌, Bool, true, false, List, [], ◌∷◌, ◌++◌, append-nil, arith}
use Rattle.std.specs.Prelude.{if◌then◌else◌, Option, Some, None}
use Rattle.std.specs.List.{Contains}
use Rattle.flow_graph.specs.declared.parts.EdgeKind.{EdgeKind}
use Rattle.flow_graph.specs.declared.parts.EdgeKind.TheVariants.{Next, Taken, Call, Return, Over}
use Rattle.flow_graph.specs.declared.parts.Edge.{Edge}
use Rattle.mips_isa.specs.Kinds.{is_control}
use Rattle.mips_isa.specs.declared.instr.Kind.{Kind}
use Rattle.mips_isa.specs.declared.instr.Kind.TheVariants as sort
use Rattle.loop_regions.specs.Walks.{LoopGraph, IsWalk, Comes, alone, open_from}
use Rattle.loop_regions.specs.Places.{Place, places, unit_places}
use Rattle.loop_regions.specs.Costs.{Prices, entering}
use Rattle.remaining_wcet.specs.Executed.{Clock, Spells, wait_after}
use Rattle.remaining_wcet.specs.Ways.{Words, AreUnits, Done, Goes, Went, WentBy, AreCheap, is_taken, differs, redirects_by, cost_by, edge_cost, executed_of}
use Rattle.subtask_cut.proofs.Home.{newest_of, newest_after}

-- the newest of these places is no control instruction: a slot, or a unit without one
abbrev pub IsEnded : Words → List Place → Type 0
IsEnded w [] = Unit {0}
IsEnded w (x ∷ xs) = is_control (w.sort x.at) ≡ false

-- what stands before a place: for a slot its control instruction, at a unit's start the unit from which its edge comes
abbrev pub Stands : LoopGraph → Words → Option Edge → List Place → Type 0
Stands g w by [] = Unit {0}
Stands g w None (x ∷ xs) = IsEnded w xs
Stands g w (Some e) (x ∷ []) = Unit {0}
Stands g w (Some e) (x ∷ y ∷ ys) =
    Contains g.edges e × (((y.at ≡ e.from) × (g.is_long e.from ≡ true)) ⊎ IsEnded w (y ∷ ys))

abbrev pub AreSound : LoopGraph → Words → List Place → Type 0
AreSound g w [] = Unit {0}
AreSound g w (x ∷ xs) = Stands g w x.by xs × AreSound g w xs

pub sound_older : (g : LoopGraph) (w : Words) (later xs : List Place) → AreSound g w (later ++ xs) → AreSound g w xs
sound_older g w [] xs s = s
sound_older g w (x ∷ later) xs s = sound_older g w later xs s.1

redirects_not : (kind : Kind) (predicted taken : Bool) → is_control kind ≡ false
    → redirects_by kind predicted taken ≡ false
redirects_not sort.Plain predicted taken h = refl
redirects_not sort.Mul predicted taken h = refl
redirects_not sort.Div predicted taken h = refl
redirects_not sort.Load predicted taken h = refl
redirects_not sort.Store predicted taken h = refl
redirects_not sort.Branch predicted taken h = cc
redirects_not sort.Jump predicted taken h = refl
redirects_not sort.Call predicted taken h = refl
redirects_not sort.Return predicted taken h = cc
redirects_not sort.Indirect predicted taken h = refl
redirects_not sort.Stop predicted taken h = refl

-- a redirect is what its edge costs
fork_case : (predicted taken : Bool) (kind : EdgeKind) → taken ≡ is_taken kind → (kind ≡ Next) ⊎ (kind ≡ Taken)
    → (if differs predicted taken then 2 else 0) ≤ cost_by sort.Branch predicted kind
fork_case true true Next t r = let clash : true ≡ false = t in cc
fork_case true false Next t r = omega arith
fork_case false true Next t r = let clash : true ≡ false = t in cc
fork_case false false Next t r = omega arith
fork_case true true Taken t r = omega arith
fork_case true false Taken t r = let clash : false ≡ true = t in cc
fork_case false true Taken t r = omega arith
fork_case false false Taken t r = let clash : false ≡ true = t in cc
fork_case predicted taken Call t r =
    elim r [ inl e ↦ (let h : Call ≡ Next = e in cc) | inr e ↦ (let h : Call ≡ Taken = e in cc) ]
fork_case predicted taken Over t r =
    elim r [ inl e ↦ (let h : Over ≡ Next = e in cc) | inr e ↦ (let h : Over ≡ Taken = e in cc) ]
fork_case true true Return t r = omega arith
fork_case true false Return t r = omega arith
fork_case false true Return t r = omega arith
fork_case false false Return t r = omega arith

back_case : (predicted : Bool) (kind : EdgeKind) → kind ≡ Return → 2 ≤ cost_by sort.Return predicted kind
back_case predicted Return e = omega arith
back_case predicted Next e = cc
back_case predicted Taken e = cc
back_case predicted Call e = cc
back_case predicted Over e = cc

wait_case : (turn : Kind) (predicted taken : Bool) (kind : EdgeKind) → (turn ≡ sort.Branch → taken ≡ is_taken kind)
    → (turn ≡ sort.Branch → (kind ≡ Next) ⊎ (kind ≡ Taken)) → (turn ≡ sort.Return → kind ≡ Return)
    → (if redirects_by turn predicted taken then 2 else 0) ≤ cost_by turn predicted kind
wait_case sort.Plain predicted taken kind t f r = omega arith
wait_case sort.Mul predicted taken kind t f r = omega arith
wait_case sort.Div predicted taken kind t f r = omega arith
wait_case sort.Load predicted taken kind t f r = omega arith
wait_case sort.Store predicted taken kind t f r = omega arith
wait_case sort.Branch predicted taken kind t f r = fork_case predicted taken kind (t refl) (f refl)
wait_case sort.Jump predicted taken kind t f r = omega arith
wait_case sort.Call predicted taken kind t f r = omega arith
wait_case sort.Return predicted taken kind t f r = back_case predicted kind (r refl)
wait_case sort.Indirect predicted taken kind t f r = omega arith
wait_case sort.Stop predicted taken kind t f r = omega arith

none_if : (b : Bool) (m : ℕ) → b ≡ false → (if b then 2 else 0) ≤ m
none_if true m e = cc
none_if false m e = omega arith

-- no wait where the instruction before the last isn't control
no_wait : (w : Words) (ds : List Done) (x : Place) (xs : List Place) (m : ℕ) → Goes w ds (x ∷ xs) → IsEnded w xs
    → wait_after (executed_of w ds) ≤ m
no_wait w [] x xs m goes ended = absurd goes
no_wait w (d ∷ []) x xs m goes ended = omega arith
no_wait w (d ∷ r ∷ ds) x [] m goes ended = absurd goes.2
no_wait w (d ∷ r ∷ ds) x (y ∷ ys) m goes ended =
    none_if (redirects_by (w.sort r.at) (w.predicted r.at) r.taken) m
    (redirects_not (w.sort r.at) (w.predicted r.at) r.taken (ap (λ a. is_control (w.sort a)) goes.2.0 ∙ ended))

-- a wait of the instruction at a unit's start is paid by its edge
edge_wait : (g : LoopGraph) (w : Words) (a : ℕ) → AreUnits g w a → (e : Edge) (ds : List Done) (xs : List Place)
    → Goes w ds xs → Went w e ds → Stands g w (Some e) xs → wait_after (executed_of w ds) ≤ edge_cost w e
edge_wait g w a us e [] xs goes went stands = omega arith
edge_wait g w a us e (s ∷ []) xs goes went stands = omega arith
edge_wait g w a us e (s ∷ c ∷ ds) [] goes went stands = absurd goes
edge_wait g w a us e (s ∷ c ∷ ds) (x ∷ []) goes went stands = absurd goes.2
edge_wait g w a us e (s ∷ c ∷ ds) (x ∷ y ∷ ys) goes went stands = elim stands.1 [
  | inl from ↦
      let at : c.at ≡ e.from = goes.2.0 ∙ from.0 in
      let case = wait_case (w.sort c.at) (w.predicted c.at) c.taken e.kind (went at)
      (λ h. us.forks e stands.0 (sym (ap w.sort at) ∙ h)) (λ h. us.returns e stands.0 (sym (ap w.sort at) ∙ h)) in
      subst (λ a. wait_after (executed_of w (s ∷ c ∷ ds)) ≤ cost_by (w.sort a) (w.predicted a) e.kind) at case
  | inr ended ↦ no_wait w (s ∷ c ∷ ds) x (y ∷ ys) (edge_cost w e) goes ended
]

-- what went along a walk waits no longer than the walk's edges cost
by_wait : (g : LoopGraph) (w : Words) (a : ℕ) (p : Prices) → AreUnits g w a → p.edge ≡ edge_cost w
    → (by : Option Edge) (ds : List Done) (xs : List Place) → Goes w ds xs → WentBy w by ds → Stands g w by xs
    → wait_after (executed_of w ds) ≤ entering p by
by_wait g w a p us same by [] xs goes went stands = omega arith
by_wait g w a p us same by (d ∷ ds) [] goes went stands = absurd goes
by_wait g w a p us same None (d ∷ ds) (x ∷ xs) goes went stands = no_wait w (d ∷ ds) x xs 0 goes stands
by_wait g w a p us same (Some e) (d ∷ ds) (x ∷ xs) goes went stands =
    let wait = edge_wait g w a us e (d ∷ ds) (x ∷ xs) goes went stands in
    let edge = ap (λ f. f e) same in
    omega (arith, wait, edge)

pub spells : (g : LoopGraph) (w : Words) (a : ℕ) (c : Clock) (p : Prices) → AreUnits g w a → p.edge ≡ edge_cost w
    → (ds : List Done) (xs : List Place) → Goes w ds xs → AreSound g w xs → AreCheap c p (executed_of w ds)
    → Spells c p (executed_of w ds) xs
spells g w a c p us same [] [] goes sound cheap = tt
spells g w a c p us same [] (x ∷ xs) goes sound cheap = absurd goes
spells g w a c p us same (d ∷ ds) [] goes sound cheap = absurd goes
spells g w a c p us same (d ∷ ds) (x ∷ xs) goes sound cheap =
    (goes.0, cheap.0, by_wait g w a p us same x.by ds xs goes.2 goes.1 sound.0, spells g w a c p us same ds xs goes.2 sound.1 cheap.1)

-- the newest unit of a walk, by its list of edges
abbrev pub last_unit : ℕ → List Edge → ℕ
last_unit u [] = u
last_unit u (e ∷ es) = e.to

last_newest : (g : LoopGraph) (u : ℕ) (es : List Edge) → IsWalk g (alone u) es
    → newest_of (open_from (alone u) es) ≡ last_unit u es
unfolding newest_of
last_newest g u [] walk = refl
last_newest g u (e ∷ es) walk = newest_after e.kind e.from e.to (open_from (alone u) es) walk.2

from_newest : (kind : EdgeKind) (from to : ℕ) (s : List (List ℕ)) → Comes kind from to s → newest_of s ≡ from
unfolding newest_of
from_newest Over from to s comes = absurd comes
from_newest Next from to [] comes = absurd comes
from_newest Taken from to [] comes = absurd comes
from_newest Call from to [] comes = absurd comes
from_newest Return from to [] comes = absurd comes
from_newest Next from to ([] ∷ s) comes = absurd comes
from_newest Taken from to ([] ∷ s) comes = absurd comes
from_newest Call from to ([] ∷ s) comes = absurd comes
from_newest Return from to ([] ∷ []) comes = absurd comes
from_newest Return from to ([] ∷ vs ∷ s) comes = absurd comes.0
from_newest Next from to ((u ∷ us) ∷ s) comes = comes
from_newest Taken from to ((u ∷ us) ∷ s) comes = comes
from_newest Call from to ((u ∷ us) ∷ s) comes = comes
from_newest Return from to ((u ∷ us) ∷ []) comes = absurd comes
from_newest Return from to ((u ∷ us) ∷ vs ∷ s) comes = comes.0

-- an edge comes from the newest unit
pub edge_from : (g : LoopGraph) (u : ℕ) (e : Edge) (es : List Edge) → IsWalk g (alone u) (e ∷ es)
    → e.from ≡ last_unit u es
edge_from g u e es walk =
    sym (from_newest e.kind e.from e.to (open_from (alone u) es) walk.2) ∙ last_newest g u es walk.0

-- the places of a unit, before others
unit_sound : (g : LoopGraph) (w : Words) → (long : Bool) (u : ℕ) → g.is_long u ≡ long
    → (by : Option Edge) (xs : List Place) → Stands g w by xs → IsEnded w xs → AreSound g w xs
    → AreSound g w (unit_places long u by ++ xs)
unit_sound g w true u is by xs stands ended sound = (ended, (stands, sound))
unit_sound g w false u is by xs stands ended sound = (stands, sound)

unit_ended : (g : LoopGraph) (w : Words) (a : ℕ) → AreUnits g w a → (long : Bool) (u : ℕ) → g.is_long u ≡ long
    → (g.is_long u ≡ false → is_control (w.sort u) ≡ false) → (by : Option Edge) (xs : List Place)
    → IsEnded w (unit_places long u by ++ xs)
unit_ended g w a us true u is short by xs = us.slot u is
unit_ended g w a us false u is short by xs = short is

-- the edge from a unit stands behind its places
unit_stands : (g : LoopGraph) (w : Words) → (e : Edge) → Contains g.edges e → (long : Bool) (u : ℕ) → g.is_long u ≡ long
    → e.from ≡ u → (by : Option Edge) (xs : List Place) → IsEnded w xs
    → Stands g w (Some e) (unit_places long u by ++ xs)
unit_stands g w e edge true u is from by xs ended = (edge, inl (sym from, ap g.is_long from ∙ is))
unit_stands g w e edge false u is from by [] ended = tt
unit_stands g w e edge false u is from by (x ∷ xs) ended = (edge, inr ended)

last_short : (g : LoopGraph) (w : Words) (u : ℕ) → AreUnits g w u → (es : List Edge) → IsWalk g (alone u) es
    → g.is_long (last_unit u es) ≡ false → is_control (w.sort (last_unit u es)) ≡ false
last_short g w u us [] walk = us.first
last_short g w u us (e ∷ es) walk = us.short e walk.1

-- the places of a walk end with those of its newest unit
record IsTop (g : LoopGraph) (w : Words) (v : ℕ) (xs : List Place) : Type 0 where
  by : Option Edge
  older : List Place
  is : xs ≡ unit_places (g.is_long v) v by ++ older
  ended : IsEnded w older
  sound : AreSound g w xs

top : (g : LoopGraph) (w : Words) (u : ℕ) → AreUnits g w u → (es : List Edge) → IsWalk g (alone u) es
    → IsTop g w (last_unit u es) (places g None u es)
top g w u us [] walk =
    let is = sym (append-nil (unit_places (g.is_long u) u None)) in
    record
    { by = None; older = []; is = is; ended = tt; sound = subst (AreSound g w) (sym is) (unit_sound g w (g.is_long u) u refl None [] tt tt tt) }
top g w u us (e ∷ es) walk =
    let t = top g w u us es walk.0 in
    let stands = subst (Stands g w (Some e)) (sym t.is)
    (unit_stands g w e walk.1 (g.is_long (last_unit u es)) (last_unit u es) refl (edge_from g u e es walk) t.by t.older t.ended) in
    let ended = subst (IsEnded w) (sym t.is)
    (unit_ended g w u us (g.is_long (last_unit u es)) (last_unit u es) refl (last_short g w u us es walk.0) t.by t.older) in
    record
    { by = Some e; older = places g None u es; is = refl; ended = ended; sound = unit_sound g w (g.is_long e.to) e.to refl (Some e) (places g None u es) stands ended t.sound }

stands_first : (g : LoopGraph) (w : Words) (by : Option Edge) (xs ys : List Place) → Stands g w by (xs ++ ys)
    → Stands g w by xs
stands_first g w by [] ys h = tt
stands_first g w None (x ∷ []) ys h = tt
stands_first g w None (x ∷ z ∷ xs) ys h = h
stands_first g w (Some e) (x ∷ []) ys h = tt
stands_first g w (Some e) (x ∷ z ∷ xs) ys h = h

sound_first : (g : LoopGraph) (w : Words) (xs ys : List Place) → AreSound g w (xs ++ ys) → AreSound g w xs
sound_first g w [] ys s = tt
sound_first g w (x ∷ xs) ys s = (stands_first g w x.by xs ys s.0, sound_first g w xs ys s.1)

-- what goes along a part of a walk is spelt by its places
pub run_spells : (g : LoopGraph) (w : Words) (u : ℕ) (c : Clock) (p : Prices) → AreUnits g w u → p.edge ≡ edge_cost w
    → (es : List Edge) → IsWalk g (alone u) es
    → (later xs ys : List Place) → places g None u es ≡ later ++ (xs ++ ys) → (ds : List Done) → Goes w ds xs
    → AreCheap c p (executed_of w ds) → Spells c p (executed_of w ds) xs
run_spells g w u c p us same es walk later xs ys e ds goes cheap =
    let t = top g w u us es walk in
    spells g w u c p us same ds xs goes
    (sound_first g w xs ys (sound_older g w later (xs ++ ys) (subst (AreSound g w) e t.sound))) cheap
