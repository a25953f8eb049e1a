-- The fetches of a part of a walk inside a scope.
use Rattle.std.proofs.Common.{◌≡◌, refl, sym, ap, subst, ◌∙◌, ◌⊎◌, inl, inr, ℕ, ◌+◌, ◌-◌, ◌≤◌, Bool, true, false, ◌||◌, List, [], ◌∷◌, ◌++◌, append-nil, eqb-true, arith}
use Rattle.std.specs.Prelude.{if◌then◌else◌, ◌==◌, not, Option, None, Some}
use Rattle.std.specs.List.{Contains}
use Rattle.std.proofs.lemmas.Bool.{and_parts, cases_Bool, cases_eq, or_cases, or_left, or_parts, or_right, not-false, not-true}
use Rattle.std.proofs.lemmas.List.{get_or_default}
use Rattle.std.proofs.lemmas.List.Folds.{list_any-append}
use Rattle.persistence.proofs.Members.{among_at}
use Rattle.visa_io.specs.declared.records.Shape.{Shape}
use Rattle.flow_graph.specs.declared.parts.Edge.{Edge}
use Rattle.flow_graph.specs.declared.parts.EdgeKind.{EdgeKind}
use Rattle.flow_graph.specs.declared.parts.EdgeKind.TheVariants.{Next, Taken, Call, Return, Over}
use Rattle.flow_graph.specs.Flow.{Flow}
use Rattle.loop_regions.specs.Walks.{LoopGraph, Comes, IsWalk, alone, follow, open_from}
use Rattle.loop_regions.specs.Places.{Place, places, unit_places, ats, oldest}
use Rattle.loop_regions.specs.Costs.{charges, late}
use Rattle.loop_regions.proofs.Sums.{ats_append}
use Rattle.cache_lru.specs.Recency.{is_among, line_of}
use Rattle.cache_lru.proofs.Lines.{among_same, among_other}
use Rattle.persistence.specs.Charges.{Charge, IsCharge, addresses_in, addresses_of, begins_line, charged_by, has_slot, is_charged, is_covered, is_free, is_persistent, scope_lines}
use Rattle.persistence.specs.Fetches.{Charging, AllFollow, AllInside, Follows, charges_at, has_persistent, late_at, misses, newest_hits, oldest_of}
use Rattle.persistence.specs.Scopes.{AllLeadInto, FollowsBlocks, HasWays}
use Rattle.persistence.proofs.Fetching.{few}

-- the charging that a charge of a scope is
abbrev charging_of : Flow → List ℕ → Shape → Charging
charging_of g scope shape = record { shape = shape; scope = addresses_of g scope; charged = is_charged g scope (Some shape) }

-- the newest unit of a walk, by its list of edges
abbrev last_unit : ℕ → List Edge → ℕ
last_unit u [] = u
last_unit u (e ∷ es) = e.to

-- the newest unit of the activation on top
abbrev newest : List (List ℕ) → ℕ
newest [] = 0
newest ([] ∷ s) = 0
newest ((u ∷ us) ∷ s) = u

newest-follow : (kind : EdgeKind) (from to : ℕ) (s : List (List ℕ)) → Comes kind from to s → newest (follow kind to s) ≡ to
newest-follow Over from to s comes = absurd comes
newest-follow Next from to [] comes = absurd comes
newest-follow Taken from to [] comes = absurd comes
newest-follow Call from to [] comes = absurd comes
newest-follow Return from to [] comes = absurd comes
newest-follow Return from to (us ∷ []) comes = absurd comes
newest-follow Next from to (us ∷ s) comes = refl
newest-follow Taken from to (us ∷ s) comes = refl
newest-follow Call from to (us ∷ s) comes = refl
newest-follow Return from to (us ∷ vs ∷ s) comes = refl

comes_from : (kind : EdgeKind) (from to : ℕ) (s : List (List ℕ)) → Comes kind from to s → newest s ≡ from
comes_from Over from to s comes = absurd comes
comes_from Next from to [] comes = absurd comes
comes_from Taken from to [] comes = absurd comes
comes_from Call from to [] comes = absurd comes
comes_from Return from to [] comes = absurd comes
comes_from Next from to ([] ∷ s) comes = absurd comes
comes_from Taken from to ([] ∷ s) comes = absurd comes
comes_from Call from to ([] ∷ s) comes = absurd comes
comes_from Return from to ([] ∷ []) comes = absurd comes
comes_from Return from to ([] ∷ vs ∷ s) comes = absurd comes.0
comes_from Next from to ((u ∷ us) ∷ s) comes = comes
comes_from Taken from to ((u ∷ us) ∷ s) comes = comes
comes_from Call from to ((u ∷ us) ∷ s) comes = comes
comes_from Return from to ((u ∷ us) ∷ []) comes = absurd comes
comes_from Return from to ((u ∷ us) ∷ vs ∷ s) comes = comes.0

last_newest : (g : LoopGraph) (u : ℕ) (es : List Edge) → IsWalk g (alone u) es → newest (open_from (alone u) es) ≡ last_unit u es
last_newest g u [] walk = refl
last_newest g u (e ∷ es) walk = newest-follow e.kind e.from e.to (open_from (alone u) es) walk.2

-- an edge comes from the newest unit
edge_from : (g : LoopGraph) (u : ℕ) (e : Edge) (es : List Edge) → IsWalk g (alone u) (e ∷ es) → e.from ≡ last_unit u es
edge_from g u e es walk = sym (comes_from e.kind e.from e.to (open_from (alone u) es) walk.2) ∙ last_newest g u es walk.0

among_scope : (scope : List ℕ) (u : ℕ) → Contains scope u → is_among u scope ≡ true
among_scope scope u h = among_at scope u h.0 h.1 (get_or_default scope h.0 0 u h.1 ∙ h.2)

-- the addresses of a unit of the scope are addresses of the scope
among_addresses : (g : Flow) (scope : List ℕ) (u at : ℕ) → is_among u scope ≡ true → is_among at (addresses_in (has_slot g u) u) ≡ true → is_among at (addresses_of g scope) ≡ true
among_addresses g [] u at h here = cc
among_addresses g (x ∷ scope) u at h here =
    list_any-append (λ other. other == at) (addresses_in (has_slot g x) x) (addresses_of g scope) ∙ (elim (cases_eq x u) [
      | inl same ↦ or_left (is_among at (addresses_in (has_slot g x) x)) (is_among at (addresses_of g scope)) (subst (λ q. is_among at (addresses_in (has_slot g q) q) ≡ true) (sym same) here)
      | inr other ↦ or_right (is_among at (addresses_in (has_slot g x) x)) (is_among at (addresses_of g scope)) (among_addresses g scope u at (sym (among_other u x scope other) ∙ h) here)
    ])

first_in : (long : Bool) (u : ℕ) → is_among u (addresses_in long u) ≡ true
first_in true u = among_same u u ((u + 4) ∷ []) refl
first_in false u = among_same u u [] refl

slot_in : (long : Bool) (u : ℕ) → long ≡ true → is_among (u + 4) (addresses_in long u) ≡ true
slot_in true u e = among_other (u + 4) u ((u + 4) ∷ []) (λ e. absurd (omega arith)) ∙ among_same (u + 4) (u + 4) [] refl
slot_in false u e = cc

-- what the rule says of a fetch of the scope
free_cases : (g : Flow) (scope : List ℕ) (shape : Shape) (at : ℕ)
    → (is_charged g scope (Some shape) at ≡ true) ⊎ (has_persistent (charging_of g scope shape) at ≡ true) ⊎ (begins_line g shape at ≡ false)
free_cases g scope shape at = elim (cases_Bool (is_free g scope shape at)) [
  | inr none ↦ inl (ap not none)
  | inl free ↦ (
      let keeps_it = is_persistent shape (scope_lines g scope shape) (line_of shape at) in
      let parts = and_parts (is_among at (addresses_of g scope)) (keeps_it || not (begins_line g shape at)) free in
      elim (or_cases keeps_it (not (begins_line g shape at)) parts.1) [
        | inl persistent ↦ inr (inl persistent)
        | inr inner ↦ inr (inr (not-true (begins_line g shape at) inner))
      ])
]

-- a fetch behind another of its block
follows_inner : (g : Flow) (scope : List ℕ) (shape : Shape) (before : ℕ) → Follows (charging_of g scope shape) (before + 4) before
follows_inner g scope shape before = elim (free_cases g scope shape (before + 4)) [
  | inl charged ↦ inl charged
  | inr rest ↦ elim rest [
    | inl persistent ↦ inr (inl persistent)
    | inr inner ↦ (
        let parts = or_parts (is_among (before + 4) g.blocks) (not (line_of shape (before + 4) == line_of shape (before + 4 - 4))) inner in
        let same = eqb-true (line_of shape (before + 4)) (line_of shape (before + 4 - 4)) (not-false (line_of shape (before + 4) == line_of shape (before + 4 - 4)) parts.1) in
        let back : before + 4 - 4 ≡ before = omega arith in
        inr (inr (same ∙ ap (line_of shape) back)))
  ]
]

-- a fetch at the start of a block, behind any other
follows_start : (g : Flow) (scope : List ℕ) (shape : Shape) (at : ℕ) → is_among at g.blocks ≡ true → (before : ℕ) → Follows (charging_of g scope shape) at before
follows_start g scope shape at start before = elim (free_cases g scope shape at) [
  | inl charged ↦ inl charged
  | inr rest ↦ elim rest [
    | inl persistent ↦ inr (inl persistent)
    | inr inner ↦ (
        let parts = or_parts (is_among at g.blocks) (not (line_of shape at == line_of shape (at - 4))) inner in
        let clash : true ≡ false = sym start ∙ parts.0 in cc)
  ]
]

follow_older : (c : Charging) (later xs : List ℕ) → AllFollow c (later ++ xs) → AllFollow c xs
follow_older c [] xs r = r
follow_older c (a ∷ []) [] r = tt
follow_older c (a ∷ []) (x ∷ xs) r = r.1
follow_older c (a ∷ b ∷ later) xs r = follow_older c (b ∷ later) xs r.1

follow_first : (c : Charging) (xs ys : List ℕ) → AllFollow c (xs ++ ys) → AllFollow c xs
follow_first c [] ys r = tt
follow_first c (a ∷ []) ys r = tt
follow_first c (a ∷ b ∷ xs) ys r = (r.0, follow_first c (b ∷ xs) ys r.1)

inside_older : (c : Charging) (later xs : List ℕ) → AllInside c (later ++ xs) → AllInside c xs
inside_older c [] xs r = r
inside_older c (a ∷ later) xs r = inside_older c later xs r.1

inside_first : (c : Charging) (xs ys : List ℕ) → AllInside c (xs ++ ys) → AllInside c xs
inside_first c [] ys r = tt
inside_first c (a ∷ xs) ys r = (r.0, inside_first c xs ys r.1)

-- the fetches of a walk, whose newest unit is v
record IsRun (c : Charging) (edges : LoopGraph) (v : ℕ) (xs : List ℕ) : Type 0 where
  follow : AllFollow c xs
  inside : AllInside c xs
  older : List ℕ
  is : xs ≡ (if edges.is_long v then (v + 4) ∷ v ∷ older else v ∷ older)

-- a unit more
unit_run : (g : Flow) (scope : List ℕ) (shape : Shape) (u : ℕ) → is_among u scope ≡ true → (by : Option Edge) (long : Bool) → has_slot g u ≡ long → (xs : List ℕ) → AllFollow (charging_of g scope shape) (u ∷ xs) → AllInside (charging_of g scope shape) xs
    → AllFollow (charging_of g scope shape) (ats (unit_places long u by) ++ xs) × AllInside (charging_of g scope shape) (ats (unit_places long u by) ++ xs) × (ats (unit_places long u by) ++ xs ≡ (if long then (u + 4) ∷ u ∷ xs else u ∷ xs))
unit_run g scope shape u held by true is xs follow inside = (
  (follows_inner g scope shape u, follow),
  (among_addresses g scope u (u + 4) held (slot_in (has_slot g u) u is), (among_addresses g scope u u held (first_in (has_slot g u) u), inside)),
  refl,
)
unit_run g scope shape u held by false is xs follow inside =
    (follow, (among_addresses g scope u u held (first_in (has_slot g u) u), inside), refl)

-- the newest fetch before an edge that goes on to the next address
next_follows : (c : Charging) (at v : ℕ) (long : Bool) → long ≡ false → Follows c at v → (older xs : List ℕ) → xs ≡ (if long then (v + 4) ∷ v ∷ older else v ∷ older) → AllFollow c xs → AllFollow c (at ∷ xs)
next_follows c at v true short follows older xs is follow = cc
next_follows c at v false short follows older xs is follow = subst (λ q. AllFollow c (at ∷ q)) (sym is) (follows, subst (AllFollow c) is follow)

start_follows : (c : Charging) (at : ℕ) → ((before : ℕ) → Follows c at before) → (xs : List ℕ) → AllFollow c xs → AllFollow c (at ∷ xs)
start_follows c at follows [] follow = tt
start_follows c at follows (x ∷ xs) follow = (follows x, follow)

walk_run : (g : Flow) (scope : List ℕ) (shape : Shape) (edges : LoopGraph) → FollowsBlocks g edges → (first : ℕ) → Contains scope first → (by : Option Edge) (es : List Edge)
    → IsWalk edges (alone first) es → AllLeadInto scope es → IsRun (charging_of g scope shape) edges (last_unit first es) (ats (places edges by first es))
walk_run g scope shape edges bs first begins by [] walk within =
    let c = charging_of g scope shape in
    let long = edges.is_long first in
    let r = unit_run g scope shape first (among_scope scope first begins) by long (sym (bs.slots first)) [] tt tt in
    let e : ats (unit_places long first by) ++ [] ≡ ats (unit_places long first by) = append-nil (ats (unit_places long first by)) in
    record { follow = subst (AllFollow c) e r.0; inside = subst (AllInside c) e r.1; older = []; is = sym e ∙ r.2 }
walk_run g scope shape edges bs first begins by (e ∷ es) walk within =
    let c = charging_of g scope shape in
    let o = walk_run g scope shape edges bs first begins by es walk.0 within.1 in
    let v = last_unit first es in
    let from = edge_from edges first e es walk in
    let xs = ats (places edges by first es) in
    let follow : AllFollow c (e.to ∷ xs) = elim (bs.joins e walk.1) [
      | inl start ↦ start_follows c e.to (follows_start g scope shape e.to start) xs o.follow
      | inr next ↦
          let short : edges.is_long v ≡ false = ap edges.is_long (sym from) ∙ next.0 in
          let follows : Follows c e.to v = subst (λ b. Follows c e.to b) from (subst (λ a. Follows c a e.from) (sym next.1) (follows_inner g scope shape e.from)) in
          next_follows c e.to v (edges.is_long v) short follows o.older xs o.is o.follow
    ] in
    let r = unit_run g scope shape e.to (among_scope scope e.to within.0) (Some e) (edges.is_long e.to) (sym (bs.slots e.to)) xs follow o.inside in
    let same = ats_append (unit_places (edges.is_long e.to) e.to (Some e)) (places edges by first es) in
    record { follow = subst (AllFollow c) (sym same) r.0; inside = subst (AllInside c) (sym same) r.1; older = xs; is = same ∙ r.2 }

charges_are : (one other : ℕ → Bool) → ((at : ℕ) → other at ≡ one at) → (xs : List Place) → charges_at one (ats xs) ≡ charges other xs
charges_are one other same [] = refl
charges_are one other same (x ∷ xs) =
    ap (λ (q : Bool). let n : ℕ = (if q then 1 else 0) + charges_at one (ats xs) in n) (sym (same x.at)) ∙ ap (λ n. (if other x.at then 1 else 0) + n) (charges_are one other same xs)

oldest_is : (at : ℕ) (xs : List Place) → oldest_of at (ats xs) ≡ oldest at xs
oldest_is at [] = refl
oldest_is at (x ∷ xs) = oldest_is x.at xs

late_is : (covered : ℕ → Bool) (xs : List Place) → late_at covered (ats xs) ≡ late covered xs
late_is covered [] = refl
late_is covered (x ∷ xs) = ap (λ (a : ℕ). let n : ℕ = (if covered a then 0 else 1) in n) (oldest_is x.at xs)

-- without a cache each fetch misses, and is charged
none_charged : (charge : Charge) → ((at : ℕ) → charged_by charge at ≡ true) → (part : List Place) (older : List ℕ) → misses (newest_hits None) (ats part) older ≤ charges (charged_by charge) part
none_charged charge all [] older = omega arith
none_charged charge all (x ∷ part) older =
    let one : ◌≡◌ {A = ℕ} (if charged_by charge x.at then 1 else 0) 1 = ap (λ (q : Bool). let n : ℕ = if q then 1 else 0 in n) (all x.at) in
    omega (arith, none_charged charge all part older, one)

-- The law of fetches along any part of a walk inside a scope.
pub part_of_walk : (g : Flow) (scope : List ℕ) (shape : Option Shape) (charge : Charge) (edges : LoopGraph) → IsCharge g scope shape charge → HasWays shape → FollowsBlocks g edges → (first : ℕ) → Contains scope first
    → (by : Option Edge) (es : List Edge) → IsWalk edges (alone first) es → AllLeadInto scope es
    → (later part skipped : List Place) → places edges by first es ≡ later ++ (part ++ skipped) → (older : List ℕ)
    → misses (newest_hits shape) (ats part) older ≤ charges (charged_by charge) part + charge.persistent + late (is_covered g scope shape) part
part_of_walk g scope None charge edges is some bs first begins by es walk within later part skipped e older = omega (arith, none_charged charge is.charged part older)
part_of_walk g scope (Some shape) charge edges is some bs first begins by es walk within later part skipped e older =
    let c = charging_of g scope shape in
    let run = walk_run g scope shape edges bs first begins by es walk within in
    let split : ats (places edges by first es) ≡ ats later ++ (ats part ++ ats skipped) = ap ats e ∙ ats_append later (part ++ skipped) ∙ ap (λ q. ats later ++ q) (ats_append part skipped) in
    let follow = follow_first c (ats part) (ats skipped) (follow_older c (ats later) (ats part ++ ats skipped) (subst (AllFollow c) split run.follow)) in
    let inside = inside_first c (ats part) (ats skipped) (inside_older c (ats later) (ats part ++ ats skipped) (subst (AllInside c) split run.inside)) in
    omega (arith, few c (ats part) older some follow inside, charges_are (is_charged g scope (Some shape)) (charged_by charge) is.charged part, late_is (is_covered g scope (Some shape)) part, is.persistent)
