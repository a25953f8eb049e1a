-- Cuts come in order on every walk with calls, because they do on the ways of the entry's function.
use Rattle.std.proofs.Common.{◌≡◌, ◌≢◌, refl, sym, subst, ◌∙◌, ◌⊎◌, inl, inr, ℕ, suc, ◌+◌, true, List, [], ◌∷◌, arith}
use Rattle.std.proofs.lemmas.Bool.{cases_eq}
use Rattle.std.specs.Prelude.{Option, Some, None}
use Rattle.std.specs.List.{Contains}
use Rattle.flow_graph.specs.Edges.{edge_of}
use Rattle.flow_graph.specs.Reached.{is_inner}
use Rattle.flow_graph.specs.declared.parts.Edge.{Edge}
use Rattle.flow_graph.specs.declared.parts.EdgeKind.{EdgeKind}
use Rattle.flow_graph.specs.declared.parts.EdgeKind.TheVariants.{Next, Taken, Call, Return, Over}
use Rattle.loop_regions.specs.Walks.{LoopGraph, IsWalk, IsFirst, IsNewest, IsReturnPoint, Comes, Meets, Has, alone, follow, open_from}
use Rattle.subtask_cut.specs.Ways.{Joins, IsWay}
use Rattle.subtask_cut.specs.Functions.{IsPlain, AreFunctions, AreOver}
use Rattle.subtask_cut.specs.Ordered.{ArePassed}
use Rattle.subtask_cut.proofs.Home.{AreHome, IsCalling, home_goes, cut_alone, newest_after}

-- the units of an activation are a way; those of the bottom one begin at the entry
abbrev pub AreWays : List Edge → ℕ → List (List ℕ) → Type 0
AreWays edges main [] = ⊥
AreWays edges main (us ∷ []) = IsWay edges is_inner None main us
AreWays edges main (us ∷ vs ∷ s) = AreWays edges main (vs ∷ s)

-- each unit of an activation is the entry or was met
abbrev pub AreMet : ℕ → List Edge → List (List ℕ) → Type 0
AreMet main es [] = Unit {0}
AreMet main es (us ∷ s) = ((u : ℕ) → Has u us → (u ≡ main) ⊎ Meets u es) × AreMet main es s

met_more : (main : ℕ) (e : Edge) (es : List Edge) (s : List (List ℕ)) → AreMet main es s → AreMet main (e ∷ es) s
met_more main e es [] m = tt
met_more main e es (us ∷ s) m =
    (λ u h. elim (m.0 u h) [ inl a ↦ inl a | inr b ↦ inr (inr b) ], met_more main e es s m.1)

met_top : (main : ℕ) (e : Edge) (es : List Edge) (us : List ℕ) → ((u : ℕ) → Has u us → (u ≡ main) ⊎ Meets u es) → (u : ℕ)
    → Has u (e.to ∷ us) → (u ≡ main) ⊎ Meets u (e ∷ es)
met_top main e es us m u h =
    elim h [ inl a ↦ inr (inl a) | inr b ↦ elim (m u b) [ inl c ↦ inl c | inr d ↦ inr (inr d) ] ]

met_goes : (main : ℕ) (e : Edge) (es : List Edge) (kind : EdgeKind) (s : List (List ℕ)) → AreMet main es s
    → AreMet main (e ∷ es) (follow kind e.to s)
met_goes main e es Call s m = (λ u h. elim h [ inl a ↦ inr (inl a) | inr b ↦ absurd b ], met_more main e es s m)
met_goes main e es Over s m = met_more main e es s m
met_goes main e es Next [] m = tt
met_goes main e es Taken [] m = tt
met_goes main e es Return [] m = tt
met_goes main e es Next (us ∷ s) m = (met_top main e es us m.0, met_more main e es s m.1)
met_goes main e es Taken (us ∷ s) m = (met_top main e es us m.0, met_more main e es s m.1)
met_goes main e es Return (us ∷ []) m = met_more main e es (us ∷ []) m
met_goes main e es Return (us ∷ vs ∷ s) m = (met_top main e es vs m.1.0, met_more main e es s m.1.1)

abbrev no_unit : Option ℕ
no_unit = None

none_is_no : (v : ℕ) → no_unit ≢ Some v
none_is_no v e = cc

way_more : (edges : List Edge) (main v : ℕ) (us : List ℕ) (u : ℕ) → IsNewest u us → Joins edges is_inner u v
    → IsWay edges is_inner None main us → IsWay edges is_inner None main (v ∷ us)
way_more edges main v [] u new joins way = absurd new
way_more edges main v (w ∷ us) u new joins way =
    (subst (λ a. Joins edges is_inner a v) (sym new) joins, none_is_no v, way)

plain_inner : (kind : EdgeKind) → IsPlain kind → is_inner kind ≡ true
plain_inner Next p = refl
plain_inner Taken p = refl
plain_inner Call p = absurd p
plain_inner Return p = absurd p
plain_inner Over p = absurd p

ways_plain : (edges : List Edge) (main : ℕ) (e : Edge) → Contains edges e → IsPlain e.kind → (us : List ℕ)
    (s : List (List ℕ)) → IsNewest e.from us → AreWays edges main (us ∷ s) → AreWays edges main ((e.to ∷ us) ∷ s)
ways_plain edges main e edge plain us [] new h =
    way_more edges main e.to us e.from new
    (record { edge = e; among = edge; is_asked = plain_inner e.kind plain; from_is = refl; to_is = refl }) h
ways_plain edges main e edge plain us (vs ∷ s) new h = h

-- a return goes on behind the call by the edge over it
ways_return : (edges : List Edge) (main : ℕ) → AreOver edges → (to : ℕ) (us vs : List ℕ) (s : List (List ℕ))
    → IsReturnPoint to vs → IsCalling edges vs → AreWays edges main (us ∷ vs ∷ s) → AreWays edges main ((to ∷ vs) ∷ s)
ways_return edges main over to us [] s back c h = absurd back
ways_return edges main over to us (v ∷ vs) (ws ∷ s) back c h = h
ways_return edges main over to us (v ∷ vs) [] back c h =
    way_more edges main to (v ∷ vs) v refl
    (record {
      edge = edge_of c.call.from (c.call.from + 8) Over;
      among = over c.call c.edge c.is;
      is_asked = refl;
      from_is = sym c.newest;
      to_is = let e : c.call.from + 8 ≡ to = omega (arith, c.newest, back) in e;
    }) h

calling : (edges : List Edge) (units : ℕ → List ℕ) (main : ℕ) (us vs : List ℕ) (s : List (List ℕ))
    → AreHome edges units main (us ∷ vs ∷ s) → IsCalling edges vs
calling edges units main [] vs s h = absurd h
calling edges units main (u ∷ us) vs s h = h.1

called_ways : (edges : List Edge) (main to : ℕ) (us : List ℕ) (s : List (List ℕ)) → AreWays edges main (us ∷ s)
    → AreWays edges main ((to ∷ []) ∷ us ∷ s)
called_ways edges main to us s h = h

ways_goes : (edges : List Edge) (units : ℕ → List ℕ) (main : ℕ) → AreOver edges → (e : Edge) (kind : EdgeKind)
    → e.kind ≡ kind → Contains edges e → (s : List (List ℕ)) → Comes kind e.from e.to s → AreHome edges units main s
    → AreWays edges main s → AreWays edges main (follow kind e.to s)
ways_goes edges units main over e kind is edge [] comes home h = absurd h
ways_goes edges units main over e Next is edge (us ∷ s) comes home h =
    ways_plain edges main e edge (subst IsPlain (sym is) tt) us s comes h
ways_goes edges units main over e Taken is edge (us ∷ s) comes home h =
    ways_plain edges main e edge (subst IsPlain (sym is) tt) us s comes h
ways_goes edges units main over e Call is edge (us ∷ s) comes home h = called_ways edges main e.to us s h
ways_goes edges units main over e Over is edge (us ∷ s) comes home h = absurd comes
ways_goes edges units main over e Return is edge (us ∷ []) comes home h = absurd comes
ways_goes edges units main over e Return is edge (us ∷ vs ∷ s) comes home h =
    ways_return edges main over e.to us vs s comes.1 (calling edges units main us vs s home) h

pub record IsOrdered (g : LoopGraph) (units : ℕ → List ℕ) (main : ℕ) (es : List Edge) : Type 0 where
  pub home : AreHome g.edges units main (open_from (alone main) es)
  pub ways : AreWays g.edges main (open_from (alone main) es)
  pub met : AreMet main es (open_from (alone main) es)

pub ordered : (g : LoopGraph) (units : ℕ → List ℕ) (main : ℕ) → AreFunctions g.edges units main → AreOver g.edges
    → (es : List Edge) → IsWalk g (alone main) es → IsOrdered g units main es
ordered g units main fs over [] walk =
    record {
      home = fs.first;
      ways = (refl, none_is_no main);
      met = (λ u h. elim h [ inl a ↦ inl (sym a) | inr b ↦ absurd b ], tt);
    }
ordered g units main fs over (e ∷ es) walk =
    let o = ordered g units main fs over es walk.0 in
    let s = open_from (alone main) es in
    record {
      home = home_goes g.edges units main fs e e.kind refl walk.1 s walk.2 o.home;
      ways = ways_goes g.edges units main over e e.kind refl walk.1 s walk.2 o.home o.ways;
      met = met_goes main e es e.kind s o.met;
    }

some_same : (u v : ℕ) → Some u ≡ Some v → u ≡ v
some_same u v e = cc

-- a way meets a unit, or doesn't come to it
pub met_or_avoided : (edges : List Edge) (main c : ℕ) (us : List ℕ) → IsWay edges is_inner None main us
    → Has c us ⊎ IsWay edges is_inner (Some c) main us
met_or_avoided edges main c [] way = absurd way
met_or_avoided edges main c (u ∷ []) way = elim (cases_eq u c) [
  | inl same ↦ inl (inl same)
  | inr other ↦ inr (way.0, λ e. other (sym (some_same c u e)))
]
met_or_avoided edges main c (v ∷ u ∷ us) way = elim (cases_eq v c) [
  | inl same ↦ inl (inl same)
  | inr other ↦ elim (met_or_avoided edges main c (u ∷ us) way.2) [
    | inl has ↦ inl (inr has)
    | inr avoids ↦ inr (way.0, (λ e. other (sym (some_same c v e))), avoids)
  ]
]

at_cut : (g : LoopGraph) (units : ℕ → List ℕ) (firsts : List ℕ) (main : ℕ) → ArePassed g.edges units firsts main
    → (e : Edge) (es : List Edge) (j u v : ℕ) → IsFirst firsts (suc (suc j)) u → e.to ≡ u → IsFirst firsts (suc j) v
    → (older : List ℕ) → AreWays g.edges main ((e.to ∷ older) ∷ []) → AreMet main (e ∷ es) ((e.to ∷ older) ∷ [])
    → Meets v es
at_cut g units firsts main ps e es j u v f is h older ways met =
    elim (met_or_avoided g.edges main v (e.to ∷ older) ways) [
      | inr avoids ↦ absurd (ps.order j u v f h (record { us = older; way = subst (λ a. IsWay g.edges is_inner (Some v) main (a ∷ older)) is avoids }))
      | inl has ↦ elim has [
        | inl same ↦ (let clash = ps.different (suc (suc j)) (suc j) v (subst (IsFirst firsts (suc (suc j))) (sym is ∙ same) f) h in absurd (omega (arith, clash)))
        | inr in_older ↦ elim (met.0 v (inr in_older)) [
          | inl entry ↦ (let clash = ps.different (suc j) 0 v h (subst (IsFirst firsts 0) (sym entry) ps.begins) in absurd (omega (arith, clash)))
          | inr m ↦ elim m [
            | inl same ↦ (let clash = ps.different (suc (suc j)) (suc j) v (subst (IsFirst firsts (suc (suc j))) (sym is ∙ same) f) h in absurd (omega (arith, clash)))
            | inr earlier ↦ earlier
          ]
        ]
      ]
    ]

-- a walk comes to a cut only after the cut before it
pub in_order : (g : LoopGraph) (units : ℕ → List ℕ) (firsts : List ℕ) (main : ℕ) → AreFunctions g.edges units main
    → AreOver g.edges → ArePassed g.edges units firsts main → (e : Edge) (es : List Edge)
    → IsWalk g (alone main) (e ∷ es) → (j u v : ℕ) → IsFirst firsts (suc (suc j)) u → e.to ≡ u → IsFirst firsts (suc j) v
    → Meets v es
in_order g units firsts main fs over ps e es walk j u v f is h =
    let o = ordered g units main fs over (e ∷ es) walk in
    let s = open_from (alone main) es in
    let lone = cut_alone g.edges units main e.to (ps.own (suc j) e.to (subst (IsFirst firsts (suc (suc j))) (sym is) f))
    (follow e.kind e.to s) (newest_after e.kind e.from e.to s walk.2) o.home in
    at_cut g units firsts main ps e es j u v f is h lone.older (subst (AreWays g.edges main) lone.is o.ways)
    (subst (AreMet main (e ∷ es)) lone.is o.met)
