-- Each cycle inside a function lies in a region whose header is on it.
use Rattle.std.proofs.Common.{◌≡◌, refl, sym, ap, subst, ◌∙◌, ℕ, zero, suc, ◌≤◌, Bool, true, false, List, [], ◌∷◌, ◌++◌, length, arith, ◌⊎◌, inl, inr}
use Rattle.std.specs.Prelude.{◌&&◌, ◌||◌, ◌==◌}
use Rattle.std.specs.List.{Contains}
use Rattle.std.proofs.lemmas.Bool.{eqb-true}
use Rattle.std.proofs.lemmas.List.{length-append}
use Rattle.std.proofs.lemmas.List.Elements.{Contains-append_right}
use Rattle.visa_io.specs.declared.records.Region.{Region}
use Rattle.flow_graph.specs.Flow.{Flow}
use Rattle.flow_graph.specs.declared.parts.Edge.{Edge}
use Rattle.loop_regions.specs.Nested.{IsNest, Numbered}
use Rattle.loop_regions.specs.Regions.{AreNested, IsFreeWay, IsInner, is_back}
use Rattle.loop_regions.specs.Turns.{HasRegion, IsInnerWay, LeadsInside}
use Rattle.loop_regions.specs.Walks.{Has, holds}
use Rattle.loop_regions.proofs.Nesting.{entered, held_header, one_in_other}

no : {P : Type 0} → true ≡ false → P
no e = absurd (let b : ⊥ = cc in b)

-- numbers of lists

pub has_left : (u : ℕ) (xs ys : List ℕ) → Has u xs → Has u (xs ++ ys)
has_left u [] ys h = absurd h
has_left u (x ∷ xs) ys h = elim h [ inl is ↦ inl is | inr more ↦ inr (has_left u xs ys more) ]

pub has_right : (u : ℕ) (xs ys : List ℕ) → Has u ys → Has u (xs ++ ys)
has_right u [] ys h = h
has_right u (x ∷ xs) ys h = inr (has_right u xs ys h)

pub has_cases : (u : ℕ) (xs ys : List ℕ) → Has u (xs ++ ys) → Has u xs ⊎ Has u ys
has_cases u [] ys h = inr h
has_cases u (x ∷ xs) ys h = elim h [
  | inl is ↦ inl (inl is)
  | inr more ↦ elim (has_cases u xs ys more) [ inl a ↦ inl (inr a) | inr b ↦ inr b ]
]

-- ways

joined_way : (g : Flow) (a b c : ℕ) (xs ys : List ℕ) → IsInnerWay g a xs b → IsInnerWay g b ys c
    → IsInnerWay g a (ys ++ xs) c
joined_way g a b c xs [] old new = subst (IsInnerWay g a xs) new old
joined_way g a b c xs (y ∷ ys) old new = (new.0, joined_way g a b y xs ys old new.1)

-- the start of a way is the oldest unit that it leaves
pub start_on : (g : Flow) (a b u : ℕ) (us : List ℕ) → IsInnerWay g a (u ∷ us) b → Has a (u ∷ us)
start_on g a b u [] way = inl (sym way.1)
start_on g a b u (v ∷ us) way = inr (start_on g a u v us way.1)

-- a way goes back to a header along an edge
record GoesBack (g : Flow) (rs : List Region) (a : ℕ) (us : List ℕ) (b : ℕ) : Type 0 where
  newer : List ℕ
  older : List ℕ
  edge : Edge
  inner : IsInner g edge
  back : is_back rs edge ≡ true
  is : us ≡ newer ++ edge.from ∷ older
  old : IsInnerWay g a older edge.from
  new : IsInnerWay g edge.to newer b

free_or_back : (g : Flow) (rs : List Region) (a : ℕ) (us : List ℕ) (b : ℕ) → IsInnerWay g a us b
    → IsFreeWay g rs a (b ∷ us) ⊎ GoesBack g rs a us b
free_or_back g rs a [] b way = inl (sym way)
free_or_back g rs a (u ∷ us) b way = by_test (is_back rs way.0.0) refl (free_or_back g rs a us u way.1)
  where
    by_test : (t : Bool) → is_back rs way.0.0 ≡ t → IsFreeWay g rs a (u ∷ us) ⊎ GoesBack g rs a us u
        → IsFreeWay g rs a (b ∷ u ∷ us) ⊎ GoesBack g rs a (u ∷ us) b
    by_test true back more = inr (record {
      newer = [];
      older = us;
      edge = way.0.0;
      inner = way.0.1;
      back = back;
      is = ap (λ v. v ∷ us) (sym way.0.2);
      old = subst (IsInnerWay g a us) (sym way.0.2) way.1;
      new = way.0.3;
    })
    by_test false ahead (inl free) = inl ((way.0.0, record { inner = way.0.1; ahead = ahead }, way.0.2, way.0.3), free)
    by_test false ahead (inr s) = inr (record {
      newer = u ∷ s.newer;
      older = s.older;
      edge = s.edge;
      inner = s.inner;
      back = s.back;
      is = ap (λ l. u ∷ l) s.is;
      old = s.old;
      new = (way.0, s.new);
    })

-- the region that an edge goes back in
record IsBackIn (rs : List Region) (e : Edge) : Type 0 where
  region : Region
  among : Contains rs region
  to : e.to ≡ region.header
  from : holds region e.from ≡ true

record AreBoth (a b : Bool) : Type 0 where
  one : a ≡ true
  other : b ≡ true

both : (a b : Bool) → (a && b) ≡ true → AreBoth a b
both true true is = record { one = refl; other = refl }
both true false is = no (sym is)
both false b is = no (sym is)

back_in : (rs : List Region) (e : Edge) → is_back rs e ≡ true → IsBackIn rs e
back_in [] e is = no (sym is)
back_in (r ∷ rs) e is = by_test ((e.to == r.header) && holds r e.from) refl is (λ h. back_in rs e h)
  where
    by_test : (t : Bool) → ((e.to == r.header) && holds r e.from) ≡ t
        → (t || is_back rs e) ≡ true
        → (is_back rs e ≡ true → IsBackIn rs e) → IsBackIn (r ∷ rs) e
    by_test true here any more =
        let h = both (e.to == r.header) (holds r e.from) here in
        record { region = r; among = (0, omega arith, refl); to = eqb-true e.to r.header h.one; from = h.other }
    by_test false here any more =
        let b = more any in
        record {
          region = b.region;
          among = Contains-append_right (r ∷ []) rs b.region b.among;
          to = b.to;
          from =
              b.from;
        }

-- a way that ends in a region comes into it at its header
record ComesIn (g : Flow) (r : Region) (a : ℕ) (us : List ℕ) : Type 0 where
  newer : List ℕ
  unit : ℕ
  older : List ℕ
  is : us ≡ newer ++ unit ∷ older
  out : holds r unit ≡ false
  enters : LeadsInside g unit r.header
  old : IsInnerWay g a older unit
  held : (u : ℕ) → Has u newer → holds r u ≡ true

held_or_comes : (g : Flow) (rs : List Region) → AreNested g rs → (r : Region) → Contains rs r
    → (a : ℕ) (us : List ℕ) (b : ℕ)
    → IsInnerWay g a us b → holds r b ≡ true → ((u : ℕ) → Has u us → holds r u ≡ true) ⊎ ComesIn g r a us
held_or_comes g rs n r c a [] b way within = inl (λ u h. absurd h)
held_or_comes g rs n r c a (u ∷ us) b way within = by_test (holds r u) refl
    (λ h. held_or_comes g rs n r c a us u way.1 h)
  where
    by_test : (t : Bool) → holds r u ≡ t
        → (holds r u ≡ true → ((v : ℕ) → Has v us → holds r v ≡ true) ⊎ ComesIn g r a us)
        → ((v : ℕ) → Has v (u ∷ us) → holds r v ≡ true) ⊎ ComesIn g r a (u ∷ us)
    by_test false out more = inr (record {
      newer = [];
      unit = u;
      older = us;
      is = refl;
      out = out;
      enters = (way.0.0, way.0.1, way.0.2, header);
      old = way.1;
      held = λ v h. absurd h;
    })
      where
        header : (way.0.0).to ≡ r.header
        header = entered g rs n way.0.0 way.0.1 r c (ap (holds r) way.0.3 ∙ within) (ap (holds r) way.0.2 ∙ out)
    by_test true here more = elim (more here) [
      | inl all ↦ inl (λ v h. elim h [ inl is ↦ ap (holds r) (sym is) ∙ here | inr later ↦ all v later ])
      | inr s ↦ inr (record {
        newer = u ∷ s.newer;
        unit = s.unit;
        older = s.older;
        is = ap (λ l. u ∷ l) s.is;
        out = s.out;
        enters = s.enters;
        old = s.old;
        held = λ v h. elim h [ inl is ↦ ap (holds r) (sym is) ∙ here | inr later ↦ s.held v later ];
      })
    ]

-- a cycle from a header on, whose newest edge goes back in a region: what the region doesn't hold is a shorter cycle
turn_of : (g : Flow) (rs : List Region) → AreNested g rs → (r : Region) → Contains rs r → (f : ℕ) (us : List ℕ)
    → LeadsInside g f r.header → holds r f ≡ true → IsInnerWay g r.header us f
    → ((last : ℕ) (before : List ℕ) → length (last ∷ before) ≤ length us
    → IsInnerWay g r.header (last ∷ before) r.header
    → HasRegion rs (last ∷ before))
    → HasRegion rs (f ∷ us)
turn_of g rs n r c f us back held way shorter = elim (held_or_comes g rs n r c r.header us f way held) [
  | inl all ↦ record {
    region = r;
    among = c;
    all = λ u h. elim h [ inl is ↦ ap (holds r) (sym is) ∙ held | inr more ↦ all u more ];
    header = start_on g r.header r.header f us (back, way);
  }
  | inr s ↦ outer s
]
  where
    outer : ComesIn g r r.header us → HasRegion rs (f ∷ us)
    outer s =
        let cycle : IsInnerWay g r.header (s.unit ∷ s.older) r.header = (s.enters, s.old) in
        let fits : length (s.unit ∷ s.older) ≤ length us = (let l = ap (λ (l : List ℕ). length l) s.is in let m =
        length-append s.newer (s.unit ∷ s.older) in omega (arith, l, m)) in
        let x = shorter s.unit s.older fits cycle in
        let there = x.all r.header (start_on g r.header r.header s.unit s.older cycle) in
        let lies = one_in_other g rs n r x.region c x.among r.header (held_header g rs n r c) there in
        let inner : (a : ℕ) → holds r a ≡ true → holds x.region a ≡ true = elim lies [
          | inl p ↦ p
          | inr q ↦ no (sym (q s.unit (x.all s.unit (inl refl))) ∙ s.out)
        ] in
        record {
          region = x.region;
          among = x.among;
          all = λ u h. elim h [
            | inl is ↦ ap (holds x.region) (sym is) ∙ inner f held
            | inr more ↦ elim (has_cases u s.newer (s.unit ∷ s.older) (subst (Has u) s.is more)) [
              | inl new ↦ inner u (s.held u new)
              | inr old ↦ x.all u old
            ]
          ];
          header = inr (subst (Has x.region.header) (sym s.is)
              (has_right x.region.header s.newer (s.unit ∷ s.older) x.header));
        }

-- the units of a cycle that begins at another of its units
turned : (rs : List Region) (us newer older : List ℕ) (f : ℕ) → us ≡ newer ++ f ∷ older
    → HasRegion rs (f ∷ (older ++ newer))
    → HasRegion rs us
turned rs us newer older f is x = record {
  region = x.region;
  among = x.among;
  all = λ u h. x.all u (forth u (has_cases u newer (f ∷ older) (subst (Has u) is h)));
  header = subst (Has x.region.header) (sym is) (back x.region.header x.header);
}
  where
    forth : (u : ℕ) → Has u newer ⊎ Has u (f ∷ older) → Has u (f ∷ (older ++ newer))
    forth u (inl h) = inr (has_right u older newer h)
    forth u (inr (inl is)) = inl is
    forth u (inr (inr h)) = inr (has_left u older newer h)

    back : (u : ℕ) → Has u (f ∷ (older ++ newer)) → Has u (newer ++ f ∷ older)
    back u (inl is) = has_right u newer (f ∷ older) (inl is)
    back u (inr h) = elim (has_cases u older newer h) [
      | inl old ↦ has_right u newer (f ∷ older) (inr old)
      | inr new ↦ has_left u newer (f ∷ older) new
    ]

-- cycles of at most so many units
abbrev AreTurned : Flow → Numbered → ℕ → Type 0
AreTurned g n count = (u last : ℕ) (before : List ℕ) → length (last ∷ before) ≤ count → IsInnerWay g u (last ∷ before) u
    → HasRegion n.regions (last ∷ before)

turn_back : (g : Flow) (n : Numbered) → IsNest g n → (count u : ℕ) (us : List ℕ) → length us ≤ suc count
    → AreTurned g n count
    → GoesBack g n.regions u us u → HasRegion n.regions us
turn_back g n nest count u us fits shorter s =
    let b = back_in n.regions s.edge s.back in
    let rest = joined_way g s.edge.to u s.edge.from s.newer s.older s.new s.old in
    let l = ap (λ (l : List ℕ). length l) s.is in
    let m = length-append s.newer (s.edge.from ∷ s.older) in
    let k = length-append s.older s.newer in
    turned n.regions us s.newer s.older s.edge.from s.is
    (turn_of g n.regions nest.nested b.region b.among s.edge.from (s.older ++ s.newer)
    (s.edge, s.inner, refl, b.to) b.from
    (subst (λ h. IsInnerWay g h (s.older ++ s.newer) s.edge.from) b.to rest)
    (λ v vs less cycle. shorter b.region.header v vs (omega (arith, l, m, k, fits, less)) cycle))

turn_upto : (g : Flow) (n : Numbered) → IsNest g n → (count : ℕ) → AreTurned g n count
turn_upto g n nest zero u last before fits way = absurd (omega (arith, fits))
turn_upto g n nest (suc count) u last before fits way = elim (free_or_back g n.regions u (last ∷ before) u way) [
  | inl free ↦ absurd (nest.acyclic u (record { last = last; before = before; way = free }))
  | inr s ↦ turn_back g n nest count u (last ∷ before) fits (turn_upto g n nest count) s
]

-- a cycle inside a function lies in a region whose header is on it
pub turn : (g : Flow) (n : Numbered) → IsNest g n → (u last : ℕ) (before : List ℕ) → IsInnerWay g u (last ∷ before) u
    → HasRegion n.regions (last ∷ before)
turn g n nest u last before way = turn_upto g n nest (length (last ∷ before)) u last before (omega arith) way
