-- The edges of returns, as they are added.
use Rattle.std.proofs.Common.{ℕ, ◌+◌, ◌<◌, ◌≤◌, ◌≡◌, ◌⊎◌, inl, inr, refl, sym, ap, subst, ◌∙◌, Option, Some, Ok, Err, List, [], ◌∷◌, ◌++◌, Contains, map, take, drop, ◌-◌, length, get_or, arith}
use Rattle.std.specs.List.Sorted.{IsBinarySearchResult, IsStrictlyIncreasing}
use Rattle.std.specs.Ordering.{nat_cmp}
use Rattle.std.proofs.lemmas.Bool.{cases_eq, cases_lt}
use Rattle.std.proofs.lemmas.Grind.{get_or_default_zero}
use Rattle.std.proofs.lemmas.List.Elements.{Contains-append_cases, Contains-append_left, Contains-append_right}
use Rattle.std.proofs.lemmas.List.Kept.{AllPairs-from_increasing}
use Rattle.std.proofs.lemmas.List.Sorted.{searched}
use Rattle.flow_graph.specs.EdgeLists.{AreReturnsOf, IsInside, IsPointAmong, IsPointBy, IsPointIf, IsPointOf, More, return_edge}
use Rattle.std.proofs.lemmas.List.{get_or_default}
use Rattle.flow_graph.specs.FunctionParts.{no_place, part_of}
use Rattle.flow_graph.specs.Held.{part_at}
use Rattle.flow_graph.specs.Places.{exits_at, no_exits}
use Rattle.flow_graph.specs.declared.site.Exits.{Exits}
use Rattle.flow_graph.specs.declared.view.Place.{Place}
use Rattle.flow_graph.specs.declared.function_parts.Parts.{Parts}
use Rattle.flow_graph.specs.declared.parts.Edge.{Edge}
use Rattle.flow_graph.specs.declared.places.Places.{Places}
use Rattle.flow_graph.proofs.Found.{missing, rising}
use Rattle.flow_graph.proofs.Members.{in_cons, in_head, in_tail, none_in_nil}

some_same : (x y : ℕ) → Some x ≡ Some y → x ≡ y
some_same x y e = cc

no_other : (xs : List ℕ) → IsStrictlyIncreasing xs → (i j : ℕ) → i < length xs → j < length xs → get_or xs i 0 ≡ get_or xs j 0 → i ≡ j
no_other xs rise i j in_i in_j e = elim (cases_eq i j) [
  | inl same ↦ same
  | inr other ↦ elim (cases_lt i j) [
    | inl less ↦ absurd (omega (arith, AllPairs-from_increasing xs rise i j 0 less in_j, e))
    | inr more ↦ absurd (omega (arith, AllPairs-from_increasing xs rise j i 0 (omega (arith, more, other)) in_i, e))
  ]
]

pub returns_found : (functions : List ℕ) (returns : Parts) (function k : ℕ) (own : List ℕ) → IsStrictlyIncreasing functions → IsBinarySearchResult (λ y. nat_cmp y function) functions (Ok k) → own ≡ part_of returns k → AreReturnsOf functions returns function own
returns_found functions returns function k own rise search is = record {
  whole = λ j r below at h. subst (λ (l : List ℕ). Contains l r) (sym is) (subst (λ (m : ℕ). Contains (part_of returns m) r) (no_other functions rise j k below found.0 (at ∙ sym found.1)) h);
  only = λ r h. (k, found.0, found.1, subst (λ (l : List ℕ). Contains l r) is h);
}
  where
    found : (k < length functions) × (get_or functions k 0 ≡ function)
    found = searched functions function (Ok k) search (rising functions rise)

pub returns_missing : (functions : List ℕ) (returns : Parts) (function i : ℕ) (own : List ℕ) → IsStrictlyIncreasing functions → IsBinarySearchResult (λ y. nat_cmp y function) functions (Err i) → own ≡ [] → AreReturnsOf functions returns function own
returns_missing functions returns function i own rise search is = record {
  whole = λ j r below at h. absurd (missing functions function i rise search (j, below, get_or_default_zero functions j function below ∙ at));
  only = λ r h. absurd (none_in_nil r (subst (λ (l : List ℕ). Contains l r) is h));
}

in_edges : (to r : ℕ) (rs : List ℕ) → Contains rs r → Contains (map (return_edge to) rs) (return_edge to r)
in_edges to r [] h = absurd (none_in_nil r h)
in_edges to r (x ∷ rs) h = elim (in_cons r x rs h) [
  | inl e ↦ subst (λ (m : ℕ). Contains (map (return_edge to) (x ∷ rs)) (return_edge to m)) e (in_head (return_edge to x) (map (return_edge to) rs))
  | inr t ↦ in_tail (return_edge to r) (return_edge to x) (map (return_edge to) rs) (in_edges to r rs t)
]

edges_in : (to : ℕ) (rs : List ℕ) (e : Edge) → Contains (map (return_edge to) rs) e → (r : ℕ) × Contains rs r × (e ≡ return_edge to r)
edges_in to [] e h = absurd (none_in_nil e h)
edges_in to (x ∷ rs) e h = elim (in_cons e (return_edge to x) (map (return_edge to) rs) h) [
  | inl is ↦ (x, in_head x rs, sym is)
  | inr t ↦ let i = edges_in to rs e t in (i.0, in_tail i.0 x rs i.1, i.2)
]

pub pointed : (places : Places) (functions : List ℕ) (returns : Parts) (function point : ℕ) (own : List ℕ) (old new : List Edge) → AreReturnsOf functions returns function own → new ≡ old ++ map (return_edge (get_or places.addresses.items point 0)) own → More old (IsPointBy places functions returns function (Some point)) new
pointed places functions returns function point own old new a is = record {
  kept = λ e h. subst (λ (l : List Edge). Contains l e) (sym is) (Contains-append_left old _ e h);
  whole = λ e p. subst (λ (l : List Edge). Contains l e) (sym is) (Contains-append_right old _ e (whole e p));
  only = λ e h. only e (Contains-append_cases old _ e (subst (λ (l : List Edge). Contains l e) is h));
}
  where
    whole : (e : Edge) → IsPointBy places functions returns function (Some point) e → Contains (map (return_edge (get_or places.addresses.items point 0)) own) e
    whole e p = subst (λ (x : Edge). Contains (map (return_edge (get_or places.addresses.items point 0)) own) x) (sym (p.is ∙ ap (λ (q : ℕ). return_edge (get_or places.addresses.items q 0) p.from) (sym (some_same point p.point p.is_point)))) (in_edges (get_or places.addresses.items point 0) p.from own (a.whole p.k p.from p.below p.at p.among))

    only : (e : Edge) → Contains old e ⊎ Contains (map (return_edge (get_or places.addresses.items point 0)) own) e → Contains old e ⊎ IsPointBy places functions returns function (Some point) e
    only e (inl h) = inl h
    only e (inr h) = let i = edges_in (get_or places.addresses.items point 0) own e h in let r = a.only i.0 i.1 in
        inr (record { point = point; k = r.0; from = i.0; is_point = refl; below = r.1; at = r.2; among = r.3; is = i.2 })

pub more_if : (places : Places) (functions : List ℕ) (returns : Parts) (function : ℕ) (call over : Option ℕ) (old new : List Edge) → call ≡ Some function → More old (IsPointBy places functions returns function over) new → More old (IsPointIf places functions returns call over) new
more_if places functions returns function call over old new e m = record {
  kept = m.kept;
  whole = λ d (f, c, p). m.whole d (subst (λ (g : ℕ). IsPointBy places functions returns g over d) (some_same f function (sym c ∙ e)) p);
  only = λ d h. elim (m.only d h) [ inl o ↦ inl o | inr p ↦ inr (function, e, p) ];
}

pub no_more : (places : Places) (functions : List ℕ) (returns : Parts) (reached : List ℕ) (edges : List Edge) → More edges (IsPointAmong places functions returns reached 0) edges
no_more places functions returns reached edges = record {
  kept = λ e h. h;
  whole = λ e p. absurd (omega (arith, p.1));
  only = λ e h. inl h;
}

pub more_points : (places : Places) (functions : List ℕ) (returns : Parts) (reached : List ℕ) (i d : ℕ) (old mid new : List Edge) → i < length reached → More mid (IsPointOf places functions returns (get_or reached i d)) new → More old (IsPointAmong places functions returns reached i) mid → More old (IsPointAmong places functions returns reached (i + 1)) new
more_points places functions returns reached i d old mid new below step m = record {
  kept = λ e h. step.kept e (m.kept e h);
  whole = λ e (j, lt, p). whole e j lt p;
  only = λ e h. only e (step.only e h);
}
  where
    here : get_or reached i d ≡ get_or reached i 0
    here = get_or_default_zero reached i d below

    whole : (e : Edge) (j : ℕ) → j < i + 1 → IsPointOf places functions returns (get_or reached j 0) e → Contains new e
    whole e j lt p = elim (cases_eq j i) [
      | inl same ↦ step.whole e (subst (λ (u : ℕ). IsPointOf places functions returns u e) (ap (λ (n : ℕ). get_or reached n 0) same ∙ sym here) p)
      | inr other ↦ step.kept e (m.whole e (j, omega (arith, lt, other), p))
    ]

    only : (e : Edge) → Contains mid e ⊎ IsPointOf places functions returns (get_or reached i d) e → Contains old e ⊎ IsPointAmong places functions returns reached (i + 1) e
    only e (inl h) = elim (m.only e h) [ inl o ↦ inl o | inr (j, lt, p) ↦ inr (j, omega (arith, lt), p) ]
    only e (inr p) = inr (i, omega arith, subst (λ (u : ℕ). IsPointOf places functions returns u e) here p)

pub all_points : (places : Places) (functions : List ℕ) (returns : Parts) (reached : List ℕ) (i : ℕ) (old new : List Edge) → length reached ≤ i → i ≤ length reached → More old (IsPointAmong places functions returns reached i) new → More old (IsPointAmong places functions returns reached (length reached)) new
all_points places functions returns reached i old new over under m =
    let e : i ≡ length reached = omega (arith, over, under) in subst (λ (n : ℕ). More old (IsPointAmong places functions returns reached n) new) e m

pub part_read : (parts : Parts) (k : ℕ) (q : Place) (xs : List ℕ) → k < length parts.places.items → q ≡ get_or parts.places.items k q → xs ≡ parts.addresses.items → take (q.end - q.start) (drop q.start xs) ≡ part_of parts k
part_read parts k q xs below is a = ap (λ (l : List ℕ). take (q.end - q.start) (drop q.start l)) a ∙ ap (part_at parts.addresses.items) (is ∙ get_or_default parts.places.items k q no_place below)

pub pointed_at : (places : Places) (functions : List ℕ) (returns : Parts) (function point to : ℕ) (over : Option ℕ) (own : List ℕ) (old new : List Edge) → over ≡ Some point → IsInside over (length places.addresses.items) → to ≡ get_or places.addresses.items point to → AreReturnsOf functions returns function own → new ≡ old ++ map (return_edge to) own → More old (IsPointBy places functions returns function over) new
pointed_at places functions returns function point to over own old new e inside t a is =
    let below : point < length places.addresses.items = subst (λ (o : Option ℕ). IsInside o (length places.addresses.items)) e inside in
    let t0 : to ≡ get_or places.addresses.items point 0 = t ∙ get_or_default_zero places.addresses.items point to below in
    subst (λ (o : Option ℕ). More old (IsPointBy places functions returns function o) new) (sym e)
    (pointed places functions returns function point own old new a (subst (λ (n : ℕ). new ≡ old ++ map (return_edge n) own) t0 is))

pub pointed_of : (places : Places) (functions : List ℕ) (returns : Parts) (place function : ℕ) (x : Exits) (old new : List Edge) → place < length places.net.items → x ≡ get_or places.net.items place x → x.call ≡ Some function → More old (IsPointBy places functions returns function x.over) new → More old (IsPointOf places functions returns place) new
pointed_of places functions returns place function x old new below is call m =
    let e : x ≡ exits_at places.net.items place = is ∙ get_or_default places.net.items place x no_exits below in
    subst (λ (y : Exits). More old (IsPointIf places functions returns y.call y.over) new) e (more_if places functions returns function x.call x.over old new call m)
