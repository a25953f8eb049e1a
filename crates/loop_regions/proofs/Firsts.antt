-- The first of a list that passes a test is the least, where the list rises.
use Rattle.std.proofs.Common.{◌≡◌, refl, sym, ap, subst, ◌∙◌, ℕ, ◌+◌, ◌<◌, ◌≤◌, Bool, true, false, List, length, get_or, arith, ◌⊎◌, inl, inr}
use Rattle.std.specs.List.{Contains, AllPairs}
use Rattle.std.specs.List.Sorted.{IsStrictlyIncreasing}
use Rattle.std.proofs.lemmas.Bool.{cases_order, cases_lt}
use Rattle.std.proofs.lemmas.List.{get_or_default}
use Rattle.std.proofs.lemmas.List.Kept.{AllPairs-from_increasing}
use Rattle.visa_io.specs.declared.records.Region.{Region}
use Rattle.std.proofs.Common.{◌≢◌, eq-eqb}
use Rattle.std.specs.Prelude.{◌&&◌, ◌||◌, ◌==◌, not, nat_lt, nat_le, if◌then◌else◌, Option, Some, None}
use Rattle.std.proofs.lemmas.Bool.Decides.{nat_tests}
use Rattle.flow_graph.specs.Flow.{Flow}
use Rattle.loop_regions.specs.Nested.{NotBack}
use Rattle.flow_graph.specs.Reached.{is_inner}
use Rattle.loop_regions.specs.Walks.{holds}
use Rattle.loop_regions.specs.Sides.{IsFirstEdge, IsFirstFunction, IsFirstSide, earlier_of, is_no_later_pair}
use Rattle.loop_regions.specs.declared.crossing.Side.{Side}
use Rattle.loop_regions.proofs.Visits.{other_number}
use Rattle.flow_graph.specs.declared.parts.Edge.{Edge}
use Rattle.loop_regions.specs.Regions.{is_aside, begins_aside, IsNoLaterPair, IsSide, IsEntered, outside}

-- what passes stands at the first place that passes, or after it
pub at_or_after : {X : Type 0} (test : X → Bool) (xs : List X) (i : ℕ) (d : X) → ((k : ℕ) (e : X) → k < i → test (get_or xs k e) ≡ false) → (x : X) → (c : Contains xs x) → test x ≡ true → i ≤ c.0
at_or_after test xs i d none x c passes = elim (cases_lt c.0 i) [
  | inl less ↦ let bad : true ≡ false = sym passes ∙ sym (ap test c.2) ∙ none c.0 x less in cc
  | inr more ↦ more
]

pair_same : (a b : Edge) → a ≡ b → IsNoLaterPair a.from a.to b.from b.to
pair_same a b is = inr (ap (λ (e : Edge). e.from) is, let h = ap (λ (e : Edge). e.to) is in omega (arith, h))

pair_before : (a b : Edge) → NotBack a b → IsNoLaterPair a.from a.to b.from b.to
pair_before a b not = elim (cases_order a.from b.from) [
  | inl same ↦ elim (cases_order a.to b.to) [
    | inl also ↦ inr (same, omega (arith, also))
    | inr (inl less) ↦ inr (same, omega (arith, less))
    | inr (inr more) ↦ absurd (not (inr (sym same, inl more)))
  ]
  | inr (inl less) ↦ inl less
  | inr (inr more) ↦ absurd (not (inl more))
]

pub first_edge : (edges : List Edge) (r : Region) (i : ℕ) (d : Edge) → i < length edges → AllPairs NotBack edges → ((k : ℕ) (e : Edge) → k < i → is_aside r (get_or edges k e) ≡ false)
    → (e : Edge) → Contains edges e → is_aside r e ≡ true → IsNoLaterPair (get_or edges i d).from (get_or edges i d).to e.from e.to
first_edge edges r i d inside rise none e c passes = by_order (cases_order i c.0) (at_or_after (is_aside r) edges i d none e c passes)
  where
    by_order : (i ≡ c.0) ⊎ ((i < c.0) ⊎ (c.0 < i)) → i ≤ c.0 → IsNoLaterPair (get_or edges i d).from (get_or edges i d).to e.from e.to
    by_order (inl is) le = pair_same (get_or edges i d) e (get_or_default edges i d e inside ∙ ap (λ k. get_or edges k e) is ∙ c.2)
    by_order (inr (inl less)) le =
        subst (λ (b : Edge). IsNoLaterPair (get_or edges i d).from (get_or edges i d).to b.from b.to) c.2
        (subst (λ (a : Edge). IsNoLaterPair a.from a.to (get_or edges c.0 e).from (get_or edges c.0 e).to) (get_or_default edges i e d inside)
        (pair_before (get_or edges i e) (get_or edges c.0 e) (rise i c.0 e less c.1)))
    by_order (inr (inr more)) le = absurd (omega arith)

pub first_function : (fs : List ℕ) (r : Region) (i : ℕ) (d : ℕ) → i < length fs → IsStrictlyIncreasing fs → ((k : ℕ) (e : ℕ) → k < i → begins_aside r (get_or fs k e) ≡ false)
    → (f : ℕ) → Contains fs f → begins_aside r f ≡ true → get_or fs i d ≤ f
first_function fs r i d inside rise none f c passes = by_order (cases_order i c.0) (at_or_after (begins_aside r) fs i d none f c passes)
  where
    by_order : (i ≡ c.0) ⊎ ((i < c.0) ⊎ (c.0 < i)) → i ≤ c.0 → get_or fs i d ≤ f
    by_order (inl is) le = let h = get_or_default fs i d f inside ∙ ap (λ k. get_or fs k f) is ∙ c.2 in omega (arith, h)
    by_order (inr (inl less)) le =
        let h = AllPairs-from_increasing fs rise i c.0 f less c.1 in
        let a = get_or_default fs i f d inside in
        omega (arith, h, a, c.2)
    by_order (inr (inr more)) le = absurd (omega arith)

-- what an edge that is passed leaves
pub none_more : {X : Type 0} (test : X → Bool) (xs : List X) (i : ℕ) (d : X) → i < length xs → ((k : ℕ) (e : X) → k < i → test (get_or xs k e) ≡ false) → test (get_or xs i d) ≡ false
    → (k : ℕ) (e : X) → k < i + 1 → test (get_or xs k e) ≡ false
none_more test xs i d inside none here k e less = elim (cases_order k i) [
  | inl is ↦ ap (λ j. test (get_or xs j e)) is ∙ ap test (get_or_default xs i e d inside) ∙ here
  | inr (inl below) ↦ none k e below
  | inr (inr above) ↦ absurd (omega arith)
]

pub there : {X : Type 0} (xs : List X) (i : ℕ) (d : X) → i < length xs → Contains xs (get_or xs i d)
there xs i d inside = (i, inside, get_or_default xs i (get_or xs i d) d inside)

-- tests and what they say

aside_of : (a b c d : Bool) → a ≡ true → b ≡ true → c ≡ false → d ≡ false → (a && (b && not (c || d))) ≡ true
aside_of true true false false p q u v = refl
aside_of true true false true p q u v = sym v
aside_of true true true d p q u v = sym u
aside_of true false c d p q u v = q
aside_of false b c d p q u v = p

record IsAsideOf (a b c d : Bool) : Type 0 where
  inner : a ≡ true
  inside : b ≡ true
  outer : c ≡ false
  other : d ≡ false

of_aside : (a b c d : Bool) → (a && (b && not (c || d))) ≡ true → IsAsideOf a b c d
of_aside true true false false p = record { inner = refl; inside = refl; outer = refl; other = refl }
of_aside true true false true p = let bad : false ≡ true = p in cc
of_aside true true true d p = let bad : false ≡ true = p in cc
of_aside true false c d p = let bad : false ≡ true = p in cc
of_aside false b c d p = let bad : false ≡ true = p in cc

begins_of : (a b : Bool) → a ≡ true → b ≡ false → (a && not b) ≡ true
begins_of true false p q = refl
begins_of true true p q = sym q
begins_of false b p q = p

record IsBeginOf (a b : Bool) : Type 0 where
  inside : a ≡ true
  other : b ≡ false

of_begins : (a b : Bool) → (a && not b) ≡ true → IsBeginOf a b
of_begins true false p = record { inside = refl; other = refl }
of_begins true true p = let bad : false ≡ true = p in cc
of_begins false b p = let bad : false ≡ true = p in cc

differ_of : (a b : ℕ) → (a == b) ≡ false → a ≢ b
differ_of a b off is = let bad : true ≡ false = sym (eq-eqb a b is) ∙ off in absurd (let b : ⊥ = cc in b)

-- an entry aside is by an edge or by a function
pub record IsByEdge (g : Flow) (r : Region) (from to : ℕ) : Type 0 where
  pub edge : Edge
  pub among : Contains g.edges edge
  pub aside : is_aside r edge ≡ true
  pub leaves : edge.from ≡ from
  pub enters : edge.to ≡ to

pub record IsByFunction (g : Flow) (r : Region) (from to : ℕ) : Type 0 where
  pub leaves : from ≡ outside
  pub among : Contains g.functions to
  pub begins : begins_aside r to ≡ true

pub side_cases : (g : Flow) (r : Region) (from to : ℕ) → IsSide g r from to → IsByEdge g r from to ⊎ IsByFunction g r from to
side_cases g r a b s = by_comes s.comes
  where
    by_comes : IsEntered g r a b → IsByEdge g r a b ⊎ IsByFunction g r a b
    by_comes (inl (e, inner, leaves, enters, out)) = inl (record {
      edge = e;
      among = inner.among;
      aside = aside_of (is_inner e.kind) (holds r e.to) (holds r e.from) (e.to == r.header) inner.inner (subst (λ v. holds r v ≡ true) (sym enters) s.inside) (subst (λ v. holds r v ≡ false) (sym leaves) out) (other_number e.to r.header (λ is. s.aside (sym enters ∙ is)));
      leaves = leaves;
      enters = enters;
    })
    by_comes (inr (leaves, among)) = inr (record { leaves = leaves; among = among; begins = begins_of (holds r b) (b == r.header) s.inside (other_number b r.header s.aside) })

pub by_edge : (g : Flow) (r : Region) (e : Edge) (a b : ℕ) → Contains g.edges e → is_aside r e ≡ true → e.from ≡ a → e.to ≡ b → IsSide g r a b
by_edge g r e a b among aside leaves enters =
    let f = of_aside (is_inner e.kind) (holds r e.to) (holds r e.from) (e.to == r.header) aside in
    record {
      inside = subst (λ v. holds r v ≡ true) enters f.inside;
      aside = λ is. differ_of e.to r.header f.other (enters ∙ is);
      comes = inl (e, record { among = among; inner = f.inner }, leaves, enters, subst (λ v. holds r v ≡ false) leaves f.outer);
    }

pub by_function : (g : Flow) (r : Region) (f : ℕ) → Contains g.functions f → begins_aside r f ≡ true → IsSide g r outside f
by_function g r f among begins =
    let b = of_begins (holds r f) (f == r.header) begins in
    record { inside = b.inside; aside = differ_of f r.header b.other; comes = inr (refl, among) }

no_edge : (g : Flow) (r : Region) (a b : ℕ) → ((e : Edge) → Contains g.edges e → is_aside r e ≡ false) → IsByEdge g r a b → ⊥
no_edge g r a b none e = let bad : true ≡ false = sym e.aside ∙ none e.edge e.among in absurd (let b : ⊥ = cc in b)

no_function : (g : Flow) (r : Region) (a b : ℕ) → ((f : ℕ) → Contains g.functions f → begins_aside r f ≡ false) → IsByFunction g r a b → ⊥
no_function g r a b none f = let bad : true ≡ false = sym f.begins ∙ none b f.among in absurd (let b : ⊥ = cc in b)

edge_after : (g : Flow) (r : Region) (s : Side) (a b : ℕ) → ((e : Edge) → Contains g.edges e → is_aside r e ≡ true → IsNoLaterPair s.from s.to e.from e.to) → IsByEdge g r a b → IsNoLaterPair s.from s.to a b
edge_after g r s a b first e =
    subst (λ v. IsNoLaterPair s.from s.to v b) e.leaves (subst (λ v. IsNoLaterPair s.from s.to e.edge.from v) e.enters (first e.edge e.among e.aside))

function_after : (g : Flow) (r : Region) (f a b : ℕ) → ((h : ℕ) → Contains g.functions h → begins_aside r h ≡ true → f ≤ h) → IsByFunction g r a b → IsNoLaterPair outside f a b
function_after g r f a b first h = inr (sym h.leaves, first b h.among h.begins)

pair_trans : (a b c d e f : ℕ) → IsNoLaterPair a b c d → IsNoLaterPair c d e f → IsNoLaterPair a b e f
pair_trans a b c d e f (inl p) (inl q) = inl (omega arith)
pair_trans a b c d e f (inl p) (inr q) = inl (let h = q.0 in omega arith)
pair_trans a b c d e f (inr p) (inl q) = inl (let h = p.0 in omega arith)
pair_trans a b c d e f (inr p) (inr q) = inr (p.0 ∙ q.0, let h = p.1 in let i = q.1 in omega arith)

pair_cases : (a b c d : ℕ) → (p q u : Bool) → (p ≡ nat_lt a c) → (q ≡ (a == c)) → (u ≡ nat_le b d) → ((p || (q && u)) ≡ true → IsNoLaterPair a b c d) × ((p || (q && u)) ≡ false → IsNoLaterPair c d a b)
pair_cases a b c d true q u p1 q1 u1 = (λ h. inl (grind (arith, nat_tests)), λ h. let bad : true ≡ false = h in absurd (let b : ⊥ = cc in b))
pair_cases a b c d false true true p1 q1 u1 = (λ h. inr (grind (arith, nat_tests), grind (arith, nat_tests)), λ h. let bad : true ≡ false = h in absurd (let b : ⊥ = cc in b))
pair_cases a b c d false true false p1 q1 u1 = (λ h. let bad : false ≡ true = h in absurd (let b : ⊥ = cc in b), λ h. inr (grind (arith, nat_tests), grind (arith, nat_tests)))
pair_cases a b c d false false u p1 q1 u1 = (λ h. let bad : false ≡ true = h in absurd (let b : ⊥ = cc in b), λ h. inl (grind (arith, nat_tests)))

-- the first edge and the first function make the first entry
pub first_side : (g : Flow) (r : Region) (edge : Option Side) (function : Option ℕ) → IsFirstEdge g.edges r edge → IsFirstFunction g.functions r function → IsFirstSide g r (earlier_of edge function)
first_side g r None None e f = λ a b s. elim (side_cases g r a b s) [ inl by ↦ no_edge g r a b e by | inr by ↦ no_function g r a b f by ]
first_side g r (Some s) None e f = (
  by_edge g r e.0.0 s.from s.to e.0.1 e.0.2 e.0.3 e.0.4,
  λ a b side. elim (side_cases g r a b side) [ inl by ↦ edge_after g r s a b e.1 by | inr by ↦ absurd (no_function g r a b f by) ],
)
first_side g r None (Some h) e f = (
  by_function g r h f.0 f.1,
  λ a b side. elim (side_cases g r a b side) [ inl by ↦ absurd (no_edge g r a b e by) | inr by ↦ function_after g r h a b f.2 by ],
)
first_side g r (Some s) (Some h) e f = by_test (is_no_later_pair s.from s.to outside h) refl
  where
    order : (is_no_later_pair s.from s.to outside h ≡ true → IsNoLaterPair s.from s.to outside h) × (is_no_later_pair s.from s.to outside h ≡ false → IsNoLaterPair outside h s.from s.to)
    order = pair_cases s.from s.to outside h (nat_lt s.from outside) (s.from == outside) (nat_le s.to h) refl refl refl

    by_test : (t : Bool) → is_no_later_pair s.from s.to outside h ≡ t → IsFirstSide g r (Some (if t then s else record { from = outside; to = h }))
    by_test true is = (
      by_edge g r e.0.0 s.from s.to e.0.1 e.0.2 e.0.3 e.0.4,
      λ a b side. elim (side_cases g r a b side) [
        | inl by ↦ edge_after g r s a b e.1 by
        | inr by ↦ pair_trans s.from s.to outside h a b (order.0 is) (function_after g r h a b f.2 by)
      ],
    )
    by_test false is = (
      by_function g r h f.0 f.1,
      λ a b side. elim (side_cases g r a b side) [
        | inl by ↦ pair_trans outside h s.from s.to a b (order.1 is) (edge_after g r s a b e.1 by)
        | inr by ↦ function_after g r h a b f.2 by
      ],
    )
