-- Ways between numbered units are ways between their addresses.
use Rattle.std.proofs.Common.{◌≡◌, refl, sym, ap, subst, ◌∙◌, ℕ, zero, suc, ◌<◌, ◌≤◌, Bool, true, false, List, [], ◌∷◌, map, length, arith, ◌⊎◌, inl, inr, cond}
use Rattle.std.specs.Prelude.{◌||◌, ◌&&◌, nat_lt, slice_index}
use Rattle.std.specs.List.{Contains, filter, list_all}
use Rattle.std.specs.List.Sorted.{IsStrictlyIncreasing}
use Rattle.std.proofs.lemmas.Bool.{cases_order}
use Rattle.std.proofs.lemmas.List.Elements.{All-contains, Contains-append_right}
use Rattle.std.proofs.lemmas.List.Kept.{AllPairs-from_increasing}
use Rattle.std.proofs.lemmas.Bool.Decides.{nat_tests}
use Rattle.visa_io.specs.declared.records.Region.{Region}
use Rattle.flow_graph.specs.Flow.{Flow}
use Rattle.flow_graph.specs.declared.parts.Edge.{Edge}
use Rattle.loop_regions.specs.Cycles.{AreIn, IsAhead, IsWayOn, Joins}
use Rattle.loop_regions.specs.Ranks.{falls}
use Rattle.loop_regions.specs.Regions.{IsFreeWay, IsOnFreeCycle, LeadsOn, is_back}
use Rattle.loop_regions.specs.Ways.{AreWays, IsWay, is_inner_edge}
use Rattle.loop_regions.specs.declared.ways.Way.{Way}

-- members of a filter and of a map

first_place : {X : Type 0} (x : X) (xs : List X) → Contains (x ∷ xs) x
first_place x xs = (0, omega arith, refl)

later_place : {X : Type 0} (x : X) (xs : List X) (y : X) → Contains xs y → Contains (x ∷ xs) y
later_place x xs y c = Contains-append_right (x ∷ []) xs y c

place_cases : {X : Type 0} (x : X) (xs : List X) (y : X) → Contains (x ∷ xs) y → (x ≡ y) ⊎ Contains xs y
place_cases x xs y (zero, below, is) = inl is
place_cases x xs y (suc k, below, is) = inr (k, omega arith, is)

pub filtered : {X : Type 0} (test : X → Bool) (xs : List X) (x : X) → Contains (filter test xs) x → Contains xs x × (test x ≡ true)
filtered test [] x c = absurd (omega (arith, c.1))
filtered test (y ∷ ys) x c = by_test (test y) refl c (filtered test ys x)
  where
    by_test : (b : Bool) → test y ≡ b → Contains (cond b (y ∷ filter test ys) (filter test ys)) x → (Contains (filter test ys) x → Contains ys x × (test x ≡ true)) → Contains (y ∷ ys) x × (test x ≡ true)
    by_test true is d rest = elim (place_cases y (filter test ys) x d) [
      | inl same ↦ (subst (Contains (y ∷ ys)) same (first_place y ys), ap test (sym same) ∙ is)
      | inr older ↦ let f = rest older in (later_place y ys x f.0, f.1)
    ]
    by_test false is d rest = let f = rest d in (later_place y ys x f.0, f.1)

pub filters : {X : Type 0} (test : X → Bool) (xs : List X) (x : X) → Contains xs x → test x ≡ true → Contains (filter test xs) x
filters test [] x c passes = absurd (omega (arith, c.1))
filters test (y ∷ ys) x c passes = by_test (test y) refl (place_cases y ys x c) (λ older. filters test ys x older passes)
  where
    by_test : (b : Bool) → test y ≡ b → (y ≡ x) ⊎ Contains ys x → (Contains ys x → Contains (filter test ys) x) → Contains (cond b (y ∷ filter test ys) (filter test ys)) x
    by_test true is (inl same) rest = subst (Contains (y ∷ filter test ys)) same (first_place y (filter test ys))
    by_test true is (inr older) rest = later_place y (filter test ys) x (rest older)
    by_test false is (inl same) rest = let bad : true ≡ false = sym passes ∙ ap test (sym same) ∙ is in absurd (let b : ⊥ = cc in b)
    by_test false is (inr older) rest = rest older

pub mapped : {X Y : Type 0} (f : X → Y) (xs : List X) (x : X) → Contains xs x → Contains (map f xs) (f x)
mapped f [] x c = absurd (omega (arith, c.1))
mapped f (y ∷ ys) x c = elim (place_cases y ys x c) [
  | inl same ↦ subst (λ z. Contains (map f (y ∷ ys)) (f z)) same (first_place (f y) (map f ys))
  | inr older ↦ later_place (f y) (map f ys) (f x) (mapped f ys x older)
]

pub unmapped : {X Y : Type 0} (f : X → Y) (xs : List X) (y : Y) → Contains (map f xs) y → (x : X) × Contains xs x × (f x ≡ y)
unmapped f [] y c = absurd (omega (arith, c.1))
unmapped f (x ∷ xs) y c = elim (place_cases (f x) (map f xs) y c) [
  | inl same ↦ (x, first_place x xs, same)
  | inr older ↦ let u = unmapped f xs y older in (u.0, later_place x xs u.0 u.1, u.2)
]

-- a way's edge is an edge inside a function
pub edge_of_way : (edges : List Edge) (addresses : List ℕ) (rs : List Region) (ways : List Way) → AreWays addresses edges rs ways → (w : Way) → Contains ways w → Contains edges w.edge × (is_inner_edge w.edge ≡ true)
edge_of_way edges addresses rs ways are w c = filtered is_inner_edge edges w.edge (subst (λ (l : List Edge). Contains l w.edge) are.edges_are (mapped (λ (v : Way). v.edge) ways w c))

pub way_of_edge : (edges : List Edge) (addresses : List ℕ) (rs : List Region) (ways : List Way) → AreWays addresses edges rs ways → (e : Edge) → Contains edges e → is_inner_edge e ≡ true → (w : Way) × Contains ways w × (w.edge ≡ e)
way_of_edge edges addresses rs ways are e c inner = unmapped (λ (v : Way). v.edge) ways e (subst (λ (l : List Edge). Contains l e) (sym are.edges_are) (filters is_inner_edge edges e c inner))

-- from numbers to addresses

joined : (g : Flow) (addresses : List ℕ) (rs : List Region) (ways : List Way) → AreWays addresses g.edges rs ways → (u v : ℕ) → Joins ways u v → LeadsOn g rs (slice_index addresses u) (slice_index addresses v)
joined g addresses rs ways are u v (w, c, ahead, leaves, enters) =
    let e = edge_of_way g.edges addresses rs ways are w c in
    let i = All-contains (IsWay addresses g.edges rs) ways w are.each c in
    (w.edge, record { inner = record { among = e.0; inner = e.1 }; ahead = sym i.back ∙ ahead }, sym i.leaves ∙ ap (slice_index addresses) leaves, sym i.enters ∙ ap (slice_index addresses) enters)

pub addressed : (g : Flow) (addresses : List ℕ) (rs : List Region) (ways : List Way) → AreWays addresses g.edges rs ways → (start v : ℕ) (us : List ℕ) → IsWayOn ways start (v ∷ us)
    → IsFreeWay g rs (slice_index addresses start) (map (slice_index addresses) (v ∷ us))
addressed g addresses rs ways are start v [] way = ap (slice_index addresses) way
addressed g addresses rs ways are start v (u ∷ us) way = (joined g addresses rs ways are u v way.0, addressed g addresses rs ways are start u us way.1)

pub on_cycle : (g : Flow) (addresses : List ℕ) (rs : List Region) (ways : List Way) → AreWays addresses g.edges rs ways → (u : ℕ) → IsAhead ways u u → IsOnFreeCycle g rs (slice_index addresses u)
on_cycle g addresses rs ways are u a = record { last = slice_index addresses a.last; before = map (slice_index addresses) a.before; way = addressed g addresses rs ways are u u (a.last ∷ a.before) a.way }

-- and back

pub one_number : (xs : List ℕ) → IsStrictlyIncreasing xs → (i j : ℕ) → i < length xs → j < length xs → slice_index xs i ≡ slice_index xs j → i ≡ j
one_number xs rise i j first second same = elim (cases_order i j) [
  | inl is ↦ is
  | inr (inl less) ↦ let h = AllPairs-from_increasing xs rise i j 0 less second in absurd (omega (arith, h, same))
  | inr (inr more) ↦ let h = AllPairs-from_increasing xs rise j i 0 more first in absurd (omega (arith, h, same))
]

record IsNumberedWay (addresses : List ℕ) (ways : List Way) (start b : ℕ) : Type 0 where
  number : ℕ
  before : List ℕ
  inside : number < length addresses
  at : slice_index addresses number ≡ b
  way : IsWayOn ways start (number ∷ before)

way_from : (g : Flow) (addresses : List ℕ) (rs : List Region) (ways : List Way) → AreWays addresses g.edges rs ways → IsStrictlyIncreasing addresses → (start : ℕ) → start < length addresses → (v : ℕ) (us : List ℕ)
    → IsFreeWay g rs (slice_index addresses start) (v ∷ us) → IsNumberedWay addresses ways start v
way_from g addresses rs ways are rise start inside v [] way = record { number = start; before = []; inside = inside; at = sym way; way = refl }
way_from g addresses rs ways are rise start inside v (u ∷ us) way =
    let n = way_from g addresses rs ways are rise start inside u us way.1 in
    let e = way.0.0 in
    let f = way.0.1 in
    let w = way_of_edge g.edges addresses rs ways are e f.inner.among f.inner.inner in
    let i = All-contains (IsWay addresses g.edges rs) ways w.0 are.each w.1 in
    let leaves : slice_index addresses w.0.from ≡ slice_index addresses n.number = i.leaves ∙ ap (λ (x : Edge). x.from) w.2 ∙ way.0.2 ∙ sym n.at in
    record {
      number = w.0.to;
      before = n.number ∷ n.before;
      inside = i.enters_in;
      at = i.enters ∙ ap (λ (x : Edge). x.to) w.2 ∙ way.0.3;
      way = ((w.0, w.1, i.back ∙ ap (is_back rs) w.2 ∙ f.ahead, one_number addresses rise w.0.from n.number i.leaves_in n.inside leaves, refl), n.way);
    }

pub off_cycle : (g : Flow) (addresses : List ℕ) (rs : List Region) (ways : List Way) → AreWays addresses g.edges rs ways → IsStrictlyIncreasing addresses → (u : ℕ) → u < length addresses → IsOnFreeCycle g rs (slice_index addresses u) → IsAhead ways u u
off_cycle g addresses rs ways are rise u inside c = by_way (way_from g addresses rs ways are rise u inside c.last c.before c.way.1) c.way.0
  where
    by_way : IsNumberedWay addresses ways u c.last → LeadsOn g rs c.last (slice_index addresses u) → IsAhead ways u u
    by_way n (e, f, leaves, enters) =
        let w = way_of_edge g.edges addresses rs ways are e f.inner.among f.inner.inner in
        let i = All-contains (IsWay addresses g.edges rs) ways w.0 are.each w.1 in
        let start : w.0.from ≡ n.number = one_number addresses rise w.0.from n.number i.leaves_in n.inside (i.leaves ∙ ap (λ (x : Edge). x.from) w.2 ∙ leaves ∙ sym n.at) in
        let end : w.0.to ≡ u = one_number addresses rise w.0.to u i.enters_in inside (i.enters ∙ ap (λ (x : Edge). x.to) w.2 ∙ enters) in
        record { last = n.number; before = n.before; way = ((w.0, w.1, i.back ∙ ap (is_back rs) w.2 ∙ f.ahead, start, end), n.way) }

-- a unit on a cycle has a number
pub cycle_number : (g : Flow) (addresses : List ℕ) (rs : List Region) (ways : List Way) → AreWays addresses g.edges rs ways → (a : ℕ) → IsOnFreeCycle g rs a → (u : ℕ) × (u < length addresses) × (slice_index addresses u ≡ a)
cycle_number g addresses rs ways are a c = by_lead c.way.0
  where
    by_lead : LeadsOn g rs c.last a → (u : ℕ) × (u < length addresses) × (slice_index addresses u ≡ a)
    by_lead (e, f, leaves, enters) =
        let w = way_of_edge g.edges addresses rs ways are e f.inner.among f.inner.inner in
        let i = All-contains (IsWay addresses g.edges rs) ways w.0 are.each w.1 in
        (w.0.to, i.enters_in, i.enters ∙ ap (λ (x : Edge). x.to) w.2 ∙ enters)

-- no unit is on a cycle, or the least by number is the least by address
pub none_on_cycle : (g : Flow) (addresses : List ℕ) (rs : List Region) (ways : List Way) → AreWays addresses g.edges rs ways → IsStrictlyIncreasing addresses → ((u : ℕ) → u < length addresses → IsAhead ways u u → ⊥) → (a : ℕ) → IsOnFreeCycle g rs a → ⊥
none_on_cycle g addresses rs ways are rise none a c =
    let n = cycle_number g addresses rs ways are a c in
    none n.0 n.1 (off_cycle g addresses rs ways are rise n.0 n.1 (subst (IsOnFreeCycle g rs) (sym n.2) c))

pub least_address : (g : Flow) (addresses : List ℕ) (rs : List Region) (ways : List Way) → AreWays addresses g.edges rs ways → IsStrictlyIncreasing addresses → (u : ℕ) → u < length addresses → ((v : ℕ) → v < u → IsAhead ways v v → ⊥)
    → (a : ℕ) → IsOnFreeCycle g rs a → slice_index addresses u ≤ a
least_address g addresses rs ways are rise u inside least a c =
    let n = cycle_number g addresses rs ways are a c in
    let ahead = off_cycle g addresses rs ways are rise n.0 n.1 (subst (IsOnFreeCycle g rs) (sym n.2) c) in
    elim (cases_order u n.0) [
      | inl same ↦ let h = ap (slice_index addresses) same in omega (arith, h, n.2)
      | inr (inl less) ↦ let h = AllPairs-from_increasing addresses rise u n.0 0 less n.1 in omega (arith, h, n.2)
      | inr (inr more) ↦ absurd (least n.0 more ahead)
    ]

-- ranks that fall leave no cycle
fall_of : (b t : Bool) → (b || t) ≡ true → b ≡ false → t ≡ true
fall_of true t is ahead = let bad : true ≡ false = ahead in cc
fall_of false t is ahead = is

falls_at : (ranks : List ℕ) (ways : List Way) → list_all (falls ranks) ways ≡ true → (w : Way) → Contains ways w → falls ranks w ≡ true
falls_at ranks [] all w c = absurd (omega (arith, c.1))
falls_at ranks (x ∷ ways) all w c = by_test (falls ranks x) refl all (λ rest older. falls_at ranks ways rest w older)
  where
    by_test : (b : Bool) → falls ranks x ≡ b → (b && list_all (falls ranks) ways) ≡ true → (list_all (falls ranks) ways ≡ true → Contains ways w → falls ranks w ≡ true) → falls ranks w ≡ true
    by_test true is rest more = elim (place_cases x ways w c) [
      | inl same ↦ ap (falls ranks) (sym same) ∙ is
      | inr older ↦ more rest older
    ]
    by_test false is rest more = let bad : false ≡ true = rest in absurd (let b : ⊥ = cc in b)

less_of : (a b : ℕ) → nat_lt a b ≡ true → a < b
less_of a b is = grind (arith, nat_tests)

fallen_one : (ranks : List ℕ) (ways : List Way) → list_all (falls ranks) ways ≡ true → (start u last : ℕ) → Joins ways last u → slice_index ranks last ≤ slice_index ranks start → slice_index ranks u < slice_index ranks start
fallen_one ranks ways all start u last (w, c, ahead, leaves, enters) le =
    let f = less_of (slice_index ranks w.to) (slice_index ranks w.from) (fall_of w.back (nat_lt (slice_index ranks w.to) (slice_index ranks w.from)) (falls_at ranks ways all w c) ahead) in
    let a = ap (slice_index ranks) leaves in
    let b = ap (slice_index ranks) enters in
    omega (arith, f, a, b, le)

pub fallen : (ranks : List ℕ) (ways : List Way) → list_all (falls ranks) ways ≡ true → (start u last : ℕ) (before : List ℕ) → IsWayOn ways start (u ∷ last ∷ before) → slice_index ranks u < slice_index ranks start
fallen ranks ways all start u last [] way = let h = ap (slice_index ranks) way.1 in fallen_one ranks ways all start u last way.0 (omega (arith, h))
fallen ranks ways all start u last (x ∷ before) way = let h = fallen ranks ways all start last x before way.1 in fallen_one ranks ways all start u last way.0 (omega (arith, h))

pub no_cycle : (ranks : List ℕ) (ways : List Way) → list_all (falls ranks) ways ≡ true → (u : ℕ) → IsAhead ways u u → ⊥
no_cycle ranks ways all u a = let h = fallen ranks ways all u u a.last a.before a.way in omega (arith, h)

-- numbers are places
pub ways_in : (g : Flow) (addresses : List ℕ) (rs : List Region) (ways : List Way) → AreWays addresses g.edges rs ways → AreIn (length addresses) ways
ways_in g addresses rs ways are k d inside = let i = are.each k d inside in record { leaves = i.leaves_in; enters = i.enters_in }
