-- The laps that are left, over an edge inside a function.
use Rattle.std.proofs.Common.{◌≡◌, refl, sym, ap, subst, ◌∙◌, ℕ, zero, suc, ◌+◌, ◌-◌, ◌*◌, ◌≤◌, Bool, true, false, List, [], ◌∷◌, arith, eq-eqb}
use Rattle.std.specs.Prelude.{if◌then◌else◌, ◌==◌}
use Rattle.std.proofs.lemmas.Bool.{eqb-true}
use Rattle.std.proofs.lemmas.List.Elements.{Contains-append_right}
use Rattle.std.specs.List.{Contains}
use Rattle.visa_io.specs.declared.records.Region.{Region}
use Rattle.loop_regions.specs.Walks.{visits, holds}
use Rattle.loop_regions.proofs.Visits.{visits_outside}
use Rattle.path_wcet.specs.Slack.{begins, entering, returning, slack}

pub later : {X : Type 0} (x : X) (xs : List X) (y : X) → Contains xs y → Contains (x ∷ xs) y
later x xs y c = Contains-append_right (x ∷ []) xs y c

pub first : {X : Type 0} (x : X) (xs : List X) → Contains (x ∷ xs) x
first x xs = (0, omega arith, refl)

pub clash : {X : Type 0} (b : Bool) → b ≡ true → b ≡ false → X
clash b is out = absurd (let bad : true ≡ false = sym is ∙ out in cc)

one_lap : (count v turn : ℕ) → 1 + v ≤ count → (count - (1 + v)) * turn + turn ≤ (count - v) * turn
one_lap count v turn h =
    let e : count - v ≡ suc (count - (1 + v)) = omega arith in
    let k = ap (λ n. n * turn) e in
    let more : suc (count - (1 + v)) * turn ≡ (count - (1 + v)) * turn + turn = omega arith in
    omega (arith, k, more)

-- whether the edge's ends are in the region, and whether it enters the header
region_step : (p q h : Bool) (v count turn : ℕ) → (h ≡ true → q ≡ true) → (q ≡ true → p ≡ false → h ≡ true) → (if q then (if h then 1 else 0) + v else 0) ≤ count → (p ≡ false → v ≡ 0)
    → (if q then (count - (if q then (if h then 1 else 0) + v else 0)) * turn else 0) + (if p then (if h then turn else 0) else 0)
    ≤ (if p then (count - v) * turn else 0) + (if p then 0 else (if h then (count - 1) * turn else 0))
region_step true true true v count turn header enter fits none = omega (arith, one_lap count v turn fits)
region_step true true false v count turn header enter fits none = let e = ap (λ (n : ℕ). (count - n) * turn) (let z : 0 + v ≡ v = omega arith in z) in omega (arith, e)
region_step true false true v count turn header enter fits none = let no = header refl in absurd (let bad : true ≡ false = sym no in cc)
region_step true false false v count turn header enter fits none = omega arith
region_step false true true v count turn header enter fits none = let e = ap (λ (n : ℕ). (count - n) * turn) (let z : 1 + v ≡ 1 = omega (arith, none refl) in z) in omega (arith, e)
region_step false true false v count turn header enter fits none = let no = enter refl refl in absurd (let bad : true ≡ false = sym no in cc)
region_step false false true v count turn header enter fits none = let no = header refl in absurd (let bad : true ≡ false = sym no in cc)
region_step false false false v count turn header enter fits none = omega arith

-- what the edge from a to b keeps with a region
pub record IsFit (r : Region) (a b : ℕ) : Type 0 where
  pub header : holds r r.header ≡ true
  pub enter : holds r b ≡ true → holds r a ≡ false → b ≡ r.header

pub slack_step : (turn : Region → ℕ) (rs : List Region) (a b : ℕ) (us : List ℕ) → ((r : Region) → Contains rs r → IsFit r a b) → ((r : Region) → Contains rs r → visits r (b ∷ (a ∷ us)) ≤ r.count)
    → slack turn rs (b ∷ (a ∷ us)) + returning turn rs a b ≤ slack turn rs (a ∷ us) + entering turn rs a b
slack_step turn [] a b us fit allowed = omega arith
slack_step turn (r ∷ rs) a b us fit allowed =
    let f = fit r (first r rs) in
    let one = region_step (holds r a) (holds r b) (b == r.header) (visits r (a ∷ us)) r.count (turn r)
    (λ h. subst (λ v. holds r v ≡ true) (sym (eqb-true b r.header h)) f.header) (λ q p. eq-eqb b r.header (f.enter q p)) (allowed r (first r rs)) (visits_outside r a us) in
    let more = slack_step turn rs a b us (λ x among. fit x (later r rs x among)) (λ x among. allowed x (later r rs x among)) in
    omega (arith, one, more)

-- what is paid at an edge into a header is what is paid where one begins there
enters_most : (p q : Bool) (n : ℕ) → (let m : ℕ = (if p then 0 else (if q then n else 0)) in m) ≤ (let m : ℕ = (if q then n else 0) in m)
enters_most true q n = omega arith
enters_most false q n = omega arith

pub entering_most : (turn : Region → ℕ) (rs : List Region) (a b : ℕ) → entering turn rs a b ≤ begins turn rs b
entering_most turn [] a b = omega arith
entering_most turn (r ∷ rs) a b =
    let h = enters_most (holds r a) (b == r.header) ((r.count - 1) * turn r) in
    omega (arith, h, entering_most turn rs a b)

-- an edge back enters no region
enters_zero : (p q : Bool) (n : ℕ) → (q ≡ true → p ≡ true) → (let m : ℕ = (if p then 0 else (if q then n else 0)) in m) ≡ 0
enters_zero true q n within = refl
enters_zero false true n within = let bad : false ≡ true = within refl in absurd (let b : ⊥ = cc in b)
enters_zero false false n within = refl

pub entering_zero : (turn : Region → ℕ) (rs : List Region) (a b : ℕ) → ((r : Region) → Contains rs r → b ≡ r.header → holds r a ≡ true) → entering turn rs a b ≡ 0
entering_zero turn [] a b within = refl
entering_zero turn (r ∷ rs) a b within =
    let h = enters_zero (holds r a) (b == r.header) ((r.count - 1) * turn r) (λ q. within r (first r rs) (eqb-true b r.header q)) in
    let more = entering_zero turn rs a b (λ x among. within x (later r rs x among)) in
    omega (arith, h, more)

-- and uses up a lap
pub returning_most : (turn : Region → ℕ) (rs : List Region) (r : Region) → Contains rs r → (a b : ℕ) → b ≡ r.header → holds r a ≡ true → turn r ≤ returning turn rs a b
returning_most turn [] r among a b at inside = absurd (omega (arith, among.1))
returning_most turn (x ∷ rs) r (zero, below, is) a b at inside =
    let one = this (holds x a) (b == x.header) (turn x) (subst (λ (y : Region). holds y a ≡ true) (sym is) inside) (eq-eqb b x.header (at ∙ ap (λ (y : Region). y.header) (sym is))) in
    let t = ap turn is in
    omega (arith, one, t)
  where
    this : (p q : Bool) (n : ℕ) → p ≡ true → q ≡ true → n ≤ (let m : ℕ = (if p then (if q then n else 0) else 0) in m)
    this true true n p q = omega arith
    this true false n p q = let bad : false ≡ true = q in absurd (let b : ⊥ = cc in b)
    this false q n p r = let bad : false ≡ true = p in absurd (let b : ⊥ = cc in b)
returning_most turn (x ∷ rs) r (suc k, below, is) a b at inside = let more = returning_most turn rs r (k, omega arith, is) a b at inside in omega (arith, more)

-- the laps where an activation begins
begins_case : (p q : Bool) (count turn : ℕ) → (p ≡ true → q ≡ true) → (if p then (count - (if p then (if q then 1 else 0) + 0 else 0)) * turn else 0) ≤ (if q then (count - 1) * turn else 0)
begins_case true true count turn h = omega arith
begins_case true false count turn h = let bad : false ≡ true = h refl in absurd (let b : ⊥ = cc in b)
begins_case false q count turn h = omega arith

pub begins_slack : (turn : Region → ℕ) (rs : List Region) (start : ℕ) → ((r : Region) → Contains rs r → holds r start ≡ true → start ≡ r.header) → slack turn rs (start ∷ []) ≤ begins turn rs start
begins_slack turn [] start at = omega arith
begins_slack turn (r ∷ rs) start at =
    let one = begins_case (holds r start) (start == r.header) r.count (turn r) (λ p. eq-eqb start r.header (at r (first r rs) p)) in
    let more = begins_slack turn rs start (λ x among. at x (later r rs x among)) in
    omega (arith, one, more)
