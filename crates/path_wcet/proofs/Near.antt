-- What can be ahead of a unit along any way, also back to headers: a path, or a lap's rest and what is ahead of the header, less the
-- lap that is used up.
use Rattle.std.proofs.Common.{◌≡◌, refl, sym, ap, subst, ◌∙◌, ℕ, suc, ◌+◌, ◌-◌, ◌*◌, ◌<◌, ◌≤◌, min, Bool, true, false, List, [], ◌∷◌, length, arith, ◌⊎◌, inl, inr, Some}
use Rattle.std.specs.Prelude.{◌==◌, if◌then◌else◌, slice_index}
use Rattle.std.specs.List.{Contains}
use Rattle.std.specs.List.Sorted.{IsStrictlyIncreasing}
use Rattle.std.proofs.lemmas.Bool.{cases_lt, eqb-true}
use Rattle.std.proofs.Math.Nat.{mul-le-mul_left}
use Rattle.visa_io.specs.declared.records.Region.{Region}
use Rattle.flow_graph.specs.declared.parts.EdgeKind.{EdgeKind}
use Rattle.flow_graph.specs.declared.parts.EdgeKind.TheVariants.{Next, Taken, Call, Return, Over}
use Rattle.loop_regions.specs.Nested.{Numbered}
use Rattle.loop_regions.specs.Walks.{holds}
use Rattle.loop_regions.specs.declared.ways.Way.{Way}
use Rattle.loop_regions.proofs.FreeWays.{one_number}
use Rattle.loop_regions.proofs.Visits.{is_held}
use Rattle.path_wcet.specs.declared.ahead.Aim.{Aim}
use Rattle.path_wcet.specs.declared.ahead.Aim.TheVariants as aim
use Rattle.path_wcet.specs.Known.{Table, entry_at, limit, read}
use Rattle.path_wcet.specs.Paid.{AreEntered, cap}
use Rattle.path_wcet.specs.Paths.{IsTurn, Keeps, Path, plain_amount}
use Rattle.path_wcet.specs.Paths.Goal.{To, Along, Laps}
use Rattle.path_wcet.specs.Paths.Path.{Again, Calls, Closes, Direct, Goes, Once, Returns, Stops, Through}
use Rattle.path_wcet.specs.Slack.{begins}
use Rattle.path_wcet.specs.Tables.{turn_at}
use Rattle.path_wcet.proofs.Laps.{first, later}
use Rattle.path_wcet.proofs.Places.{place_of}
use Rattle.path_wcet.proofs.Reach.{no_some, some_is}

-- what the nest and the table keep: no two regions have one header, ways join units and enter regions at their headers, and what a
-- lap costs is reached and is the most that one costs, up to the limit
pub record IsNet (t : Table) (n : Numbered) (turns : List ℕ) : Type 0 where
  pub rise : IsStrictlyIncreasing n.addresses
  pub unique : (r x : Region) → Contains n.regions r → Contains n.regions x → r.header ≡ x.header → r ≡ x
  pub apart : (r x : Region) (c : Contains n.regions r) (d : Contains n.regions x) → d.0 < c.0 → r.header ≡ x.header → ⊥
  pub leaves : (w : Way) → Contains n.ways w → (slice_index n.addresses w.from ≡ w.edge.from) × (w.from < length n.addresses)
  pub enters : (w : Way) → Contains n.ways w → (slice_index n.addresses w.to ≡ w.edge.to) × (w.to < length n.addresses)
  pub entered : (w : Way) → Contains n.ways w → AreEntered n.regions w.edge
  pub ends : (u x : ℕ) → entry_at t.ends u ≡ Some x → (x ≡ 0) × (u < length n.addresses)
  pub reached : (u : ℕ) → (slice_index turns u ≡ 0) ⊎ IsTurn t n u (slice_index turns u)
  pub most : (r : Region) → Contains n.regions r → (u c : ℕ) → u < length n.addresses → slice_index n.addresses u ≡ r.header → Path t n (To (aim.Lap r)) u c → min limit c ≤ slice_index turns u

-- so much, less d, can be ahead
pub data Near (t : Table) (n : Numbered) (turns : List ℕ) (to : Aim) : ℕ → ℕ → ℕ → Type 0 where
  Here : (u m d v : ℕ) → Path t n (To to) u v → m ≤ v + d → Near t n turns to u m d
  Round : (r : Region) (u h b y e m d : ℕ) → Contains n.regions r → h < length n.addresses → slice_index n.addresses h ≡ r.header → holds r (slice_index n.addresses u) ≡ true → Path t n (To (aim.Lap r)) u b → Near t n turns to h y e
      → m + slice_index turns h + e ≤ b + y + d → slice_index turns h < limit → Near t n turns to u m d
  Dead : (u m d v : ℕ) → Path t n (To aim.Stop) u v → cap ≤ v → Near t n turns to u m d
  Within : (r : Region) (u h v m d : ℕ) → Contains n.regions r → h < length n.addresses → slice_index n.addresses h ≡ r.header → holds r (slice_index n.addresses u) ≡ true → Path t n (To aim.Stop) h v → cap ≤ v → Near t n turns to u m d

pub near_less : (t : Table) (n : Numbered) (turns : List ℕ) (to : Aim) (u m d k e : ℕ) → k + d ≤ m + e → Near t n turns to u m d → Near t n turns to u k e
near_less t n turns to q z c k e less (Here u m d v path fits) = Here u k e v path (omega (arith, less, fits))
near_less t n turns to q z c k e less (Round r u h b y f m d among inside at held path near fits low) = Round r u h b y f k e among inside at held path near (omega (arith, less, fits)) low
near_less t n turns to q z c k e less (Dead u m d v path far) = Dead u k e v path far
near_less t n turns to q z c k e less (Within r u h v m d among inside at held path far) = Within r u h v k e among inside at held path far

-- a unit is beyond the cap
pub record IsDead (t : Table) (n : Numbered) (u : ℕ) : Type 0 where
  pub cost : ℕ
  pub path : Path t n (To aim.Stop) u cost
  pub far : cap ≤ cost

-- a path that stops, and costs little less
record IsShort (t : Table) (n : Numbered) (u b less : ℕ) : Type 0 where
  cost : ℕ
  path : Path t n (To aim.Stop) u cost
  most : b ≤ cost + less

-- what is reached to a return is reached without it
returns_stop : (t : Table) (n : Numbered) (turns : List ℕ) → IsNet t n turns → (u v : ℕ) → Path t n (To aim.Return) u v → IsShort t n u v 0
returns_stop t n turns net q z (Returns u x is) = let e = net.ends u x is in record { cost = 0; path = Stops u e.1; most = let h = e.0 in omega arith }
returns_stop t n turns net q z (Goes to w k b m among ahead keeps along laps rest) =
    let s = returns_stop t n turns net w.to m rest in
    record { cost = k + b + s.cost; path = Goes aim.Stop w k b s.cost among ahead tt along laps s.path; most = let h = s.most in omega (arith, h) }

-- a way without the unit that it enters
along_stop : (t : Table) (n : Numbered) (turns : List ℕ) → IsNet t n turns → (y : Way) (u v : ℕ) → Path t n (Along y) u v → Contains n.ways y → IsShort t n u v (2 * cap)
along_stop t n turns net y q z (Direct w k off is) among = record { cost = 0; path = Stops w.from (net.leaves w among).1; most = by_kind w.edge.kind is }
  where
    by_kind : (kd : EdgeKind) → plain_amount t w kd ≡ Some k → k ≤ 0 + 2 * cap
    by_kind Next e = let s = some_is (read t.next w.from + read t.units w.to) k e in omega (arith, s)
    by_kind Taken e = let s = some_is (read t.taken w.from + read t.units w.to) k e in omega (arith, s)
    by_kind Call e = no_some k e
    by_kind Return e = no_some k e
    by_kind Over e = no_some k e
along_stop t n turns net y q z (Through w f b m called laps rest) among =
    let s = returns_stop t n turns net f m rest in
    record { cost = read t.units f + b + s.cost; path = Calls w f b s.cost among called laps s.path; most = let h = s.most in omega (arith, h) }

laps_stop : (t : Table) (n : Numbered) (turns : List ℕ) → IsNet t n turns → (y : Region) (u v : ℕ) → Path t n (To (aim.Lap y)) u v → IsShort t n u v (2 * cap)
laps_stop t n turns net y q z (Closes r w k among is within path) = along_stop t n turns net w w.from k path among
laps_stop t n turns net y q z (Goes to w k b m among ahead keeps along laps rest) =
    let s = laps_stop t n turns net y w.to m rest in
    record { cost = k + b + s.cost; path = Goes aim.Stop w k b s.cost among ahead tt along laps s.path; most = let h = s.most in omega (arith, h) }

-- where a lap comes to the limit its header is beyond the cap
heavy : (t : Table) (n : Numbered) (turns : List ℕ) → IsNet t n turns → (h : ℕ) → limit ≤ slice_index turns h → IsDead t n h
heavy t n turns net h high = by_turn (net.reached h)
  where
    by_turn : (slice_index turns h ≡ 0) ⊎ IsTurn t n h (slice_index turns h) → IsDead t n h
    by_turn (inl none) = absurd (omega (arith, none, high))
    by_turn (inr turn) =
        let s = laps_stop t n turns net turn.region h turn.reached.cost turn.reached.path in
        let a = turn.reached.most in
        let b = s.most in
        record { cost = s.cost; path = s.path; far = omega (arith, a, b, high) }

-- no lap costs more than what is known, below the limit
lap_most : (t : Table) (n : Numbered) (turns : List ℕ) → IsNet t n turns → (r : Region) → Contains n.regions r → (u c : ℕ) → u < length n.addresses → slice_index n.addresses u ≡ r.header → Path t n (To (aim.Lap r)) u c → slice_index turns u < limit → c ≤ slice_index turns u
lap_most t n turns net r among u c inside at path low = let h = net.most r among u c inside at path in omega (arith, h, low)

-- all laps but the first of the regions that begin at a unit
begins_none : (turn : Region → ℕ) (rs : List Region) (a : ℕ) → ((x : Region) → Contains rs x → a ≡ x.header → ⊥) → begins turn rs a ≡ 0
begins_none turn [] a none = refl
begins_none turn (r ∷ rs) a none = by_test (a == r.header) refl (begins_none turn rs a (λ x c is. none x (later r rs x c) is))
  where
    by_test : (b : Bool) → (a == r.header) ≡ b → begins turn rs a ≡ 0 → (let m : ℕ = (if b then (r.count - 1) * turn r else 0) in m) + begins turn rs a ≡ 0
    by_test true is rest = absurd (none r (first r rs) (eqb-true a r.header is))
    by_test false is rest = omega (arith, rest)

record IsOnly (turn : Region → ℕ) (rs : List Region) (a : ℕ) : Type 0 where
  region : Region
  among : Contains rs region
  at : a ≡ region.header
  is : begins turn rs a ≡ (region.count - 1) * turn region

begins_cases : (turn : Region → ℕ) (rs : List Region) (a : ℕ) → ((r x : Region) (c : Contains rs r) (d : Contains rs x) → d.0 < c.0 → r.header ≡ x.header → ⊥) → (begins turn rs a ≡ 0) ⊎ IsOnly turn rs a
begins_cases turn [] a apart = inl refl
begins_cases turn (r ∷ rs) a apart = by_test (a == r.header) refl
    (begins_cases turn rs a (λ y x c d less same. apart y x (suc c.0, (let h = c.1 in omega arith), c.2) (suc d.0, (let h = d.1 in omega arith), d.2) (omega arith) same))
  where
    by_test : (b : Bool) → (a == r.header) ≡ b → (begins turn rs a ≡ 0) ⊎ IsOnly turn rs a → (begins turn (r ∷ rs) a ≡ 0) ⊎ IsOnly turn (r ∷ rs) a
    by_test true is more =
        let here = ap (λ (b : Bool). let m : ℕ = (if b then (r.count - 1) * turn r else 0) in m) is in
        let rest = begins_none turn rs a (λ x c at. apart x r (suc c.0, (let h = c.1 in omega arith), c.2) (0, omega arith, refl) (omega arith) (sym at ∙ eqb-true a r.header is)) in
        inr (record { region = r; among = first r rs; at = eqb-true a r.header is; is = omega (arith, here, rest) })
    by_test false is (inl none) =
        let here = ap (λ (b : Bool). let m : ℕ = (if b then (r.count - 1) * turn r else 0) in m) is in
        inl (omega (arith, here, none))
    by_test false is (inr only) =
        let here = ap (λ (b : Bool). let m : ℕ = (if b then (r.count - 1) * turn r else 0) in m) is in
        let there = only.is in
        inr (record { region = only.region; among = later r rs only.region only.among; at = only.at; is = omega (arith, here, there) })

pub record IsBeginning (t : Table) (n : Numbered) (turns : List ℕ) (u : ℕ) : Type 0 where
  pub cost : ℕ
  pub path : Path t n Laps u cost
  pub most : begins (turn_at n.addresses turns) n.regions (slice_index n.addresses u) ≤ cost

pub begins_at : (t : Table) (n : Numbered) (turns : List ℕ) → IsNet t n turns → (u : ℕ) → u < length n.addresses → IsBeginning t n turns u
begins_at t n turns net u inside = by_region (begins_cases (turn_at n.addresses turns) n.regions (slice_index n.addresses u) net.apart)
  where
    by_region : (begins (turn_at n.addresses turns) n.regions (slice_index n.addresses u) ≡ 0) ⊎ IsOnly (turn_at n.addresses turns) n.regions (slice_index n.addresses u) → IsBeginning t n turns u
    by_region (inl none) = record { cost = 0; path = Once u; most = omega (arith, none) }
    by_region (inr only) = by_turn (net.reached u)
      where
        turn : turn_at n.addresses turns only.region ≡ slice_index turns u
        turn = ap (slice_index turns) (place_of n.addresses net.rise u only.region.header inside only.at)

        by_turn : (slice_index turns u ≡ 0) ⊎ IsTurn t n u (slice_index turns u) → IsBeginning t n turns u
        by_turn (inl none) =
            let e = only.is in
            let z = ap (λ m. (only.region.count - 1) * m) (turn ∙ none) in
            record { cost = 0; path = Once u; most = omega (arith, e, z) }
        by_turn (inr x) =
            let e = only.is in
            let same : only.region ≡ x.region = net.unique only.region x.region only.among x.among (sym only.at ∙ x.at) in
            let count = ap (λ (r : Region). (r.count - 1) * slice_index turns u) same in
            let z = ap (λ m. (only.region.count - 1) * m) turn in
            let g = mul-le-mul_left (x.region.count - 1) x.reached.most in
            record { cost = (x.region.count - 1) * x.reached.cost; path = Again x.region u x.reached.cost x.among x.inside x.at x.reached.path; most = omega (arith, e, count, z, g) }

-- along a way that doesn't lead back
pub forward : (t : Table) (n : Numbered) (turns : List ℕ) → IsNet t n turns → (to : Aim) (w : Way) → Contains n.ways w → w.back ≡ false → Keeps to w → (k : ℕ) → Path t n (Along w) w.from k → (m d : ℕ) → Near t n turns to w.to m d
    → Near t n turns to w.from (k + begins (turn_at n.addresses turns) n.regions (slice_index n.addresses w.to) + m) d
forward t n turns net to w among ahead keeps k along m d near = go w.to m d near refl
  where
    laps : IsBeginning t n turns w.to
    laps = begins_at t n turns net w.to (net.enters w among).1

    more : ℕ
    more = begins (turn_at n.addresses turns) n.regions (slice_index n.addresses w.to)

    enough : begins (turn_at n.addresses turns) n.regions (slice_index n.addresses w.to) ≤ laps.cost
    enough = laps.most

    go : (u m d : ℕ) → Near t n turns to u m d → u ≡ w.to → Near t n turns to w.from (k + begins (turn_at n.addresses turns) n.regions (slice_index n.addresses w.to) + m) d
    go q z f (Here u m d v path fits) same =
        Here w.from (k + begins (turn_at n.addresses turns) n.regions (slice_index n.addresses w.to) + m) d (k + laps.cost + v) (Goes to w k laps.cost v among ahead keeps along laps.path (subst (λ i. Path t n (To to) i v) same path)) (omega (arith, enough, fits))
    go q z f (Dead u m d v path far) same =
        Dead w.from (k + begins (turn_at n.addresses turns) n.regions (slice_index n.addresses w.to) + m) d (k + laps.cost + v) (Goes aim.Stop w k laps.cost v among ahead tt along laps.path (subst (λ i. Path t n (To aim.Stop) i v) same path)) (omega (arith, far))
    go q z f (Within r u h v m d c inside at held path far) same = by_held (is_held r w.edge.from)
      where
        by_held : (holds r w.edge.from ≡ true) ⊎ (holds r w.edge.from ≡ false) → Near t n turns to w.from (k + begins (turn_at n.addresses turns) n.regions (slice_index n.addresses w.to) + m) d
        by_held (inl in_it) = Within r w.from h v (k + begins (turn_at n.addresses turns) n.regions (slice_index n.addresses w.to) + m) d c inside at (subst (λ i. holds r i ≡ true) (sym (net.leaves w among).0) in_it) path far
        by_held (inr out) =
            let there : holds r w.edge.to ≡ true = subst (λ i. holds r i ≡ true) (ap (slice_index n.addresses) same ∙ (net.enters w among).0) held in
            let entry = (net.entered w among).enters r c there out in
            let one : h ≡ w.to = one_number n.addresses net.rise h w.to inside (net.enters w among).1 (at ∙ sym entry ∙ sym (net.enters w among).0) in
            Dead w.from (k + begins (turn_at n.addresses turns) n.regions (slice_index n.addresses w.to) + m) d (k + laps.cost + v) (Goes aim.Stop w k laps.cost v among ahead tt along laps.path (subst (λ i. Path t n (To aim.Stop) i v) one path)) (omega (arith, far))
    go q z f (Round r u h b y e m d c inside at held path near fits low) same = by_held (is_held r w.edge.from) (λ one. go h y e near one)
      where
        there : holds r w.edge.to ≡ true
        there = subst (λ i. holds r i ≡ true) (ap (slice_index n.addresses) same ∙ (net.enters w among).0) held

        by_held : (holds r w.edge.from ≡ true) ⊎ (holds r w.edge.from ≡ false) → (h ≡ w.to → Near t n turns to w.from (k + begins (turn_at n.addresses turns) n.regions (slice_index n.addresses w.to) + y) e)
            → Near t n turns to w.from (k + begins (turn_at n.addresses turns) n.regions (slice_index n.addresses w.to) + m) d
        by_held (inl in_it) rest =
            Round r w.from h (k + laps.cost + b) y e (k + begins (turn_at n.addresses turns) n.regions (slice_index n.addresses w.to) + m) d c inside at (subst (λ i. holds r i ≡ true) (sym (net.leaves w among).0) in_it)
            (Goes (aim.Lap r) w k laps.cost b among ahead (in_it, there) along laps.path (subst (λ i. Path t n (To (aim.Lap r)) i b) same path)) near (omega (arith, enough, fits)) low
        by_held (inr out) rest =
            let entry = (net.entered w among).enters r c there out in
            let one : h ≡ w.to = one_number n.addresses net.rise h w.to inside (net.enters w among).1 (at ∙ sym entry ∙ sym (net.enters w among).0) in
            let lap = lap_most t n turns net r c h b inside at (subst (λ i. Path t n (To (aim.Lap r)) i b) (same ∙ sym one) path) low in
            near_less t n turns to w.from (k + begins (turn_at n.addresses turns) n.regions (slice_index n.addresses w.to) + y) e (k + begins (turn_at n.addresses turns) n.regions (slice_index n.addresses w.to) + m) d (omega (arith, lap, fits)) (rest one)

-- along a way back to the header of a region
pub backward : (t : Table) (n : Numbered) (turns : List ℕ) → IsNet t n turns → (to : Aim) (w : Way) → Contains n.ways w → (r : Region) → Contains n.regions r → w.edge.to ≡ r.header → holds r w.edge.from ≡ true → (k : ℕ) → Path t n (Along w) w.from k → (m d : ℕ) → Near t n turns to w.to m d
    → Near t n turns to w.from (k + m) (d + slice_index turns w.to)
backward t n turns net to w among r c is within k along m d near = elim (cases_lt (slice_index turns w.to) limit) [
  | inl low ↦ Round r w.from w.to k m d (k + m) (d + slice_index turns w.to) c (net.enters w among).1 ((net.enters w among).0 ∙ is) (subst (λ i. holds r i ≡ true) (sym (net.leaves w among).0) within) (Closes r w k among is within along) near (omega arith) low
  | inr high ↦ let x = heavy t n turns net w.to high in Within r w.from w.to x.cost (k + m) (d + slice_index turns w.to) c (net.enters w among).1 ((net.enters w among).0 ∙ is) (subst (λ i. holds r i ≡ true) (sym (net.leaves w among).0) within) x.path x.far
]

-- a path as far, or one beyond the cap
pub record IsPath (t : Table) (n : Numbered) (to : Aim) (u m d : ℕ) : Type 0 where
  pub cost : ℕ
  pub path : Path t n (To to) u cost
  pub most : m ≤ cost + d

-- where each region that holds a unit begins there, a path is as far
pub drop_to : (t : Table) (n : Numbered) (turns : List ℕ) → IsNet t n turns → (to : Aim) (f : ℕ) → f < length n.addresses → ((r : Region) → Contains n.regions r → holds r (slice_index n.addresses f) ≡ true → slice_index n.addresses f ≡ r.header) → (m d : ℕ) → Near t n turns to f m d → IsPath t n to f m d ⊎ IsDead t n f
drop_to t n turns net to f within opening m d near = go f m d near refl
  where
    one : (u h : ℕ) (r : Region) → Contains n.regions r → u ≡ f → h < length n.addresses → slice_index n.addresses h ≡ r.header → holds r (slice_index n.addresses u) ≡ true → h ≡ f
    one u h r c same inside at held = one_number n.addresses net.rise h f inside within (at ∙ sym (opening r c (subst (λ i. holds r (slice_index n.addresses i) ≡ true) same held)))

    go : (u m d : ℕ) → Near t n turns to u m d → u ≡ f → IsPath t n to f m d ⊎ IsDead t n f
    go q z x (Here u m d v path fits) same = inl (record { cost = v; path = subst (λ i. Path t n (To to) i v) same path; most = fits })
    go q z x (Dead u m d v path far) same = inr (record { cost = v; path = subst (λ i. Path t n (To aim.Stop) i v) same path; far = far })
    go q z x (Within r u h v m d c inside at held path far) same = inr (record { cost = v; path = subst (λ i. Path t n (To aim.Stop) i v) (one u h r c same inside at held) path; far = far })
    go q z x (Round r u h b y e m d c inside at held path near fits low) same = by_rest (go h y e near (one u h r c same inside at held))
      where
        lap : b ≤ slice_index turns h
        lap = lap_most t n turns net r c h b inside at (subst (λ i. Path t n (To (aim.Lap r)) i b) (same ∙ sym (one u h r c same inside at held)) path) low

        by_rest : IsPath t n to f y e ⊎ IsDead t n f → IsPath t n to f m d ⊎ IsDead t n f
        by_rest (inl p) = let k = p.most in inl (record { cost = p.cost; path = p.path; most = omega (arith, lap, fits, k) })
        by_rest (inr dead) = inr dead
