-- No path costs more than what is found.
use Rattle.std.proofs.Common.{◌≡◌, refl, sym, ap, subst, ◌∙◌, ℕ, zero, suc, ◌+◌, ◌-◌, ◌*◌, ◌<◌, ◌≤◌, min, Bool, true, false, List, length, arith, inl, inr, Option, Some, None, eq-eqb}
use Rattle.std.specs.Prelude.{◌==◌, if◌then◌else◌, nat_lt, slice_index}
use Rattle.std.specs.List.{Contains}
use Rattle.std.specs.List.Sorted.{IsStrictlyIncreasing}
use Rattle.std.proofs.Math.Nat.{mul-le-mul_left}
use Rattle.std.proofs.lemmas.Bool.{eqb-true}
use Rattle.std.proofs.lemmas.Bool.Decides.{nat_tests}
use Rattle.std.proofs.lemmas.List.Elements.{All-contains}
use Rattle.visa_io.specs.declared.records.Region.{Region}
use Rattle.flow_graph.specs.declared.parts.EdgeKind.{EdgeKind}
use Rattle.flow_graph.specs.declared.parts.EdgeKind.TheVariants.{Next, Taken, Call, Return, Over}
use Rattle.loop_regions.specs.Nested.{Numbered}
use Rattle.loop_regions.specs.Walks.{holds}
use Rattle.loop_regions.specs.declared.ways.Way.{Way}
use Rattle.loop_regions.proofs.FreeWays.{one_number}
use Rattle.loop_regions.proofs.Visits.{other_number}
use Rattle.path_wcet.specs.declared.ahead.Aim.{Aim}
use Rattle.path_wcet.specs.declared.ahead.Aim.TheVariants as aim
use Rattle.path_wcet.specs.Known.{IsFar, IsPaid, IsSatisfied, Table, amount, call_stop, called_amount, called_by, capped, entry, entry_at, is_this, kind_amount, lap, limit, offered, offered_below, onward, over_amount, read, sum}
use Rattle.path_wcet.specs.Paths.{AreCounts, Goal, Path, plain_amount}
use Rattle.path_wcet.specs.Paths.Goal.{To, Along, Laps}
use Rattle.path_wcet.specs.Paths.Path.{Again, Calls, Closes, Direct, Goes, Once, Returns, Stops, Through}
use Rattle.path_wcet.specs.Settled.{AreStops, IsFound}
use Rattle.path_wcet.proofs.Reach.{no_bool, no_some}

-- ways back are known
abbrev pub AreBack : Numbered → Type 0
AreBack n = (w : Way) → Contains n.ways w → (r : Region) → Contains n.regions r → w.edge.to ≡ r.header → holds r w.edge.from ≡ true → w.back ≡ true

-- the entry of a unit is there and at least this
pub record IsFarAt (base : ℕ) (xs : List (Option ℕ)) (u n : ℕ) : Type 0 where
  pub above : base ≤ u
  pub far : IsFar (entry_at xs (u - base)) n

far_some : (o : Option ℕ) (v : ℕ) → IsFar o v → (m : ℕ) × (o ≡ Some m) × (v ≤ m)
far_some None v far = absurd far
far_some (Some m) v far = (m, refl, far)

pub far_less : (o : Option ℕ) (v w : ℕ) → w ≤ v → IsFar o v → IsFar o w
far_less None v w less far = far
far_less (Some m) v w less far = omega arith

far_paid : (o p : Option ℕ) (v w : ℕ) → p ≡ Some v → w ≤ v → IsPaid o p → IsFar o w
far_paid o p v w is less paid = far_less o v w less (subst (IsPaid o) is paid)

-- what is read of such an entry
pub read_far : (base : ℕ) (xs : List (Option ℕ)) (u n : ℕ) → IsFarAt base xs u n → (m : ℕ) × (entry base xs u ≡ Some m) × (min limit n ≤ m)
read_far base xs u n f = by_test (nat_lt u base) refl (far_some (entry_at xs (u - base)) n f.far)
  where
    by_test : (b : Bool) → nat_lt u base ≡ b → (m : ℕ) × (entry_at xs (u - base) ≡ Some m) × (n ≤ m) → (m : ℕ) × ((if b then None else capped (entry_at xs (u - base))) ≡ Some m) × (min limit n ≤ m)
    by_test true low s = let above = f.above in absurd (let h : u < base = grind (arith, nat_tests) in omega (arith, above, h))
    by_test false low s = (min limit s.0, ap capped s.1, let h = s.2 in omega (arith, h))

-- what is known of a goal
abbrev pub IsMet : (t : Table) (n : Numbered) (turns : List ℕ) (rets stops : List (Option ℕ)) → IsFound t n turns rets → Goal → ℕ → ℕ → Type 0
IsMet t n turns rets stops found (To aim.Stop) u v = IsFarAt 0 stops u (min limit v)
IsMet t n turns rets stops found (To aim.Return) u v = IsFarAt 0 rets u (min limit v)
IsMet t n turns rets stops found (To (aim.Lap r)) u v = (c : Contains n.regions r) → IsFarAt (found.turned r c).0.base (found.turned r c).3.inner u (min limit v)
IsMet t n turns rets stops found (Along w) u v = (k : ℕ) × (amount t turns rets w ≡ Some k) × (min limit v ≤ k)
IsMet t n turns rets stops found Laps u v = min limit v ≤ lap t turns u

onward_far : (t : Table) (turns : List ℕ) (rets : List (Option ℕ)) (w : Way) (x : Option ℕ) (k b v : ℕ) → w.back ≡ false → (a : ℕ) → amount t turns rets w ≡ Some a → min limit k ≤ a → min limit b ≤ lap t turns w.to → (m : ℕ) → x ≡ Some m → min limit v ≤ m
    → (y : ℕ) × (onward t turns rets w x ≡ Some y) × (min limit (k + b + v) ≤ y)
onward_far t turns rets w x k b v ahead a is ka kb m at kv = (
  min limit (a + lap t turns w.to + m),
  ap (λ (q : Bool). let o : Option ℕ = (if q then None else sum (amount t turns rets w) (lap t turns w.to) x) in o) ahead ∙ ap (λ (o : Option ℕ). sum o (lap t turns w.to) x) is ∙ ap (sum (Some a) (lap t turns w.to)) at,
  omega (arith, ka, kb, kv),
)

lap_grows : (k c t : ℕ) → min limit c ≤ t → min limit (k * c) ≤ k * t
lap_grows zero c t h = omega arith
lap_grows (suc k) c t h = elim (Rattle.std.proofs.lemmas.Bool.cases_lt t limit) [
  | inl low ↦ let e : c ≤ t = omega arith in let m = mul-le-mul_left (suc k) e in omega (arith, m)
  | inr high ↦ let m = mul-le-mul_left (suc k) high in let p : limit ≤ suc k * limit = omega arith in omega (arith, m, p)
]

-- what is known of laps where a lap's path is known
pub turn_far : (t : Table) (n : Numbered) (turns : List ℕ) (rets : List (Option ℕ)) → IsStrictlyIncreasing n.addresses → (found : IsFound t n turns rets) → (r : Region) (among : Contains n.regions r) (u k : ℕ) → u < length n.addresses → slice_index n.addresses u ≡ r.header
    → IsFarAt (found.turned r among).0.base (found.turned r among).3.inner u (min limit k) → min limit k ≤ slice_index turns u
turn_far t n turns rets rise found r among u k inside at far =
    let x = found.turned r among in
    let same : x.0.header ≡ u = one_number n.addresses rise x.0.header u x.1.inside inside (x.1.at ∙ ap (λ (q : Region). q.header) x.2 ∙ sym at) in
    let y = read_far x.0.base x.3.inner u (min limit k) far in
    let most = x.3.least y.0 (ap (entry x.0.base x.3.inner) same ∙ y.1) in
    let e = ap (slice_index turns) same in
    let h = y.2 in
    omega (arith, most, e, h)

pub met : (t : Table) (n : Numbered) (turns : List ℕ) (rets stops : List (Option ℕ)) → IsStrictlyIncreasing n.addresses → AreBack n → (found : IsFound t n turns rets) → AreStops t n turns rets stops → (goal : Goal) (u v : ℕ) → Path t n goal u v → IsMet t n turns rets stops found goal u v
met t n turns rets stops rise back found stopped (To aim.Stop) q z (Stops u inside) = record { above = omega arith; far = far_less (entry_at stops (u - 0)) 0 (min limit 0) (omega arith) (subst (λ k. IsFar (entry_at stops k) 0) (let e : u ≡ u - 0 = omega arith in e) (stopped.there u inside)) }
met t n turns rets stops rise back found stopped (To aim.Return) q z (Returns u x is) = record { above = omega arith; far = far_less (entry_at rets (u - 0)) x (min limit x) (omega arith) (subst (λ k. IsFar (entry_at rets k) x) (let e : u ≡ u - 0 = omega arith in e) (found.still u x (subst (λ (o : Option ℕ). IsFar o x) (sym is) (omega arith)))) }
met t n turns rets stops rise back found stopped (To (aim.Lap y)) q z (Closes r w k among to within path) =
    closes (met t n turns rets stops rise back found stopped (Along w) w.from k path)
  where
    closes : (a : ℕ) × (amount t turns rets w ≡ Some a) × (min limit k ≤ a) → (c : Contains n.regions r) → IsFarAt (found.turned r c).0.base (found.turned r c).3.inner w.from (min limit k)
    closes a c =
        let x = found.turned r c in
        let own = x.1.every w among (subst (λ (q : Region). holds q w.edge.from ≡ true) (sym x.2) within) in
        let s = All-contains (IsSatisfied t (aim.Lap x.0.region) turns rets x.0.base x.3.inner) x.0.ways w x.3.satisfied own in
        let i = All-contains (Rattle.path_wcet.specs.Known.IsWithin x.0.base x.0.len) x.0.ways w x.1.within own in
        let at : (w.edge.to == x.0.region.header) ≡ true = eq-eqb w.edge.to x.0.region.header (to ∙ ap (λ (q : Region). q.header) (sym x.2)) in
        let e : offered t (aim.Lap x.0.region) turns rets w (entry x.0.base x.3.inner w.to) ≡ Some (min limit a.0) =
        ap (λ (q : Bool). let o : Option ℕ = (if q then capped (amount t turns rets w) else (if holds x.0.region w.edge.to then onward t turns rets w (entry x.0.base x.3.inner w.to) else None)) in o) at ∙ ap capped a.1 in
        record { above = i.above; far = far_paid (entry_at x.3.inner (w.from - x.0.base)) (offered t (aim.Lap x.0.region) turns rets w (entry x.0.base x.3.inner w.to)) (min limit a.0) (min limit k) e (let h = a.2 in omega (arith, h)) s.along }
met t n turns rets stops rise back found stopped (To y) q z (Goes to w k b x among ahead keeps along laps rest) =
    goes to keeps (met t n turns rets stops rise back found stopped (Along w) w.from k along) (met t n turns rets stops rise back found stopped Laps w.to b laps) (met t n turns rets stops rise back found stopped (To to) w.to x rest)
  where
    goes : (q : Aim) → Rattle.path_wcet.specs.Paths.Keeps q w → (a : ℕ) × (amount t turns rets w ≡ Some a) × (min limit k ≤ a) → min limit b ≤ lap t turns w.to → IsMet t n turns rets stops found (To q) w.to x → IsMet t n turns rets stops found (To q) w.from (k + b + x)
    goes aim.Stop kept a l m =
        let y = read_far 0 stops w.to (min limit x) m in
        let o = onward_far t turns rets w (entry 0 stops w.to) k b x ahead a.0 a.1 a.2 l y.0 y.1 (let h = y.2 in omega (arith, h)) in
        let s = All-contains (IsSatisfied t aim.Stop turns rets 0 stops) n.ways w stopped.satisfied among in
        record { above = omega arith; far = far_paid (entry_at stops (w.from - 0)) (onward t turns rets w (entry 0 stops w.to)) o.0 (min limit (k + b + x)) o.1 o.2 s.along }
    goes aim.Return kept a l m =
        let y = read_far 0 rets w.to (min limit x) m in
        let o = onward_far t turns rets w (entry 0 rets w.to) k b x ahead a.0 a.1 a.2 l y.0 y.1 (let h = y.2 in omega (arith, h)) in
        let s = All-contains (IsSatisfied t aim.Return turns rets 0 rets) n.ways w found.satisfied among in
        record { above = omega arith; far = far_paid (entry_at rets (w.from - 0)) (onward t turns rets w (entry 0 rets w.to)) o.0 (min limit (k + b + x)) o.1 o.2 s.along }
    goes (aim.Lap r) kept a l m = λ c.
        let f = found.turned r c in
        let y = read_far f.0.base f.3.inner w.to (min limit x) (m c) in
        let o = onward_far t turns rets w (entry f.0.base f.3.inner w.to) k b x ahead a.0 a.1 a.2 l y.0 y.1 (let h = y.2 in omega (arith, h)) in
        let own = f.1.every w among (subst (λ (q : Region). holds q w.edge.from ≡ true) (sym f.2) kept.0) in
        let s = All-contains (IsSatisfied t (aim.Lap f.0.region) turns rets f.0.base f.3.inner) f.0.ways w f.3.satisfied own in
        let i = All-contains (Rattle.path_wcet.specs.Known.IsWithin f.0.base f.0.len) f.0.ways w f.1.within own in
        let aside : (w.edge.to == f.0.region.header) ≡ false = other_number w.edge.to f.0.region.header (λ e. no_bool (sym (back w among r c (e ∙ ap (λ (q : Region). q.header) f.2) kept.0) ∙ ahead)) in
        let inside : holds f.0.region w.edge.to ≡ true = subst (λ (q : Region). holds q w.edge.to ≡ true) (sym f.2) kept.1 in
        let e : offered t (aim.Lap f.0.region) turns rets w (entry f.0.base f.3.inner w.to) ≡ Some o.0 =
        ap (λ (q : Bool). let p : Option ℕ = (if q then capped (amount t turns rets w) else (if holds f.0.region w.edge.to then onward t turns rets w (entry f.0.base f.3.inner w.to) else None)) in p) aside
        ∙ ap (λ (q : Bool). let p : Option ℕ = (if q then onward t turns rets w (entry f.0.base f.3.inner w.to) else None) in p) inside ∙ o.1 in
        record { above = i.above; far = far_paid (entry_at f.3.inner (w.from - f.0.base)) (offered t (aim.Lap f.0.region) turns rets w (entry f.0.base f.3.inner w.to)) o.0 (min limit (k + b + x)) e o.2 s.along }
met t n turns rets stops rise back found stopped (To aim.Stop) q z (Calls w f b x among called laps rest) =
    calls (met t n turns rets stops rise back found stopped Laps f b laps) (met t n turns rets stops rise back found stopped (To aim.Stop) f x rest)
  where
    calls : min limit b ≤ lap t turns f → IsFarAt 0 stops f (min limit x) → IsFarAt 0 stops w.from (min limit (read t.units f + b + x))
    calls l m =
        let y = read_far 0 stops f (min limit x) m in
        let s = All-contains (IsSatisfied t aim.Stop turns rets 0 stops) n.ways w stopped.satisfied among in
        let e : offered_below t aim.Stop turns 0 stops w ≡ Some (min limit (read t.units f + lap t turns f + y.0)) = ap (call_stop t turns 0 stops) called ∙ ap (sum (Some (read t.units f)) (lap t turns f)) y.1 in
        record { above = omega arith; far = far_paid (entry_at stops (w.from - 0)) (offered_below t aim.Stop turns 0 stops w) (min limit (read t.units f + lap t turns f + y.0)) (min limit (read t.units f + b + x)) e (let h = y.2 in omega (arith, h, l)) s.below }
met t n turns rets stops rise back found stopped (Along y) q z (Direct w k off is) = (k, direct w.edge.kind refl is, omega arith)
  where
    last : (kd : EdgeKind) → w.edge.kind ≡ kd → amount t turns rets w ≡ kind_amount t turns rets w kd
    last kd at = ap (λ (b : Bool). let o : Option ℕ = (if b then None else kind_amount t turns rets w w.edge.kind) in o) off ∙ ap (kind_amount t turns rets w) at

    direct : (kd : EdgeKind) → w.edge.kind ≡ kd → plain_amount t w kd ≡ Some k → amount t turns rets w ≡ Some k
    direct Next at e = last Next at ∙ e
    direct Taken at e = last Taken at ∙ e
    direct Call at e = no_some k e
    direct Return at e = no_some k e
    direct Over at e = no_some k e
met t n turns rets stops rise back found stopped (Along y) q z (Through w f b m called laps rest) =
    through w.edge.kind refl called (met t n turns rets stops rise back found stopped Laps f b laps) (met t n turns rets stops rise back found stopped (To aim.Return) f m rest)
  where
    amount_is : (off : Bool) → is_this t.last w.from ≡ off → (if off then None else w.callee) ≡ Some f → w.edge.kind ≡ Over → (y : ℕ) → entry 0 rets f ≡ Some y → amount t turns rets w ≡ Some (read t.units f + lap t turns f + y + 2 + read t.units w.to)
    amount_is true off e at y is = no_some f e
    amount_is false off e at y is =
        ap (λ (q : Bool). let o : Option ℕ = (if q then None else kind_amount t turns rets w w.edge.kind) in o) off ∙ ap (kind_amount t turns rets w) at ∙ ap (λ (c : Option ℕ). over_amount t turns rets c w.to) e ∙ ap (λ (o : Option ℕ). called_amount t turns o f w.to) is

    through : (kd : EdgeKind) → w.edge.kind ≡ kd → called_by t w kd ≡ Some f → min limit b ≤ lap t turns f → IsFarAt 0 rets f (min limit m)
        → (k : ℕ) × (amount t turns rets w ≡ Some k) × (min limit (read t.units f + b + m + 2 + read t.units w.to) ≤ k)
    through Next at e l far = no_some f e
    through Taken at e l far = no_some f e
    through Call at e l far = no_some f e
    through Return at e l far = no_some f e
    through Over at e l far =
        let y = read_far 0 rets f (min limit m) far in
        (read t.units f + lap t turns f + y.0 + 2 + read t.units w.to, amount_is (is_this t.last w.from) refl e at y.0 y.1, let h = y.2 in omega (arith, h, l))
met t n turns rets stops rise back found stopped Laps q z (Once u) = omega arith
met t n turns rets stops rise back found stopped Laps q z (Again r u c among inside at path) = again (met t n turns rets stops rise back found stopped (To (aim.Lap r)) u c path among)
  where
    again : IsFarAt (found.turned r among).0.base (found.turned r among).3.inner u (min limit c) → min limit ((r.count - 1) * c) ≤ lap t turns u
    again far =
        let turn = turn_far t n turns rets rise found r among u c inside at far in
        let count = found.known.counts r among u inside at in
        let e = ap (λ m. (m - 1) * slice_index turns u) count in
        let g = lap_grows (r.count - 1) c (slice_index turns u) turn in
        omega (arith, e, g)
