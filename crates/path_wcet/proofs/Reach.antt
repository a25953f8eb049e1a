-- What a way offers is reached, where what is known before is.
use Rattle.std.proofs.Common.{◌≡◌, refl, sym, ap, subst, ◌∙◌, ℕ, ◌+◌, ◌-◌, ◌*◌, ◌≤◌, min, Bool, true, false, List, arith, ◌⊎◌, inl, inr, Option, Some, None}
use Rattle.std.specs.Prelude.{◌==◌, if◌then◌else◌, nat_lt, slice_index}
use Rattle.std.proofs.Math.Nat.{mul-le-mul_left}
use Rattle.std.proofs.lemmas.Bool.{eqb-true}
use Rattle.std.proofs.lemmas.Bool.Decides.{nat_tests}
use Rattle.flow_graph.specs.declared.parts.EdgeKind.{EdgeKind}
use Rattle.flow_graph.specs.declared.parts.EdgeKind.TheVariants.{Next, Taken, Call, Return, Over}
use Rattle.loop_regions.specs.Nested.{Numbered}
use Rattle.loop_regions.specs.Walks.{holds}
use Rattle.loop_regions.specs.declared.ways.Way.{Way}
use Rattle.path_wcet.specs.declared.ahead.Aim.{Aim}
use Rattle.path_wcet.specs.declared.ahead.Aim.TheVariants as aim
use Rattle.path_wcet.specs.Known.{Table, amount, call_amount, called_amount, called_by, call_stop, capped, entry, entry_at, is_this, kind_amount, lap, limit, offered, offered_below, onward, over_amount, read, sum}
use Rattle.path_wcet.specs.Paths.{AreReached, IsFitting, IsReached, IsTurn, Keeps, Path, plain_amount}
use Rattle.path_wcet.specs.Paths.Goal.{To, Along, Laps}
use Rattle.path_wcet.specs.Paths.Path.{Calls, Closes, Direct, Goes, Once, Again, Through}
use Rattle.path_wcet.specs.Settled.{AreKnown}

pub some_is : (a b : ℕ) → Some a ≡ Some b → a ≡ b
some_is a b e = cc

pub no_some : {X : Type 0} (a : ℕ) → None ≡ Some a → X
no_some a e = absurd (let b : ⊥ = cc in b)

pub no_bool : {X : Type 0} → true ≡ false → X
no_bool e = absurd (let b : ⊥ = cc in b)

-- an entry that is read is there
pub record IsEntry (base : ℕ) (xs : List (Option ℕ)) (u m : ℕ) : Type 0 where
  pub above : base ≤ u
  pub value : ℕ
  pub there : entry_at xs (u - base) ≡ Some value
  pub is : m ≡ min limit value

pub entry_cases : (base : ℕ) (xs : List (Option ℕ)) (u m : ℕ) → entry base xs u ≡ Some m → IsEntry base xs u m
entry_cases base xs u m is = by_test (nat_lt u base) refl (entry_at xs (u - base)) refl is
  where
    by_test : (b : Bool) → nat_lt u base ≡ b → (o : Option ℕ) → entry_at xs (u - base) ≡ o → (if b then None else capped o) ≡ Some m → IsEntry base xs u m
    by_test true low o at e = no_some m e
    by_test false low None at e = no_some m e
    by_test false low (Some y) at e = record { above = grind (arith, nat_tests); value = y; there = at; is = sym (some_is (min limit y) m e) }

pub read_reached : (t : Table) (n : Numbered) (to : Aim) (base : ℕ) (xs : List (Option ℕ)) → AreReached t n to base xs → (u m : ℕ) → entry base xs u ≡ Some m → IsReached t n (To to) u m
read_reached t n to base xs reached u m is =
    let e = entry_cases base xs u m is in
    let r = reached (u - base) e.value e.there in
    let same : base + (u - base) ≡ u = (let h = e.above in omega arith) in
    record { cost = r.cost; path = subst (λ v. Path t n (To to) v r.cost) same r.path; most = (let a = e.is in let b = r.most in omega arith) }

-- laps
pub lap_reached : (t : Table) (n : Numbered) (turns : List ℕ) (rets : List (Option ℕ)) → AreKnown t n turns rets → (u : ℕ) → IsReached t n Laps u (lap t turns u)
lap_reached t n turns rets known u = by_turn (known.turns_are u)
  where
    by_turn : (slice_index turns u ≡ 0) ⊎ IsTurn t n u (slice_index turns u) → IsReached t n Laps u (lap t turns u)
    by_turn (inl none) =
        let z = ap (λ (m : ℕ). (slice_index t.counts u - 1) * m) none in
        record { cost = 0; path = Once u; most = omega (arith, z) }
    by_turn (inr turn) =
        let c = ap (λ (m : ℕ). (m - 1) * slice_index turns u) (known.counts turn.region turn.among u turn.inside turn.at) in
        let more = mul-le-mul_left (turn.region.count - 1) turn.reached.most in
        record { cost = (turn.region.count - 1) * turn.reached.cost; path = Again turn.region u turn.reached.cost turn.among turn.inside turn.at turn.reached.path; most = omega (arith, c, more) }

-- ways
pub amount_reached : (t : Table) (n : Numbered) (turns : List ℕ) (rets : List (Option ℕ)) → AreKnown t n turns rets → (w : Way) (k : ℕ) → amount t turns rets w ≡ Some k → IsReached t n (Along w) w.from k
amount_reached t n turns rets known w k is = by_last (is_this t.last w.from) refl w.edge.kind refl is
  where
    over : is_this t.last w.from ≡ false → w.edge.kind ≡ Over → (c : Option ℕ) → w.callee ≡ c → over_amount t turns rets c w.to ≡ Some k → IsReached t n (Along w) w.from k
    over off at None c e = no_some k e
    over off at (Some f) c e = by_entry (entry 0 rets f) refl e
      where
        called : called_by t w w.edge.kind ≡ Some f
        called = ap (called_by t w) at ∙ ap (λ (b : Bool). let o : Option ℕ = (if b then None else w.callee) in o) off ∙ c

        by_entry : (o : Option ℕ) → entry 0 rets f ≡ o → called_amount t turns o f w.to ≡ Some k → IsReached t n (Along w) w.from k
        by_entry None o e = no_some k e
        by_entry (Some m) o e =
            let r = read_reached t n aim.Return 0 rets known.rets_are f m o in
            let l = lap_reached t n turns rets known f in
            let s = some_is (call_amount t turns f m w.to) k e in
            let a = r.most in
            let b = l.most in
            record { cost = read t.units f + l.cost + r.cost + 2 + read t.units w.to; path = Through w f l.cost r.cost called l.path r.path; most = omega (arith, s, a, b) }

    by_last : (b : Bool) → is_this t.last w.from ≡ b → (kd : EdgeKind) → w.edge.kind ≡ kd → (if b then None else kind_amount t turns rets w kd) ≡ Some k → IsReached t n (Along w) w.from k
    by_last true off kd at e = no_some k e
    by_last false off Next at e = record { cost = read t.next w.from + read t.units w.to; path = Direct w (read t.next w.from + read t.units w.to) off (ap (plain_amount t w) at); most = let s = some_is (read t.next w.from + read t.units w.to) k e in omega arith }
    by_last false off Taken at e = record { cost = read t.taken w.from + read t.units w.to; path = Direct w (read t.taken w.from + read t.units w.to) off (ap (plain_amount t w) at); most = let s = some_is (read t.taken w.from + read t.units w.to) k e in omega arith }
    by_last false off Call at e = no_some k e
    by_last false off Return at e = no_some k e
    by_last false off Over at e = over off at w.callee refl e

-- a sum's parts
pub record IsSum (k : Option ℕ) (l : ℕ) (x : Option ℕ) (v : ℕ) : Type 0 where
  pub way : ℕ
  pub way_is : k ≡ Some way
  pub ahead : ℕ
  pub ahead_is : x ≡ Some ahead
  pub is : v ≡ min limit (way + l + ahead)

pub sum_cases : (k : Option ℕ) (l : ℕ) (x : Option ℕ) (v : ℕ) → sum k l x ≡ Some v → IsSum k l x v
sum_cases None l x v is = no_some v is
sum_cases (Some k) l None v is = no_some v is
sum_cases (Some k) l (Some x) v is = record { way = k; way_is = refl; ahead = x; ahead_is = refl; is = sym (some_is (min limit (k + l + x)) v is) }

pub onward_cases : (t : Table) (turns : List ℕ) (rets : List (Option ℕ)) (w : Way) (x : Option ℕ) (v : ℕ) → onward t turns rets w x ≡ Some v → (w.back ≡ false) × IsSum (amount t turns rets w) (lap t turns w.to) x v
onward_cases t turns rets w x v is = by_back w.back refl is
  where
    by_back : (b : Bool) → w.back ≡ b → (if b then None else sum (amount t turns rets w) (lap t turns w.to) x) ≡ Some v → (w.back ≡ false) × IsSum (amount t turns rets w) (lap t turns w.to) x v
    by_back true at e = no_some v e
    by_back false at e = (at, sum_cases (amount t turns rets w) (lap t turns w.to) x v e)

onward_reached : (t : Table) (n : Numbered) (to : Aim) (turns : List ℕ) (rets : List (Option ℕ)) (base : ℕ) (xs : List (Option ℕ)) (w : Way) → AreKnown t n turns rets → AreReached t n to base xs → IsFitting n to w → Keeps to w
    → (v : ℕ) → onward t turns rets w (entry base xs w.to) ≡ Some v → IsReached t n (To to) w.from v
onward_reached t n to turns rets base xs w known reached fits keeps v is =
    let o = onward_cases t turns rets w (entry base xs w.to) v is in
    let a = amount_reached t n turns rets known w o.1.way o.1.way_is in
    let l = lap_reached t n turns rets known w.to in
    let r = read_reached t n to base xs reached w.to o.1.ahead o.1.ahead_is in
    let p = a.most in
    let q = l.most in
    let s = r.most in
    let e = o.1.is in
    record { cost = a.cost + l.cost + r.cost; path = Goes to w a.cost l.cost r.cost fits.among o.0 keeps a.path l.path r.path; most = omega (arith, p, q, s, e) }

lap_cases : (o : Option ℕ) (v : ℕ) → capped o ≡ Some v → (k : ℕ) × (o ≡ Some k) × (v ≡ min limit k)
lap_cases None v is = no_some v is
lap_cases (Some k) v is = (k, refl, sym (some_is (min limit k) v is))

pub offered_reached : (t : Table) (n : Numbered) (to : Aim) (turns : List ℕ) (rets : List (Option ℕ)) (base : ℕ) (xs : List (Option ℕ)) (w : Way) → AreKnown t n turns rets → AreReached t n to base xs → IsFitting n to w
    → (v : ℕ) → offered t to turns rets w (entry base xs w.to) ≡ Some v → IsReached t n (To to) w.from v
offered_reached t n aim.Stop turns rets base xs w known reached fits v is = onward_reached t n aim.Stop turns rets base xs w known reached fits tt v is
offered_reached t n aim.Return turns rets base xs w known reached fits v is = onward_reached t n aim.Return turns rets base xs w known reached fits tt v is
offered_reached t n (aim.Lap r) turns rets base xs w known reached fits v is = by_header (w.edge.to == r.header) refl (holds r w.edge.to) refl is
  where
    by_header : (h : Bool) → (w.edge.to == r.header) ≡ h → (q : Bool) → holds r w.edge.to ≡ q → (if h then capped (amount t turns rets w) else (if q then onward t turns rets w (entry base xs w.to) else None)) ≡ Some v → IsReached t n (To (aim.Lap r)) w.from v
    by_header true header q within e =
        let c = lap_cases (amount t turns rets w) v e in
        let a = amount_reached t n turns rets known w c.0 c.1 in
        let p = a.most in
        let s = c.2 in
        record { cost = a.cost; path = Closes r w a.cost fits.among (eqb-true w.edge.to r.header header) fits.begins a.path; most = omega (arith, p, s) }
    by_header false header true within e = onward_reached t n (aim.Lap r) turns rets base xs w known reached fits (fits.begins, within) v e
    by_header false header false within e = no_some v e

pub below_reached : (t : Table) (n : Numbered) (to : Aim) (turns : List ℕ) (rets : List (Option ℕ)) (base : ℕ) (xs : List (Option ℕ)) (w : Way) → AreKnown t n turns rets → AreReached t n to base xs → IsFitting n to w
    → (v : ℕ) → offered_below t to turns base xs w ≡ Some v → IsReached t n (To to) w.from v
below_reached t n aim.Return turns rets base xs w known reached fits v is = no_some v is
below_reached t n (aim.Lap r) turns rets base xs w known reached fits v is = no_some v is
below_reached t n aim.Stop turns rets base xs w known reached fits v is = by_callee (called_by t w w.edge.kind) refl is
  where
    by_callee : (o : Option ℕ) → called_by t w w.edge.kind ≡ o → call_stop t turns base xs o ≡ Some v → IsReached t n (To aim.Stop) w.from v
    by_callee None called e = no_some v e
    by_callee (Some f) called e =
        let s = sum_cases (Some (read t.units f)) (lap t turns f) (entry base xs f) v e in
        let u = some_is (read t.units f) s.way s.way_is in
        let l = lap_reached t n turns rets known f in
        let r = read_reached t n aim.Stop base xs reached f s.ahead s.ahead_is in
        let p = l.most in
        let q = r.most in
        let i = s.is in
        record { cost = read t.units f + l.cost + r.cost; path = Calls w f l.cost r.cost fits.among called l.path r.path; most = omega (arith, u, p, q, i) }
