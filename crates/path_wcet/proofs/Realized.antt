-- Each path is a walk over any activations.
use Rattle.std.proofs.Common.{◌≡◌, ◌≢◌, refl, sym, ap, subst, ◌∙◌, ℕ, zero, suc, ◌+◌, ◌-◌, ◌*◌, ◌<◌, ◌≤◌, Bool, true, false, List, [], ◌∷◌, length, arith, inl, inr, Option, Some, None}
use Rattle.std.specs.Prelude.{if◌then◌else◌, slice_index}
use Rattle.std.specs.List.{Contains}
use Rattle.mips_isa.specs.Kinds.{kind_of}
use Rattle.mips_isa.specs.declared.instr.Kind.TheVariants as kind
use Rattle.visa_io.specs.declared.records.Region.{Region}
use Rattle.flow_graph.specs.Edges.{edge_of}
use Rattle.flow_graph.specs.Flow.{Flow}
use Rattle.flow_graph.specs.Reached.{is_inner}
use Rattle.flow_graph.specs.declared.parts.Edge.{Edge}
use Rattle.flow_graph.specs.declared.parts.EdgeKind.{EdgeKind}
use Rattle.flow_graph.specs.declared.parts.EdgeKind.TheVariants.{Next, Taken, Call, Return, Over}
use Rattle.flow_graph.specs.declared.parts.Unit.{Unit as FlowUnit}
use Rattle.loop_regions.specs.Nested.{Numbered}
use Rattle.loop_regions.specs.Walks.{IsNewest, IsReturnPoint, holds, visits}
use Rattle.loop_regions.specs.Ways.{IsCalleeOf, IsWay}
use Rattle.loop_regions.specs.declared.ways.Way.{Way}
use Rattle.loop_regions.proofs.Visits.{is_header, visits_header, visits_other}
use Rattle.path_wcet.specs.declared.ahead.Aim.{Aim}
use Rattle.path_wcet.specs.declared.ahead.Aim.TheVariants as aim
use Rattle.path_wcet.specs.Known.{Table, called_by, entry_at, is_this, read}
use Rattle.path_wcet.specs.Longest.{AreCalls, IsOf, graph_with}
use Rattle.path_wcet.specs.Longest.IsOf.{First, Further}
use Rattle.path_wcet.specs.Paid.{IsPlain}
use Rattle.path_wcet.specs.Paths.{Goal, Keeps, Path, plain_amount}
use Rattle.path_wcet.specs.Paths.Goal.{To, Along, Laps}
use Rattle.path_wcet.specs.Paths.Path.{Again, Calls, Closes, Direct, Goes, Once, Returns, Stops, Through}
use Rattle.path_wcet.proofs.Reach.{no_bool, no_some}
use Rattle.path_wcet.proofs.Runs.{IsAllowed, IsRun, IsStopping, call_run, call_stop, first_allowed, run_edge, run_none, run_on, stop_on, visits_away, visits_most}

-- a unit with a return instruction that isn't where walks stop
pub record IsEnd (g : Flow) (to : Option ℕ) (a : ℕ) : Type 0 where
  pub unit : FlowUnit
  pub among : Contains g.units unit
  pub at : unit.at ≡ a
  pub returns : kind_of unit.first ≡ kind.Return
  pub off : is_this to a ≡ false

-- what a graph with its nest and its table keeps, at prices of edges with the units that they enter
pub record IsGround (g : Flow) (n : Numbered) (t : Table) (to : Option ℕ) (price : Edge → ℕ) : Type 0 where
  pub calls : AreCalls g
  pub edges : (w : Way) → Contains n.ways w → Contains g.edges w.edge × (is_inner w.edge.kind ≡ true)
  pub ways : (w : Way) → Contains n.ways w → IsWay n.addresses g.edges n.regions w
  pub behind : (w : Way) → Contains n.ways w → (r : Region) → Contains n.regions r → w.edge.to ≡ r.header → holds r w.edge.from ≡ true → w.back ≡ true
  pub last : (w : Way) → Contains n.ways w → is_this t.last w.from ≡ false → is_this to w.edge.from ≡ false
  pub plain : (w : Way) → Contains n.ways w → (k : ℕ) → plain_amount t w w.edge.kind ≡ Some k → k ≤ price w.edge
  pub call : (c : Edge) → Contains g.edges c → c.kind ≡ Call → (f : ℕ) → f < length n.addresses → slice_index n.addresses f ≡ c.to → read t.units f ≤ price c
  pub back : (b : Edge) → Contains g.edges b → b.kind ≡ Return → (u : ℕ) → u < length n.addresses → slice_index n.addresses u ≡ b.to → 2 + read t.units u ≤ price b
  pub ends : (u x : ℕ) → entry_at t.ends u ≡ Some x → (x ≡ 0) × IsEnd g to (slice_index n.addresses u)
  pub counted : (r : Region) → Contains n.regions r → 1 ≤ r.count
  pub header : (r : Region) → Contains n.regions r → holds r r.header ≡ true
  pub unique : (r x : Region) → Contains n.regions r → Contains n.regions x → r.header ≡ x.header → r ≡ x
  pub inside : (r x : Region) → Contains n.regions r → Contains n.regions x → holds x r.header ≡ true → (u : ℕ) → holds r u ≡ true → holds x u ≡ true
  pub outer : (r x : Region) → Contains n.regions r → Contains n.regions x → holds x r.header ≡ true → holds r x.header ≡ true → r.header ≡ x.header

-- a run to a return of the function
pub record IsReturning (g : Flow) (n : Numbered) (is_long : ℕ → Bool) (price : Edge → ℕ) (to : Option ℕ) (u : ℕ) (us : List ℕ) (v : ℕ) : Type 0 where
  pub units : List ℕ
  pub run : IsRun (graph_with g n is_long) price to us units v
  pub last : ℕ
  pub newest : IsNewest last units
  pub ends : IsEnd g to last
  pub of : (f : ℕ) → IsOf g f (slice_index n.addresses u) → IsOf g f last

-- a run to the header of a region
pub record IsLapping (g : Flow) (n : Numbered) (is_long : ℕ → Bool) (price : Edge → ℕ) (to : Option ℕ) (r : Region) (more : ℕ) (us : List ℕ) (v : ℕ) : Type 0 where
  pub units : List ℕ
  pub run : IsRun (graph_with g n is_long) price to us units v
  pub newest : IsNewest r.header units
  pub allowed : IsAllowed n.regions units
  pub own : visits r units ≡ visits r us + more
  pub others : (x : Region) → Contains n.regions x → holds x r.header ≡ true → x.header ≢ r.header → visits x units ≡ visits x us

-- all laps but the first
pub record IsTurning (g : Flow) (n : Numbered) (is_long : ℕ → Bool) (price : Edge → ℕ) (to : Option ℕ) (a : ℕ) (us : List ℕ) (v : ℕ) : Type 0 where
  pub units : List ℕ
  pub run : IsRun (graph_with g n is_long) price to us units v
  pub newest : IsNewest a units
  pub allowed : IsAllowed n.regions units
  pub others : (x : Region) → Contains n.regions x → holds x a ≡ true → x.header ≢ a → visits x units ≡ visits x us

-- what a path gives
abbrev pub IsDone : (g : Flow) (n : Numbered) (is_long : ℕ → Bool) (to : Option ℕ) (price : Edge → ℕ) → Goal → ℕ → ℕ → Type 0
IsDone g n is_long to price (To aim.Stop) u v = (us : List ℕ) → IsNewest (slice_index n.addresses u) us → IsAllowed n.regions us → IsStopping (graph_with g n is_long) price to us v
IsDone g n is_long to price (To aim.Return) u v = (us : List ℕ) → IsNewest (slice_index n.addresses u) us → IsAllowed n.regions us → IsReturning g n is_long price to u us v
IsDone g n is_long to price (To (aim.Lap r)) u v = Contains n.regions r → (us : List ℕ) → IsNewest (slice_index n.addresses u) us → IsAllowed n.regions us → visits r us + 1 ≤ r.count → IsLapping g n is_long price to r 1 us v
IsDone g n is_long to price (Along w) u v = Contains n.ways w → (us : List ℕ) → IsNewest w.edge.from us → IsAllowed n.regions (w.edge.to ∷ us) → IsRun (graph_with g n is_long) price to us (w.edge.to ∷ us) v
IsDone g n is_long to price Laps u v = (us : List ℕ) → IsNewest (slice_index n.addresses u) us → IsAllowed n.regions us → ((r : Region) → Contains n.regions r → slice_index n.addresses u ≡ r.header → visits r us ≡ 1) → IsTurning g n is_long price to (slice_index n.addresses u) us v

-- a way that doesn't lead back is allowed, and comes to a header for the first time
record IsForward (n : Numbered) (w : Way) (us : List ℕ) : Type 0 where
  allowed : IsAllowed n.regions (w.edge.to ∷ us)
  once : (r : Region) → Contains n.regions r → w.edge.to ≡ r.header → visits r (w.edge.to ∷ us) ≡ 1

forward : (g : Flow) (n : Numbered) (t : Table) (to : Option ℕ) (price : Edge → ℕ) → IsGround g n t to price → (w : Way) → Contains n.ways w → w.back ≡ false → (us : List ℕ) → IsNewest w.edge.from us → IsAllowed n.regions us → IsForward n w us
forward g n t to price x w among ahead us newest allowed = record { allowed = fits; once = once }
  where
    once : (r : Region) → Contains n.regions r → w.edge.to ≡ r.header → visits r (w.edge.to ∷ us) ≡ 1
    once r c is =
        let out : holds r w.edge.from ≡ false = by_held r c is (holds r w.edge.from) refl in
        let none = visits_away r w.edge.from us newest out in
        let more = visits_header r w.edge.to us (subst (λ v. holds r v ≡ true) (sym is) (x.header r c)) is in
        omega (arith, none, more)
      where
        by_held : (q : Region) → Contains n.regions q → w.edge.to ≡ q.header → (b : Bool) → holds q w.edge.from ≡ b → b ≡ false
        by_held q c is true within = no_bool (sym (x.behind w among q c is within) ∙ ahead)
        by_held q c is false within = refl

    fits : IsAllowed n.regions (w.edge.to ∷ us)
    fits r c = elim (is_header r w.edge.to) [ inl is ↦ let h = once r c is in let k = x.counted r c in omega (arith, h, k) | inr differ ↦ let h = visits_most r w.edge.to us differ in let k = allowed r c in omega (arith, h, k) ]

-- a way, the laps where it leads, and what is ahead there
record IsOnward (g : Flow) (n : Numbered) (is_long : ℕ → Bool) (price : Edge → ℕ) (to : Option ℕ) (w : Way) (us : List ℕ) (v : ℕ) : Type 0 where
  units : List ℕ
  run : IsRun (graph_with g n is_long) price to us units v
  newest : IsNewest (slice_index n.addresses w.to) units
  allowed : IsAllowed n.regions units
  others : (x : Region) → Contains n.regions x → holds x w.edge.to ≡ true → x.header ≢ w.edge.to → visits x units ≡ visits x us

onward : (g : Flow) (n : Numbered) (t : Table) (is_long : ℕ → Bool) (to : Option ℕ) (price : Edge → ℕ) → IsGround g n t to price → (w : Way) (k b : ℕ) → Contains n.ways w → w.back ≡ false → IsDone g n is_long to price (Along w) w.from k → IsDone g n is_long to price Laps w.to b
    → (us : List ℕ) → IsNewest (slice_index n.addresses w.from) us → IsAllowed n.regions us → IsOnward g n is_long price to w us (k + b)
onward g n t is_long to price x w k b among ahead along laps us newest allowed =
    let way = x.ways w among in
    let start : IsNewest w.edge.from us = subst (λ v. IsNewest v us) way.leaves newest in
    let f = forward g n t to price x w among ahead us start allowed in
    let one = along among us start f.allowed in
    let at : slice_index n.addresses w.to ≡ w.edge.to = way.enters in
    let two = laps (w.edge.to ∷ us) (sym at) f.allowed (λ r c is. f.once r c (sym at ∙ is)) in
    record {
      units = two.units;
      run = run_on (graph_with g n is_long) price to us (w.edge.to ∷ us) two.units k b (k + b) (omega arith) one two.run;
      newest = two.newest;
      allowed = two.allowed;
      others = λ y c within differ. two.others y c (subst (λ v. holds y v ≡ true) (sym at) within) (λ e. differ (e ∙ at)) ∙ visits_other y w.edge.to us within (λ e. differ (sym e));
    }

-- laps, one after the other
laps_run : (g : Flow) (n : Numbered) (t : Table) (is_long : ℕ → Bool) (to : Option ℕ) (price : Edge → ℕ) → IsGround g n t to price → (r : Region) → Contains n.regions r → (u c : ℕ) → slice_index n.addresses u ≡ r.header → IsDone g n is_long to price (To (aim.Lap r)) u c
    → (k : ℕ) (us : List ℕ) → IsNewest r.header us → IsAllowed n.regions us → visits r us + k ≤ r.count → IsLapping g n is_long price to r k us (k * c)
laps_run g n t is_long to price x r among u c at lap zero us newest allowed fits = record {
  units = us;
  run = run_on (graph_with g n is_long) price to us us us 0 0 (0 * c) (omega arith) (run_none (graph_with g n is_long) price to us) (run_none (graph_with g n is_long) price to us);
  newest = newest;
  allowed = allowed;
  own = omega arith;
  others = λ y d within differ. refl;
}
laps_run g n t is_long to price x r among u c at lap (suc k) us newest allowed fits =
    let one = lap among us (subst (λ v. IsNewest v us) (sym at) newest) allowed (omega (arith, fits)) in
    let e = one.own in
    let two = laps_run g n t is_long to price x r among u c at lap k one.units one.newest one.allowed (omega (arith, fits, e)) in
    let d = two.own in
    record {
      units = two.units;
      run = run_on (graph_with g n is_long) price to us one.units two.units c (k * c) (suc k * c) (omega arith) one.run two.run;
      newest = two.newest;
      allowed = two.allowed;
      own = omega (arith, d, e);
      others = λ y q within differ. two.others y q within differ ∙ one.others y q within differ;
    }

-- the call of a way over one
record IsCallOf (g : Flow) (n : Numbered) (t : Table) (to : Option ℕ) (w : Way) (f : ℕ) : Type 0 where
  inside : f < length n.addresses
  among : Contains g.edges (edge_of w.edge.from (slice_index n.addresses f) Call)
  off : is_this to w.edge.from ≡ false
  over : w.edge.kind ≡ Over

call_of : (g : Flow) (n : Numbered) (t : Table) (to : Option ℕ) (price : Edge → ℕ) → IsGround g n t to price → (w : Way) → Contains n.ways w → (f : ℕ) → called_by t w w.edge.kind ≡ Some f → IsCallOf g n t to w f
call_of g n t to price x w among f called = by_kind w.edge.kind refl called
  where
    by_last : (b : Bool) → is_this t.last w.from ≡ b → (if b then None else w.callee) ≡ Some f → w.edge.kind ≡ Over → IsCallOf g n t to w f
    by_last true off is over = no_some f is
    by_last false off is over =
        let there = subst (IsCalleeOf n.addresses g.edges w.edge.from) is ((x.ways w among).callee over) in
        record { inside = there.0; among = there.1; off = x.last w among off; over = over }

    by_kind : (k : EdgeKind) → w.edge.kind ≡ k → called_by t w k ≡ Some f → IsCallOf g n t to w f
    by_kind Next at is = no_some f is
    by_kind Taken at is = no_some f is
    by_kind Call at is = no_some f is
    by_kind Return at is = no_some f is
    by_kind Over at is = by_last (is_this t.last w.from) refl is at

-- where a function begins
first_once : (g : Flow) (n : Numbered) (t : Table) (to : Option ℕ) (price : Edge → ℕ) → IsGround g n t to price → (a : ℕ) (r : Region) → Contains n.regions r → a ≡ r.header → visits r (a ∷ []) ≡ 1
first_once g n t to price x a r c is = let h = visits_header r a [] (subst (λ v. holds r v ≡ true) (sym is) (x.header r c)) is in omega (arith, h)

plain_kind : (t : Table) (w : Way) (k : ℕ) (q : EdgeKind) → plain_amount t w q ≡ Some k → IsPlain q
plain_kind t w k Next is = tt
plain_kind t w k Taken is = tt
plain_kind t w k Call is = no_some k is
plain_kind t w k Return is = no_some k is
plain_kind t w k Over is = no_some k is

return_point : (a b : ℕ) (us : List ℕ) → IsNewest a us → b ≡ a + 8 → IsReturnPoint b us
return_point a b [] newest is = absurd newest
return_point a b (u ∷ us) newest is = is ∙ ap (λ v. v + 8) (sym newest)

pub realize : (g : Flow) (n : Numbered) (t : Table) (is_long : ℕ → Bool) (to : Option ℕ) (price : Edge → ℕ) → IsGround g n t to price → (goal : Goal) (u v : ℕ) → Path t n goal u v → IsDone g n is_long to price goal u v
realize g n t is_long to price x (To aim.Stop) a z (Stops u inside) = λ us newest allowed. record { edges = []; walk = λ s. tt; off = tt; most = omega arith }
realize g n t is_long to price x (To aim.Return) a z (Returns u m is) = λ us newest allowed.
    let e = x.ends u m is in
    record {
      units = us;
      run = run_on (graph_with g n is_long) price to us us us 0 0 m (let z = e.0 in omega arith) (run_none (graph_with g n is_long) price to us) (run_none (graph_with g n is_long) price to us);
      last = slice_index n.addresses u;
      newest = newest;
      ends = e.1;
      of = λ f o. o;
    }
realize g n t is_long to price x (To (aim.Lap y)) a z (Closes r w k among is within path) = closes (realize g n t is_long to price x (Along w) w.from k path)
  where
    closes : IsDone g n is_long to price (Along w) w.from k → IsDone g n is_long to price (To (aim.Lap r)) w.from k
    closes along c us newest allowed fits =
        let start : IsNewest w.edge.from us = subst (λ a. IsNewest a us) (x.ways w among).leaves newest in
        let more = visits_header r w.edge.to us (subst (λ a. holds r a ≡ true) (sym is) (x.header r c)) is in
        let fine : IsAllowed n.regions (w.edge.to ∷ us) = λ y d. elim (is_header y w.edge.to) [
          | inl same ↦ subst (λ (q : Region). visits q (w.edge.to ∷ us) ≤ q.count) (x.unique r y c d (sym is ∙ same)) (omega (arith, more, fits))
          | inr differ ↦ let h = visits_most y w.edge.to us differ in let a = allowed y d in omega (arith, h, a)
        ] in
        record {
          units = w.edge.to ∷ us;
          run = along among us start fine;
          newest = is;
          allowed = fine;
          own = omega (arith, more);
          others = λ y d held differ. visits_other y w.edge.to us (subst (λ a. holds y a ≡ true) (sym is) held) (λ e. differ (sym e ∙ is));
        }
realize g n t is_long to price x (To y) a z (Goes q w k b m among ahead keeps along laps rest) =
    goes q keeps (realize g n t is_long to price x (Along w) w.from k along) (realize g n t is_long to price x Laps w.to b laps) (realize g n t is_long to price x (To q) w.to m rest)
  where
    goes : (z : Aim) → Keeps z w → IsDone g n is_long to price (Along w) w.from k → IsDone g n is_long to price Laps w.to b → IsDone g n is_long to price (To z) w.to m → IsDone g n is_long to price (To z) w.from (k + b + m)
    goes aim.Stop kept one two three = λ us newest allowed.
        let o = onward g n t is_long to price x w k b among ahead one two us newest allowed in
        stop_on (graph_with g n is_long) price to us o.units (k + b) m (k + b + m) (omega arith) o.run (three o.units o.newest o.allowed)
    goes aim.Return kept one two three = λ us newest allowed.
        let o = onward g n t is_long to price x w k b among ahead one two us newest allowed in
        let r = three o.units o.newest o.allowed in
        let way = x.ways w among in
        record {
          units = r.units;
          run = run_on (graph_with g n is_long) price to us o.units r.units (k + b) m (k + b + m) (omega arith) o.run r.run;
          last = r.last;
          newest = r.newest;
          ends = r.ends;
          of = λ f of. r.of f (subst (IsOf g f) (sym way.enters) (Further w.edge (x.edges w among).0 (x.edges w among).1 (subst (IsOf g f) way.leaves of)));
        }
    goes (aim.Lap r) kept one two three = λ c us newest allowed fits.
        let o = onward g n t is_long to price x w k b among ahead one two us newest allowed in
        let aside : r.header ≢ w.edge.to = λ e. no_bool (sym (x.behind w among r c (sym e) kept.0) ∙ ahead) in
        let own = o.others r c kept.1 aside in
        let l = three c o.units o.newest o.allowed (omega (arith, own, fits)) in
        let last = l.own in
        record {
          units = l.units;
          run = run_on (graph_with g n is_long) price to us o.units l.units (k + b) m (k + b + m) (omega arith) o.run l.run;
          newest = l.newest;
          allowed = l.allowed;
          own = omega (arith, last, own);
          others = λ y d held differ. l.others y d held differ ∙ o.others y d (x.inside r y c d held w.edge.to kept.1) (λ e. differ (sym (x.outer r y c d held (subst (λ a. holds r a ≡ true) (sym e) kept.1))));
        }
realize g n t is_long to price x (To aim.Stop) a z (Calls w f b m among called laps rest) =
    calls (realize g n t is_long to price x Laps f b laps) (realize g n t is_long to price x (To aim.Stop) f m rest)
  where
    calls : IsDone g n is_long to price Laps f b → IsDone g n is_long to price (To aim.Stop) f m → IsDone g n is_long to price (To aim.Stop) w.from (read t.units f + b + m)
    calls two three us newest allowed =
        let c = call_of g n t to price x w among f called in
        let start : IsNewest w.edge.from us = subst (λ a. IsNewest a us) (x.ways w among).leaves newest in
        let fine = first_allowed n.regions x.counted (slice_index n.addresses f) in
        let l = two (slice_index n.addresses f ∷ []) refl fine (λ r d is. first_once g n t to price x (slice_index n.addresses f) r d is) in
        let s = stop_on (graph_with g n is_long) price to (slice_index n.addresses f ∷ []) l.units b m (b + m) (omega arith) l.run (three l.units l.newest l.allowed) in
        let paid = x.call (edge_of w.edge.from (slice_index n.addresses f) Call) c.among refl f c.inside refl in
        call_stop (graph_with g n is_long) price to us (edge_of w.edge.from (slice_index n.addresses f) Call) (b + m) (read t.units f + b + m) c.among refl start fine c.off s (omega (arith, paid))
realize g n t is_long to price x (Along y) a z (Direct w k off is) = λ among us newest allowed.
    run_edge (graph_with g n is_long) price to us w.edge k (x.edges w among).0 (plain_kind t w k w.edge.kind is) newest allowed (x.last w among off) (x.plain w among k is)
realize g n t is_long to price x (Along y) a z (Through w f b m called laps rest) =
    through (realize g n t is_long to price x Laps f b laps) (realize g n t is_long to price x (To aim.Return) f m rest)
  where
    through : IsDone g n is_long to price Laps f b → IsDone g n is_long to price (To aim.Return) f m → IsDone g n is_long to price (Along w) w.from (read t.units f + b + m + 2 + read t.units w.to)
    through two three among us newest allowed =
        let c = call_of g n t to price x w among f called in
        let call : Edge = edge_of w.edge.from (slice_index n.addresses f) Call in
        let fine = first_allowed n.regions x.counted (slice_index n.addresses f) in
        let l = two (slice_index n.addresses f ∷ []) refl fine (λ r d is. first_once g n t to price x (slice_index n.addresses f) r d is) in
        let r = three l.units l.newest l.allowed in
        let run = run_on (graph_with g n is_long) price to (slice_index n.addresses f ∷ []) l.units r.units b m (b + m) (omega arith) l.run r.run in
        let point : w.edge.to ≡ w.edge.from + 8 = x.calls.points w.edge (x.edges w among).0 c.over in
        let back : Edge = edge_of r.last w.edge.to Return in
        let end = r.ends in
        let behind : Contains g.edges back =
        subst (λ a. Contains g.edges (edge_of r.last a Return)) (sym point) (subst (λ a. Contains g.edges (edge_of a (w.edge.from + 8) Return)) end.at
        (x.calls.back call c.among refl end.unit end.among end.returns (subst (IsOf g (slice_index n.addresses f)) (sym end.at) (r.of (slice_index n.addresses f) First)))) in
        let way = x.ways w among in
        let first = x.call call c.among refl f c.inside refl in
        let second = x.back back behind refl w.to way.enters_in way.enters in
        call_run (graph_with g n is_long) price to us r.units call back (b + m) (read t.units f + b + m + 2 + read t.units w.to) c.among refl newest fine c.off run behind refl r.newest (return_point w.edge.from w.edge.to us newest point) allowed end.off (omega (arith, first, second))
realize g n t is_long to price x Laps a z (Once u) = λ us newest allowed once. record {
  units = us;
  run = run_none (graph_with g n is_long) price to us;
  newest = newest;
  allowed = allowed;
  others = λ y c within differ. refl;
}
realize g n t is_long to price x Laps a z (Again r u c among inside at path) = again (realize g n t is_long to price x (To (aim.Lap r)) u c path)
  where
    again : IsDone g n is_long to price (To (aim.Lap r)) u c → IsDone g n is_long to price Laps u ((r.count - 1) * c)
    again lap us newest allowed once =
        let first = once r among at in
        let k = x.counted r among in
        let l = laps_run g n t is_long to price x r among u c at lap (r.count - 1) us (subst (λ a. IsNewest a us) at newest) allowed (omega (arith, first, k)) in
        record {
          units = l.units;
          run = l.run;
          newest = subst (λ a. IsNewest a l.units) (sym at) l.newest;
          allowed = l.allowed;
          others = λ y d within differ. l.others y d (subst (λ a. holds y a ≡ true) at within) (λ e. differ (e ∙ sym at));
        }
