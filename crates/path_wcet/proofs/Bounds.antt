-- No legal walk costs more than what can be ahead of its first unit.
use Rattle.std.proofs.Common.{◌≡◌, refl, sym, ap, subst, ◌∙◌, ℕ, ◌+◌, ◌≤◌, true, List, [], ◌∷◌, arith}
use Rattle.std.specs.List.{Contains}
use Rattle.visa_io.specs.declared.records.Region.{Region}
use Rattle.flow_graph.specs.Edges.{edge_of}
use Rattle.flow_graph.specs.Reached.{is_inner}
use Rattle.flow_graph.specs.declared.parts.Edge.{Edge}
use Rattle.flow_graph.specs.declared.parts.EdgeKind.{EdgeKind}
use Rattle.flow_graph.specs.declared.parts.EdgeKind.TheVariants.{Next, Taken, Call, Return, Over}
use Rattle.loop_regions.specs.Walks.{Comes, IsLegal, IsReturnPoint, IsWalk, LoopGraph, alone, follow, holds, open_from, visits}
use Rattle.path_wcet.specs.Slack.{begins, entering, returning, slack}
use Rattle.path_wcet.specs.Paid.{AreEntered, IsPlain, cost}
use Rattle.path_wcet.proofs.Laps.{slack_step, begins_slack}

-- along an edge that costs m with what follows, less d: as much is ahead of its first unit, with the laps that it enters and
-- without the one that it uses up
pub record IsPaying (turn : Region → ℕ) (rs : List Region) (far : ℕ → ℕ → ℕ → Type 0) (e : Edge) (m d : ℕ) : Type 0 where
  pub value : ℕ
  pub debt : ℕ
  pub there : far e.from value debt
  pub enough : m + entering turn rs e.from e.to + debt ≤ value + returning turn rs e.from e.to + d

-- `stop u n d`: n less d can be ahead of unit u in its function and in those that it calls; `ret u n d`: to a return of its function;
-- `back`: what a return to a unit costs, with that unit
pub record AreAhead (g : LoopGraph) (price : Edge → ℕ) (back : ℕ → ℕ) (turn : Region → ℕ) (stop ret : ℕ → ℕ → ℕ → Type 0) : Type 0 where
  pub entered : (e : Edge) → Contains g.edges e → is_inner e.kind ≡ true → AreEntered g.regions e
  pub plain : (e : Edge) → Contains g.edges e → IsPlain e.kind → (n d : ℕ) → stop e.to n d → IsPaying turn g.regions stop e (price e + n) d
  pub plain_ret : (e : Edge) → Contains g.edges e → IsPlain e.kind → (n d : ℕ) → ret e.to n d → IsPaying turn g.regions ret e (price e + n) d
  pub call : (c : Edge) → Contains g.edges c → c.kind ≡ Call → (n d : ℕ) → stop c.to n d → (m e : ℕ) × stop c.from m e × (price c + begins turn g.regions c.to + n + e ≤ m + d)
  pub called : (c : Edge) → Contains g.edges c → c.kind ≡ Call → Contains g.edges (edge_of c.from (c.from + 8) Over)
  pub called_in : (c : Edge) → Contains g.edges c → c.kind ≡ Call → (r : Region) → Contains g.regions r → holds r c.to ≡ true → c.to ≡ r.header
  pub over : (c : Edge) → Contains g.edges c → c.kind ≡ Call → (m f n d : ℕ) → ret c.to m f → stop (c.from + 8) n d
      → IsPaying turn g.regions stop (edge_of c.from (c.from + 8) Over) (price c + begins turn g.regions c.to + m + back (c.from + 8) + n) (f + d)
  pub over_ret : (c : Edge) → Contains g.edges c → c.kind ≡ Call → (m f n d : ℕ) → ret c.to m f → ret (c.from + 8) n d
      → IsPaying turn g.regions ret (edge_of c.from (c.from + 8) Over) (price c + begins turn g.regions c.to + m + back (c.from + 8) + n) (f + d)
  pub return : (b : Edge) → Contains g.edges b → b.kind ≡ Return → (price b ≤ back b.to) × ret b.from 0 0
  pub stops : (u : ℕ) → stop u 0 0

-- after so much cost the open activations keep within a bound: whatever the top one does ends below it, and so does what
-- follows where it returns
abbrev pub Fits : (turn : Region → ℕ) (rs : List Region) (stop ret : ℕ → ℕ → ℕ → Type 0) (back : ℕ → ℕ) (bound : ℕ) → ℕ → List ℕ → List (List ℕ) → ℕ → Type 0
Fits turn rs stop ret back bound u us [] c = (n d : ℕ) → stop u n d → c + slack turn rs (u ∷ us) + n ≤ bound + d
Fits turn rs stop ret back bound u us (vs ∷ s) c =
    ((n d : ℕ) → stop u n d → c + slack turn rs (u ∷ us) + n ≤ bound + d)
    × ((x d : ℕ) → ret u x d → (p : ℕ) → IsReturnPoint p vs → ((r : Region) → Contains rs r → visits r (p ∷ vs) ≤ r.count) → (k : ℕ) → k + d ≤ c + slack turn rs (u ∷ us) + x + back p → Fits turn rs stop ret back bound p vs s k)

fits_most : (turn : Region → ℕ) (rs : List Region) (stop ret : ℕ → ℕ → ℕ → Type 0) (back : ℕ → ℕ) (bound u : ℕ) (us : List ℕ) (s : List (List ℕ)) (c : ℕ) → Fits turn rs stop ret back bound u us s c → (n d : ℕ) → stop u n d → c + slack turn rs (u ∷ us) + n ≤ bound + d
fits_most turn rs stop ret back bound u us [] c f = f
fits_most turn rs stop ret back bound u us (vs ∷ s) c f = f.0

-- an edge inside a function that costs k less f
record IsStep (turn : Region → ℕ) (rs : List Region) (stop ret : ℕ → ℕ → ℕ → Type 0) (e : Edge) (k f : ℕ) : Type 0 where
  entered : AreEntered rs e
  stops : (n d : ℕ) → stop e.to n d → IsPaying turn rs stop e (k + n) (f + d)
  returns : (n d : ℕ) → ret e.to n d → IsPaying turn rs ret e (k + n) (f + d)

fits_step : (turn : Region → ℕ) (rs : List Region) (stop ret : ℕ → ℕ → ℕ → Type 0) (back : ℕ → ℕ) (bound : ℕ) (e : Edge) (k f : ℕ) → IsStep turn rs stop ret e k f → (us : List ℕ) (s : List (List ℕ)) (c j : ℕ) → j + f ≤ c + k
    → ((r : Region) → Contains rs r → visits r (e.to ∷ (e.from ∷ us)) ≤ r.count) → Fits turn rs stop ret back bound e.from us s c → Fits turn rs stop ret back bound e.to (e.from ∷ us) s j
fits_step turn rs stop ret back bound e k f step us s c j less allowed fit = by_stack s fit
  where
    slacks : slack turn rs (e.to ∷ (e.from ∷ us)) + returning turn rs e.from e.to ≤ slack turn rs (e.from ∷ us) + entering turn rs e.from e.to
    slacks = slack_step turn rs e.from e.to us (λ r among. record { header = step.entered.header r among; enter = step.entered.enters r among }) allowed

    here : ((n d : ℕ) → stop e.from n d → c + slack turn rs (e.from ∷ us) + n ≤ bound + d) → (n d : ℕ) → stop e.to n d → j + slack turn rs (e.to ∷ (e.from ∷ us)) + n ≤ bound + d
    here h n d far =
        let p = step.stops n d far in
        let m = h p.value p.debt p.there in
        let q = p.enough in
        omega (arith, m, q, slacks)

    by_stack : (t : List (List ℕ)) → Fits turn rs stop ret back bound e.from us t c → Fits turn rs stop ret back bound e.to (e.from ∷ us) t j
    by_stack [] h = here h
    by_stack (vs ∷ t) h = (
      here h.0,
      λ x d is p point fine i most.
          let q = step.returns x d is in
          let pay = q.enough in
          h.1 q.value q.debt q.there p point fine i (omega (arith, pay, slacks, most)),
    )

-- the newest unit on top
abbrev Holds : (turn : Region → ℕ) (rs : List Region) (stop ret : ℕ → ℕ → ℕ → Type 0) (back : ℕ → ℕ) (bound : ℕ) → List (List ℕ) → ℕ → Type 0
Holds turn rs stop ret back bound [] c = ⊥
Holds turn rs stop ret back bound ([] ∷ s) c = ⊥
Holds turn rs stop ret back bound ((u ∷ us) ∷ s) c = Fits turn rs stop ret back bound u us s c

inner_plain : (k : EdgeKind) → IsPlain k → is_inner k ≡ true
inner_plain Next p = refl
inner_plain Taken p = refl
inner_plain Call p = absurd p
inner_plain Return p = absurd p
inner_plain Over p = absurd p

plain_goes : (g : LoopGraph) (price : Edge → ℕ) (back : ℕ → ℕ) (turn : Region → ℕ) (stop ret : ℕ → ℕ → ℕ → Type 0) → AreAhead g price back turn stop ret → (bound : ℕ)
    → (e : Edge) → Contains g.edges e → IsPlain e.kind → (u : ℕ) (us : List ℕ) (s : List (List ℕ)) (c : ℕ) → u ≡ e.from → ((r : Region) → Contains g.regions r → visits r (e.to ∷ (u ∷ us)) ≤ r.count)
    → Fits turn g.regions stop ret back bound u us s c → Fits turn g.regions stop ret back bound e.to (u ∷ us) s (c + price e)
plain_goes g price back turn stop ret a bound e among plain u us s c new legal h =
    subst (λ v. Fits turn g.regions stop ret back bound e.to (v ∷ us) s (c + price e)) (sym new)
    (fits_step turn g.regions stop ret back bound e (price e) 0
    (record { entered = a.entered e among (inner_plain e.kind plain); stops = λ n d far. pay stop n d (a.plain e among plain n d far); returns = λ n d far. pay ret n d (a.plain_ret e among plain n d far) }) us s c (c + price e) (omega arith)
    (subst (λ v. (r : Region) → Contains g.regions r → visits r (e.to ∷ (v ∷ us)) ≤ r.count) new legal) (subst (λ v. Fits turn g.regions stop ret back bound v us s c) new h))
  where
    pay : (far : ℕ → ℕ → ℕ → Type 0) (n d : ℕ) → IsPaying turn g.regions far e (price e + n) d → IsPaying turn g.regions far e (price e + n) (0 + d)
    pay far n d p = record { value = p.value; debt = p.debt; there = p.there; enough = let q = p.enough in omega (arith, q) }

call_goes : (g : LoopGraph) (price : Edge → ℕ) (back : ℕ → ℕ) (turn : Region → ℕ) (stop ret : ℕ → ℕ → ℕ → Type 0) → AreAhead g price back turn stop ret → (bound : ℕ)
    → (e : Edge) → Contains g.edges e → e.kind ≡ Call → (u : ℕ) (us : List ℕ) (s : List (List ℕ)) (c : ℕ) → u ≡ e.from
    → Fits turn g.regions stop ret back bound u us s c → Fits turn g.regions stop ret back bound e.to [] ((u ∷ us) ∷ s) (c + price e)
call_goes g price back turn stop ret a bound e among called u us s c new h = (
  λ n d far.
      let m = a.call e among called n d far in
      let most = fits_most turn g.regions stop ret back bound u us s c h m.0 m.1 (subst (λ v. stop v m.0 m.1) (sym new) m.2) in
      let p = m.3 in
      omega (arith, most, p, starts),
  λ x d is p point allowed i fits.
      let at : p ≡ e.from + 8 = point ∙ ap (λ v. v + 8) new in
      let same = ap back at in
      let o : Edge = edge_of e.from (e.from + 8) Over in
      let k : ℕ = price e + begins turn g.regions e.to + x + back (e.from + 8) in
      let step : IsStep turn g.regions stop ret o k d = record { entered = a.entered o (a.called e among called) refl; stops = λ n f far. a.over e among called x d n f is far; returns = λ n f far. a.over_ret e among called x d n f is far } in
      subst (λ v. Fits turn g.regions stop ret back bound v (u ∷ us) s i) (sym at)
      (subst (λ v. Fits turn g.regions stop ret back bound (e.from + 8) (v ∷ us) s i) (sym new)
      (fits_step turn g.regions stop ret back bound o k d step us s c i (omega (arith, starts, fits, same))
      (subst (λ v. (r : Region) → Contains g.regions r → visits r (v ∷ (e.from ∷ us)) ≤ r.count) at (subst (λ v. (r : Region) → Contains g.regions r → visits r (p ∷ (v ∷ us)) ≤ r.count) new allowed))
      (subst (λ v. Fits turn g.regions stop ret back bound v us s c) new h))),
)
  where
    starts : slack turn g.regions (e.to ∷ []) ≤ begins turn g.regions e.to
    starts = begins_slack turn g.regions e.to (λ r there. a.called_in e among called r there)

goes : (g : LoopGraph) (price : Edge → ℕ) (back : ℕ → ℕ) (turn : Region → ℕ) (stop ret : ℕ → ℕ → ℕ → Type 0) → AreAhead g price back turn stop ret → (bound : ℕ)
    → (e : Edge) → Contains g.edges e → (kind : EdgeKind) → e.kind ≡ kind → (s : List (List ℕ)) (c : ℕ) → Comes kind e.from e.to s → IsLegal g.regions (follow kind e.to s)
    → Holds turn g.regions stop ret back bound s c → Holds turn g.regions stop ret back bound (follow kind e.to s) (c + price e)
goes g price back turn stop ret a bound e among kind is [] c comes legal h = absurd h
goes g price back turn stop ret a bound e among kind is ([] ∷ s) c comes legal h = absurd h
goes g price back turn stop ret a bound e among Over is ((u ∷ us) ∷ s) c comes legal h = absurd comes
goes g price back turn stop ret a bound e among Next is ((u ∷ us) ∷ s) c comes legal h = plain_goes g price back turn stop ret a bound e among (subst IsPlain (sym is) tt) u us s c comes legal h
goes g price back turn stop ret a bound e among Taken is ((u ∷ us) ∷ s) c comes legal h = plain_goes g price back turn stop ret a bound e among (subst IsPlain (sym is) tt) u us s c comes legal h
goes g price back turn stop ret a bound e among Call is ((u ∷ us) ∷ s) c comes legal h = call_goes g price back turn stop ret a bound e among is u us s c comes h
goes g price back turn stop ret a bound e among Return is ((u ∷ us) ∷ []) c comes legal h = absurd comes
goes g price back turn stop ret a bound e among Return is ((u ∷ us) ∷ vs ∷ s) c comes legal h =
    let r = a.return e among is in
    let p = r.0 in
    h.1 0 0 (subst (λ v. ret v 0 0) (sym comes.0) r.1) e.to comes.1 legal (c + price e) (omega (arith, p))

-- along a walk
held : (g : LoopGraph) (price : Edge → ℕ) (back : ℕ → ℕ) (turn : Region → ℕ) (stop ret : ℕ → ℕ → ℕ → Type 0) → AreAhead g price back turn stop ret → (bound : ℕ) (start c : ℕ)
    → ((n d : ℕ) → stop start n d → c + slack turn g.regions (start ∷ []) + n ≤ bound + d) → (es : List Edge) → IsWalk g (alone start) es → Holds turn g.regions stop ret back bound (open_from (alone start) es) (c + cost price es)
held g price back turn stop ret a bound start c first [] walk = λ n d far. let h = first n d far in omega (arith, h)
held g price back turn stop ret a bound start c first (e ∷ es) walk =
    let before = held g price back turn stop ret a bound start c first es walk.0 in
    let after = goes g price back turn stop ret a bound e walk.1 e.kind refl (open_from (alone start) es) (c + cost price es) walk.2 walk.3 before in
    subst (Holds turn g.regions stop ret back bound (follow e.kind e.to (open_from (alone start) es))) (let h : c + cost price es + price e ≡ c + (price e + cost price es) = omega arith in h) after

holds_most : (turn : Region → ℕ) (rs : List Region) (stop ret : ℕ → ℕ → ℕ → Type 0) (back : ℕ → ℕ) (bound : ℕ) → ((u : ℕ) → stop u 0 0) → (s : List (List ℕ)) (c : ℕ) → Holds turn rs stop ret back bound s c → c ≤ bound
holds_most turn rs stop ret back bound stops [] c h = absurd h
holds_most turn rs stop ret back bound stops ([] ∷ s) c h = absurd h
holds_most turn rs stop ret back bound stops ((u ∷ us) ∷ s) c h = let m = fits_most turn rs stop ret back bound u us s c h 0 0 (stops u) in omega (arith, m)

pub walk_fits : (g : LoopGraph) (price : Edge → ℕ) (back : ℕ → ℕ) (turn : Region → ℕ) (stop ret : ℕ → ℕ → ℕ → Type 0) → AreAhead g price back turn stop ret
    → (start : ℕ) → ((r : Region) → Contains g.regions r → holds r start ≡ true → start ≡ r.header) → (c bound : ℕ) → ((n d : ℕ) → stop start n d → c + begins turn g.regions start + n ≤ bound + d)
    → (es : List Edge) → IsWalk g (alone start) es → c + cost price es ≤ bound
walk_fits g price back turn stop ret a start at c bound most es walk =
    holds_most turn g.regions stop ret back bound a.stops (open_from (alone start) es) (c + cost price es)
    (held g price back turn stop ret a bound start c (λ n d far. let h = begins_slack turn g.regions start at in let m = most n d far in omega (arith, h, m)) es walk)
