-- The edges that are built are those of the code.
use Rattle.std.proofs.Common.{ℕ, ◌+◌, ◌<◌, ◌≡◌, inl, inr, refl, sym, ap, subst, ◌∙◌, Bool, true, false, if◌then◌else◌, Option, Some, None, List, [], ◌∷◌, Contains, length, get_or, arith}
use Rattle.std.proofs.lemmas.Grind.{get_or_default_zero}
use Rattle.std.proofs.lemmas.List.Elements.{Contains-get_or}
use Rattle.visa_io.specs.declared.records.Code.{Code}
use Rattle.mips_isa.specs.Kinds.{kind_of}
use Rattle.mips_isa.specs.Prediction.{single_edge_of}
use Rattle.mips_isa.specs.declared.instr.Instr.{Instr}
use Rattle.mips_isa.specs.declared.instr.Kind.{Kind}
use Rattle.mips_isa.specs.declared.instr.Kind.TheVariants as kind
use Rattle.flow_graph.specs.Build.{AreFunctions}
use Rattle.flow_graph.specs.Code.{instr_at, passes}
use Rattle.flow_graph.specs.EdgeLists.{IsPointAmong, own_upto, return_edge}
use Rattle.flow_graph.specs.Edges.{edge_of, target_of}
use Rattle.flow_graph.specs.Faults.{edges_if, is_faulty, leads_from, own_edges}
use Rattle.flow_graph.specs.Flow.{Flow, Has}
use Rattle.flow_graph.specs.FunctionParts.{is_return, is_return_kind, part_of, returns_upto}
use Rattle.flow_graph.specs.Making.{IsBuilt, address_at}
use Rattle.flow_graph.specs.Places.{IsMet, exit_of, exits_at}
use Rattle.flow_graph.specs.Reached.{CallsAt, IsEdge, IsUnitOf, Leads, Reached, Returns, is_any}
use Rattle.flow_graph.specs.Sites.{IsSite, site_of}
use Rattle.flow_graph.specs.Ways.{ways_by, ways_of}
use Rattle.flow_graph.specs.declared.fault.FlowFault.{FlowFault}
use Rattle.flow_graph.specs.declared.parts.Edge.{Edge}
use Rattle.flow_graph.specs.declared.parts.EdgeKind.TheVariants.{Call, Return, Over}
use Rattle.flow_graph.specs.declared.places.Places.{Places}
use Rattle.flow_graph.specs.declared.site.Site.{Site}
use Rattle.flow_graph.proofs.Bridge.{addr, led_at, met_reached, reached_met}
use Rattle.flow_graph.proofs.Depths.{at_calls, calls_at, reached_function}
use Rattle.flow_graph.proofs.Exits.{edges-ways, listed_way, way_listed}
use Rattle.flow_graph.proofs.Graphs.{IsOwnEdge, in_own, in_returns, own_in, returns_in}
use Rattle.flow_graph.proofs.Members.{none_in_nil}
use Rattle.flow_graph.proofs.Reaching.{call_joins, inner_reached, reached_joined, reached_on}
use Rattle.flow_graph.proofs.Verdict.{IsScene, place_reached, reached_place}

true_false : true ≡ false → ⊥
true_false e = cc

none_is_some : (v : ℕ) → None ≡ Some v → ⊥
none_is_some v e = cc

some_same : (x y : ℕ) → Some x ≡ Some y → x ≡ y
some_same x y e = cc

-- a call goes over to what follows its slot
call_ways-over : (k : Kind) (way : Option Bool) (at : ℕ) (target : Option ℕ) (f : ℕ) → (ways_by k way at target).call ≡ Some f → (ways_by k way at target).over ≡ Some (at + 8)
call_ways-over kind.Branch None at target f e = absurd (none_is_some f e)
call_ways-over kind.Branch (Some true) at target f e = absurd (none_is_some f e)
call_ways-over kind.Branch (Some false) at target f e = absurd (none_is_some f e)
call_ways-over kind.Jump way at target f e = absurd (none_is_some f e)
call_ways-over kind.Call way at None f e = absurd (none_is_some f e)
call_ways-over kind.Call way at (Some g) f e = refl
call_ways-over kind.Return way at target f e = absurd (none_is_some f e)
call_ways-over kind.Indirect way at target f e = absurd (none_is_some f e)
call_ways-over kind.Stop way at target f e = absurd (none_is_some f e)
call_ways-over kind.Plain way at target f e = absurd (none_is_some f e)
call_ways-over kind.Mul way at target f e = absurd (none_is_some f e)
call_ways-over kind.Div way at target f e = absurd (none_is_some f e)
call_ways-over kind.Load way at target f e = absurd (none_is_some f e)
call_ways-over kind.Store way at target f e = absurd (none_is_some f e)

-- a call leads over to its return point
pub call_over : (code : Code) (u f : ℕ) → CallsAt code u f → Leads code (edge_of u (u + 8) Over)
unfolding leads_from ways_of
call_over code u f h = by_fault (is_faulty code u) refl h
  where
    by_instr : (o : Option Instr) → Contains (edges_if o u) (edge_of u f Call) → Contains (edges_if o u) (edge_of u (u + 8) Over)
    by_instr None h = absurd (none_in_nil (edge_of u f Call) h)
    by_instr (Some i) h =
        subst (λ (es : List Edge). Contains es (edge_of u (u + 8) Over)) (sym (edges-ways i u))
        (listed_way u (ways_of i u) Over (u + 8) (call_ways-over (kind_of i) (single_edge_of i) u (target_of i u) f (way_listed u (ways_of i u) Call f (subst (λ (es : List Edge). Contains es (edge_of u f Call)) (edges-ways i u) h))))

    by_fault : (b : Bool) → is_faulty code u ≡ b → Contains (if b then [] else own_edges code u) (edge_of u f Call) → Contains (if b then [] else own_edges code u) (edge_of u (u + 8) Over)
    by_fault true e h = absurd (none_in_nil (edge_of u f Call) h)
    by_fault false e h = by_instr (instr_at code u) h

-- the exits of a call: what it calls, and its return point
call_exits : (code : Code) (p : Places) (start : ℕ) (reached at : List ℕ) → IsScene code p start reached at → (u f : ℕ) → u < length p.addresses.items → (exits_at p.net.items u).call ≡ Some f → (o : ℕ) × ((exits_at p.net.items u).over ≡ Some o) × (addr p o ≡ addr p u + 8)
call_exits code p start reached at s u f below call =
    let c = calls_at code p start reached at s u f below call in
    let o = (led_at code p s.places u below).whole Over (addr p u + 8) (call_over code (addr p u) (addr p f) c.1) in
    (o.0, o.1, o.3)

-- a place whose site is a return
return_instr : (code : Code) (addresses : List ℕ) (site : Site) → IsSite code addresses site → is_return site ≡ true → (i : Instr) × (instr_at code site.at ≡ Some i) × (kind_of i ≡ kind.Return)
return_instr code addresses site is t = by_first site.first refl t
  where
    by_kind : (k : Kind) → is_return_kind k ≡ true → k ≡ kind.Return
    by_kind kind.Return h = refl
    by_kind kind.Branch h = absurd (true_false (sym h))
    by_kind kind.Jump h = absurd (true_false (sym h))
    by_kind kind.Call h = absurd (true_false (sym h))
    by_kind kind.Indirect h = absurd (true_false (sym h))
    by_kind kind.Stop h = absurd (true_false (sym h))
    by_kind kind.Plain h = absurd (true_false (sym h))
    by_kind kind.Mul h = absurd (true_false (sym h))
    by_kind kind.Div h = absurd (true_false (sym h))
    by_kind kind.Load h = absurd (true_false (sym h))
    by_kind kind.Store h = absurd (true_false (sym h))

    by_first : (o : Option Instr) → site.first ≡ o → passes (λ i. is_return_kind (kind_of i)) o ≡ true → (i : Instr) × (instr_at code site.at ≡ Some i) × (kind_of i ≡ kind.Return)
    by_first None e h = absurd (true_false (sym h))
    by_first (Some i) e h = (i, is.first ∙ e, by_kind (kind_of i) h)

instr_return : (code : Code) (addresses : List ℕ) (site : Site) → IsSite code addresses site → (i : Instr) → instr_at code site.at ≡ Some i → kind_of i ≡ kind.Return → is_return site ≡ true
instr_return code addresses site is i e k = ap (passes (λ j. is_return_kind (kind_of j))) (sym is.first ∙ e) ∙ ap is_return_kind k

-- the scene with the functions that are built
pub record IsBuiltScene (code : Code) (p : Places) (start : ℕ) (reached at functions : List ℕ) (g : Flow) : Type 0 where
  pub scene : IsScene code p start reached at
  pub clean : (other : FlowFault) → Has code (addr p start) other → ⊥
  pub are : AreFunctions p.net.items start reached functions
  pub built : IsBuilt p start reached at functions g

function_reached : (code : Code) (p : Places) (start : ℕ) (reached at functions : List ℕ) (g : Flow) → IsBuiltScene code p start reached at functions g → (f : ℕ) → Contains functions f → (f < length p.addresses.items) × Reached code (addr p start) (addr p f)
function_reached code p start reached at functions g b f among = reached_function code p start reached at functions b.scene b.are f among

pub edge_is : (code : Code) (p : Places) (start : ℕ) (reached at functions : List ℕ) (g : Flow) → IsBuiltScene code p start reached at functions g → (e : Edge) → Contains g.edges e → IsEdge code (addr p start) e
edge_is code p start reached at functions g b e h = elim (b.built.edges.only e h) [ inl own ↦ of_own (in_own p reached (length reached) e own) | inr point ↦ of_point point ]
  where
    both_ends : {x x' y y' : ℕ} → x ≡ x' → y ≡ y' → edge_of x' y' Return ≡ edge_of x y Return
    both_ends p q = rw (p, q) refl

    of_own : IsOwnEdge p reached (length reached) e → IsEdge code (addr p start) e
    of_own o =
        let u = get_or reached o.k 0 in
        let r = place_reached code p start reached at b.scene u (Contains-get_or reached o.k 0 o.below) in
        subst (λ (x : Edge). IsEdge code (addr p start) x) (sym o.is) (record { reached = r.1; joins = inl ((led_at code p b.scene.places u r.0).sound o.kind o.to o.exit).1 })

    of_point : IsPointAmong p functions b.built.returns reached (length reached) e → IsEdge code (addr p start) e
    of_point (j, below, (f, call, by)) =
        let u = get_or reached j 0 in
        let r = place_reached code p start reached at b.scene u (Contains-get_or reached j 0 below) in
        let c = calls_at code p start reached at b.scene u f r.0 call in
        let o = call_exits code p start reached at b.scene u f r.0 call in
        let part = b.built.returns_are.each by.k by.below in
        let from = in_returns p.addresses.items p.sites.items part.found (length part.found) by.from (omega arith) (subst (λ (l : List ℕ). Contains l by.from) part.is by.among) in
        let m = met_reached code p b.scene.places false f from.0 c.0 (subst (λ (x : ℕ). IsMet p.net.items false (x ∷ []) from.0) by.at (part.reach.spread.met from.0 from.1)) in
        let i = return_instr code p.addresses.items (site_of p.sites.items from.0) (b.scene.places.sites.each from.0 m.0) from.2 in
        let same : by.point ≡ o.0 = some_same by.point o.0 (sym by.is_point ∙ o.1) in
        let to : address_at p by.point ≡ addr p u + 8 = ap (address_at p) same ∙ o.2 in
        subst (λ (x : Edge). IsEdge code (addr p start) x) (sym (by.is ∙ both_ends (sym from.3) (sym to)))
        (record {
          reached = reached_joined code is_any (addr p start) (addr p f) (addr p from.0) (reached_on code is_any (addr p start) (addr p u) (addr p f) r.1 (call_joins code (addr p u) (addr p f) c.1)) (inner_reached code (addr p f) (addr p from.0) m.1);
          joins = inr (
            refl,
            record {
              function = addr p f;
              caller = addr p u;
              reached = r.1;
              calls = c.1;
              member = m.1;
              instr = i.0;
              at = ap (instr_at code) (sym (b.scene.places.sites.at from.0 m.0)) ∙ i.1;
              is_return = i.2;
              point = refl;
            },
          );
        })

pub is_edge : (code : Code) (p : Places) (start : ℕ) (reached at functions : List ℕ) (g : Flow) → IsBuiltScene code p start reached at functions g → (e : Edge) → IsEdge code (addr p start) e → Contains g.edges e
is_edge code p start reached at functions g b e h = elim h.joins [ inl leads ↦ of_leads leads | inr returns ↦ of_returns returns.0 returns.1 ]
  where
    same_edge : {from to : ℕ} → from ≡ e.from → to ≡ e.to → edge_of from to e.kind ≡ e
    same_edge p q = rw (p, q) refl

    return_of : e.kind ≡ Return → {to : ℕ} → to ≡ e.to → return_edge to e.from ≡ e
    return_of k q = rw (q, sym k) refl

    of_leads : Leads code e → Contains g.edges e
    of_leads leads =
        let (u, (j, below, is_j), is) = reached_place code p start reached at b.scene e.from h.reached in
        let here : get_or reached j 0 ≡ u = sym (get_or_default_zero reached j u below) ∙ is_j in
        let in_u = (place_reached code p start reached at b.scene u (j, below, is_j)).0 in
        let (v, exit, in_v, is_v) = (led_at code p b.scene.places u in_u).whole e.kind e.to (subst (λ (n : ℕ). Leads code (edge_of n e.to e.kind)) (sym is) leads) in
        b.built.edges.own e
        (subst (λ (x : Edge). Contains (own_upto p.addresses.items p.net.items reached (length reached)) x) (same_edge (ap (addr p) here ∙ is) is_v)
        (own_in p reached (length reached) j e.kind v below (subst (λ (n : ℕ). exit_of (exits_at p.net.items n) e.kind ≡ Some v) (sym here) exit)))

    of_returns : e.kind ≡ Return → Returns code (addr p start) e.from e.to → Contains g.edges e
    of_returns k r =
        let (u, (j, below, is_j), is) = reached_place code p start reached at b.scene r.caller r.reached in
        let here : get_or reached j 0 ≡ u = sym (get_or_default_zero reached j u below) ∙ is_j in
        let in_u = (place_reached code p start reached at b.scene u (j, below, is_j)).0 in
        let c = at_calls code p start reached at b.scene u r.function in_u (subst (λ (n : ℕ). CallsAt code n r.function) (sym is) r.calls) in
        let o = call_exits code p start reached at b.scene u c.0 in_u c.1 in
        let (i, in_i, is_i) = b.are.whole c.0 (u, (j, below, is_j), c.1) in
        let here_i : get_or functions i 0 ≡ c.0 = sym (get_or_default_zero functions i c.0 in_i) ∙ is_i in
        let part = b.built.returns_are.each i in_i in
        let m = reached_met code p b.scene.places false c.0 e.from c.2 (subst (λ (n : ℕ). IsUnitOf code n e.from) (sym c.3) r.member) in
        let (w, in_w, is_w) = part.reach.spread.whole m.place (subst (λ (n : ℕ). IsMet p.net.items false (n ∷ []) m.place) (sym here_i) m.met) in
        let here_w : get_or part.found w 0 ≡ m.place = sym (get_or_default_zero part.found w m.place in_w) ∙ is_w in
        let is_return_site : is_return (site_of p.sites.items m.place) ≡ true = instr_return code p.addresses.items (site_of p.sites.items m.place) (b.scene.places.sites.each m.place m.below) r.instr (ap (instr_at code) (b.scene.places.sites.at m.place m.below ∙ m.is) ∙ r.at) r.is_return in
        let from : Contains (part_of b.built.returns i) e.from =
        subst (λ (l : List ℕ). Contains l e.from) (sym part.is)
        (subst (λ (n : ℕ). Contains (returns_upto p.addresses.items p.sites.items part.found (length part.found)) n) (ap (address_at p) here_w ∙ m.is)
        (returns_in p.addresses.items p.sites.items part.found (length part.found) w in_w (subst (λ (n : ℕ). is_return (site_of p.sites.items n) ≡ true) (sym here_w) is_return_site))) in
        let to : address_at p o.0 ≡ e.to = o.2 ∙ ap (λ (n : ℕ). n + 8) is ∙ sym r.point in
        b.built.edges.point e (
          j,
          below,
          (
            c.0,
            subst (λ (n : ℕ). (exits_at p.net.items n).call ≡ Some c.0) (sym here) c.1,
            record {
              point = o.0;
              k = i;
              from = e.from;
              is_point = subst (λ (n : ℕ). (exits_at p.net.items n).over ≡ Some o.0) (sym here) o.1;
              below = in_i;
              at = here_i;
              among = from;
              is = sym (return_of k to);
            },
          ),
        )
