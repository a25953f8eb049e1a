-- Runs of a walk in one activation, over any activations below.
use Rattle.std.proofs.Common.{◌≡◌, ◌≢◌, refl, sym, ap, subst, ◌∙◌, ℕ, ◌+◌, ◌≤◌, false, List, [], ◌∷◌, ◌++◌, arith, inl, inr, Option}
use Rattle.std.specs.List.{Contains}
use Rattle.visa_io.specs.declared.records.Region.{Region}
use Rattle.flow_graph.specs.declared.parts.Edge.{Edge}
use Rattle.flow_graph.specs.declared.parts.EdgeKind.{EdgeKind}
use Rattle.flow_graph.specs.declared.parts.EdgeKind.TheVariants.{Next, Taken, Call, Return, Over}
use Rattle.loop_regions.specs.Walks.{Comes, IsLegal, IsNewest, IsReturnPoint, IsWalk, LoopGraph, follow, holds, open_from, visits}
use Rattle.loop_regions.proofs.Visits.{is_header, is_held, open_append, visits_header, visits_other, visits_outside, walk_append}
use Rattle.path_wcet.specs.Known.{is_this}
use Rattle.path_wcet.specs.Paid.{IsPlain, cost}

-- a walk leaves no unit where walks stop
abbrev pub AreOff : Option ℕ → List Edge → Type 0
AreOff to [] = Unit {0}
AreOff to (e ∷ es) = AreOff to es × (is_this to e.from ≡ false)

pub off_append : (to : Option ℕ) (ds es : List Edge) → AreOff to es → AreOff to ds → AreOff to (ds ++ es)
off_append to [] es older newer = older
off_append to (d ∷ ds) es older newer = (off_append to ds es older newer.0, newer.1)

pub cost_append : (price : Edge → ℕ) (ds es : List Edge) → cost price (ds ++ es) ≡ cost price ds + cost price es
cost_append price [] es = omega arith
cost_append price (d ∷ ds) es = omega (arith, cost_append price ds es)

-- the counts are kept
abbrev pub IsAllowed : List Region → List ℕ → Type 0
IsAllowed rs us = (r : Region) → Contains rs r → visits r us ≤ r.count

-- a walk from one activation's units to more of them that costs this or more
pub record IsRun (h : LoopGraph) (price : Edge → ℕ) (to : Option ℕ) (us ws : List ℕ) (v : ℕ) : Type 0 where
  pub edges : List Edge
  pub walk : (s : List (List ℕ)) → IsWalk h (us ∷ s) edges
  pub state : (s : List (List ℕ)) → open_from (us ∷ s) edges ≡ ws ∷ s
  pub off : AreOff to edges
  pub most : v ≤ cost price edges

-- a walk that stops anywhere
pub record IsStopping (h : LoopGraph) (price : Edge → ℕ) (to : Option ℕ) (us : List ℕ) (v : ℕ) : Type 0 where
  pub edges : List Edge
  pub walk : (s : List (List ℕ)) → IsWalk h (us ∷ s) edges
  pub off : AreOff to edges
  pub most : v ≤ cost price edges

pub run_none : (h : LoopGraph) (price : Edge → ℕ) (to : Option ℕ) (us : List ℕ) → IsRun h price to us us 0
run_none h price to us = record { edges = []; walk = λ s. tt; state = λ s. refl; off = tt; most = omega arith }

pub run_on : (h : LoopGraph) (price : Edge → ℕ) (to : Option ℕ) (us vs ws : List ℕ) (a b c : ℕ) → c ≤ a + b → IsRun h price to us vs a → IsRun h price to vs ws b → IsRun h price to us ws c
run_on h price to us vs ws a b c fits one two = record {
  edges = two.edges ++ one.edges;
  walk = λ s. walk_append h (us ∷ s) two.edges one.edges (one.walk s) (subst (λ (t : List (List ℕ)). IsWalk h t two.edges) (sym (one.state s)) (two.walk s));
  state = λ s. open_append (us ∷ s) two.edges one.edges ∙ ap (λ (t : List (List ℕ)). open_from t two.edges) (one.state s) ∙ two.state s;
  off = off_append to two.edges one.edges one.off two.off;
  most = let e = cost_append price two.edges one.edges in let m = one.most in let k = two.most in omega (arith, e, m, k);
}

pub stop_on : (h : LoopGraph) (price : Edge → ℕ) (to : Option ℕ) (us vs : List ℕ) (a b c : ℕ) → c ≤ a + b → IsRun h price to us vs a → IsStopping h price to vs b → IsStopping h price to us c
stop_on h price to us vs a b c fits one two = record {
  edges = two.edges ++ one.edges;
  walk = λ s. walk_append h (us ∷ s) two.edges one.edges (one.walk s) (subst (λ (t : List (List ℕ)). IsWalk h t two.edges) (sym (one.state s)) (two.walk s));
  off = off_append to two.edges one.edges one.off two.off;
  most = let e = cost_append price two.edges one.edges in let m = one.most in let k = two.most in omega (arith, e, m, k);
}

-- one edge inside a function
plain_comes : (kind : EdgeKind) (a b : ℕ) (us : List ℕ) (s : List (List ℕ)) → IsPlain kind → IsNewest a us → Comes kind a b (us ∷ s)
plain_comes Next a b us s plain newest = newest
plain_comes Taken a b us s plain newest = newest
plain_comes Call a b us s plain newest = absurd plain
plain_comes Return a b us s plain newest = absurd plain
plain_comes Over a b us s plain newest = absurd plain

plain_follow : (kind : EdgeKind) (b : ℕ) (us : List ℕ) (s : List (List ℕ)) → IsPlain kind → follow kind b (us ∷ s) ≡ (b ∷ us) ∷ s
plain_follow Next b us s plain = refl
plain_follow Taken b us s plain = refl
plain_follow Call b us s plain = absurd plain
plain_follow Return b us s plain = absurd plain
plain_follow Over b us s plain = absurd plain

pub run_edge : (h : LoopGraph) (price : Edge → ℕ) (to : Option ℕ) (us : List ℕ) (e : Edge) (v : ℕ) → Contains h.edges e → IsPlain e.kind → IsNewest e.from us → IsAllowed h.regions (e.to ∷ us) → is_this to e.from ≡ false → v ≤ price e → IsRun h price to us (e.to ∷ us) v
run_edge h price to us e v among plain newest allowed off most = record {
  edges = e ∷ [];
  walk = λ s. (tt, among, plain_comes e.kind e.from e.to us s plain newest, subst (IsLegal h.regions) (sym (plain_follow e.kind e.to us s plain)) allowed);
  state = λ s. plain_follow e.kind e.to us s plain;
  off = (tt, off);
  most = omega (arith, most);
}

-- into a function, and back from it
call_comes : (kind : EdgeKind) (a b : ℕ) (us : List ℕ) (s : List (List ℕ)) → kind ≡ Call → IsNewest a us → Comes kind a b (us ∷ s)
call_comes kind a b us s is newest = subst (λ (k : EdgeKind). Comes k a b (us ∷ s)) (sym is) newest

call_follow : (kind : EdgeKind) (b : ℕ) (s : List (List ℕ)) → kind ≡ Call → follow kind b s ≡ (b ∷ []) ∷ s
call_follow kind b s is = ap (λ (k : EdgeKind). let t : List (List ℕ) = follow k b s in t) is

pub call_run : (h : LoopGraph) (price : Edge → ℕ) (to : Option ℕ) (us ws : List ℕ) (call back : Edge) (m v : ℕ) → Contains h.edges call → call.kind ≡ Call → IsNewest call.from us → IsAllowed h.regions (call.to ∷ []) → is_this to call.from ≡ false
    → IsRun h price to (call.to ∷ []) ws m → Contains h.edges back → back.kind ≡ Return → IsNewest back.from ws → IsReturnPoint back.to us → IsAllowed h.regions (back.to ∷ us) → is_this to back.from ≡ false → v ≤ price call + m + price back
    → IsRun h price to us (back.to ∷ us) v
call_run h price to us ws call back m v among calls newest first off run behind returns last point allowed away most = record {
  edges = back ∷ (run.edges ++ (call ∷ []));
  walk = λ s. (
    walk_append h (us ∷ s) run.edges (call ∷ []) (into s) (subst (λ (t : List (List ℕ)). IsWalk h t run.edges) (sym (call_follow call.kind call.to (us ∷ s) calls)) (run.walk (us ∷ s))),
    behind,
    subst (Comes back.kind back.from back.to) (sym (opens s)) (subst (λ (k : EdgeKind). Comes k back.from back.to (ws ∷ us ∷ s)) (sym returns) (last, point)),
    subst (IsLegal h.regions) (sym (closes s)) allowed,
  );
  state = closes;
  off = (off_append to run.edges (call ∷ []) (tt, off) run.off, away);
  most = let e = cost_append price run.edges (call ∷ []) in let k = run.most in omega (arith, e, k, most);
}
  where
    into : (s : List (List ℕ)) → IsWalk h (us ∷ s) (call ∷ [])
    into s = (tt, among, call_comes call.kind call.from call.to us s calls newest, subst (IsLegal h.regions) (sym (call_follow call.kind call.to (us ∷ s) calls)) first)

    opens : (s : List (List ℕ)) → open_from (us ∷ s) (run.edges ++ (call ∷ [])) ≡ ws ∷ us ∷ s
    opens s = open_append (us ∷ s) run.edges (call ∷ []) ∙ ap (λ (t : List (List ℕ)). open_from t run.edges) (call_follow call.kind call.to (us ∷ s) calls) ∙ run.state (us ∷ s)

    closes : (s : List (List ℕ)) → open_from (us ∷ s) (back ∷ (run.edges ++ (call ∷ []))) ≡ (back.to ∷ us) ∷ s
    closes s = ap (follow back.kind back.to) (opens s) ∙ ap (λ (k : EdgeKind). let t : List (List ℕ) = follow k back.to (ws ∷ us ∷ s) in t) returns

pub call_stop : (h : LoopGraph) (price : Edge → ℕ) (to : Option ℕ) (us : List ℕ) (call : Edge) (m v : ℕ) → Contains h.edges call → call.kind ≡ Call → IsNewest call.from us → IsAllowed h.regions (call.to ∷ []) → is_this to call.from ≡ false
    → IsStopping h price to (call.to ∷ []) m → v ≤ price call + m → IsStopping h price to us v
call_stop h price to us call m v among calls newest first off stop most = record {
  edges = stop.edges ++ (call ∷ []);
  walk = λ s. walk_append h (us ∷ s) stop.edges (call ∷ []) (into s) (subst (λ (t : List (List ℕ)). IsWalk h t stop.edges) (sym (call_follow call.kind call.to (us ∷ s) calls)) (stop.walk (us ∷ s)));
  off = off_append to stop.edges (call ∷ []) (tt, off) stop.off;
  most = let e = cost_append price stop.edges (call ∷ []) in let k = stop.most in omega (arith, e, k, most);
}
  where
    into : (s : List (List ℕ)) → IsWalk h (us ∷ s) (call ∷ [])
    into s = (tt, among, call_comes call.kind call.from call.to us s calls newest, subst (IsLegal h.regions) (sym (call_follow call.kind call.to (us ∷ s) calls)) first)

-- visits

pub visits_most : (r : Region) (u : ℕ) (us : List ℕ) → u ≢ r.header → visits r (u ∷ us) ≤ visits r us
visits_most r u us differ = elim (is_held r u) [ inl within ↦ let e = visits_other r u us within differ in omega (arith, e) | inr out ↦ let e = visits_outside r u us out in omega (arith, e) ]

pub visits_away : (r : Region) (a : ℕ) (us : List ℕ) → IsNewest a us → holds r a ≡ false → visits r us ≡ 0
visits_away r a [] newest out = absurd newest
visits_away r a (u ∷ us) newest out = visits_outside r u us (subst (λ v. holds r v ≡ false) (sym newest) out)

-- an activation that begins is allowed, and has met each header once where it begins there
pub first_allowed : (rs : List Region) → ((r : Region) → Contains rs r → 1 ≤ r.count) → (u : ℕ) → IsAllowed rs (u ∷ [])
first_allowed rs counted u r among =
    let c = counted r among in
    elim (is_held r u) [
      | inr out ↦ let e = visits_outside r u [] out in omega (arith, e)
      | inl within ↦ elim (is_header r u) [ inl is ↦ let e = visits_header r u [] within is in omega (arith, e, c) | inr differ ↦ let e = visits_other r u [] within differ in omega (arith, e) ]
    ]
