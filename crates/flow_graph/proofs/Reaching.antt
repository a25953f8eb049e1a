-- What is reached in code: ways joined, chains of calls, recursion.
use Rattle.std.proofs.Common.{ℕ, zero, suc, ◌≤◌, ◌≡◌, inl, inr, refl, sym, subst, Bool, true, false, if◌then◌else◌, Option, Some, None, List, [], ◌∷◌, Contains, arith}
use Rattle.visa_io.specs.declared.records.Code.{Code}
use Rattle.flow_graph.specs.Code.{instr_at, is_code}
use Rattle.flow_graph.specs.Edges.{edge_of}
use Rattle.flow_graph.specs.Faults.{edges_if, is_faulty, leads_from, own_edges}
use Rattle.flow_graph.specs.Reached.{CallsAt, Chain, IsReached, IsUnitOf, IsWay, Joins, Leads, is_any, is_inner}
use Rattle.flow_graph.specs.Reached.Chain.{Begins, Calls}
use Rattle.mips_isa.specs.declared.instr.Instr.{Instr}
use Rattle.std.proofs.lemmas.Bool.{cases_lt}
use Rattle.flow_graph.specs.Ways.{ways_of}
use Rattle.flow_graph.specs.declared.parts.Edge.{Edge}
use Rattle.flow_graph.proofs.Exits.{edges-ways, way_listed}
use Rattle.flow_graph.proofs.Members.{none_in_nil}
use Rattle.flow_graph.specs.declared.parts.EdgeKind.{EdgeKind}
use Rattle.flow_graph.specs.declared.parts.EdgeKind.TheVariants.{Next, Taken, Call, Return, Over}

-- a way of one unit, and of one more
pub reached_here : (code : Code) (asked : EdgeKind → Bool) (u : ℕ) → is_code code u ≡ true → IsReached code asked u u
unfolding IsWay
reached_here code asked u is = record { us = []; way = (refl, is) }

pub reached_on : (code : Code) (asked : EdgeKind → Bool) (start u v : ℕ) → IsReached code asked start u → Joins code asked u v → IsReached code asked start v
unfolding IsWay
reached_on code asked start u v r j = record { us = u ∷ r.us; way = (j, r.way) }

pub way_joined : (code : Code) (asked : EdgeKind → Bool) (start u v : ℕ) (us : List ℕ) → IsReached code asked start u → IsWay code asked u (v ∷ us) → IsReached code asked start v
unfolding IsWay
way_joined code asked start u v [] r w = subst (λ (n : ℕ). IsReached code asked start n) (sym w.0) r
way_joined code asked start u v (m ∷ us) r w = reached_on code asked start m v (way_joined code asked start u m us r w.1) w.0

pub reached_joined : (code : Code) (asked : EdgeKind → Bool) (start u v : ℕ) → IsReached code asked start u → IsReached code asked u v → IsReached code asked start v
reached_joined code asked start u v r s = way_joined code asked start u v s.us r s.way

-- what is reached inside a function is reached
inner_any : (code : Code) (u v : ℕ) → Joins code is_inner u v → Joins code is_any u v
inner_any code u v j = record { kind = j.kind; is_asked = refl; leads = j.leads }

way_any : (code : Code) (start u : ℕ) (us : List ℕ) → IsWay code is_inner start (u ∷ us) → IsWay code is_any start (u ∷ us)
unfolding IsWay
way_any code start u [] w = w
way_any code start v (u ∷ us) w = (inner_any code u v w.0, way_any code start u us w.1)

pub inner_reached : (code : Code) (start u : ℕ) → IsReached code is_inner start u → IsReached code is_any start u
inner_reached code start u r = record { us = r.us; way = way_any code start u r.us r.way }

-- a call leads to what it calls
pub call_joins : (code : Code) (u f : ℕ) → CallsAt code u f → Joins code is_any u f
call_joins code u f calls = record { kind = Call; is_asked = refl; leads = calls }

-- a chain that goes on as far as what is reached from its end
pub record IsChainTo (code : Code) (entry least u : ℕ) : Type 0 where
  pub calls : ℕ
  pub function : ℕ
  pub chain : Chain code entry calls function
  pub long : least ≤ calls
  pub member : IsUnitOf code function u

none_is_some : (v : ℕ) → None ≡ Some v → ⊥
none_is_some v e = cc

-- no unit leads on along a return
no_return : (code : Code) (u v : ℕ) → Leads code (edge_of u v Return) → ⊥
unfolding leads_from
no_return code u v h = by_fault (is_faulty code u) refl h
  where
    by_instr : (o : Option Instr) → Contains (edges_if o u) (edge_of u v Return) → ⊥
    by_instr None h = none_in_nil (edge_of u v Return) h
    by_instr (Some i) h = none_is_some v (way_listed u (ways_of i u) Return v (subst (λ (es : List Edge). Contains es (edge_of u v Return)) (edges-ways i u) h))

    by_fault : (b : Bool) → is_faulty code u ≡ b → Contains (if b then [] else own_edges code u) (edge_of u v Return) → ⊥
    by_fault true e h = none_in_nil (edge_of u v Return) h
    by_fault false e h = by_instr (instr_at code u) h

-- what is reached is a unit of a function at the end of a chain
pub chain_on : (code : Code) (entry n f u v : ℕ) → Chain code entry n f → IsUnitOf code f u → is_code code v ≡ true → (kind : EdgeKind) → Leads code (edge_of u v kind) → IsChainTo code entry n v
chain_on code entry n f u v chain member is Next leads = record { calls = n; function = f; chain = chain; long = omega arith; member = reached_on code is_inner f u v member (record { kind = Next; is_asked = refl; leads = leads }) }
chain_on code entry n f u v chain member is Taken leads = record { calls = n; function = f; chain = chain; long = omega arith; member = reached_on code is_inner f u v member (record { kind = Taken; is_asked = refl; leads = leads }) }
chain_on code entry n f u v chain member is Over leads = record { calls = n; function = f; chain = chain; long = omega arith; member = reached_on code is_inner f u v member (record { kind = Over; is_asked = refl; leads = leads }) }
chain_on code entry n f u v chain member is Call leads = record { calls = suc n; function = v; chain = Calls n f u v chain member leads; long = omega arith; member = reached_here code is_inner v is }
chain_on code entry n f u v chain member is Return leads = absurd (no_return code u v leads)

longer : (code : Code) (entry m n u : ℕ) → m ≤ n → IsChainTo code entry n u → IsChainTo code entry m u
longer code entry m n u le c = record { calls = c.calls; function = c.function; chain = c.chain; long = omega (arith, le, c.long); member = c.member }

-- what is reached is code
pub way_code : (code : Code) (asked : EdgeKind → Bool) (start u : ℕ) (us : List ℕ) → ((v w : ℕ) (kind : EdgeKind) → Leads code (edge_of v w kind) → is_code code w ≡ true) → IsWay code asked start (u ∷ us) → is_code code u ≡ true
unfolding IsWay
way_code code asked start u [] to w = w.1
way_code code asked start v (u ∷ us) to w = to u v w.0.kind w.0.leads

pub chain_along : (code : Code) (entry n f u : ℕ) (us : List ℕ) → ((v w : ℕ) (kind : EdgeKind) → Leads code (edge_of v w kind) → is_code code w ≡ true) → Chain code entry n f → IsWay code is_any f (u ∷ us) → IsChainTo code entry n u
unfolding IsWay
chain_along code entry n f u [] to chain w = subst (λ (m : ℕ). IsChainTo code entry n m) (sym w.0) (record { calls = n; function = f; chain = chain; long = omega arith; member = reached_here code is_inner f (subst (λ (m : ℕ). is_code code m ≡ true) w.0 w.1) })
chain_along code entry n f v (u ∷ us) to chain w =
    let before = chain_along code entry n f u us to chain w.1 in
    longer code entry n before.calls v before.long (chain_on code entry before.calls before.function u v before.chain before.member (to u v w.0.kind w.0.leads) w.0.kind w.0.leads)

-- a recursive call makes chains of any length
pub endless : (code : Code) (entry u f k n : ℕ) → ((v w : ℕ) (kind : EdgeKind) → Leads code (edge_of v w kind) → is_code code w ≡ true) → CallsAt code u f → IsReached code is_any f u → Chain code entry k f → (m : ℕ) × (n ≤ m) × Chain code entry m f
endless code entry u f k zero to calls again chain = (k, omega arith, chain)
endless code entry u f k (suc n) to calls again chain =
    let (m, long, chained) = endless code entry u f k n to calls again chain in
    let next = chain_along code entry m f u again.us to chained again.way in
    (suc next.calls, omega (arith, long, next.long), Calls next.calls next.function u f next.chain next.member calls)

-- a chain has chains of each smaller length before it
pub shorter : (code : Code) (entry n f m : ℕ) → Chain code entry n f → m ≤ n → (g : ℕ) × Chain code entry m g
shorter code entry _ _ m Begins le = (entry, subst (λ (k : ℕ). Chain code entry k entry) (omega (arith, le)) Begins)
shorter code entry _ _ m (Calls n g u f chain member calls) le = elim (cases_lt n m) [
  | inl less ↦ (f, subst (λ (k : ℕ). Chain code entry k f) (omega (arith, less, le)) (Calls n g u f chain member calls))
  | inr more ↦ shorter code entry n g m chain more
]
