-- The graph of code keeps what a nest asks of it: each unit that is reached is one of the graph's.
use Rattle.std.proofs.Common.{◌≡◌, refl, sym, ap, subst, ◌∙◌, ℕ, ◌+◌, Bool, true, false, List, [], ◌∷◌, get_or, arith, ◌⊎◌, inl, inr, Option, Some, None}
use Rattle.std.specs.Prelude.{◌&&◌, ◌||◌, ◌==◌, not, is_none, if◌then◌else◌}
use Rattle.std.specs.List.{Contains, list_any}
use Rattle.std.proofs.lemmas.List.Folds.{list_any_at}
use Rattle.visa_io.specs.declared.records.Code.{Code}
use Rattle.mips_isa.specs.declared.instr.Instr.{Instr}
use Rattle.flow_graph.specs.Code.{instr_at, is_code, is_control_at, is_control_instr}
use Rattle.flow_graph.specs.Edges.{edge_of}
use Rattle.flow_graph.specs.Faults.{is_faulty, is_reserved, is_word_of, leads_from, leaves_code, own_edges}
use Rattle.flow_graph.specs.Flow.{Flow, Has, HasShape, IsGraph}
use Rattle.flow_graph.specs.Reached.{IsEdge, IsWay, Leads, Reached, Returns, is_any, is_inner}
use Rattle.flow_graph.specs.declared.fault.FlowFault.TheVariants.{OffCode, Reserved}
use Rattle.flow_graph.specs.declared.parts.Edge.{Edge}
use Rattle.flow_graph.specs.declared.parts.EdgeKind.TheVariants.{Call, Return}
use Rattle.flow_graph.specs.declared.parts.Unit.{Unit as FlowUnit}
use Rattle.flow_graph.proofs.Unique.{one_way}
use Rattle.loop_regions.specs.Nested.{IsWhole}
use Rattle.loop_regions.specs.Ways.{addresses_of}
use Rattle.loop_regions.proofs.FreeWays.{mapped}
use Rattle.loop_regions.proofs.Visits.{same_number}

no : {P : Type 0} → true ≡ false → P
no e = absurd (let b : ⊥ = cc in b)

none_of : {P : Type 0} (e : Edge) → Contains [] e → P
none_of e c = absurd (omega (arith, c.1))

pub reached_along : (code : Code) (entry : ℕ) (e : Edge) → Reached code entry e.from → Leads code e
    → Reached code entry e.to
unfolding IsWay
reached_along code entry e reached leads = record {
  us = e.from ∷ reached.us;
  way =
      (record { kind = e.kind; is_asked = refl; leads = leads }, reached.way);
}

-- code stands where a way leads
or_false : (a b : Bool) → (a || b) ≡ false → b ≡ false
or_false true b is = no is
or_false false b is = is

sound_unit : (code : Code) (u : ℕ) → is_faulty code u ≡ false → leaves_code code u ≡ false
sound_unit code u is = or_false _ (leaves_code code u) is

pub leads_to_code : (code : Code) (e : Edge) → Leads code e → is_code code e.to ≡ true
unfolding leads_from
leads_to_code code e leads = by_fault (is_faulty code e.from) refl leads
  where
    by_fault : (b : Bool) → is_faulty code e.from ≡ b → Contains (if b then [] else own_edges code e.from) e
        → is_code code e.to ≡ true
    by_fault true faulty c = none_of e c
    by_fault false sound c =
        let none = or_false (is_control_at code e.from && not (is_code code (e.from + 4)))
        (list_any (λ d. not (is_code code d.to)) (own_edges code e.from)) (sound_unit code e.from sound) in
        by_code (is_code code e.to) refl c none
      where
        by_code : (b : Bool) → is_code code e.to ≡ b → Contains (own_edges code e.from) e
            → list_any (λ d. not (is_code code d.to)) (own_edges code e.from) ≡ false → b ≡ true
        by_code true there c none = refl
        by_code false off c none =
            let any = list_any_at (λ d. not (is_code code d.to)) (own_edges code e.from) c.0 e c.1
            (ap (λ (d : Edge). not (is_code code d.to)) c.2 ∙ ap not off) in
            no (sym any ∙ none)

reached_code : (code : Code) (entry u : ℕ) (us : List ℕ) → IsWay code is_any entry (u ∷ us) → is_code code u ≡ true
unfolding IsWay
reached_code code entry u [] way = way.1
reached_code code entry u (v ∷ us) way = leads_to_code code (edge_of v u way.0.kind) way.0.leads

first_word : (code : Code) (u : ℕ) → is_word_of code u u ≡ true
first_word code u = ap (λ (b : Bool). b || (is_control_at code u && (u == u + 4))) (same_number u)

-- an instruction stands at each unit
pub unit_stands : (code : Code) (entry : ℕ) (g : Flow) (u : ℕ) → IsGraph code entry g → Reached code entry u
    → (i : Instr) × (instr_at code u ≡ Some i)
unfolding Has
unit_stands code entry g u is reached = by_instr (instr_at code u) refl (is_reserved code u) refl
  where
    by_instr : (o : Option Instr) → instr_at code u ≡ o → (b : Bool) → is_reserved code u ≡ b → (i : Instr)
        × (instr_at code u ≡ Some i)
    by_instr (Some i) stands b reserved = (i, stands)
    by_instr None stands true reserved = absurd (is.sound (Reserved u)
        (record { unit = u; reached = reached; has = first_word code u }, reserved))
    by_instr None stands false reserved =
        let there = reached_code code entry u reached.us reached.way in
        no (sym (ap (λ (b : Bool). b && is_none (instr_at code u)) there ∙ ap is_none stands) ∙ reserved)

-- and so it is a unit of the graph
pub record IsUnitThere (g : Flow) (u : ℕ) (i : Instr) : Type 0 where
  pub unit : FlowUnit
  pub among : Contains g.units unit
  pub at : unit.at ≡ u
  pub first : unit.first ≡ i

pub unit_there : (code : Code) (entry : ℕ) (g : Flow) (u : ℕ) → IsGraph code entry g → Reached code entry u
    → (i : Instr) → instr_at code u ≡ Some i → IsUnitThere g u i
unit_there code entry g u is reached i stands = by_control (is_control_instr i) refl
  where
    by_control : (b : Bool) → is_control_instr i ≡ b → IsUnitThere g u i
    by_control true control =
        let unit : FlowUnit = record { at = u; length = 8; first = i; slot = instr_at code (u + 4) } in
        record {
          unit = unit;
          among = (is.units_are unit).1 (record {
            reached = reached;
            first = stands;
            shape =
                subst (HasShape code unit) (sym control) (refl, refl);
          });
          at = refl;
          first = refl;
        }
    by_control false plain =
        let unit : FlowUnit = record { at = u; length = 4; first = i; slot = None } in
        record {
          unit = unit;
          among = (is.units_are unit).1 (record {
            reached = reached;
            first = stands;
            shape =
                subst (HasShape code unit) (sym plain) (refl, refl);
          });
          at = refl;
          first = refl;
        }

pub address_there : (code : Code) (entry : ℕ) (g : Flow) (u : ℕ) → IsGraph code entry g → Reached code entry u
    → Contains (addresses_of g.units) u
address_there code entry g u is reached =
    let i = unit_stands code entry g u is reached in
    let t = unit_there code entry g u is reached i.0 i.1 in
    subst (Contains (addresses_of g.units)) t.at (mapped (λ (unit : FlowUnit). unit.at) g.units t.unit t.among)

pub leads_of : (code : Code) (entry : ℕ) (e : Edge) → IsEdge code entry e → (is_inner e.kind ≡ true) ⊎ (e.kind ≡ Call)
    → Leads code e
leads_of code entry e is k = by_join is.joins k
  where
    by_join : Leads code e ⊎ ((e.kind ≡ Return) × Returns code entry e.from e.to) → (is_inner e.kind ≡ true)
        ⊎ (e.kind ≡ Call) → Leads code e
    by_join (inl leads) k = leads
    by_join (inr r) (inl inner) = no (sym inner ∙ ap is_inner r.0)
    by_join (inr r) (inr called) = absurd (let bad : Call ≡ Return = sym called ∙ r.0 in cc)

pub whole_graph : (code : Code) (entry : ℕ) (g : Flow) → IsGraph code entry g → IsWhole g
whole_graph code entry g is = record {
  units = is.units_rise;
  edges = λ i j d less below back. one_way (get_or g.edges i d) (get_or g.edges j d) (is.edges_rise i j d less below) back;
  functions = is.functions_rise;
  joined = λ e c k.
      let edge = (is.edges_are e).0 c in
      record {
        leaves = address_there code entry g e.from is edge.reached;
        enters =
            address_there code entry g e.to is (reached_along code entry e edge.reached (leads_of code entry e edge k));
      };
}

-- code stands at the entry, and so it is a unit
pub entry_there : (code : Code) (entry : ℕ) (g : Flow) → IsGraph code entry g → Contains (addresses_of g.units) g.entry
unfolding Has IsWay
entry_there code entry g is = subst (Contains (addresses_of g.units)) (sym is.entry_is)
    (by_code (is_code code entry) refl)
  where
    by_code : (b : Bool) → is_code code entry ≡ b → Contains (addresses_of g.units) entry
    by_code true there = address_there code entry g entry is (record { us = []; way = (refl, there) })
    by_code false off = absurd (is.sound (OffCode entry) (inr (refl, off)))
