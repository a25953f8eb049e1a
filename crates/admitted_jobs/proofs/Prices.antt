-- What instructions and edges cost at a point: in the pipeline, and as the longest walk counts them.
use Rattle.std.proofs.Common.{◌≡◌, ◌∙◌, refl, sym, ap, ℕ, suc, zero, ◌+◌, ◌%◌, ◌^◌, ◌<◌, ◌≤◌, Bool, true, false, List, [], ◌∷◌, length, get_or, eq-eqb, eqb-true, arith}
use Rattle.std.specs.Prelude.{◌==◌, if◌then◌else◌, Some}
use Rattle.std.specs.List.{Contains}
use Rattle.visa_io.specs.declared.records.Code.{Code}
use Rattle.visa_io.specs.declared.records.Machine.{Machine}
use Rattle.mips_isa.specs.Kinds.{kind_of}
use Rattle.mips_isa.specs.Prediction.{predicted_taken_of}
use Rattle.mips_isa.specs.declared.instr.Instr.{Instr}
use Rattle.mips_isa.specs.declared.instr.Kind.{Kind}
use Rattle.mips_isa.specs.declared.instr.Kind.TheVariants as sort
use Rattle.mips_ref.specs.Memory.{Flat}
use Rattle.flow_graph.specs.Code.{instr_at, is_control_instr}
use Rattle.flow_graph.specs.Flow.{Flow, HasShape, IsGraph, IsUnit}
use Rattle.flow_graph.specs.declared.parts.EdgeKind.{EdgeKind}
use Rattle.flow_graph.specs.declared.parts.EdgeKind.TheVariants.{Next, Taken, Call, Return, Over}
use Rattle.flow_graph.specs.declared.parts.Unit.{Unit as FlowUnit}
use Rattle.loop_regions.specs.Costs.{Prices, fetch_cost, unit_cost}
use Rattle.persistence.specs.Charges.{Charge, charged_by}
use Rattle.path_wcet.specs.Longest.{IsPriced}
use Rattle.path_wcet.specs.Static.{branch_price, differs, first_at, more_of, price_by, price_of, slot_cost, static_cost, unit_price}
use Rattle.path_wcet.specs.declared.costs.Pen.{Pen}
use Rattle.simple_pipe.specs.Pace as pipe
use Rattle.simple_pipe.specs.Pace.{execute_excess_of, is_load_kind, memory_excess_of, pace_of}
use Rattle.simple_pipe.specs.declared.pace.Pace.{Pace}
use Rattle.remaining_wcet.specs.Ways.{cost_by, edge_cost}
use Rattle.run_law.specs.Program.{Good, IsGraphOf, Program}
use Rattle.run_law.specs.Runs.{HasCode}
use Rattle.run_law.proofs.Coded.{low, same_instr}
use Rattle.run_law.proofs.Flows.{flowing_of, unit_of}
use Rattle.timed_jobs.specs.Pace.{base_if, base_of}
use Rattle.walked_jobs.specs.Machine.{kind_if, predicted_if, words_of}
use Rattle.admission.specs.Found.{costs_with, pen_of}

-- the pace of a machine at a clock period
abbrev pub pace_in : Machine → ℕ → Pace
pace_in m period = pace_of m.mem_ps m.store_ps m.mul m.div period

-- by kind, an instruction costs the same, its fetch aside
kind_cost : (k : Kind) (m : Machine) (period : ℕ)
    → 1 + execute_excess_of (pace_in m period) k + memory_excess_of (pace_in m period) k +
    (if is_load_kind k then 1 else 0) ≡ 1 + more_of k (pen_of m period)
kind_cost sort.Plain m period = refl
kind_cost sort.Mul m period = omega arith
kind_cost sort.Div m period = omega arith
kind_cost sort.Load m period = omega arith
kind_cost sort.Store m period = omega arith
kind_cost sort.Branch m period = refl
kind_cost sort.Jump m period = refl
kind_cost sort.Call m period = refl
kind_cost sort.Return m period = refl
kind_cost sort.Indirect m period = refl
kind_cost sort.Stop m period = refl

pub base_is : (m : Machine) (period : ℕ) (i : Instr)
    → base_if (pace_in m period) (Some i) ≡ 1 + more_of (kind_of i) (pen_of m period)
unfolding pipe.static_cost
base_is m period i = omega (arith, kind_cost (kind_of i) m period)

-- an instruction at an address, with its fetch where that is charged
instr_cost : (m : Machine) (period : ℕ) (code : Code) (p : Prices) (charged : ℕ → Bool) (i : Instr) (at : ℕ)
    → p.base ≡ base_of (pace_in m period) code
    → p.miss ≡ (pen_of m period).m → instr_at code at ≡ Some i
    → p.base at + fetch_cost p charged at ≡ static_cost i (charged at) (pen_of m period)
unfolding static_cost
instr_cost m period code p charged i at base miss stands =
    let own = ap (λ f. f at) base ∙ ap (base_if (pace_in m period)) stands ∙ base_is m period i in
    let fetch : fetch_cost p charged at ≡ (if charged at then (pen_of m period).m else 0) = ap
    (λ (n : ℕ). let q : ℕ = (if charged at then n else 0) in q) miss in
    omega (arith, own, fetch)

-- a unit
word_below : (code : Code) (memory : Flat) (a : ℕ) (i : Instr) → HasCode code memory → instr_at code a ≡ Some i
    → a % 2 ^ 32 ≡ a
word_below code memory a i has stands = omega (arith, low code memory a i has stands)

unit_no_more : (m : Machine) (period : ℕ) (code : Code) (memory : Flat) (p : Prices) (charge : Charge)
    (unit : FlowUnit) (entry : ℕ) → HasCode code memory
    → p.base ≡ base_of (pace_in m period) code → p.miss ≡ (pen_of m period).m → IsUnit code entry unit
    → Good code unit.at
    → (long : Bool) → long ≡ (unit.length == 8)
    → unit_cost p (charged_by charge) long unit.at ≤ unit_price unit (costs_with charge (pen_of m period))
unfolding unit_price
unit_no_more m period code memory p charge unit entry has base miss is good false length_is =
    let own = instr_cost m period code p (charged_by charge) unit.first unit.at base miss is.first in
    omega (arith, own)
unit_no_more m period code memory p charge unit entry has base miss is good true length_is =
    by_control (is_control_instr unit.first) refl is.shape
  where
    pen : Pen
    pen = pen_of m period

    by_slot : (s : Instr) → unit.slot ≡ Some s → instr_at code (unit.at + 4) ≡ Some s
        → unit_cost p (charged_by charge) true unit.at
        ≤ static_cost unit.first (charged_by charge unit.at) pen + slot_cost unit.slot
        (charged_by charge ((unit.at + 4) % 2 ^ 32)) pen
    by_slot s slot stands =
        let own = instr_cost m period code p (charged_by charge) unit.first unit.at base miss is.first in
        let other = instr_cost m period code p (charged_by charge) s (unit.at + 4) base miss stands in
        let there = ap (λ a. static_cost s (charged_by charge a) pen)
        (word_below code memory (unit.at + 4) s has stands) in
        let same = ap (λ o. slot_cost o (charged_by charge ((unit.at + 4) % 2 ^ 32)) pen) slot in
        omega (arith, own, other, there, same)

    by_control : (b : Bool) → is_control_instr unit.first ≡ b → HasShape code unit b
        → unit_cost p (charged_by charge) true unit.at
        ≤ static_cost unit.first (charged_by charge unit.at) pen + slot_cost unit.slot
        (charged_by charge ((unit.at + 4) % 2 ^ 32)) pen
    by_control true control shape =
        let same = same_instr code unit.at good.instr unit.first good.stands is.first in
        let slot = good.slot (ap is_control_instr same ∙ control) in
        by_slot slot.0 (sym shape.0 ∙ slot.1) slot.1
    by_control false plain shape =
        let eight = eqb-true unit.length 8 (sym length_is) in absurd (omega (arith, eight, shape.1))

-- an edge costs the same
next_cost : (k : Kind) (b : Bool) → cost_by k b Next ≡ branch_price k (differs b false)
next_cost sort.Plain b = refl
next_cost sort.Mul b = refl
next_cost sort.Div b = refl
next_cost sort.Load b = refl
next_cost sort.Store b = refl
next_cost sort.Branch true = refl
next_cost sort.Branch false = refl
next_cost sort.Jump b = refl
next_cost sort.Call b = refl
next_cost sort.Return b = refl
next_cost sort.Indirect b = refl
next_cost sort.Stop b = refl

taken_cost : (k : Kind) (b : Bool) → cost_by k b Taken ≡ branch_price k (differs b true)
taken_cost sort.Plain b = refl
taken_cost sort.Mul b = refl
taken_cost sort.Div b = refl
taken_cost sort.Load b = refl
taken_cost sort.Store b = refl
taken_cost sort.Branch true = refl
taken_cost sort.Branch false = refl
taken_cost sort.Jump b = refl
taken_cost sort.Call b = refl
taken_cost sort.Return b = refl
taken_cost sort.Indirect b = refl
taken_cost sort.Stop b = refl

other_cost : (k : Kind) (b : Bool) → (cost_by k b Call ≡ 0) × (cost_by k b Over ≡ 0) × (cost_by k b Return ≡ 2)
other_cost sort.Plain b = (refl, refl, refl)
other_cost sort.Mul b = (refl, refl, refl)
other_cost sort.Div b = (refl, refl, refl)
other_cost sort.Load b = (refl, refl, refl)
other_cost sort.Store b = (refl, refl, refl)
other_cost sort.Branch b = (refl, refl, refl)
other_cost sort.Jump b = (refl, refl, refl)
other_cost sort.Call b = (refl, refl, refl)
other_cost sort.Return b = (refl, refl, refl)
other_cost sort.Indirect b = (refl, refl, refl)
other_cost sort.Stop b = (refl, refl, refl)

kind_price : (k : EdgeKind) (i : Instr) → cost_by (kind_of i) (predicted_taken_of i) k ≡ price_of k i
kind_price Next i = next_cost (kind_of i) (predicted_taken_of i)
kind_price Taken i = taken_cost (kind_of i) (predicted_taken_of i)
kind_price Call i = (other_cost (kind_of i) (predicted_taken_of i)).0
kind_price Over i = (other_cost (kind_of i) (predicted_taken_of i)).1
kind_price Return i = (other_cost (kind_of i) (predicted_taken_of i)).2

-- the unit at an address is the one that is found there
first_found : (code : Code) (entry : ℕ) (us : List FlowUnit) (a : ℕ) (i : Instr)
    → ((unit : FlowUnit) → Contains us unit → IsUnit code entry unit)
    → instr_at code a ≡ Some i → (unit : FlowUnit) → Contains us unit → unit.at ≡ a → first_at us a ≡ Some i
first_found code entry [] a i are stands unit (k, below, is) at = absurd (omega (arith, below))
first_found code entry (d ∷ us) a i are stands unit among at =
    by_test (λ among. first_found code entry us a i (λ v held. are v (suc held.0, omega (arith, held.1), held.2))
    stands unit among at) (d.at == a) refl
  where
    later : (k : ℕ) → k < length (d ∷ us) → get_or (d ∷ us) k unit ≡ unit → (d.at == a) ≡ false → Contains us unit
    later zero below is other =
        let here : d ≡ unit = is in
        let clash : true ≡ false = sym (eq-eqb d.at a (ap (λ (u : FlowUnit). u.at) here ∙ at)) ∙ other in cc
    later (suc k) below is other = (k, omega (arith, below), is)

    by_test : (Contains us unit → first_at us a ≡ Some i) → (b : Bool) → (d.at == a) ≡ b
        → (if b then Some d.first else first_at us a) ≡ Some i
    by_test next true same =
        let here = (are d (0, omega arith, refl)).first in
        sym here ∙ ap (instr_at code) (eqb-true d.at a same) ∙ stands
    by_test next false other = next (later among.0 among.1 among.2 other)

-- the prices of a point, for the longest walk
pub record ArePrices (m : Machine) (period : ℕ) (code : Code) (p : Prices) : Type 0 where
  pub base : p.base ≡ base_of (pace_in m period) code
  pub edge : p.edge ≡ edge_cost (words_of code)
  pub miss : p.miss ≡ (pen_of m period).m

pub priced_of : (q : Program) (g : Flow) (m : Machine) (period : ℕ) (memory : Flat) (p : Prices) (charge : Charge)
    → IsGraph q.code q.entry g
    → IsGraphOf q g → HasCode q.code memory → ArePrices m period q.code p
    → IsPriced g (costs_with charge (pen_of m period)) p (charged_by charge) q.graph.is_long
priced_of q g m period memory p charge is of has prices =
    let flows = flowing_of q g is of in
    record {
      units = λ unit among.
          let here = (is.units_are unit).0 among in
          unit_no_more m period q.code memory p charge unit q.entry has prices.base prices.miss here
          (flows.good unit.at here.reached) (q.graph.is_long unit.at) (of.long unit among);
      edges = λ e among.
          let reached = ((is.edges_are e).0 among).reached in
          let good = flows.good e.from reached in
          let recorded = unit_of q.code q.entry e.from good.instr (is_control_instr good.instr) reached good.stands
          refl in
          let price = ap (price_by e.kind) (first_found q.code q.entry g.units e.from good.instr
          (λ v held. (is.units_are v).0 held) good.stands recorded.0 ((is.units_are recorded.0).1 recorded.1)
          recorded.2) in
          let own = ap (λ f. f e) prices.edge ∙ ap (λ o. cost_by (kind_if o) (predicted_if o) e.kind) good.stands ∙
          kind_price e.kind good.instr in
          omega (arith, own, price);
    }
