-- A task has one bound of each sub-task at each point.
use Rattle.std.proofs.Common.{◌≡◌, ◌∙◌, sym, subst, ℕ, suc, ◌+◌, ◌*◌, ◌%◌, ◌^◌, ◌<◌, ◌≤◌, min, Bool, false, List, [], length, get_or, Option, arith}
use Rattle.std.specs.Prelude.{slice_get, slice_index}
use Rattle.std.proofs.lemmas.List.{ext_get_or}
use Rattle.visa_io.specs.declared.records.Code.{Code}
use Rattle.visa_io.specs.declared.records.Region.{Region}
use Rattle.task_text.specs.declared.task.Task.{Task}
use Rattle.flow_graph.specs.Flow.{Flow, IsGraph}
use Rattle.flow_graph.specs.declared.parts.Unit.{Unit as FlowUnit}
use Rattle.loop_regions.specs.Costs.{Prices, unit_cost}
use Rattle.loop_regions.specs.Nested.{Numbered}
use Rattle.subtask_cut.specs.Cuts.{AreSubTasks, SubTasks}
use Rattle.subtask_cut.proofs.Unique.{one_cutting}
use Rattle.persistence.specs.Charges.{Charge, charged_by, has_slot}
use Rattle.path_wcet.specs.Longest.{AreMost, IsCost, IsLongest, IsPriced, IsPricedExactly}
use Rattle.path_wcet.specs.Paid.{cap}
use Rattle.path_wcet.specs.Static.{slot_cost, static_cost, unit_price}
use Rattle.path_wcet.specs.declared.costs.Pen.{Pen}
use Rattle.path_wcet.proofs.Attained.{one_longest}
use Rattle.path_wcet.proofs.ExactPrices.{exact_prices, prices_of}
use Rattle.admission.specs.Found.{Analysis, AreBounds, IsBound, bounds_at, costs_with, pen_of}
use Rattle.admission.proofs.OneFlow.{one_graph}

-- the same fetches are charged
abbrev ChargeSame : Charge → Charge → Type 0
ChargeSame c d = (at : ℕ) → charged_by c at ≡ charged_by d at

price_same : (c d : Charge) (pen : Pen) (unit : FlowUnit) → ChargeSame c d → unit_price unit (costs_with c pen) ≡ unit_price unit (costs_with d pen)
unfolding unit_price
price_same c d pen unit same =
    λ k. static_cost unit.first (same unit.at k) pen + slot_cost unit.slot (same ((unit.at + 4) % 2 ^ 32) k) pen

priced_same : (g : Flow) (c d : Charge) (pen : Pen) (p : Prices) (charged is_long : ℕ → Bool) → ChargeSame c d → IsPriced g (costs_with c pen) p charged is_long → IsPriced g (costs_with d pen) p charged is_long
priced_same g c d pen p charged is_long same priced = record {
  units = λ unit among. subst (λ n. unit_cost p charged (is_long unit.at) unit.at ≤ n) (price_same c d pen unit same) (priced.units unit among);
  edges = priced.edges;
}

exactly_same : (g : Flow) (c d : Charge) (pen : Pen) (p : Prices) (charged is_long : ℕ → Bool) → ChargeSame c d → IsPricedExactly g (costs_with c pen) p charged is_long
    → IsPricedExactly g (costs_with d pen) p charged is_long
exactly_same g c d pen p charged is_long same priced = record { units = λ unit among. priced.units unit among ∙ price_same c d pen unit same; edges = priced.edges }

-- the costliest walk under the same charges and regions
longest_same : (g : Flow) (n m : Numbered) (c d : Charge) (pen : Pen) (from : ℕ) (to : Option ℕ) (most : ℕ) → n.regions ≡ m.regions → ChargeSame c d
    → IsLongest g n (costs_with c pen) from to most → IsLongest g m (costs_with d pen) from to most
longest_same g n m c d pen from to most regions same longest = record {
  bound = λ p charged is_long priced below. subst (λ (rs : List Region). AreMost p charged (record { edges = g.edges; regions = rs; is_long = is_long }) from to most) regions
      (longest.bound p charged is_long (priced_same g d c pen p charged is_long (λ at. sym (same at)) priced) below);
  attained = λ p charged is_long priced. subst (λ (rs : List Region). IsCost p charged (record { edges = g.edges; regions = rs; is_long = is_long }) from to most) regions
      (longest.attained p charged is_long (exactly_same g d c pen p charged is_long (λ at. sym (same at)) priced));
}

one_bound : (t : Task) (code : Code) (entry : ℕ) (g : Flow) (n m : Numbered) (s : SubTasks) (period k a b : ℕ) → IsGraph code entry g → n.regions ≡ m.regions
    → IsBound t g n s period k a → IsBound t g m s period k b → a ≡ b
one_bound t code entry g n m s period k a b graph regions x y =
    x.bound_is ∙ (λ i. min cap (most i + (pen_of t.machine period).m * persistent i)) ∙ sym y.bound_is
  where
    same : ChargeSame x.charge y.charge
    same at = x.is_charge.charged at ∙ sym (y.is_charge.charged at)

    persistent : x.charge.persistent ≡ y.charge.persistent
    persistent = x.is_charge.persistent ∙ sym y.is_charge.persistent

    most : x.most ≡ y.most
    most = one_longest g m (costs_with y.charge (pen_of t.machine period)) (slice_index s.firsts k) (slice_get s.firsts (suc k)) x.most y.most
        (prices_of code g (costs_with y.charge (pen_of t.machine period))) (λ u. false) (λ u. has_slot g u)
        (exact_prices code entry g (costs_with y.charge (pen_of t.machine period)) graph)
        (longest_same g n m x.charge y.charge (pen_of t.machine period) (slice_index s.firsts k) (slice_get s.firsts (suc k)) x.most regions same x.longest)
        y.longest

same_bounds : (t : Task) (code : Code) (entry : ℕ) (g : Flow) (n m : Numbered) (s : SubTasks) (b c : List (List ℕ)) → IsGraph code entry g → n.regions ≡ m.regions
    → AreBounds t g n s b → AreBounds t g m s c → b ≡ c
same_bounds t code entry g n m s b c graph regions x y = ext_get_or [] b c (x.points ∙ sym y.points) (λ p below. row p (omega (arith, below, x.points)))
  where
    row : (p : ℕ) → p < length t.points → bounds_at b p ≡ bounds_at c p
    row p below = ext_get_or 0 (bounds_at b p) (bounds_at c p) (x.subs p below ∙ sym (y.subs p below))
        (λ k inside. one p k below (omega (arith, inside, x.subs p below)))
      where
        one : (p k : ℕ) → p < length t.points → k < length s.firsts → get_or (bounds_at b p) k 0 ≡ get_or (bounds_at c p) k 0
        one p k below inside =
            one_bound t code entry g n m s (slice_index t.points p) k (slice_index (bounds_at b p) k) (slice_index (bounds_at c p) k) graph regions (x.are p k below inside) (y.are p k below inside)

pub one_bounds : (t : Task) (code : Code) (entry : ℕ) (x y : Analysis t code entry) (b c : List (List ℕ)) → AreBounds t x.graph x.nest x.subs b → AreBounds t y.graph y.nest y.subs c → b ≡ c
one_bounds t code entry x y b c first other =
    same_bounds t code entry x.graph x.nest y.nest x.subs b c x.has_graph.graph (x.has_nest.regions_are ∙ sym y.has_nest.regions_are) first
    (subst (λ (s : SubTasks). AreBounds t x.graph y.nest s c) subs (subst (λ (g : Flow). AreBounds t g y.nest y.subs c) graph other))
  where
    graph : y.graph ≡ x.graph
    graph = one_graph t code entry y.graph x.graph y.has_graph x.has_graph

    subs : y.subs ≡ x.subs
    subs = one_cutting x.graph t.regions t.cuts y.subs x.subs (subst (λ (g : Flow). AreSubTasks g t.regions t.cuts y.subs) graph y.has_cuts) x.has_cuts
