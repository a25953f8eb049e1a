-- The bound of a sub-task at a point bounds each of its walks.
use Rattle.std.proofs.Common.{◌≡◌, ◌∙◌, refl, sym, ap, subst, ℕ, suc, ◌+◌, ◌*◌, ◌<◌, min, Bool, List, get_or, arith}
use Rattle.std.specs.Prelude.{Option, Some, None, slice_get}
use Rattle.std.proofs.lemmas.Option.{get_or_from_slice_get, slice_get-get_or, slice_get_within}
use Rattle.task_text.specs.declared.task.Task.{Task}
use Rattle.mips_ref.specs.Memory.{Flat}
use Rattle.flow_graph.specs.Flow.{Flow, IsGraph}
use Rattle.flow_graph.specs.declared.parts.Edge.{Edge}
use Rattle.loop_regions.specs.Costs.{Prices}
use Rattle.loop_regions.specs.Nested.{Numbered}
use Rattle.loop_regions.specs.Walks.{IsFirst, LoopGraph}
use Rattle.path_wcet.specs.Longest.{AreMost, IsInto, IsMissed, IsPriced, graph_with}
use Rattle.path_wcet.specs.Paid.{cap}
use Rattle.persistence.specs.Charges.{charged_by}
use Rattle.remaining_wcet.specs.Bounds as remain
use Rattle.remaining_wcet.specs.SubTasks.{IsPiece, SubTasks}
use Rattle.run_law.specs.Loops.{loops_of}
use Rattle.run_law.specs.Program.{IsGraphOf, Program}
use Rattle.run_law.specs.Runs.{HasCode}
use Rattle.subtask_cut.specs.Cuts as cut
use Rattle.admission.specs.Found.{IsBound, costs_with, pen_of}
use Rattle.admitted_jobs.proofs.Prices.{ArePrices, priced_of}
use Rattle.admitted_jobs.proofs.Subs.{subs_of}

-- a walk of a sub-task doesn't come to the next cut
missed : (t : SubTasks) (k : ℕ) (es : List Edge) (o : Option ℕ) → slice_get t.firsts (suc k) ≡ o → IsPiece t k es
    → IsMissed o es
missed t k es None is piece = tt
missed t k es (Some to) is piece =
    piece.early (suc k) (omega arith) to (
      slice_get_within t.firsts (suc k) to is,
      get_or_from_slice_get t.firsts
          (suc k) to 0 is,
    )

-- and one that leaves it does
into : (t : SubTasks) (k : ℕ) (e : Edge) → IsFirst t.firsts (suc k) e.to → IsInto (slice_get t.firsts (suc k)) e
into t k e first =
    subst (λ o. IsInto o e) (sym (slice_get-get_or t.firsts (suc k) 0 first.0)) (sym first.1)

-- no walk of it costs more than what the longest walk costs
most_of : (t : Task) (g : Flow) (s : cut.SubTasks) (p : Prices) (k most : ℕ)
    → (most < cap → AreMost p ((subs_of t g s).charged k) (loops_of g t.regions) (get_or s.firsts k 0)
    (slice_get s.firsts (suc k)) most)
    → remain.IsMost (subs_of t g s) p cap k most
most_of t g s p k most law = record {
  inside = λ below es piece. (law below).inside es piece.walk
      (missed (subs_of t g s) k es (slice_get s.firsts (suc k)) refl piece);
  into = λ below c piece exits.
      (law below).into c.exit c.edges exits.walk (missed (subs_of t g s) k c.edges (slice_get s.firsts (suc k)) refl
      piece) (into (subs_of t g s) k c.exit exits.into);
}

-- the bound, by what the analysis says of it
pub bound_of : (q : Program) (t : Task) (g : Flow) (n : Numbered) (s : cut.SubTasks) (period k bound : ℕ)
    (memory : Flat) (p : Prices)
    → IsGraph q.code q.entry g → IsGraphOf q g → q.graph ≡ loops_of g t.regions → n.regions ≡ t.regions
    → HasCode q.code memory
    → ArePrices t.machine period q.code p → p.bound k ≡ bound → IsBound t g n s period k bound
    → remain.IsBound (subs_of t g s) p cap k
bound_of q t g n s period k bound memory p is of loops regions has prices there b =
    let charged : charged_by b.charge ≡ (subs_of t g s).charged k = (λ i at. b.is_charge.charged at i) in
    let law : b.most < cap → AreMost p ((subs_of t g s).charged k) (loops_of g t.regions) (get_or s.firsts k 0)
    (slice_get s.firsts (suc k)) b.most = λ below.
    let long : ℕ → Bool = (loops_of g t.regions).is_long in
    let priced = subst (λ l. IsPriced g (costs_with b.charge (pen_of t.machine period)) p (charged_by b.charge) l)
    (ap (λ (h : LoopGraph). h.is_long) loops)
    (priced_of q g t.machine period memory p b.charge is of has prices) in
    let first = b.longest.bound p (charged_by b.charge) long priced below in
    let same : graph_with g n long ≡ loops_of g t.regions = ap
    (λ rs. record { edges = g.edges; regions = rs; is_long = long }) regions in
    subst (λ c. AreMost p c (loops_of g t.regions) (get_or s.firsts k 0) (slice_get s.firsts (suc k)) b.most) charged
    (subst (λ h. AreMost p (charged_by b.charge) h (get_or s.firsts k 0) (slice_get s.firsts (suc k)) b.most) same
    first) in
    record {
      value = b.most;
      most = most_of t g s p k b.most law;
      is = there ∙ b.bound_is ∙ ap (λ more. min cap (b.most + more))
          (λ i. sym prices.miss i * b.is_charge.persistent i);
    }
