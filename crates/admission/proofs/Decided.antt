-- What the conditions of the analysis answer, put together.
use Rattle.std.proofs.Common.{◌≡◌, sym, ap, subst, ℕ, ◌^◌, ◌<◌, ◌≤◌, Bool, List, [], length, Result, Ok, Err, arith, All}
use Rattle.visa_io.specs.ImageCode.{code_of_image}
use Rattle.visa_io.specs.declared.records.Code.{Code}
use Rattle.visa_io.specs.declared.records.Image.{Image}
use Rattle.task_text.specs.declared.task.Task.{Task}
use Rattle.std.specs.Prelude.{◌⊎◌, ◌↔◌, get_or}
use Rattle.std.specs.List.{Contains}
use Rattle.std.proofs.lemmas.List.{get_or_default}
use Rattle.flow_graph.specs.Flow.{Flow, IsFlow, IsWithBlocks}
use Rattle.flow_graph.specs.Reached.{IsStart, Reached}
use Rattle.flow_graph.proofs.Unique.{blocks_with, with_blocks}
use Rattle.task_text.specs.Limits.{KeepsLimits}
use Rattle.checkpoint_plan.specs.Limits.{AreBounds as AreRowBounds}
use Rattle.flow_graph.specs.declared.fault.FlowFault.{FlowFault}
use Rattle.flow_graph.specs.declared.fault.FlowFault.TheVariants as flow_fault
use Rattle.loop_regions.specs.Nested as nested
use Rattle.loop_regions.specs.Nested.{Numbered}
use Rattle.loop_regions.specs.declared.fault.RegionFault.{RegionFault}
use Rattle.loop_regions.specs.declared.fault.RegionFault.TheVariants as region_fault
use Rattle.subtask_cut.specs.Cuts as cuts
use Rattle.subtask_cut.specs.Cuts.{SubTasks}
use Rattle.subtask_cut.specs.declared.fault.CutFault.{CutFault}
use Rattle.subtask_cut.specs.declared.fault.CutFault.TheVariants as cut_fault
use Rattle.admission.specs.Admitted.{IsAdmitted, Times}
use Rattle.admission.specs.Analysing.{ArePassed, cut_refusal, flow_refusal, region_refusal}
use Rattle.admission.specs.Judging.{IsTimed, Judges}
use Rattle.admission.specs.Found.{Analysis, AreBounds, HasCounts, HasFacts, HasGraph, HasNest, IsBound, bounds_at, entry_of, extra_starts}
use Rattle.admission.specs.Refused.{Admits, IsRefused}
use Rattle.admission.specs.declared.mode.Mode.{Mode}
use Rattle.admission.specs.declared.refusal.Refusal.{Refusal}
use Rattle.admission.specs.declared.refusal.Refusal.TheVariants as refusal

pub flow_refused : (t : Task) (code : Code) (entry : ℕ) (fault : FlowFault) → IsFlow code entry (Err fault) → IsRefused t code entry (flow_refusal fault)
unfolding IsFlow
flow_refused t code entry (flow_fault.Reserved a) is = is
flow_refused t code entry (flow_fault.Indirect a) is = is
flow_refused t code entry (flow_fault.LinkBranch a) is = is
flow_refused t code entry (flow_fault.SlotControl a) is = is
flow_refused t code entry (flow_fault.SlotTarget a) is = is
flow_refused t code entry (flow_fault.OffCode a) is = is
flow_refused t code entry (flow_fault.Recursion a) is = is
flow_refused t code entry flow_fault.Deep is = is
flow_refused t code entry flow_fault.Memory is = is

pub region_refused : (t : Task) (code : Code) (entry : ℕ) (g : Flow) → HasGraph t code entry g → (fault : RegionFault)
    → nested.IsAnswer g t.regions (Err fault) → IsRefused t code entry (region_refusal fault)
region_refused t code entry g has (region_fault.Crossing r) is = record { graph = g; has_graph = has; first = is }
region_refused t code entry g has (region_fault.SideEntry r from to) is = record { graph = g; has_graph = has; first = is }
region_refused t code entry g has (region_fault.FreeCycle u) is = record { graph = g; has_graph = has; first = is }
region_refused t code entry g has region_fault.Memory is = tt

-- a cut that doesn't keep its rules, where all else passed
pub cut_refused : (t : Task) (code : Code) (entry : ℕ) (g : Flow) (n : Numbered) (mask : ℕ → ℕ → Bool) → HasGraph t code entry g → HasNest t g n
    → HasFacts t code g mask → HasCounts t code g mask → (fault : CutFault) → cuts.IsAnswer g t.regions t.cuts (Err fault) → IsRefused t code entry (cut_refusal fault)
cut_refused t code entry g n mask a b c d (cut_fault.Slot i) is =
    record { graph = g; nest = n; mask = mask; has_graph = a; has_nest = b; has_facts = c; has_counts = d; first = is }
cut_refused t code entry g n mask a b c d (cut_fault.InCallee i) is =
    record { graph = g; nest = n; mask = mask; has_graph = a; has_nest = b; has_facts = c; has_counts = d; first = is }
cut_refused t code entry g n mask a b c d (cut_fault.InRegion i) is =
    record { graph = g; nest = n; mask = mask; has_graph = a; has_nest = b; has_facts = c; has_counts = d; first = is }
cut_refused t code entry g n mask a b c d (cut_fault.Order i) is =
    record { graph = g; nest = n; mask = mask; has_graph = a; has_nest = b; has_facts = c; has_counts = d; first = is }
cut_refused t code entry g n mask a b c d (cut_fault.Bypassed i) is =
    record { graph = g; nest = n; mask = mask; has_graph = a; has_nest = b; has_facts = c; has_counts = d; first = is }
cut_refused t code entry g n mask a b c d cut_fault.Memory is = tt

-- what passed
abbrev pub analysis_of : (t : Task) (code : Code) (entry : ℕ) (g : Flow) (n : Numbered) (s : SubTasks) → ArePassed t code entry g n s → Analysis t code entry
analysis_of t code entry g n s passed = record {
  graph = g;
  nest = n;
  mask = passed.mask;
  subs = s;
  has_graph = passed.counted.nested.has_graph;
  has_nest = passed.counted.nested.has_nest;
  has_facts = passed.counted.has_facts;
  has_counts = passed.counted.has_counts;
  has_cuts = passed.has_cuts;
}

-- the deadline decides
pub judged_is : (mode : Mode) (t : Task) (i : Image) (times : Times) (r : Result Times Refusal) → IsTimed t (code_of_image i) (entry_of t i) times
    → Judges mode t times r → Admits mode t i r
unfolding Admits
judged_is mode t i times (Ok a) timed (same, in_time) = subst (IsAdmitted mode t i) (sym same) (record {
  analysis = analysis_of t (code_of_image i) (entry_of t i) timed.graph timed.nest timed.subs timed.passed;
  bounds = timed.bounds;
  plans = timed.plans;
  in_time = in_time;
})
judged_is mode t i times (Err (refusal.Exceeds needed deadline)) timed (needed_is, deadline_is, above) = record {
  analysis = analysis_of t (code_of_image i) (entry_of t i) timed.graph timed.nest timed.subs timed.passed;
  bounds = times.bounds;
  are = timed.bounds;
  needed_is = needed_is;
  deadline_is = deadline_is;
  above = above;
}
judged_is mode t i times (Err (refusal.Flow fault)) timed bad = absurd bad
judged_is mode t i times (Err (refusal.Region fault)) timed bad = absurd bad
judged_is mode t i times (Err (refusal.Fact fault)) timed bad = absurd bad
judged_is mode t i times (Err (refusal.Loop fault)) timed bad = absurd bad
judged_is mode t i times (Err (refusal.Cut fault)) timed bad = absurd bad
judged_is mode t i times (Err refusal.Memory) timed bad = absurd bad

-- a refusal of the analysis is one of the admission
pub refused_is : (mode : Mode) (t : Task) (i : Image) (r : Refusal) → IsRefused t (code_of_image i) (entry_of t i) r → Admits mode t i (Err r)
unfolding Admits
refused_is mode t i (refusal.Flow fault) is = is
refused_is mode t i (refusal.Region fault) is = is
refused_is mode t i (refusal.Fact fault) is = is
refused_is mode t i (refusal.Loop fault) is = is
refused_is mode t i (refusal.Cut fault) is = is
refused_is mode t i (refusal.Exceeds needed deadline) bad = absurd bad
refused_is mode t i refusal.Memory is = tt

-- the bounds of each point are few and not above the greatest, and there is one
row_bounds : (t : Task) (g : Flow) (n : Numbered) (s : SubTasks) (bounds : List (List ℕ)) → KeepsLimits t → cuts.AreSubTasks g t.regions t.cuts s → AreBounds t g n s bounds
    → (p : ℕ) → p < length bounds → AreRowBounds (bounds_at bounds p) × (1 ≤ length (bounds_at bounds p))
row_bounds t g n s bounds keeps subs are p below =
    let point : p < length t.points = omega (arith, below, are.points) in
    let long = are.subs p point in
    let firsts = ap length subs.firsts_are in (
      record {
        few = omega (arith, long, firsts, keeps.few_cuts);
        each = λ k d inside. small (get_or (bounds_at bounds p) k d) (get_or (bounds_at bounds p) k 0) (get_or_default (bounds_at bounds p) k d 0 inside)
            (are.are p k point (omega (arith, inside, long)));
      },
      omega (arith, long, firsts),
    )
  where
    small : {period k : ℕ} (b c : ℕ) → b ≡ c → IsBound t g n s period k c → b ≤ 10 ^ 18
    small b c same is = let at = is.bound_is in omega (arith, same, at)

pub rows_are : (t : Task) (code : Code) (entry : ℕ) (times : Times) → KeepsLimits t → IsTimed t code entry times → All AreRowBounds times.bounds
rows_are t code entry times keeps timed = λ p d below.
    subst AreRowBounds (get_or_default times.bounds p [] d below)
    (row_bounds t timed.graph timed.nest timed.subs times.bounds keeps timed.passed.has_cuts timed.bounds p below).0

pub rows_some : (t : Task) (code : Code) (entry : ℕ) (times : Times) → KeepsLimits t → IsTimed t code entry times → All (λ (row : List ℕ). 1 ≤ length row) times.bounds
rows_some t code entry times keeps timed = λ p d below.
    subst (λ (row : List ℕ). 1 ≤ length row) (get_or_default times.bounds p [] d below)
    (row_bounds t timed.graph timed.nest timed.subs times.bounds keeps timed.passed.has_cuts timed.bounds p below).1

-- the graph with its blocks
pub graph_made : (t : Task) (code : Code) (entry : ℕ) (g new : Flow) (starts : List ℕ) → IsFlow code entry (Ok g) → starts ≡ extra_starts t → IsWithBlocks g starts new
    → HasGraph t code entry new
unfolding IsFlow
graph_made t code entry g new starts is same made = record {
  graph = with_blocks code entry g new starts is.0 made;
  blocks = λ a. subst (λ (l : List ℕ). Contains new.blocks a ↔ (IsStart code entry a ⊎ (Contains l a × Reached code entry a))) same (blocks_with code entry g new starts is made a);
}
