-- Admission has one answer, want of memory aside.
use Rattle.std.proofs.Common.{◌≡◌, ◌≢◌, ◌∙◌, refl, sym, ap, subst, ℕ, ◌<◌, ◌≤◌, Bool, false, List, [], inl, inr, Ok, Err, arith}
use Rattle.std.proofs.lemmas.Bool.{cases_lt}
use Rattle.visa_io.specs.ImageCode.{code_of_image}
use Rattle.visa_io.specs.declared.records.Code.{Code}
use Rattle.visa_io.specs.declared.records.Image.{Image}
use Rattle.task_text.specs.declared.task.Task.{Task}
use Rattle.flow_graph.specs.Flow.{Flow}
use Rattle.loop_regions.specs.Nested.{Numbered}
use Rattle.loop_regions.specs.Regions.{IsFirstFault}
use Rattle.run_law.specs.Masks.{AreMasks}
use Rattle.bound_checker.specs.Checked as facts
use Rattle.bound_checker.specs.Lines.{blocks_of}
use Rattle.bound_checker.specs.declared.fault.CountFault.{CountFault}
use Rattle.bound_checker.specs.declared.fault.FactFault.{FactFault}
use Rattle.bound_checker.specs.declared.fault.FactFault.TheVariants as fact_fault
use Rattle.subtask_cut.specs.Cuts as cuts
use Rattle.subtask_cut.specs.Cuts.{AreSubTasks, SubTasks}
use Rattle.subtask_cut.specs.declared.fault.CutFault.{CutFault}
use Rattle.subtask_cut.proofs.Unique.{one_fault}
use Rattle.loop_regions.specs.declared.fault.RegionFault.{RegionFault}
use Rattle.frequency_pick.specs.Choice.{PlanTable}
use Rattle.admission.specs.Admitted.{IsAdmitted, Times, needed_of}
use Rattle.admission.specs.Found.{Analysis, HasCounts, HasFacts, HasGraph, HasNest, entry_of, opening_facts, program}
use Rattle.admission.specs.Plans.{ArePlans}
use Rattle.admission.specs.Refused.{Admits, CutFails, FactFailsBy, IsLate, LoopFails, RegionFails}
use Rattle.admission.specs.declared.mode.Mode.{Mode}
use Rattle.admission.specs.declared.refusal.Refusal.{Refusal}
use Rattle.admission.specs.declared.refusal.Refusal.TheVariants.{Flow as FlowRefused, Region, Fact, Loop, Cut, Exceeds, Memory}
use Rattle.admission.proofs.OneBounds.{one_bounds}
use Rattle.admission.proofs.OneCount.{IsFirstCount, counts_have_no_first, one_first_count}
use Rattle.admission.proofs.OneFacts.{facts_lose_none, one_lost_fact}
use Rattle.admission.proofs.OneFlow.{graph_has_no_fault, one_flow_fault, one_graph}
use Rattle.admission.proofs.OneNest.{nest_has_no_fault, one_region_fault}
use Rattle.admission.proofs.OnePlans.{one_table}

-- the first of the conditions passed, in their order: the graph, the regions, the facts, the counts, the cuts
pub record ArePassedTo (t : Task) (code : Code) (entry k : ℕ) : Type 0 where
  pub graph : Flow
  pub nest : Numbered
  pub mask : ℕ → ℕ → Bool
  pub subs : SubTasks
  pub has_graph : 1 ≤ k → HasGraph t code entry graph
  pub has_nest : 2 ≤ k → HasNest t graph nest
  pub has_facts : 3 ≤ k → HasFacts t code graph mask
  pub has_counts : 4 ≤ k → HasCounts t code graph mask
  pub has_cuts : 5 ≤ k → AreSubTasks graph t.regions t.cuts subs

-- what stands where nothing is found
abbrev no_graph : Flow
no_graph = record { entry = 0; units = []; edges = []; functions = []; function_units = []; blocks = [] }

abbrev no_nest : Numbered
no_nest = record { regions = []; addresses = []; ways = []; ranks = [] }

abbrev no_mask : ℕ → ℕ → Bool
no_mask f r = false

abbrev no_subs : SubTasks
no_subs = record { firsts = []; scopes = [] }

none_to : (t : Task) (code : Code) (entry : ℕ) → ArePassedTo t code entry 0
none_to t code entry = record {
  graph = no_graph;
  nest = no_nest;
  mask = no_mask;
  subs = no_subs;
  has_graph = λ h. absurd (omega (arith, h));
  has_nest = λ h. absurd (omega (arith, h));
  has_facts = λ h. absurd (omega (arith, h));
  has_counts = λ h. absurd (omega (arith, h));
  has_cuts = λ h. absurd (omega (arith, h));
}

graph_to : (t : Task) (code : Code) (entry : ℕ) (g : Flow) → HasGraph t code entry g → ArePassedTo t code entry 1
graph_to t code entry g graph = record {
  graph = g;
  nest = no_nest;
  mask = no_mask;
  subs = no_subs;
  has_graph = λ h. graph;
  has_nest = λ h. absurd (omega (arith, h));
  has_facts = λ h. absurd (omega (arith, h));
  has_counts = λ h. absurd (omega (arith, h));
  has_cuts = λ h. absurd (omega (arith, h));
}

nest_to : (t : Task) (code : Code) (entry : ℕ) (g : Flow) (n : Numbered) → HasGraph t code entry g → HasNest t g n → ArePassedTo t code entry 2
nest_to t code entry g n graph nest = record {
  graph = g;
  nest = n;
  mask = no_mask;
  subs = no_subs;
  has_graph = λ h. graph;
  has_nest = λ h. nest;
  has_facts = λ h. absurd (omega (arith, h));
  has_counts = λ h. absurd (omega (arith, h));
  has_cuts = λ h. absurd (omega (arith, h));
}

facts_to : (t : Task) (code : Code) (entry : ℕ) (g : Flow) (n : Numbered) (mask : ℕ → ℕ → Bool) → HasGraph t code entry g → HasNest t g n → HasFacts t code g mask → ArePassedTo t code entry 3
facts_to t code entry g n mask graph nest facts = record {
  graph = g;
  nest = n;
  mask = mask;
  subs = no_subs;
  has_graph = λ h. graph;
  has_nest = λ h. nest;
  has_facts = λ h. facts;
  has_counts = λ h. absurd (omega (arith, h));
  has_cuts = λ h. absurd (omega (arith, h));
}

counts_to : (t : Task) (code : Code) (entry : ℕ) (g : Flow) (n : Numbered) (mask : ℕ → ℕ → Bool) → HasGraph t code entry g → HasNest t g n → HasFacts t code g mask → HasCounts t code g mask
    → ArePassedTo t code entry 4
counts_to t code entry g n mask graph nest facts counts = record {
  graph = g;
  nest = n;
  mask = mask;
  subs = no_subs;
  has_graph = λ h. graph;
  has_nest = λ h. nest;
  has_facts = λ h. facts;
  has_counts = λ h. counts;
  has_cuts = λ h. absurd (omega (arith, h));
}

all_to : (t : Task) (code : Code) (entry : ℕ) → Analysis t code entry → ArePassedTo t code entry 5
all_to t code entry a = record {
  graph = a.graph;
  nest = a.nest;
  mask = a.mask;
  subs = a.subs;
  has_graph = λ h. a.has_graph;
  has_nest = λ h. a.has_nest;
  has_facts = λ h. a.has_facts;
  has_counts = λ h. a.has_counts;
  has_cuts = λ h. a.has_cuts;
}

-- how many conditions passed where a task is refused
abbrev pub passed_by : Refusal → ℕ
passed_by (FlowRefused fault) = 0
passed_by (Region fault) = 1
passed_by (Fact fault) = 2
passed_by (Loop fault) = 3
passed_by (Cut fault) = 4
passed_by (Exceeds needed deadline) = 5
passed_by Memory = 6

fact_passed : (t : Task) (code : Code) (entry : ℕ) (fault : FactFault) → FactFailsBy t code entry fault → ArePassedTo t code entry 2
fact_passed t code entry (fact_fault.NotHeld from to r) x = nest_to t code entry x.graph x.nest x.has_graph x.has_nest
fact_passed t code entry fact_fault.Memory x = absurd x

pub passed_before : (mode : Mode) (t : Task) (i : Image) (f : Refusal) → Admits mode t i (Err f) → f ≢ Memory → ArePassedTo t (code_of_image i) (entry_of t i) (passed_by f)
unfolding Admits
passed_before mode t i (FlowRefused fault) x some = none_to t (code_of_image i) (entry_of t i)
passed_before mode t i (Region fault) x some = graph_to t (code_of_image i) (entry_of t i) x.graph x.has_graph
passed_before mode t i (Fact fault) x some = fact_passed t (code_of_image i) (entry_of t i) fault x
passed_before mode t i (Loop fault) x some = facts_to t (code_of_image i) (entry_of t i) x.graph x.nest x.mask x.has_graph x.has_nest x.has_facts
passed_before mode t i (Cut fault) x some = counts_to t (code_of_image i) (entry_of t i) x.graph x.nest x.mask x.has_graph x.has_nest x.has_facts x.has_counts
passed_before mode t i (Exceeds needed deadline) x some = all_to t (code_of_image i) (entry_of t i) x.analysis
passed_before mode t i Memory x some = absurd (some refl)

-- a condition that fails didn't pass

count_at : (t : Task) (code : Code) (entry : ℕ) (fault : CountFault) (x : LoopFails t code entry fault) → IsFirstCount t code x.graph x.mask x.place x.region fault
count_at t code entry fault x = record { at = x.at; earlier = x.earlier; first = x.first }

fact_failed : (t : Task) (code : Code) (entry k : ℕ) (fault : FactFault) → FactFailsBy t code entry fault → ArePassedTo t code entry k → 3 ≤ k → ⊥
fact_failed t code entry k (fact_fault.NotHeld from to r) x p past =
    let graph : p.graph ≡ x.graph = one_graph t code entry p.graph x.graph (p.has_graph (omega (arith, past))) x.has_graph in
    facts_lose_none t code x.graph p.mask x.mask from to r (subst (λ (g : Flow). HasFacts t code g p.mask) graph (p.has_facts past)) x.masks x.first
fact_failed t code entry k fact_fault.Memory x p past = x

region_failed : (t : Task) (code : Code) (entry k : ℕ) (fault : RegionFault) → RegionFails t code entry fault → ArePassedTo t code entry k → 2 ≤ k → ⊥
region_failed t code entry k fault x p past =
    let graph : p.graph ≡ x.graph = one_graph t code entry p.graph x.graph (p.has_graph (omega (arith, past))) x.has_graph in
    nest_has_no_fault t x.graph p.nest fault (subst (λ (g : Flow). HasNest t g p.nest) graph (p.has_nest past)) x.first

loop_failed : (t : Task) (code : Code) (entry k : ℕ) (fault : CountFault) → LoopFails t code entry fault → ArePassedTo t code entry k → 4 ≤ k → ⊥
loop_failed t code entry k fault x p past =
    let graph : p.graph ≡ x.graph = one_graph t code entry p.graph x.graph (p.has_graph (omega (arith, past))) x.has_graph in
    counts_have_no_first t code x.graph p.mask x.mask x.place x.region fault (subst (λ (g : Flow). HasCounts t code g p.mask) graph (p.has_counts past)) (count_at t code entry fault x)

cut_failed : (t : Task) (code : Code) (entry k : ℕ) (fault : CutFault) → CutFails t code entry fault → ArePassedTo t code entry k → 5 ≤ k → ⊥
cut_failed t code entry k fault x p past =
    let graph : p.graph ≡ x.graph = one_graph t code entry p.graph x.graph (p.has_graph (omega (arith, past))) x.has_graph in
    (subst (λ (g : Flow). AreSubTasks g t.regions t.cuts p.subs) graph (p.has_cuts past)).sound fault x.first.has

pub failed_there : (mode : Mode) (t : Task) (i : Image) (f : Refusal) (k : ℕ) → Admits mode t i (Err f) → ArePassedTo t (code_of_image i) (entry_of t i) k → passed_by f < k → k ≤ 5 → ⊥
unfolding Admits
failed_there mode t i (FlowRefused fault) k x p past last = graph_has_no_fault t (code_of_image i) (entry_of t i) p.graph fault (p.has_graph (omega (arith, past))) x
failed_there mode t i (Region fault) k x p past last = region_failed t (code_of_image i) (entry_of t i) k fault x p (omega (arith, past))
failed_there mode t i (Fact fault) k x p past last = fact_failed t (code_of_image i) (entry_of t i) k fault x p (omega (arith, past))
failed_there mode t i (Loop fault) k x p past last = loop_failed t (code_of_image i) (entry_of t i) k fault x p (omega (arith, past))
failed_there mode t i (Cut fault) k x p past last = cut_failed t (code_of_image i) (entry_of t i) k fault x p (omega (arith, past))
failed_there mode t i (Exceeds needed deadline) k x p past last = omega (arith, past, last)
failed_there mode t i Memory k x p past last = omega (arith, past, last)

-- two refusals by one condition

regions_alike : (t : Task) (code : Code) (entry : ℕ) (f h : RegionFault) → RegionFails t code entry f → RegionFails t code entry h → f ≡ h
regions_alike t code entry f h x y =
    one_region_fault y.graph t.regions f h (subst (λ (g : Flow). IsFirstFault g t.regions f) (one_graph t code entry x.graph y.graph x.has_graph y.has_graph) x.first) y.first

abbrev IsLostBy : Task → Code → ℕ → (ℕ → ℕ → Bool) → ℕ → ℕ → ℕ → Flow → Type 0
IsLostBy t code entry mask from to r g = AreMasks code g.entry mask × facts.IsFirst (program t code g mask) (blocks_of g t.facts) (opening_facts t) from to r

facts_alike : (t : Task) (code : Code) (entry : ℕ) (f h : FactFault) → FactFailsBy t code entry f → FactFailsBy t code entry h → f ≡ h
facts_alike t code entry (fact_fault.NotHeld from to r) (fact_fault.NotHeld from2 to2 r2) x y =
    let lost = subst (IsLostBy t code entry x.mask from to r) (one_graph t code entry x.graph y.graph x.has_graph y.has_graph) (x.masks, x.first) in
    one_lost_fact t code y.graph x.mask y.mask from to r from2 to2 r2 lost.0 y.masks lost.1 y.first
facts_alike t code entry fact_fault.Memory h x y = absurd x
facts_alike t code entry f fact_fault.Memory x y = absurd y

loops_alike : (t : Task) (code : Code) (entry : ℕ) (f h : CountFault) → LoopFails t code entry f → LoopFails t code entry h → f ≡ h
loops_alike t code entry f h x y =
    one_first_count t code y.graph x.mask y.mask x.place y.place x.region y.region f h
    (subst (λ (g : Flow). IsFirstCount t code g x.mask x.place x.region f) (one_graph t code entry x.graph y.graph x.has_graph y.has_graph) (count_at t code entry f x))
    (count_at t code entry h y)

cuts_alike : (t : Task) (code : Code) (entry : ℕ) (f h : CutFault) → CutFails t code entry f → CutFails t code entry h → f ≡ h
cuts_alike t code entry f h x y =
    one_fault y.graph t.regions t.cuts f h (subst (λ (g : Flow). cuts.IsFirst g t.regions t.cuts f) (one_graph t code entry x.graph y.graph x.has_graph y.has_graph) x.first) y.first

late_at : {n m d e : ℕ} → n ≡ m → d ≡ e → Exceeds n d ≡ Exceeds m e
late_at p q = λ k. Exceeds (p k) (q k)

late_alike : (mode : Mode) (t : Task) (i : Image) (n d m e : ℕ) → IsLate mode t i n d → IsLate mode t i m e → Exceeds n d ≡ Exceeds m e
late_alike mode t i n d m e x y =
    let bounds : x.bounds ≡ y.bounds = one_bounds t (code_of_image i) (entry_of t i) x.analysis y.analysis x.bounds y.bounds x.are y.are in
    late_at (x.needed_is ∙ ap (needed_of mode t) bounds ∙ sym y.needed_is) (x.deadline_is ∙ sym y.deadline_is)

alike : (mode : Mode) (t : Task) (i : Image) (f h : Refusal) → Admits mode t i (Err f) → Admits mode t i (Err h) → passed_by f ≡ passed_by h → f ≢ Memory → f ≡ h
unfolding Admits
alike mode t i (FlowRefused f) (FlowRefused h) x y same some = ap (λ z. FlowRefused z) (one_flow_fault (code_of_image i) (entry_of t i) f h x y)
alike mode t i (Region f) (Region h) x y same some = ap (λ z. Region z) (regions_alike t (code_of_image i) (entry_of t i) f h x y)
alike mode t i (Fact f) (Fact h) x y same some = ap (λ z. Fact z) (facts_alike t (code_of_image i) (entry_of t i) f h x y)
alike mode t i (Loop f) (Loop h) x y same some = ap (λ z. Loop z) (loops_alike t (code_of_image i) (entry_of t i) f h x y)
alike mode t i (Cut f) (Cut h) x y same some = ap (λ z. Cut z) (cuts_alike t (code_of_image i) (entry_of t i) f h x y)
alike mode t i (Exceeds n d) (Exceeds m e) x y same some = late_alike mode t i n d m e x y
alike mode t i Memory h x y same some = absurd (some refl)
alike mode t i f h x y same some = absurd (omega (arith, same))

few : (f : Refusal) → f ≢ Memory → passed_by f ≤ 5
few (FlowRefused f) some = omega arith
few (Region f) some = omega arith
few (Fact f) some = omega arith
few (Loop f) some = omega arith
few (Cut f) some = omega arith
few (Exceeds n d) some = omega arith
few Memory some = absurd (some refl)

-- of two admissions the bounds and plans are the same
times_of : {b c : List (List ℕ)} {p q : PlanTable} → b ≡ c → p ≡ q → (let x : Times = record { bounds = b; plans = p } in x) ≡ record { bounds = c; plans = q }
times_of b p = λ k. record { bounds = b k; plans = p k }

pub one_times : (mode : Mode) (t : Task) (i : Image) (a b : Times) → Admits mode t i (Ok a) → Admits mode t i (Ok b) → a ≡ b
unfolding Admits
one_times mode t i a b x y =
    let bounds : a.bounds ≡ b.bounds = one_bounds t (code_of_image i) (entry_of t i) x.analysis y.analysis a.bounds b.bounds x.bounds y.bounds in
    times_of bounds (one_table t b.bounds a.plans b.plans (subst (λ (rows : List (List ℕ)). ArePlans t rows a.plans) bounds x.plans) y.plans)

-- two refusals are the same
pub one_refusal : (mode : Mode) (t : Task) (i : Image) (one other : Refusal) → Admits mode t i (Err one) → Admits mode t i (Err other) → one ≢ Memory → other ≢ Memory → one ≡ other
one_refusal mode t i one other x y some more = elim (cases_lt (passed_by one) (passed_by other)) [
  | inl before ↦ absurd (failed_there mode t i one (passed_by other) x (passed_before mode t i other y more) before (few other more))
  | inr not_before ↦ elim (cases_lt (passed_by other) (passed_by one)) [
    | inl after ↦ absurd (failed_there mode t i other (passed_by one) y (passed_before mode t i one x some) after (few one some))
    | inr not_after ↦ alike mode t i one other x y (omega (arith, not_before, not_after)) some
  ]
]

-- and no task is both admitted and refused
late_or_not : (mode : Mode) (t : Task) (i : Image) (a : Times) (n d : ℕ) → IsAdmitted mode t i a → IsLate mode t i n d → ⊥
late_or_not mode t i a n d x y =
    let needed : needed_of mode t a.bounds ≡ n = ap (needed_of mode t) (one_bounds t (code_of_image i) (entry_of t i) x.analysis y.analysis a.bounds y.bounds x.bounds y.are) ∙ sym y.needed_is in
    let in_time = x.in_time in
    let above = y.above in
    let deadline = y.deadline_is in
    omega (arith, needed, in_time, above, deadline)

pub admitted_or_refused : (mode : Mode) (t : Task) (i : Image) (a : Times) (refusal : Refusal) → Admits mode t i (Ok a) → Admits mode t i (Err refusal) → refusal ≢ Memory → ⊥
unfolding Admits
admitted_or_refused mode t i a (Exceeds n d) x y some = late_or_not mode t i a n d x y
admitted_or_refused mode t i a Memory x y some = some refl
admitted_or_refused mode t i a (FlowRefused f) x y some = failed_there mode t i (FlowRefused f) 5 y (all_to t (code_of_image i) (entry_of t i) x.analysis) (omega arith) (omega arith)
admitted_or_refused mode t i a (Region f) x y some = failed_there mode t i (Region f) 5 y (all_to t (code_of_image i) (entry_of t i) x.analysis) (omega arith) (omega arith)
admitted_or_refused mode t i a (Fact f) x y some = failed_there mode t i (Fact f) 5 y (all_to t (code_of_image i) (entry_of t i) x.analysis) (omega arith) (omega arith)
admitted_or_refused mode t i a (Loop f) x y some = failed_there mode t i (Loop f) 5 y (all_to t (code_of_image i) (entry_of t i) x.analysis) (omega arith) (omega arith)
admitted_or_refused mode t i a (Cut f) x y some = failed_there mode t i (Cut f) 5 y (all_to t (code_of_image i) (entry_of t i) x.analysis) (omega arith) (omega arith)
