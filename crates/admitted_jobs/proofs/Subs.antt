-- The sub-tasks of a task, as what remains of a job sees them, and what is known of them.
use Rattle.std.proofs.Common.{◌≡◌, refl, sym, ap, subst, ℕ, suc, ◌+◌, ◌<◌, true, List, ◌∷◌, length, get_or}
use Rattle.visa_io.specs.declared.records.Code.{Code}
use Rattle.task_text.specs.declared.task.Task.{Task}
use Rattle.flow_graph.specs.Flow.{Flow}
use Rattle.persistence.specs.Charges.{Charge, IsCharge, is_charged, is_covered, persistent_lines}
use Rattle.run_law.specs.Loops.{loops_of}
use Rattle.run_law.specs.Program.{Program}
use Rattle.run_law.proofs.Looping.{long_units}
use Rattle.bound_checker.specs.Lines.{program_of}
use Rattle.flow_graph.specs.declared.parts.Edge.{Edge}
use Rattle.loop_regions.specs.Walks.{IsFirst, IsWalk, Meets, alone}
use Rattle.remaining_wcet.proofs.Cutting.{cutting}
use Rattle.remaining_wcet.specs.Admitted.{IsAnalysed}
use Rattle.remaining_wcet.specs.Known.{AreCuts}
use Rattle.remaining_wcet.specs.SubTasks.{SubTasks, first_of_sub}
use Rattle.remaining_wcet.specs.Ways.{AreUnits}
use Rattle.covered_fetches.specs.Charged.{ChargesSub}
use Rattle.covered_fetches.proofs.Covering.{start_is_covered}
use Rattle.subtask_cut.proofs.Once.{once}
use Rattle.subtask_cut.specs.Cuts as cut
use Rattle.subtask_cut.specs.Cuts.{AreSubTasks}
use Rattle.subtask_cut.specs.Functions.{AreFunctions, AreOver}
use Rattle.walked_jobs.specs.Machine.{words_of}
use Rattle.walked_jobs.specs.Units.{units_of}
use Rattle.walked_jobs.proofs.Graphs.{functions_are, over_are, units_are}
use Rattle.admission.specs.Found.{Analysis, scope_of}
use Rattle.admission.proofs.Firsts.{first_no_slot, first_starts}
use Rattle.admitted_jobs.proofs.Programs.{found, found_graph, found_of, own_graph}

-- first units, scopes, and what is charged in each
abbrev pub subs_of : Task → Flow → cut.SubTasks → SubTasks
subs_of t g s = record {
  flow = loops_of g t.regions;
  firsts = s.firsts;
  scope = λ k. scope_of s k;
  charged = λ k at. is_charged g (scope_of s k) t.machine.icache at;
  covered = λ k at. is_covered g (scope_of s k) t.machine.icache at;
  lines = λ k. length (persistent_lines g (scope_of s k) t.machine.icache);
}

pub charges_sub : (t : Task) (g : Flow) (s : cut.SubTasks) (k : ℕ) (charge : Charge)
    → IsCharge g (scope_of s k) t.machine.icache charge
    → ChargesSub (subs_of t g s) g t.machine.icache k charge
charges_sub t g s k charge is = record {
  is_charge = is;
  charged = λ at. sym (is.charged at);
  covered = λ at. refl;
  lines = sym is.persistent;
}

-- sub-task 0 begins at the entry
pub first_is_entry : (t : Task) (code : Code) (entry : ℕ) (a : Analysis t code entry)
    → first_of_sub (subs_of t a.graph a.subs) 0 ≡ a.graph.entry
first_is_entry t code entry a = ap (λ (l : List ℕ). get_or l 0 0) a.has_cuts.firsts_are

-- what is known of functions and units
functions_there : (t : Task) (code : Code) (entry : ℕ) (a : Analysis t code entry)
    → AreFunctions (subs_of t a.graph a.subs).flow.edges (units_of a.graph) a.graph.entry
unfolding program_of
functions_there t code entry a = functions_are (found t code entry a) a.graph (found_graph t code entry a)
    (found_of t code entry a)

over_there : (t : Task) (code : Code) (entry : ℕ) (a : Analysis t code entry) → AreOver a.graph.edges
unfolding program_of
over_there t code entry a = over_are (found t code entry a) a.graph (found_graph t code entry a)
    (found_of t code entry a)

units_there : (t : Task) (code : Code) (entry : ℕ) (a : Analysis t code entry)
    → AreUnits (loops_of a.graph t.regions) (words_of code) a.graph.entry
unfolding program_of
units_there t code entry a =
    let p : Program = found t code entry a in
    units_are p a.graph (found_graph t code entry a) (found_of t code entry a)
    (long_units p a.graph t.regions (found_graph t code entry a) refl)

pub slots_there : (t : Task) (code : Code) (entry : ℕ) (a : Analysis t code entry) (j u : ℕ)
    → (j < length a.subs.firsts) × (get_or a.subs.firsts j 0 ≡ u)
    → (v : ℕ) → (loops_of a.graph t.regions).is_long v ≡ true → v + 4 ≡ u → ⊥
unfolding program_of
slots_there t code entry a j u first v long at =
    first_no_slot (found t code entry a) a.graph t.regions t.regions t.cuts a.subs (found_graph t code entry a)
    (found_of t code entry a) refl refl a.has_cuts j u first v long at

pub analysed_subs : (t : Task) (code : Code) (entry : ℕ) (a : Analysis t code entry)
    → AreCuts (subs_of t a.graph a.subs) (units_of a.graph)
    → ((k : ℕ) → k < length a.subs.firsts → (charge : Charge) × IsCharge a.graph (scope_of a.subs k) t.machine.icache
    charge)
    → IsAnalysed (subs_of t a.graph a.subs) (units_of a.graph) (words_of code)
analysed_subs t code entry a cuts charges = record {
  functions = subst (λ e. AreFunctions a.graph.edges (units_of a.graph) e) (sym (first_is_entry t code entry a))
      (functions_there t code entry a);
  cuts = cuts;
  kinds = subst (λ e. AreUnits (loops_of a.graph t.regions) (words_of code) e) (sym (first_is_entry t code entry a))
      (units_there t code entry a);
  covered = λ k below.
      let charge = charges k below in
      start_is_covered (subs_of t a.graph a.subs) a.graph t.machine.icache k
      (first_of_sub (subs_of t a.graph a.subs) k) charge.0
      (charges_sub t a.graph a.subs k charge.0 charge.1) (first_starts t code entry a (own_graph t code entry a) k
      (get_or a.subs.firsts k 0) (below, refl));
  slots = slots_there t code entry a;
}

pub cuts_there : (t : Task) (code : Code) (entry : ℕ) (a : Analysis t code entry)
    → AreCuts (subs_of t a.graph a.subs) (units_of a.graph)
cuts_there t code entry a =
    cutting a.graph t.regions t.cuts a.subs (subs_of t a.graph a.subs) a.has_cuts (functions_there t code entry a)
    (over_there t code entry a) refl refl (λ k. refl)

-- every walk comes to a cut at most once
pub once_there : (t : Task) (code : Code) (entry : ℕ) (a : Analysis t code entry) (e : Edge) (es : List Edge)
    → IsWalk (loops_of a.graph t.regions) (alone a.graph.entry) (e ∷ es) → (k u : ℕ) → IsFirst a.subs.firsts (suc k) u
    → e.to ≡ u → Meets u es → ⊥
once_there t code entry a e es walk k u first to meets =
    let cuts = subst (λ rs. AreSubTasks a.graph rs t.cuts a.subs) (sym a.has_nest.regions_are) a.has_cuts in
    once a.graph a.nest t.cuts a.subs a.has_nest.nest cuts (functions_there t code entry a)
    (over_there t code entry a)
    (loops_of a.graph t.regions) refl e es walk k u first to meets
