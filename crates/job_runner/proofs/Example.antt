-- A task that can be run in either mode: one that is admitted, with more time before its deadline.
use Rattle.std.proofs.Common.{refl, ℕ, zero, suc, ◌<◌, ◌≤◌, List, [], ◌∷◌, arith, lit≤}
use Rattle.std.specs.Prelude.{Some}
use Rattle.visa_io.specs.ImageCode.{code_of_image}
use Rattle.task_text.specs.Limits.{KeepsLimits}
use Rattle.task_text.specs.declared.task.Task.{Task}
use Rattle.checkpoint_plan.specs.Plan.{IsPlan, overhead_of, owed_of, rem_of, rems_of}
use Rattle.checkpoint_plan.specs.declared.plan.Plan.{Plan}
use Rattle.frequency_pick.specs.Choice.{plan_of}
use Rattle.ooo_clock.specs.Clock.{Predicts}
use Rattle.admission.specs.Admitted.{IsAdmitted, Times, needed_of}
use Rattle.admission.specs.Found.{Analysis, AreBounds, bounds_at, entry_of}
use Rattle.admission.specs.Plans.{ArePlans, IsPlanOf}
use Rattle.admission.specs.declared.mode.Mode.{Mode}
use Rattle.admission.specs.declared.mode.Mode.TheVariants.{Simple, Fast}
use Rattle.admitted_jobs.specs.Ready.{IsReady}
use Rattle.admitted_jobs.proofs.ExampleCode.{image}
use Rattle.admitted_jobs.proofs.ExampleJob.{admitted, job_there, times}
use Rattle.admitted_jobs.proofs.ExampleTask.{limits, task}
use Rattle.mode_states.specs.Kept.{kept_of}
use Rattle.job_runner.specs.Job.{Setting}
use Rattle.job_runner.specs.Opens.{AllFit, IsRunnable}
use Rattle.job_runner.proofs.Runnable.{admitted_runs}

-- a switch and what both sub-tasks need take 47,000 ps
abbrev roomy : Task
roomy = record task { period_ps = 60000; deadline_ps = 60000 }

abbrev plan : Plan
plan = record {
  a = 0;
  b = 0;
  period_ps = 1000;
  overhead_ps = 36000;
  rem_ps = 11000 ∷ 9000 ∷ [];
  checkpoint_ps = 13000 ∷ 15000 ∷ [];
  watchdog = 13 ∷ 15 ∷ [];
}

abbrev roomy_times : Times
roomy_times = record { bounds = times.bounds; plans = record { points = 1; plans = Some plan ∷ [] } }

roomy_limits : KeepsLimits roomy
roomy_limits = record {
  machine = limits.machine;
  points = limits.points;
  period = (lit≤ tt, lit≤ tt);
  deadline = (lit≤ tt, lit≤ tt);
  image = limits.image;
  entry = limits.entry;
  stack = limits.stack;
  ram = limits.ram;
  input_len = limits.input_len;
  input_ends = limits.input_ends;
  out_max = limits.out_max;
  show = limits.show;
  few_cuts = limits.few_cuts;
  cuts = limits.cuts;
  few_regions = limits.few_regions;
  regions = limits.regions;
  few_facts = limits.few_facts;
  facts = limits.facts;
}

-- the analysis doesn't see the deadline
analysed : Analysis roomy (code_of_image image) (entry_of roomy image)
analysed =
    let a = admitted.analysis in
    record {
      graph = a.graph;
      nest = a.nest;
      mask = a.mask;
      subs = a.subs;
      has_graph = record { graph = a.has_graph.graph; blocks = a.has_graph.blocks };
      has_nest = record { nest = a.has_nest.nest; regions_are = a.has_nest.regions_are };
      has_facts = record { masks = a.has_facts.masks; kept = a.has_facts.kept };
      has_counts = a.has_counts;
      has_cuts = a.has_cuts;
    }

bounds_are : AreBounds roomy analysed.graph analysed.nest analysed.subs times.bounds
unfolding analysed
bounds_are = record {
  points = admitted.bounds.points;
  subs = admitted.bounds.subs;
  are = λ point k below less.
      let b = admitted.bounds.are point k below less in
      record {
        charge = b.charge;
        is_charge = b.is_charge;
        most = b.most;
        longest = b.longest;
        bound_is = b.bound_is;
      };
}

is_plan : IsPlan roomy (bounds_at times.bounds 0) 0 0 1000 1000 plan
unfolding owed_of overhead_of rem_of rems_of
is_plan = record {
  owed = lit≤ tt;
  a_is = refl;
  b_is = refl;
  period_is = refl;
  overhead_is = refl;
  rems_are = refl;
  checkpoints_are = refl;
  watchdogs_are = refl;
}

plans_are : ArePlans roomy roomy_times.bounds roomy_times.plans
plans_are = record { points = refl; long = refl; are = each }
  where
    each : (a b : ℕ) → a < 1 → b < 1
        → IsPlanOf roomy roomy_times.bounds a b (plan_of roomy_times.plans (record { a = a; b = b }))
    each zero zero first second = is_plan
    each zero (suc b) first second = absurd (omega (arith, second))
    each (suc a) b first second = absurd (omega (arith, first))

in_time : (mode : Mode) → needed_of mode roomy roomy_times.bounds ≤ roomy.deadline_ps
unfolding needed_of owed_of overhead_of rem_of
in_time Simple = lit≤ tt
in_time Fast = lit≤ tt

roomy_admitted : (mode : Mode) → IsAdmitted mode roomy image roomy_times
roomy_admitted mode = record { analysis = analysed; bounds = bounds_are; plans = plans_are; in_time = in_time mode }

ready : IsReady roomy (code_of_image image) job_there.memory
ready =
    let r = job_there.ready in
    record { has_code = r.has_code; input_at = r.input_at; input = r.input; shows = r.shows }

-- with a predictor that knows nothing but the next address
abbrev next_guess : Predicts
next_guess = record { guess = λ numbers pc next instr. next; learnt = λ numbers pc instr taken next. numbers }

abbrev setting : Setting
setting = record {
  kept = kept_of roomy (entry_of roomy image) roomy_times;
  output_max = 1;
  predicts = next_guess;
  memory = job_there.memory;
  numbers = [];
  past = [];
}

-- and inputs of no bytes
pub some_run : (mode : Mode) → (s : Setting) × (inputs : ℕ → List ℕ) × IsRunnable mode s × AllFit s inputs
some_run mode = (
  setting,
  λ n. [],
  admitted_runs mode roomy image roomy_times setting roomy_limits (roomy_admitted mode) ready refl refl,
  λ n. omega arith,
)
