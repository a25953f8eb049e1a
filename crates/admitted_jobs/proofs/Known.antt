-- All that the law of suffixes asks, of a job of an admitted task at a point.
use Rattle.std.proofs.Common.{◌≡◌, refl, ℕ, ◌-◌, ◌<◌, List, ◌∷◌, length, get_or}
use Rattle.std.specs.Prelude.{slice_index}
use Rattle.visa_io.specs.ImageCode.{code_of_image}
use Rattle.visa_io.specs.declared.records.Code.{Code}
use Rattle.visa_io.specs.declared.records.Image.{Image}
use Rattle.task_text.specs.Limits.{KeepsLimits}
use Rattle.task_text.specs.declared.task.Task.{Task}
use Rattle.mips_ref.specs.Memory.{Flat}
use Rattle.mips_ref.specs.Mips.{Mips}
use Rattle.loop_regions.specs.Costs.{Prices}
use Rattle.path_wcet.specs.Paid.{cap}
use Rattle.persistence.specs.Charges.{Charge, IsCharge}
use Rattle.remaining_wcet.specs.Admitted.{IsAnalysed, IsPriced}
use Rattle.remaining_wcet.specs.Bounds as remain
use Rattle.remaining_wcet.specs.Known.{AreCuts}
use Rattle.remaining_wcet.specs.SubTasks.{AreCovered, SubTasks}
use Rattle.remaining_wcet.specs.Ways.{edge_cost}
use Rattle.run_law.specs.Program.{Passed, Program}
use Rattle.run_law.specs.Runs.{HasCode, Opens}
use Rattle.bound_checker.specs.Lines.{program_of}
use Rattle.timed_jobs.specs.Pace.{base_of}
use Rattle.walked_jobs.specs.Machine.{words_of}
use Rattle.walked_jobs.specs.Units.{units_of}
use Rattle.admission.specs.Admitted.{IsAdmitted, Times}
use Rattle.admission.specs.Found.{Analysis, AreBounds, bounds_at, entry_of, scope_of}
use Rattle.admission.specs.declared.mode.Mode.{Mode}
use Rattle.admitted_jobs.specs.Jobs.{IsJob, caches_in, pace_at}
use Rattle.admitted_jobs.proofs.Covered.{covered_there}
use Rattle.admitted_jobs.proofs.Most.{bound_of}
use Rattle.admitted_jobs.proofs.Points.{point_of, slower_of, small_of}
use Rattle.admitted_jobs.proofs.Prices.{ArePrices}
use Rattle.admitted_jobs.proofs.Programs.{found, found_graph, found_of, job_opens, passes}
use Rattle.admitted_jobs.proofs.Subs.{analysed_subs, subs_of}

-- the prices of a point
abbrev pub prices_of : Task → Code → List (List ℕ) → ℕ → Prices
prices_of t code bounds point = record {
  base = base_of (pace_at t point) code;
  edge = edge_cost (words_of code);
  miss = (pace_at t point).miss;
  bound = λ k. get_or (bounds_at bounds point) k 0;
}

are_prices : (t : Task) (code : Code) (bounds : List (List ℕ)) (point : ℕ)
    → ArePrices t.machine (slice_index t.points point) code (prices_of t code bounds point)
are_prices t code bounds point = record { base = refl; edge = refl; miss = refl }

-- what is charged, by the bounds of some point
charges_of : (t : Task) (code : Code) (entry : ℕ) (a : Analysis t code entry) (bounds : List (List ℕ)) (point : ℕ)
    → AreBounds t a.graph a.nest a.subs bounds → point < length t.points → (k : ℕ) → k < length a.subs.firsts
    → (charge : Charge) × IsCharge a.graph (scope_of a.subs k) t.machine.icache charge
charges_of t code entry a bounds point are at k below = let b = are.are point k at below in (b.charge, b.is_charge)

bound_at : (t : Task) (code : Code) (entry : ℕ) (a : Analysis t code entry) (bounds : List (List ℕ)) (point : ℕ)
    (memory : Flat)
    → AreBounds t a.graph a.nest a.subs bounds → HasCode code memory → point < length t.points → (k : ℕ)
    → k < length a.subs.firsts
    → remain.IsBound (subs_of t a.graph a.subs) (prices_of t code bounds point) cap k
unfolding program_of
bound_at t code entry a bounds point memory are has at k below =
    bound_of (found t code entry a) t a.graph a.nest a.subs (slice_index t.points point) k
    (slice_index (bounds_at bounds point) k) memory
    (prices_of t code bounds point) (found_graph t code entry a) (found_of t code entry a) refl a.has_nest.regions_are
    has (are_prices t code bounds point) refl (are.are point k at below)

-- the premises
pub record IsKnown (t : Task) (p : Program) (s : SubTasks) (units : ℕ → List ℕ) (bounds : List (List ℕ)) (point : ℕ)
    (x : Mips) : Type 0 where
  pub passed : Passed p
  pub opens : Opens p x
  pub flow : s.flow ≡ p.graph
  pub firsts : s.firsts ≡ p.entry ∷ t.cuts
  pub analysed : IsAnalysed s units (words_of p.code)
  pub priced : IsPriced s (words_of p.code) (prices_of t p.code bounds point)
      (prices_of t p.code bounds (length t.points - 1)) cap (bounds_at bounds point)
      (bounds_at bounds (length t.points - 1))
  pub covered : (k : ℕ) → AreCovered s (caches_in t).fetch_hits k

-- an admitted task's
abbrev pub program_in : (mode : Mode) (t : Task) (i : Image) (times : Times) → IsAdmitted mode t i times → Program
program_in mode t i times admitted = found t (code_of_image i) (entry_of t i) admitted.analysis

abbrev pub subs_in : (mode : Mode) (t : Task) (i : Image) (times : Times) → IsAdmitted mode t i times → SubTasks
subs_in mode t i times admitted = subs_of t admitted.analysis.graph admitted.analysis.subs

abbrev pub AreCutsIn : (mode : Mode) (t : Task) (i : Image) (times : Times) → IsAdmitted mode t i times → Type 0
AreCutsIn mode t i times admitted = AreCuts (subs_in mode t i times admitted) (units_of admitted.analysis.graph)

pub known_at : (mode : Mode) (t : Task) (i : Image) (times : Times) (x : Mips) (point : ℕ) → KeepsLimits t
    → (admitted : IsAdmitted mode t i times)
    → AreCutsIn mode t i times admitted → IsJob t i x → point < length t.points
    → IsKnown t (program_in mode t i times admitted) (subs_in mode t i times admitted)
    (units_of admitted.analysis.graph) times.bounds point x
unfolding program_of
known_at mode t i times x point limits admitted cuts job below =
    let code : Code = code_of_image i in
    let entry : ℕ = entry_of t i in
    let a = admitted.analysis in
    let at = point_of t point limits below in
    let charges = charges_of t code entry a times.bounds point admitted.bounds below in
    record {
      passed = passes t code entry a limits;
      opens = job_opens t i a x limits job;
      flow = refl;
      firsts = a.has_cuts.firsts_are;
      analysed = analysed_subs t code entry a cuts charges;
      priced = record {
        slower = slower_of t.machine code (slice_index t.points point) (slice_index t.points (length t.points - 1))
            (prices_of t code times.bounds point)
            (prices_of t code times.bounds (length t.points - 1)) at.some at.slow
            (are_prices t code times.bounds point) (are_prices t code times.bounds (length t.points - 1));
        edges = refl;
        as_list = refl;
        fast_list = refl;
        long = admitted.bounds.subs point below;
        bound = bound_at t code entry a times.bounds point job.memory admitted.bounds job.ready.has_code below;
        fast_bound = bound_at t code entry a times.bounds (length t.points - 1) job.memory admitted.bounds
            job.ready.has_code at.within;
        small = small_of mode t times.bounds point limits at admitted.in_time;
      };
      covered = covered_there t code entry a limits charges;
    }
