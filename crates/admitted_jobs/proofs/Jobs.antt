-- Every job of an admitted task is in time, and so is every suffix.
use Rattle.std.proofs.Common.{◌≡◌, ◌∙◌, refl, sym, ap, subst, ℕ, zero, suc, ◌-◌, ◌+◌, ◌<◌, ◌≤◌, Bool, true, false, List, [], ◌∷◌, length, drop, arith, inl, inr}
use Rattle.std.specs.Prelude.{if◌then◌else◌, sum}
use Rattle.std.proofs.lemmas.Bool.{cases_lt}
use Rattle.visa_io.specs.ImageCode.{code_of_image}
use Rattle.visa_io.specs.declared.records.Image.{Image}
use Rattle.task_text.specs.Limits.{KeepsLimits}
use Rattle.task_text.specs.declared.task.Task.{Task}
use Rattle.mips_ref.specs.Job.{EndsAfter, after}
use Rattle.mips_ref.specs.Mips.{Mips}
use Rattle.mips_ref.specs.Step.{step_of}
use Rattle.mips_ref.specs.declared.records.Step.TheVariants.{Went}
use Rattle.mips_ref.proofs.Rans.{after_add}
use Rattle.flow_graph.specs.Code.{instr_at}
use Rattle.path_wcet.specs.Paid.{cap}
use Rattle.remaining_wcet.specs.Bounds.{sum_of}
use Rattle.remaining_wcet.specs.Runs.{cuts_met, is_among}
use Rattle.remaining_wcet.specs.SubTasks.{SubTasks}
use Rattle.run_law.specs.Advance.{MayAnswer}
use Rattle.run_law.specs.Program.{Program}
use Rattle.run_law.proofs.Whole.{ends}
use Rattle.timed_jobs.specs.Pace.{EndsWithin, pcs_of}
use Rattle.timed_jobs.proofs.Ends.{costs_one, job_in_time, suffix_in_time}
use Rattle.walked_jobs.specs.Units.{units_of}
use Rattle.admission.specs.Admitted.{IsAdmitted, Times}
use Rattle.admission.specs.Found.{bounds_at, entry_of}
use Rattle.admission.specs.declared.mode.Mode.{Mode}
use Rattle.admitted_jobs.specs.Jobs.{AllWent, EndsBy, IsJob, caches_in, inside, pace_at}
use Rattle.admitted_jobs.proofs.Few.{steps_few}
use Rattle.admitted_jobs.proofs.Known.{AreCutsIn, IsKnown, known_at, prices_of, program_in, subs_in}
use Rattle.admitted_jobs.proofs.Points.{same_sum}
use Rattle.admitted_jobs.proofs.Subs.{cuts_there}

-- the steps before a state, and those from it on, go
all_go : (x : Mips) (n k : ℕ) → AllWent n x → ((j : ℕ) → j < k → (step_of (after j (after n x))).answer ≡ Went)
    → AllWent (k + n) x
all_go x n k went more j below = elim (cases_lt j n) [
  | inl early ↦ went j early
  | inr later ↦ (
      let i : ℕ = j - n in
      let same : i + n ≡ j = omega (arith, later) in
      ap (λ m. (step_of (after m x)).answer) (sym same) ∙ ap (λ y. (step_of y).answer) (after_add i n x) ∙ more i
      (omega (arith, below, later)))
]

-- a job that ends some steps after a state ends
ends_later : (x : Mips) (n k : ℕ) → AllWent n x → EndsAfter (after n x) k → EndsAfter x (k + n)
ends_later x n k went over = record {
  went = all_go x n k went over.went;
  ended = subst (λ y. (step_of y).answer ≡ Went → ⊥) (sym (after_add k n x)) over.ended;
}

-- the steps from a state on
few_at : (t : Task) (p : Program) (s : SubTasks) (units : ℕ → List ℕ) (bounds : List (List ℕ)) (point : ℕ) (x : Mips)
    → IsKnown t p s units bounds point x → (n k : ℕ) → AllWent (k + n) x
    → k ≤ sum_of (drop (inside t.cuts x n) (bounds_at bounds point))
few_at t p s units bounds point x known n k went =
    steps_few p s units (prices_of t p.code bounds point) (prices_of t p.code bounds (length t.points - 1)) cap
    (bounds_at bounds point)
    (bounds_at bounds (length t.points - 1)) t.cuts x known.passed known.opens known.flow known.firsts known.analysed
    known.priced
    (λ a. costs_one (pace_at t point) (instr_at p.code a)) n k went

-- how it ends
ends_by : (t : Task) (p : Program) (s : SubTasks) (units : ℕ → List ℕ) (bounds : List (List ℕ)) (point : ℕ) (x : Mips)
    → IsKnown t p s units bounds point x → (n first : ℕ) → AllWent n x
    → EndsWithin (pace_at t point) (caches_in t) (after n x)
    (5 + (first + sum_of (drop (inside t.cuts x n) (bounds_at bounds point))))
    → EndsBy t point (after n x) first (sum (drop (inside t.cuts x n) (bounds_at bounds point)))
ends_by t p s units bounds point x known n first went over =
    let same = same_sum (drop (inside t.cuts x n) (bounds_at bounds point)) in
    let whole = ends_later x n over.steps went over.ends in
    record {
      steps = over.steps;
      ends = over.ends;
      answer = subst (λ y. MayAnswer (step_of y).answer) (after_add over.steps n x)
          (ends p x (over.steps + n) known.passed known.opens whole);
      few = omega (arith, few_at t p s units bounds point x known n over.steps whole.went, same);
      within = omega (arith, over.within, same);
    }

pub suffix_ends : (mode : Mode) (t : Task) (i : Image) (times : Times) (x : Mips) (point n : ℕ) → KeepsLimits t
    → (admitted : IsAdmitted mode t i times)
    → AreCutsIn mode t i times admitted → IsJob t i x → point < length t.points → AllWent n x
    → EndsBy t point (after n x) (pace_at t point).miss
    (sum (drop (inside t.cuts x n) (bounds_at times.bounds point)))
suffix_ends mode t i times x point n limits admitted cuts job below went =
    let p : Program = program_in mode t i times admitted in
    let s : SubTasks = subs_in mode t i times admitted in
    let known = known_at mode t i times x point limits admitted cuts job below in
    let over = suffix_in_time p s (units_of admitted.analysis.graph) (prices_of t p.code times.bounds point)
    (prices_of t p.code times.bounds (length t.points - 1)) cap
    (bounds_at times.bounds point) (bounds_at times.bounds (length t.points - 1)) t.cuts (pace_at t point)
    (caches_in t) x known.passed known.opens known.flow known.firsts
    known.analysed known.priced (record { base_is = refl; miss_is = refl }) known.covered n went in
    ends_by t p s (units_of admitted.analysis.graph) times.bounds point x known n (pace_at t point).miss went over

-- the whole of it
drop_less : (ns : List ℕ) (k : ℕ) → sum_of (drop k ns) ≤ sum_of ns
drop_less ns zero = omega arith
drop_less [] (suc k) = omega arith
drop_less (n ∷ ns) (suc k) = omega (arith, drop_less ns k)

pub job_ends : (mode : Mode) (t : Task) (i : Image) (times : Times) (x : Mips) (point : ℕ) → KeepsLimits t
    → (admitted : IsAdmitted mode t i times)
    → AreCutsIn mode t i times admitted → IsJob t i x → point < length t.points
    → EndsBy t point x 0 (sum (bounds_at times.bounds point))
job_ends mode t i times x point limits admitted cuts job below =
    let p : Program = program_in mode t i times admitted in
    let s : SubTasks = subs_in mode t i times admitted in
    let known = known_at mode t i times x point limits admitted cuts job below in
    let over = job_in_time p s (units_of admitted.analysis.graph) (prices_of t p.code times.bounds point)
    (prices_of t p.code times.bounds (length t.points - 1)) cap
    (bounds_at times.bounds point) (bounds_at times.bounds (length t.points - 1)) t.cuts (pace_at t point)
    (caches_in t) x known.passed known.opens known.flow known.firsts
    known.analysed known.priced (record { base_is = refl; miss_is = refl }) known.covered in
    let same = same_sum (bounds_at times.bounds point) in
    let few = few_at t p s (units_of admitted.analysis.graph) times.bounds point x known 0 over.steps
    (λ k less. over.ends.went k (omega (arith, less))) in
    let less = drop_less (bounds_at times.bounds point) (inside t.cuts x 0) in
    record {
      steps = over.steps;
      ends = over.ends;
      answer = ends p x over.steps known.passed known.opens over.ends;
      few = omega (arith, few, less, same);
      within = omega (arith, over.within, same);
    }

-- the sub-task of a state is one of the task's
met_below : (cuts pcs : List ℕ) → cuts_met cuts pcs ≤ length cuts
met_below [] pcs = omega arith
met_below (c ∷ cuts) pcs = omega (arith, met_below cuts pcs, one (is_among c pcs))
  where
    one : (b : Bool) → (if b then 1 else 0) ≤ 1
    one true = omega arith
    one false = omega arith

pub inside_below : (mode : Mode) (t : Task) (i : Image) (times : Times) (x : Mips) (point n : ℕ)
    → (admitted : IsAdmitted mode t i times)
    → point < length t.points → inside t.cuts x n < length (bounds_at times.bounds point)
inside_below mode t i times x point n admitted below =
    let long = admitted.bounds.subs point below in
    let firsts = ap (λ (l : List ℕ). length l) admitted.analysis.has_cuts.firsts_are in
    omega (arith, met_below t.cuts (pcs_of n x), long, firsts)

-- its cuts have no fault
pub cuts_in : (mode : Mode) (t : Task) (i : Image) (times : Times) (admitted : IsAdmitted mode t i times)
    → AreCutsIn mode t i times admitted
cuts_in mode t i times admitted = cuts_there t (code_of_image i) (entry_of t i) admitted.analysis
