-- A job of an admitted task meets the cuts in order.
use Rattle.std.proofs.Common.{◌≡◌, ◌∙◌, refl, sym, ap, subst, inl, inr, ℕ, zero, suc, ◌<◌, ◌≤◌, ◌-◌, Bool, List, [], ◌∷◌, ◌++◌, length, get_or, arith}
use Rattle.std.specs.Prelude.{◌==◌, if◌then◌else◌, Some, slice_get}
use Rattle.std.proofs.lemmas.Bool.{and_parts, cases_lt, eqb-true}
use Rattle.std.proofs.lemmas.Option.{get_or_from_slice_get, slice_get_within}
use Rattle.visa_io.specs.ImageCode.{code_of_image}
use Rattle.visa_io.specs.declared.records.Code.{Code}
use Rattle.visa_io.specs.declared.records.Image.{Image}
use Rattle.task_text.specs.Limits.{KeepsLimits}
use Rattle.task_text.specs.declared.task.Task.{Task}
use Rattle.mips_ref.specs.Job.{after}
use Rattle.mips_ref.specs.Mips.{Mips, exit_address}
use Rattle.mips_ref.specs.Ran.{is_trap}
use Rattle.mips_ref.specs.Step.{step_of}
use Rattle.mips_ref.specs.declared.records.Step.{Step}
use Rattle.mips_ref.specs.declared.records.Step.TheVariants.{Exit, Trap, Went}
use Rattle.mips_ref.proofs.Steps.{exits_there}
use Rattle.flow_graph.specs.Code.{instr_at}
use Rattle.loop_regions.specs.Walks.{Has, IsFirst}
use Rattle.path_wcet.specs.Paid.{cap}
use Rattle.remaining_wcet.specs.Known.{AreCuts}
use Rattle.remaining_wcet.specs.Runs as runs
use Rattle.remaining_wcet.specs.Runs.{IsRun, done_ats, done_by, done_ending}
use Rattle.remaining_wcet.specs.SubTasks.{IsInside, SubTasks, first_of_sub}
use Rattle.remaining_wcet.specs.Ways.{Done}
use Rattle.remaining_wcet.proofs.Ends.{few_from}
use Rattle.run_law.specs.Program.{Program}
use Rattle.run_law.proofs.Coded.{low}
use Rattle.run_law.proofs.Flows.{unit_stands}
use Rattle.bound_checker.specs.Lines.{program_of}
use Rattle.walked_jobs.specs.Machine.{done_at, is_went, next_state, words_of}
use Rattle.walked_jobs.specs.Units.{units_of}
use Rattle.walked_jobs.proofs.Running.{prefix, same_after, whole_job}
use Rattle.timed_jobs.specs.Pace.{pcs_of}
use Rattle.timed_jobs.proofs.Ends.{costs_one, goes_of, same_pcs}
use Rattle.admission.specs.Admitted.{IsAdmitted, Times}
use Rattle.admission.specs.Found.{Analysis, bounds_at, entry_of}
use Rattle.admission.specs.declared.mode.Mode.{Mode}
use Rattle.admitted_jobs.specs.Jobs.{AllWent, IsJob, StoodAt, pace_at}
use Rattle.admission.proofs.Firsts.{first_reached}
use Rattle.admitted_jobs.proofs.Known.{AreCutsIn, IsKnown, known_at, prices_of, program_in, subs_in}
use Rattle.admitted_jobs.proofs.Once.{IsLone, stands_once}
use Rattle.admitted_jobs.proofs.Programs.{found, job_opens, own_graph, passes}
use Rattle.admitted_jobs.proofs.Subs.{cuts_there, first_is_entry, once_there, slots_there}

-- an address among those that a job passed
passed_at : (n : ℕ) (x : Mips) (a : ℕ) → Has a (pcs_of n x) → (m : ℕ) × (m ≤ n) × ((after m x).pc ≡ a)
unfolding pcs_of after
passed_at zero x a (inl here) = (0, omega arith, here)
passed_at zero x a (inr none) = absurd none
passed_at (suc n) x a (inl here) = (suc n, omega arith, here)
passed_at (suc n) x a (inr older) = let more = passed_at n x a older in (more.0, omega (arith, more.1), more.2)

newest : (n : ℕ) (x : Mips) (a : ℕ) → (after n x).pc ≡ a → Has a (pcs_of n x)
unfolding pcs_of after
newest zero x a here = inl here
newest (suc n) x a here = inl here

-- the instruction at a state is executed after what went, unless the job is over there
run_to : (p : Program) (t : SubTasks) (task : Task) (units : ℕ → List ℕ) (bounds : List (List ℕ)) (point : ℕ)
    (x : Mips) → IsKnown task p t units bounds point x
    → (n : ℕ) → AllWent n x → (a : Step) → (step_of (after n x)).answer ≡ a → (a ≡ Exit → ⊥)
    → IsRun t (words_of p.code) ((done_at (runs.after next_state n x) ∷ []) ++ done_by next_state done_at n x)
unfolding done_by done_ending
run_to p t task units bounds point x known n went Went is stays =
    let first : first_of_sub t 0 ≡ p.entry = ap (λ (l : List ℕ). get_or l 0 0) known.firsts in
    prefix p t x known.passed known.opens known.flow first (suc n)
    (goes_of x (suc n) (λ k below. elim (cases_lt k n) [
      | inl early ↦ went k early
      | inr last ↦
          (let same : n ≡ k = omega (arith, below, last) in ap (λ m. (step_of (after m x)).answer) (sym same) ∙ is)
    ]))
run_to p t task units bounds point x known n went Exit is stays = absurd (stays refl)
run_to p t task units bounds point x known n went (Trap kind pc) is stays =
    let first : first_of_sub t 0 ≡ p.entry = ap (λ (l : List ℕ). get_or l 0 0) known.firsts in
    let here : (step_of (runs.after next_state n x)).answer ≡ Trap kind pc = ap (λ y. (step_of y).answer)
    (same_after n x) ∙ is in
    let run = whole_job p t x known.passed known.opens known.flow first n
    (record { all = goes_of x n went; ended = ap is_went here }) in
    let d : Done = done_at (runs.after next_state n x) in
    let ds : List Done = done_by next_state done_at n x in
    subst (λ l. IsRun t (words_of p.code) l) (ap (λ (b : Bool). let l : List Done = (if b then d ∷ ds else ds) in l)
    (ap is_trap here)) run

-- so it is inside some sub-task
inside_at : (p : Program) (t : SubTasks) (task : Task) (units : ℕ → List ℕ) (bounds : List (List ℕ)) (point : ℕ)
    (x : Mips) → IsKnown task p t units bounds point x
    → (n : ℕ) → AllWent n x → ((step_of (after n x)).answer ≡ Exit → ⊥) → (sub : ℕ) × IsInside t sub (pcs_of n x)
inside_at p t task units bounds point x known n went stays =
    let run = run_to p t task units bounds point x known n went (step_of (after n x)).answer refl stays in
    let f = few_from t units (words_of p.code) (prices_of task p.code bounds point)
    (prices_of task p.code bounds (length task.points - 1)) cap
    (bounds_at bounds point) (bounds_at bounds (length task.points - 1)) known.analysed known.priced
    (λ a. costs_one (pace_at task point) (instr_at p.code a))
    (done_at (runs.after next_state n x)) [] (done_by next_state done_at n x) run in
    (f.sub, subst (λ l. IsInside t f.sub l) (same_pcs n x) f.inside)

-- no cut is the exit address
no_exit : (x : Mips) (a : ℕ) → x.pc ≡ a → a < exit_address → (step_of x).answer ≡ Exit → ⊥
no_exit x a pc below exits =
    let both = and_parts (x.pc == exit_address) (length x.returns == 0) (exits_there x exits) in
    omega (arith, eqb-true x.pc exit_address both.0, pc, below)

cut_first : (entry : ℕ) (cuts firsts : List ℕ) (j c : ℕ) → firsts ≡ entry ∷ cuts → slice_get cuts j ≡ Some c
    → IsFirst firsts (suc j) c
cut_first entry cuts firsts j c same is =
    subst (λ l. IsFirst l (suc j) c) (sym same) (
      omega (arith, slice_get_within cuts j c is),
      get_or_from_slice_get
          cuts j c 0 is,
    )

-- the instruction at a cut is one of the code's, below the exit address
cut_below : (mode : Mode) (t : Task) (i : Image) (times : Times) (x : Mips) (admitted : IsAdmitted mode t i times)
    → IsJob t i x → (k d : ℕ)
    → IsFirst admitted.analysis.subs.firsts k d → d < exit_address
cut_below mode t i times x admitted job k d first =
    let code : Code = code_of_image i in
    let a = admitted.analysis in
    let own = own_graph t code (entry_of t i) a in
    let reached = first_reached code a.graph t.regions t.cuts a.subs own a.has_cuts k d first in
    let stands = unit_stands code a.graph.entry a.graph d own reached in
    omega (arith, low code job.memory d stands.0 job.ready.has_code stands.1)

-- sub-task numbers rise with the cuts
in_order : (s : SubTasks) (units : ℕ → List ℕ) (x : Mips) (n j c d sub : ℕ) → AreCuts s units
    → IsInside s sub (pcs_of n x) → IsFirst s.firsts (suc j) c
    → IsFirst s.firsts (suc (suc j)) d → (after n x).pc ≡ d → StoodAt x n c
in_order s units x n j c d sub cuts inside one two here =
    let reached : suc (suc j) ≤ sub = elim (cases_lt sub (suc (suc j))) [
      | inl early ↦ absurd (inside.unmet (suc (suc j)) d early two (newest n x d here))
      | inr late ↦ late
    ] in
    let at = passed_at n x c (inside.met (suc j) c (omega arith) (omega (arith, reached)) one) in
    record {
      steps = at.0;
      earlier = elim (cases_lt at.0 n) [
        | inl less ↦ less
        | inr last ↦ absurd (
            let same : n ≡ at.0 = omega (arith, at.1, last) in
            let equal : d ≡ c = sym here ∙ ap (λ m. (after m x).pc) same ∙ at.2 in
            let clash = cuts.different (suc j) (suc (suc j)) d (subst (λ u. IsFirst s.firsts (suc j) u) (sym equal)
            one) two in
            omega (arith, clash))
      ];
      at = at.2;
    }

pub cuts_in_order : (mode : Mode) (t : Task) (i : Image) (times : Times) (x : Mips) (n j c d : ℕ) → KeepsLimits t
    → (admitted : IsAdmitted mode t i times)
    → AreCutsIn mode t i times admitted → IsJob t i x → AllWent n x → slice_get t.cuts j ≡ Some c
    → slice_get t.cuts (suc j) ≡ Some d → (after n x).pc ≡ d
    → StoodAt x n c
cuts_in_order mode t i times x n j c d limits admitted cuts job went one two here =
    let a = admitted.analysis in
    let first = cut_first a.graph.entry t.cuts a.subs.firsts j c a.has_cuts.firsts_are one in
    let second = cut_first a.graph.entry t.cuts a.subs.firsts (suc j) d a.has_cuts.firsts_are two in
    let below = cut_below mode t i times x admitted job (suc (suc j)) d second in
    let known = known_at mode t i times x 0 limits admitted cuts job limits.points.some in
    let inside = inside_at (program_in mode t i times admitted) (subs_in mode t i times admitted) t (units_of a.graph)
    times.bounds 0 x known n went
    (λ exits. no_exit (after n x) d here below exits) in
    in_order (subs_in mode t i times admitted) (units_of a.graph) x n j c d inside.0 cuts inside.1 first second here

-- a cut is no slot, not the entry, and met once by walks
lone_there : (t : Task) (code : Code) (entry : ℕ) (a : Analysis t code entry) (k c : ℕ)
    → IsFirst a.subs.firsts (suc k) c
    → c < exit_address → IsLone (found t code entry a) c
unfolding program_of
lone_there t code entry a k c first below = record {
  no_slot = slots_there t code entry a (suc k) c first;
  no_entry = λ same.
      let cuts = cuts_there t code entry a in
      let clash = cuts.different (suc k) 0 c first (cuts.some, first_is_entry t code entry a ∙ same) in
      omega (arith, clash);
  no_exit = below;
  once = λ e es walk to meets. once_there t code entry a e es walk k c first to meets;
}

pub cuts_once : (mode : Mode) (t : Task) (i : Image) (times : Times) (x : Mips) (n j c : ℕ) → KeepsLimits t
    → (admitted : IsAdmitted mode t i times) → IsJob t i x → AllWent n x → slice_get t.cuts j ≡ Some c
    → (after n x).pc ≡ c → StoodAt x n c → ⊥
cuts_once mode t i times x n j c limits admitted job went at here stood =
    let code : Code = code_of_image i in
    let a = admitted.analysis in
    let first = cut_first a.graph.entry t.cuts a.subs.firsts j c a.has_cuts.firsts_are at in
    let below = cut_below mode t i times x admitted job (suc j) c first in
    stands_once (found t code (entry_of t i) a) (passes t code (entry_of t i) a limits) x
    (job_opens t i a x limits job) c n
    (lone_there t code (entry_of t i) a j c first below) went here stood
