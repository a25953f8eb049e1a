-- A run along a walk, in the words of what remains of a job.
use Rattle.std.proofs.Common.{◌≡◌, ◌∙◌, refl, sym, ap, subst, ℕ, zero, suc, ◌<◌, true, false, List, [], ◌∷◌}
use Rattle.std.specs.Prelude.{if◌then◌else◌, Option, Some, None}
use Rattle.visa_io.specs.declared.records.Code.{Code}
use Rattle.mips_isa.specs.Kinds.{kind_of}
use Rattle.mips_isa.specs.declared.instr.Instr.{Instr}
use Rattle.mips_isa.specs.declared.instr.Kind.TheVariants as kind
use Rattle.mips_ref.specs.Job.{EndsAfter as JobEnds, after as after_steps}
use Rattle.mips_ref.specs.Mips.{Mips}
use Rattle.mips_ref.specs.Ran.{is_trap, ran, ran_by, ran_ending}
use Rattle.mips_ref.specs.Step.{step_of}
use Rattle.mips_ref.specs.declared.records.Ran.{Ran}
use Rattle.mips_ref.specs.declared.records.Step.{Step}
use Rattle.mips_ref.specs.declared.records.Step.TheVariants.{Exit, Trap, Went}
use Rattle.flow_graph.specs.Code.{instr_at}
use Rattle.flow_graph.specs.declared.parts.Edge.{Edge}
use Rattle.loop_regions.specs.Places.{Place, places}
use Rattle.loop_regions.specs.Walks.{IsWalk, alone}
use Rattle.remaining_wcet.specs.Runs.{EndsAfter, IsRun, after, done_by, done_ending}
use Rattle.remaining_wcet.specs.SubTasks.{SubTasks, first_of_sub}
use Rattle.remaining_wcet.specs.Ways.{Done, Goes, Went as WentHere, WentBy}
use Rattle.run_law.specs.Program.{Passed, Program}
use Rattle.run_law.specs.Ran.{Goes as GoesAlong, WentAlong, WentBy as EnteredBy}
use Rattle.run_law.specs.Runs.{IsWalked, Opens}
use Rattle.run_law.proofs.Turning.{runs}
use Rattle.run_law.proofs.Whole.{walked_of, whole}
use Rattle.walked_jobs.specs.Machine.{done_at, done_of, goes_at, is_went, kind_if, next_state, traps_at, words_of}

abbrev pub dones : List Ran → List Done
dones [] = []
dones (r ∷ rs) = done_of r ∷ dones rs

-- the machine's steps
pub same_after : (n : ℕ) (x : Mips) → after next_state n x ≡ after_steps n x
unfolding after after_steps
same_after zero x = refl
same_after (suc n) x = ap next_state (same_after n x)

pub same_done : (n : ℕ) (x : Mips) → done_by next_state done_at n x ≡ dones (ran_by n x)
unfolding done_by ran_by
same_done zero x = refl
same_done (suc n) x = ap (λ y. done_at y ∷ done_by next_state done_at n x) (same_after n x) ∙ ap (λ q. done_at (after_steps n x) ∷ q) (same_done n x)

went_is : (a : Step) → is_went a ≡ true → a ≡ Went
went_is Went e = refl
went_is Exit e = cc
went_is (Trap k pc) e = cc

pub stays_is : (a : Step) → is_went a ≡ false → a ≡ Went → ⊥
stays_is a e is = let clash : true ≡ false = sym (ap is_went is) ∙ e in cc

pub went_steps : (x : Mips) (m : ℕ) → ((k : ℕ) → k < m → goes_at (after next_state k x) ≡ true) → (k : ℕ) → k < m
    → (step_of (after_steps k x)).answer ≡ Went
went_steps x m goes k below = went_is (step_of (after_steps k x)).answer (ap goes_at (sym (same_after k x)) ∙ goes k below)

-- what went along an edge
branch_there : (o : Option Instr) → kind_if o ≡ kind.Branch → (i : Instr) × (o ≡ Some i) × (kind_of i ≡ kind.Branch)
branch_there None e = cc
branch_there (Some i) e = (i, refl, e)

went_here : (code : Code) (e : Edge) (rs : List Ran) → WentAlong code e rs → WentHere (words_of code) e (dones rs)
went_here code e [] went = tt
went_here code e (s ∷ []) went = tt
went_here code e (s ∷ c ∷ older) went = λ at branch.
    let b = branch_there (instr_at code e.from) (ap (λ a. kind_if (instr_at code a)) (sym at) ∙ branch) in
    went at b.0 b.1 b.2

entered_here : (code : Code) (by : Option Edge) (rs : List Ran) → EnteredBy code by rs
    → WentBy (words_of code) by (dones rs)
entered_here code None rs entered = tt
entered_here code (Some e) rs entered = went_here code e rs entered

goes_here : (code : Code) (rs : List Ran) (xs : List Place) → GoesAlong code rs xs
    → Goes (words_of code) (dones rs) xs
goes_here code [] [] goes = tt
goes_here code [] (x ∷ xs) goes = goes
goes_here code (r ∷ rs) [] goes = goes
goes_here code (r ∷ rs) (x ∷ xs) goes = (goes.0, entered_here code x.by rs goes.1, goes_here code rs xs goes.2)

run_here : (p : Program) (t : SubTasks) (rs : List Ran) → t.flow ≡ p.graph → first_of_sub t 0 ≡ p.entry
    → IsWalked p rs → IsRun t (words_of p.code) (dones rs)
run_here p t rs flow first walked = record {
  edges = walked.edges;
  walk = subst (λ g. IsWalk g (alone (first_of_sub t 0)) walked.edges) (sym flow) (subst (λ u. IsWalk p.graph (alone u) walked.edges) (sym first) walked.walk);
  later = walked.later;
  gone = walked.gone;
  is = ap (λ g. places g None (first_of_sub t 0) walked.edges) flow ∙ ap (λ u. places p.graph None u walked.edges) first ∙ walked.places_are;
  goes = goes_here p.code rs walked.gone walked.goes;
}

pub prefix : (p : Program) (t : SubTasks) (x : Mips) → Passed p → Opens p x → t.flow ≡ p.graph
    → first_of_sub t 0 ≡ p.entry → (m : ℕ)
    → ((k : ℕ) → k < m → goes_at (after next_state k x) ≡ true)
    → IsRun t (words_of p.code) (done_by next_state done_at m x)
prefix p t x passed opens flow first m goes =
    let law = runs p x m passed opens (went_steps x m goes) in
    subst (λ q. IsRun t (words_of p.code) q) (sym (same_done m x)) (run_here p t (ran_by m x) flow first (walked_of p (after_steps m x) (ran_by m x) law.0))

-- the whole job
ending_by : (x y : Mips) (m : ℕ) (a : Step) → after next_state m x ≡ y → y ≡ after_steps m x
    → (if is_trap a then done_at (after next_state m x) ∷ done_by next_state done_at m x else done_by next_state done_at m x) ≡ dones (ran_ending m x a)
ending_by x y m (Trap k pc) is same = ap (λ z. done_at z ∷ done_by next_state done_at m x) (is ∙ same) ∙ ap (λ q. done_at (after_steps m x) ∷ q) (same_done m x)
ending_by x y m Went is same = same_done m x
ending_by x y m Exit is same = same_done m x

pub same_ending : (m : ℕ) (x : Mips) → done_ending next_state done_at traps_at m x ≡ dones (ran m x)
unfolding done_ending ran
same_ending m x =
    let D : Step → List Done = λ a. if is_trap a then done_at (after next_state m x) ∷ done_by next_state done_at m x else done_by next_state done_at m x in
    ap (λ z. D (step_of z).answer) (same_after m x) ∙ ending_by x (after next_state m x) m (step_of (after_steps m x)).answer refl (same_after m x)

pub whole_job : (p : Program) (t : SubTasks) (x : Mips) → Passed p → Opens p x → t.flow ≡ p.graph
    → first_of_sub t 0 ≡ p.entry → (m : ℕ)
    → EndsAfter next_state goes_at x m → IsRun t (words_of p.code) (done_ending next_state done_at traps_at m x)
whole_job p t x passed opens flow first m ends =
    let over : JobEnds x m = record {
      went = went_steps x m ends.all;
      ended = stays_is (step_of (after_steps m x)).answer (ap goes_at (sym (same_after m x)) ∙ ends.ended);
    } in
    subst (λ q. IsRun t (words_of p.code) q) (sym (same_ending m x)) (run_here p t (ran m x) flow first (whole p x m passed opens over))
