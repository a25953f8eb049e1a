-- A turn of the loop that runs a job, and its end.
use Rattle.std.proofs.Common.{◌≡◌, ◌≢◌, ℕ, ◌+◌, ◌<◌, ◌≤◌, ◌^◌, List, [], ◌∷◌, refl, sym, ap, subst, ◌∙◌, add-one, below_more, arith}
use Rattle.std.specs.Prelude.{Option}
use Rattle.mips_ref.specs.Job.{after}
use Rattle.mips_ref.specs.Mips.{Held, Mips, exit_address}
use Rattle.mips_ref.specs.Ran.{ran, ran_at, ran_by, ran_ending}
use Rattle.mips_ref.specs.Step.{counted, step_of}
use Rattle.mips_ref.specs.declared.records.Ran.{Ran}
use Rattle.mips_ref.specs.declared.records.Step.{Step}
use Rattle.mips_ref.specs.declared.records.Step.TheVariants.{Went, Exit, Trap}
use Rattle.visa_io.specs.declared.records.Shape.{Shape}
use Rattle.simple_pipe.specs.declared.pace.Pace.{Pace}
use Rattle.simple_pipe.specs.declared.parts.Parts.{Parts}
use Rattle.simple_pipe.specs.Parts.{AreAfter, IsEarly, ran_after}
use Rattle.simple_pipe.specs.Pipe.{IsSteady}
use Rattle.simple_pipe.specs.Run.{EndsIn, GoesOn, HasStepped, counted_by}
use Rattle.simple_pipe.specs.Simple.{Caches, caches_of, executed, executed_of}
use Rattle.simple_pipe.specs.Times.{times_of}
use Rattle.mips_ref.proofs.Steps.{stays_put}
use Rattle.simple_pipe.proofs.After.{early}
use Rattle.simple_pipe.proofs.Potential.{left-bound}
use Rattle.simple_pipe.proofs.Sums.{length-ran_by, total_cost-small}

-- the times of as many instructions as a run may execute are small
few_by : (p : Pace) (c : Caches) (n : ℕ) (x : Mips) → IsSteady p → n ≤ 10 ^ 12 → (times_of (executed_of p c (ran_by n x))).left < 2 ^ 62
few_by p c n x s few =
    omega (arith, left-bound (executed_of p c (ran_by n x)), total_cost-small p c (ran_by n x) s, length-ran_by n x)

-- what a job executes that ends: the steps that went, and the one that traps
ending_list : (n : ℕ) (x : Mips) (step : Step) → step ≢ Went → ran_after step (ran_at (after n x)) (ran_by n x) ≡ ran_ending n x step
ending_list n x Went ended = absurd (ended refl)
ending_list n x Exit ended = refl
ending_list n x (Trap kind pc) ended = refl

-- the loop's invariant: so many steps went, and what they executed is in the pipeline and the caches
pub record HasRun (p : Pace) (i d : Option Shape) (was : Held) (n : ℕ) (is : Held) (parts : Parts) : Type 0 where
  pub went : (k : ℕ) → k < n → (step_of (after k was.mips)).answer ≡ Went
  pub state : is.mips ≡ after n was.mips
  pub computed : is.computed ≡ counted_by n was.computed
  pub stands : AreAfter p i d parts (ran_by n was.mips)

pub has_run_none : (p : Pace) (i d : Option Shape) (was : Held) (parts : Parts) → AreAfter p i d parts [] → HasRun p i d was 0 was parts
unfolding after counted_by ran_by
has_run_none p i d was parts e = record { went = λ k h. absurd (omega arith); state = refl; computed = refl; stands = e }

-- so few instructions are early
pub run_early : (p : Pace) (i d : Option Shape) (was : Held) (n : ℕ) (is : Held) (parts : Parts) → HasRun p i d was n is parts → IsSteady p → n ≤ 10 ^ 12
    → IsEarly parts.stages
run_early p i d was n is parts h s few =
    early parts.stages (executed_of p (caches_of i d) (ran_by n was.mips)) h.stands.stages (few_by p (caches_of i d) n was.mips s few)

went_more : (x : Mips) (n : ℕ) → ((k : ℕ) → k < n → (step_of (after k x)).answer ≡ Went) → (step_of (after n x)).answer ≡ Went → (k : ℕ) → k < n + 1 → (step_of (after k x)).answer ≡ Went
went_more x n before here = below_more (λ k. (step_of (after k x)).answer ≡ Went) n before here

-- one step more
pub has_run_more : (p : Pace) (i d : Option Shape) (was : Held) (n : ℕ) (mid is : Held) (s t : Parts) (step : Step)
    → HasRun p i d was n mid s → HasStepped mid step is → step ≡ Went
    → AreAfter p i d t (ran_after step (ran_at mid.mips) (ran_by n was.mips)) → HasRun p i d was (n + 1) is t
unfolding after counted_by ran_by
has_run_more p i d was n mid is s t step h stepped went stands =
    let here : (step_of (after n was.mips)).answer ≡ Went = ap (λ (m : Mips). (step_of m).answer) (sym h.state) ∙ sym stepped.answer ∙ went in
    rw add-one (record {
      went = rw (← add-one) (went_more was.mips n h.went here);
      state = stepped.state ∙ ap (λ (m : Mips). (step_of m).state) h.state;
      computed = stepped.computed ∙ ap (λ (a : Step). counted a mid.computed) went ∙ ap (counted Went) h.computed;
      stands =
          subst (λ (m : Mips). AreAfter p i d t (ran_at m ∷ ran_by n was.mips)) h.state
          (subst (λ (a : Step). AreAfter p i d t (ran_after a (ran_at mid.mips) (ran_by n was.mips))) went stands);
    })

still_counted : (step : Step) (count : ℕ) → step ≢ Went → counted step count ≡ count
still_counted Went count ended = absurd (ended refl)
still_counted Exit count ended = refl
still_counted (Trap kind pc) count ended = refl

-- the job ends
pub has_ended : (p : Pace) (i d : Option Shape) (was : Held) (limit n : ℕ) (mid is : Held) (s t : Parts) (step : Step)
    → HasRun p i d was n mid s → n ≤ limit → (n ≡ limit → mid.mips.pc ≡ exit_address)
    → HasStepped mid step is → step ≢ Went
    → AreAfter p i d t (ran_after step (ran_at mid.mips) (ran_by n was.mips))
    → EndsIn p (caches_of i d) was limit t.stages.left step is n
unfolding ran
has_ended p i d was limit n mid is s t step h within at_limit stepped ended stands =
    let x = was.mips in
    let is_answer : step ≡ (step_of (after n x)).answer = stepped.answer ∙ ap (λ (m : Mips). (step_of m).answer) h.state in
    let stops : (step_of (after n x)).answer ≢ Went = λ e. ended (is_answer ∙ e) in
    let list : ran_after step (ran_at mid.mips) (ran_by n x) ≡ ran n x =
    ap (λ (m : Mips). ran_after step (ran_at m) (ran_by n x)) h.state ∙ ending_list n x step ended ∙ ap (ran_ending n x) is_answer in
    let is_time : t.stages.left ≡ (times_of (executed p (caches_of i d) n x)).left =
    stands.stages.left ∙ ap (λ (l : List Ran). (times_of (executed_of p (caches_of i d) l)).left) list in
    record {
      ends = record { went = h.went; ended = stops };
      within = within;
      at_limit = λ e. sym (ap (λ (m : Mips). m.pc) h.state) ∙ at_limit e;
      answer = is_answer;
      time = is_time;
      cost = omega (arith, is_time, left-bound (executed p (caches_of i d) n x));
      state = stepped.state ∙ ap (λ (m : Mips). (step_of m).state) h.state ∙ stays_put (after n x) stops;
      computed = stepped.computed ∙ still_counted step mid.computed ended ∙ h.computed;
    }

-- the job goes on past the limit
pub goes_on : (p : Pace) (i d : Option Shape) (was : Held) (limit n : ℕ) (is : Held) (s : Parts) → HasRun p i d was n is s → n ≡ limit
    → is.mips.pc ≢ exit_address → GoesOn was limit is
goes_on p i d was limit n is s h e elsewhere =
    subst (λ k. GoesOn was k is) e (record {
      went = h.went;
      elsewhere = subst (λ (m : Mips). m.pc ≢ exit_address) h.state elsewhere;
      state = h.state;
      computed = h.computed;
    })
