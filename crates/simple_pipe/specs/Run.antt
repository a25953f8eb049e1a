-- When and how a run in simple mode stops. This project's own.
use Rattle.std.specs.Prelude.{◌≡◌, ◌≢◌, ℕ, zero, suc, ◌+◌, ◌<◌, ◌≤◌}
use Rattle.mips_ref.specs.Job.{after, EndsAfter}
use Rattle.mips_ref.specs.Mips.{Held, exit_address}
use Rattle.mips_ref.specs.Step.{counted, step_of}
use Rattle.mips_ref.specs.declared.records.Step.{Step}
use Rattle.mips_ref.specs.declared.records.Step.TheVariants.{Went}
use Rattle.simple_pipe.specs.declared.pace.Pace.{Pace}
use Rattle.simple_pipe.specs.declared.stop.PipeStop.{PipeStop}
use Rattle.simple_pipe.specs.declared.stop.PipeStop.TheVariants.{Ended, Limit}
use Rattle.simple_pipe.specs.Cost.{total_cost}
use Rattle.simple_pipe.specs.Simple.{Caches, executed, simple_time}

-- what a step did to a machine
pub record HasStepped (was : Held) (step : Step) (is : Held) : Type 0 where
  pub answer : step ≡ (step_of was.mips).answer
  pub state : is.mips ≡ (step_of was.mips).state
  pub computed : is.computed ≡ counted step was.computed

-- how many steps a machine has counted after n more
unfoldable pub counted_by : ℕ → ℕ → ℕ
counted_by zero count = count
counted_by (suc n) count = counted Went (counted_by n count)

-- The job ends after n steps, and its last instruction leaves the pipeline after so many cycles. It makes fewer steps than
-- the limit, or as many and then stands at the exit address.
pub record EndsIn (p : Pace) (c : Caches) (was : Held) (limit cycles : ℕ) (step : Step) (is : Held) (n : ℕ) : Type 0 where
  pub ends : EndsAfter was.mips n
  pub within : n ≤ limit
  pub at_limit : n ≡ limit → (after n was.mips).pc ≡ exit_address
  pub answer : step ≡ (step_of (after n was.mips)).answer
  pub time : cycles ≡ simple_time p c n was.mips
  pub cost : cycles ≤ 5 + total_cost (executed p c n was.mips)
  pub state : is.mips ≡ after n was.mips
  pub computed : is.computed ≡ counted_by n was.computed

-- the first steps up to the limit all go, and the job isn't at the exit address then
pub record GoesOn (was : Held) (limit : ℕ) (is : Held) : Type 0 where
  pub went : (k : ℕ) → k < limit → (step_of (after k was.mips)).answer ≡ Went
  pub elsewhere : (after limit was.mips).pc ≢ exit_address
  pub state : is.mips ≡ after limit was.mips
  pub computed : is.computed ≡ counted_by limit was.computed

-- a run of a machine stops like this, and leaves it as it is then
abbrev pub StopsAs : Pace → Caches → Held → ℕ → PipeStop → Held → Type 0
StopsAs p c was limit (Ended cycles step) is = (n : ℕ) × EndsIn p c was limit cycles step is n
StopsAs p c was limit Limit is = GoesOn was limit is
