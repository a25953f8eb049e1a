-- The commits of a cycle as steps of the reference. This project's own.
use Rattle.std.specs.Prelude.{◌≡◌, ◌<◌, ℕ, suc, List, [], ◌∷◌, Some}
use Rattle.mips_ref.specs.Job.{EndsAfter, after}
use Rattle.mips_ref.specs.Mips.{Mips}
use Rattle.mips_ref.specs.Step.{step_of}
use Rattle.mips_ref.specs.declared.records.Step.{Step}
use Rattle.mips_ref.specs.declared.records.Step.TheVariants.{Went}
use Rattle.core_window.specs.Beside.{Stands}
use Rattle.ooo_clock.specs.Cycle.{Cycled}

-- these are the pcs after each of the steps from the k-th on, all of which go
unfoldable pub AreSteps : Mips → ℕ → List ℕ → Type 0
AreSteps x k [] = Unit {0}
AreSteps x k (pc ∷ pcs) = ((step_of (after k x)).answer ≡ Went) × (pc ≡ (after (suc k) x).pc) × AreSteps x (suc k) pcs

-- the number of steps with them
unfoldable pub grown : ℕ → List ℕ → ℕ
grown k [] = k
grown k (pc ∷ pcs) = grown (suc k) pcs

-- the first n steps from a state all go
abbrev pub AllWent : ℕ → Mips → Type 0
AllWent n x = (k : ℕ) → k < n → (step_of (after k x)).answer ≡ Went

-- from a state n steps go, and the next one ends with this answer
pub record EndsWith (x : Mips) (n : ℕ) (answer : Step) : Type 0 where
  pub ends : EndsAfter x n
  pub answer_is : (step_of (after n x)).answer ≡ answer

-- a cycle from the k-th state after x on: each commit whose step went is the next step of x, and the clock stands at the last of them
pub record Cycles (x : Mips) (k : ℕ) (c : Cycled) : Type 0 where
  pub commits : AreSteps x k c.pcs
  pub went : AllWent (grown k c.pcs) x
  pub state : c.q.state ≡ after (grown k c.pcs) x
  pub stands : Stands c.q.core c.q.state
  pub ending : c.q.core.ending ≡ c.ended
  pub ended : (answer : Step) → c.ended ≡ Some answer → EndsWith x (grown k c.pcs) answer
