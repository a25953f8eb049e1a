-- What instructions of code cost at a pace, as the bounds of a task count them. This project's own.
use Rattle.std.specs.Prelude.{◌≡◌, ◌≤◌, ℕ, zero, suc, ◌-◌, List, [], ◌∷◌, Option, Some, None}
use Rattle.visa_io.specs.declared.records.Code.{Code}
use Rattle.mips_isa.specs.declared.instr.Instr.{Instr}
use Rattle.mips_ref.specs.Job.{EndsAfter, after}
use Rattle.mips_ref.specs.Mips.{Mips}
use Rattle.flow_graph.specs.Code.{instr_at}
use Rattle.loop_regions.specs.Costs.{Prices}
use Rattle.simple_pipe.specs.Pace.{static_cost}
use Rattle.simple_pipe.specs.Simple.{Caches, simple_time}
use Rattle.simple_pipe.specs.declared.pace.Pace.{Pace}
use Rattle.remaining_wcet.specs.Executed.{Clock, Executed}

-- the static cost of the instruction at an address without the missed fetch that it counts; where there is none, it
-- doesn't matter
abbrev pub base_if : Pace → Option Instr → ℕ
base_if pace None = 1
base_if pace (Some i) = static_cost pace i - pace.miss

abbrev pub base_of : Pace → Code → ℕ → ℕ
base_of pace code a = base_if pace (instr_at code a)

-- each instruction takes its static cost, and its fetch what the cache says
abbrev pub newest_base : (ℕ → ℕ) → List Executed → ℕ
newest_base base [] = 0
newest_base base (o ∷ os) = base o.at

abbrev pub clock_of : Pace → Caches → Code → Clock
clock_of pace caches code = record { hits = caches.fetch_hits; rest = newest_base (base_of pace code) }

-- the prices are those of a pace
pub record IsPaced (pace : Pace) (code : Code) (p : Prices) : Type 0 where
  pub base_is : p.base ≡ base_of pace code
  pub miss_is : p.miss ≡ pace.miss

-- the addresses at which a job stood up to its n-th state, newest first
unfoldable pub pcs_of : ℕ → Mips → List ℕ
pcs_of zero x = x.pc ∷ []
pcs_of (suc n) x = (after (suc n) x).pc ∷ pcs_of n x

-- from a state a job ends, and takes at most so many cycles in simple mode from empty caches
pub record EndsWithin (pace : Pace) (caches : Caches) (y : Mips) (limit : ℕ) : Type 0 where
  pub steps : ℕ
  pub ends : EndsAfter y steps
  pub within : simple_time pace caches steps y ≤ limit
