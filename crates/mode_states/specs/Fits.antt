-- What each state of the modes keeps. This project's own.
use Rattle.std.specs.Prelude.{◌≡◌, ◌≤◌, ◌<◌, ℕ, ◌+◌, ◌*◌, ◌-◌, ◌^◌, List, [], length, slice_index, vec_capacity, Some}
use Rattle.visa_io.specs.declared.records.Machine.{Machine}
use Rattle.mips_ref.specs.Mips.{Held}
use Rattle.checkpoint_plan.specs.Plan.{wait_of}
use Rattle.ooo_clock.specs.Clock.{opening, speeds_at}
use Rattle.ooo_clock.specs.Fasts.{Clocked, IsAt, StandsBeside}
use Rattle.simple_pipe.specs.Pipe.{Piped}
use Rattle.frequency_pick.specs.declared.plans.Pair.{Pair}
use Rattle.mode_states.specs.Ends.{ComesTo}
use Rattle.mode_states.specs.Kept.{EndsSoon, IsKept, IsOpening, IsPlanned, pace_at, period_at}
use Rattle.mode_states.specs.Progress.{Progress}
use Rattle.mode_states.specs.declared.kept.Kept.{Kept}
use Rattle.mode_states.specs.declared.watch.Watch.{Watch}

-- a pipeline of this machine
pub record IsPipeOf (m : Machine) (p : Piped) : Type 0 where
  pub mem : p.mem_ps ≡ m.mem_ps
  pub store : p.store_ps ≡ m.store_ps
  pub mul : p.mul ≡ m.mul
  pub div : p.div ≡ m.div
  pub icache : p.icache ≡ m.icache
  pub dcache : p.dcache ≡ m.dcache

-- how far a watch has come
abbrev pub progress_of : Watch → Progress
progress_of w = record { counts = w.counts.items; last = w.last }

-- counts of a job with so many cuts: no more of them than sub-tasks, and room for one of each
pub record HoldsCounts (cuts counts capacity : ℕ) : Type 0 where
  pub few : counts ≤ cuts + 1
  pub room : cuts < capacity

-- a watch over so many cuts after n cycles, with room for the count of each sub-task
pub record IsWatching (cuts n : ℕ) (w : Watch) : Type 0 where
  pub last : w.last ≤ n
  pub sub : length w.counts.items ≤ cuts
  pub room : cuts < vec_capacity w.counts

-- at the release
pub record IsFresh (cuts : ℕ) (w : Watch) : Type 0 where
  pub counts : w.counts.items ≡ []
  pub last : w.last ≡ 0
  pub room : cuts < vec_capacity w.counts

-- the core is opened beside a state at a clock period (ps): nothing is in it, and its caches are empty
pub record IsOpened (period : ℕ) (x : Held) (fast : Clocked) : Type 0 where
  pub clock : (numbers : List ℕ) → IsAt fast x.mips numbers (opening fast.machine.rob x.mips numbers)
  pub beside : StandsBeside fast x.mips
  pub speeds : fast.speeds ≡ speeds_at fast.machine period
  pub cycle : fast.cycle ≡ 0

-- between jobs
pub record FitsIdle (k : Kept) (x : Held) (fast : Clocked) (pipe : Piped) : Type 0 where
  pub kept : IsKept k x
  pub core : fast.machine ≡ k.machine
  pub pipeline : IsPipeOf k.machine pipe

-- released in fast mode: the state is an opening of the reference's job, and no cycle was performed, so no watchdog
-- is passed
pub record FitsFastRun (k : Kept) (x : Held) (pair : Pair) (fast : Clocked) (pipe : Piped) (w : Watch) : Type 0 where
  pub opens : IsOpening k x
  pub planned : IsPlanned k pair
  pub core : fast.machine ≡ k.machine
  pub opened : IsOpened (period_at k pair.a) x fast
  pub pipeline : IsPipeOf k.machine pipe
  pub watch : IsFresh (length k.cuts) w

-- a job is under way: its state is one of the reference's job, inside this sub-task, counted from 0
pub record IsUnderWay (k : Kept) (x : Held) (sub : ℕ) : Type 0 where
  pub opening : Held
  pub opens : IsOpening k opening
  pub comes : ComesTo k.cuts opening.mips x.mips sub

-- a job has ended in fast mode after the core's cycles, by its deadline; another one can open
pub record FitsEnd (k : Kept) (x : Held) (pair : Pair) (fast : Clocked) (pipe : Piped) : Type 0 where
  pub rests : FitsIdle k x fast pipe
  pub speculative : pair.a < length k.points
  pub in_time : k.machine.start_ps + fast.cycle * period_at k pair.a ≤ k.deadline_ps
  pub small : k.deadline_ps ≤ 10 ^ 12

-- A checkpoint was missed: the job is under way in this sub-task, numbered from 1, no more cycles were performed than
-- its watchdog allows, and what is in flight takes no longer than a missed access or a store.
pub record FitsDraining (k : Kept) (x : Held) (pair : Pair) (sub at flight : ℕ) (fast : Clocked)
    (pipe : Piped) : Type 0 where
  pub job : IsUnderWay k x (sub - 1)
  pub planned : IsPlanned k pair
  pub first : 0 < sub
  pub last : sub ≤ length k.cuts + 1
  pub early : at ≤ slice_index planned.plan.watchdog (sub - 1)
  pub short : flight ≤ wait_of k.machine (period_at k pair.a)
  pub core : fast.machine ≡ k.machine
  pub pipeline : IsPipeOf k.machine pipe

-- In simple mode, at a point, this time after the release: the job is under way, the pipeline is empty, and so are
-- the core and all caches; the time that the rest of the job takes at most is left before the deadline.
pub record FitsSimpleRun (k : Kept) (x : Held) (point spent : ℕ) (fast : Clocked) (pipe : Piped) : Type 0 where
  pub sub : ℕ
  pub job : IsUnderWay k x sub
  pub in_points : point < length k.points
  pub core : fast.machine ≡ k.machine
  pub emptied : IsOpened (period_at k point) x fast
  pub pipeline : IsPipeOf k.machine pipe
  pub started : pipe.started ≡ Some (pace_at k point)
  pub limit : ℕ
  pub ends : EndsSoon k point x.mips limit
  pub in_time : spent + limit * period_at k point ≤ k.deadline_ps
