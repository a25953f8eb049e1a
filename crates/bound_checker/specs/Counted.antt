-- What the check of a count answers. This project's own.
use Rattle.std.specs.Prelude.{◌≡◌, ◌<◌, ◌≤◌, ◌+◌, ◌/◌, ◌-ℤ◌, ℕ, max, true, if◌then◌else◌, nat_lt, unsigned_abs, Option, Some, None, Result, Ok, Err, Contains}
use Rattle.visa_io.specs.declared.records.Region.{Region}
use Rattle.flow_graph.specs.Flow.{Flow}
use Rattle.flow_graph.specs.Own.{lesser}
use Rattle.loop_regions.specs.Walks.{holds}
use Rattle.range_facts.specs.Transfer.{fact_of}
use Rattle.range_facts.specs.declared.strided.Strided.{Strided}
use Rattle.run_law.specs.Counts.{AreSteps, HasNoStep, HasOtherWrite, HasWrap, IsCounted, Stride, needed_of}
use Rattle.run_law.specs.Program.{Program}
use Rattle.bound_checker.specs.Lines.{addresses_of}
use Rattle.bound_checker.specs.Room.{IsSized}
use Rattle.bound_checker.specs.declared.check.Proved.{Proved}
use Rattle.bound_checker.specs.declared.fault.CountFault.{CountFault}
use Rattle.bound_checker.specs.declared.fault.CountFault.TheVariants.{NoStep, OtherWrite, Wraps, TooFew}
use Rattle.bound_checker.specs.declared.tally.Tally.{Tally}

-- the facts, addresses and masks stay as they are
pub record IsSame (old new : Proved) : Type 0 where
  pub addresses : new.addresses ≡ old.addresses
  pub table : new.table ≡ old.table
  pub masks : new.masks ≡ old.masks
  pub room : (units : ℕ) → IsSized units old.room → IsSized units new.room

-- the least address at which a condition holds
pub record IsLeastAt (P : ℕ → Type 0) (at : ℕ) : Type 0 where
  pub holds_here : P at
  pub least : (other : ℕ) → P other → at ≤ other

-- the steps of a region need more visits than its count
pub record NeedsMore (p : Program) (r : Region) (needed : ℕ) : Type 0 where
  pub stride : Option Stride
  pub steps : AreSteps p r stride
  pub needed_is : needed ≡ needed_of stride (fact_of (p.before r.header).facts r.counter)
  pub more : r.count < needed

-- a region whose cycles all have a step: its count is right, or its first fault
abbrev pub IsCountAfter : Program → Region → ℕ → Result (Unit {0}) CountFault → Type 0
IsCountAfter p r n (Ok done) = (HasNoStep p r → ⊥) → IsCounted p r
IsCountAfter p r n (Err (NoStep m)) = ⊥
IsCountAfter p r n (Err (OtherWrite m at)) = (m ≡ n) × IsLeastAt (HasOtherWrite p r) at
IsCountAfter p r n (Err (Wraps m at)) = (m ≡ n) × ((a : ℕ) → HasOtherWrite p r a → ⊥) × IsLeastAt (HasWrap p r) at
IsCountAfter p r n (Err (TooFew m needed)) = (m ≡ n) × ((a : ℕ) → HasOtherWrite p r a → ⊥) × ((a : ℕ) → HasWrap p r a → ⊥) × NeedsMore p r needed

-- what comes of the count of a region of this number: it is right, or the first kind of fault that it has, at its least address
abbrev pub IsCountAnswer : Program → Region → ℕ → Result (Unit {0}) CountFault → Type 0
IsCountAnswer p r n (Ok done) = IsCounted p r
IsCountAnswer p r n (Err (NoStep m)) = (m ≡ n) × HasNoStep p r
IsCountAnswer p r n (Err (OtherWrite m at)) = (m ≡ n) × (HasNoStep p r → ⊥) × IsLeastAt (HasOtherWrite p r) at
IsCountAnswer p r n (Err (Wraps m at)) = (m ≡ n) × (HasNoStep p r → ⊥) × ((a : ℕ) → HasOtherWrite p r a → ⊥) × IsLeastAt (HasWrap p r) at
IsCountAnswer p r n (Err (TooFew m needed)) =
    (m ≡ n) × (HasNoStep p r → ⊥) × ((a : ℕ) → HasOtherWrite p r a → ⊥) × ((a : ℕ) → HasWrap p r a → ⊥) × NeedsMore p r needed

-- the header of a region is a unit that it holds
pub record IsInside (g : Flow) (r : Region) : Type 0 where
  pub unit : Contains (addresses_of g) r.header
  pub inside : holds r r.header ≡ true

-- the same as the code decides it
abbrev pub turn_at : ℕ → Option ℕ → Option ℕ
turn_at up None = None
turn_at up (Some down) = Some (max up down)

abbrev pub turn_if : Option ℕ → Option ℕ → Option ℕ
turn_if None down = None
turn_if (Some up) down = turn_at up down

abbrev pub turn_of : Tally → Option ℕ
turn_of t = turn_if t.up t.down

abbrev pub IsSize : Option ℕ → Type 0
IsSize None = Unit {0}
IsSize (Some size) = 0 < size

abbrev pub needed_by : Option ℕ → Strided → ℕ
needed_by None s = 1
needed_by (Some least) s = unsigned_abs (s.hi -ℤ s.lo) / least + 1

abbrev pub enough : Region → ℕ → ℕ → Result (Unit {0}) CountFault
enough region r needed = if nat_lt region.count needed then Err (TooFew r needed) else Ok tt

abbrev pub wraps : Region → ℕ → Option ℕ → ℕ → Result (Unit {0}) CountFault
wraps region r None needed = enough region r needed
wraps region r (Some at) needed = Err (Wraps r at)

abbrev pub writes : Region → ℕ → Option ℕ → Option ℕ → ℕ → Result (Unit {0}) CountFault
writes region r None wrap needed = wraps region r wrap needed
writes region r (Some at) wrap needed = Err (OtherWrite r at)

abbrev pub verdict : Region → ℕ → Tally → Option ℕ → Strided → Result (Unit {0}) CountFault
verdict region r t callee fact = writes region r (lesser (lesser t.other (turn_of t)) callee) t.wraps (needed_by t.size fact)
