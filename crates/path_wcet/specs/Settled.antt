-- What is ahead of the units to an aim, once no way raises it. This project's own.
use Rattle.std.specs.Prelude.{ℕ, ◌+◌, ◌≤◌, ◌<◌, ◌≡◌, ◌⊎◌, Bool, true, false, Option, Some, None, List, Contains, length, slice_index}
use Rattle.std.specs.List.{All}
use Rattle.visa_io.specs.declared.records.Region.{Region}
use Rattle.loop_regions.specs.Nested.{Numbered}
use Rattle.loop_regions.specs.Walks.{holds}
use Rattle.loop_regions.specs.declared.ways.Way.{Way}
use Rattle.path_wcet.specs.declared.ahead.Aim.{Aim}
use Rattle.path_wcet.specs.declared.ahead.Aim.TheVariants as aim
use Rattle.path_wcet.specs.Known.{AreStill, IsFar, IsPaid, IsRaised, IsSatisfied, IsWithin, Table, entry, entry_at, room, rooms}
use Rattle.path_wcet.specs.Paths.{AreCounts, AreReached, AreTurns, IsFitting, IsTurn}

-- the ways that leave the units of a region, which have numbers from `base` on and below `base + len`, and the number of its header
pub record Circuit : Type 0 where
  pub region : Region
  pub header : ℕ
  pub base : ℕ
  pub len : ℕ
  pub ways : List Way

-- what raising an entry to an offer leaves: nothing changed and the entry is as far, or it is the offer
pub record IsRaisedBy (xs : List (Option ℕ)) (u : ℕ) (offer : Option ℕ) (more : List (Option ℕ)) (changed : Bool) : Type 0 where
  pub beside : length more ≡ length xs
  pub kept : changed ≡ false → (more ≡ xs) × IsPaid (entry_at xs u) offer
  pub set : changed ≡ true → IsRaised xs u offer more
  pub less : changed ≡ true → rooms more < rooms xs
  pub still : AreStill xs more

-- what is known before is reached
pub record AreKnown (t : Table) (n : Numbered) (turns : List ℕ) (rets : List (Option ℕ)) : Type 0 where
  pub counts : AreCounts n t.counts
  pub turns_are : AreTurns t n turns
  pub rets_are : AreReached t n aim.Return 0 rets

-- what trying a way leaves: nothing changed and the way is satisfied, or less room
pub record IsTried (t : Table) (to : Aim) (turns : List ℕ) (rets : List (Option ℕ)) (w : Way) (base : ℕ) (xs more : List (Option ℕ)) (changed : Bool) : Type 0 where
  pub beside : length more ≡ length xs
  pub kept : changed ≡ false → (more ≡ xs) × IsSatisfied t to turns rets base xs w
  pub less : changed ≡ true → rooms more < rooms xs
  pub still : AreStill xs more
  pub reached : (n : Numbered) → IsFitting n to w → AreKnown t n turns rets → AreReached t n to base xs → AreReached t n to base more

-- the same of all ways
pub record IsSwept (t : Table) (to : Aim) (turns : List ℕ) (rets : List (Option ℕ)) (ways : List Way) (base : ℕ) (xs more : List (Option ℕ)) (changed : Bool) : Type 0 where
  pub beside : length more ≡ length xs
  pub kept : changed ≡ false → (more ≡ xs) × All (IsSatisfied t to turns rets base xs) ways
  pub less : changed ≡ true → rooms more < rooms xs
  pub still : AreStill xs more
  pub reached : (n : Numbered) → All (IsFitting n to) ways → AreKnown t n turns rets → AreReached t n to base xs → AreReached t n to base more

-- nothing changes any more
pub record IsSettled (t : Table) (to : Aim) (turns : List ℕ) (rets : List (Option ℕ)) (ways : List Way) (base : ℕ) (xs more : List (Option ℕ)) (changed : Bool) : Type 0 where
  pub beside : length more ≡ length xs
  pub satisfied : All (IsSatisfied t to turns rets base more) ways
  pub kept : changed ≡ false → more ≡ xs
  pub less : changed ≡ true → rooms more < rooms xs
  pub still : AreStill xs more
  pub reached : (n : Numbered) → All (IsFitting n to) ways → AreKnown t n turns rets → AreReached t n to base xs → AreReached t n to base more

-- the ways that leave a region's units, and the number of its header
pub record IsCircuit (n : Numbered) (c : Circuit) : Type 0 where
  pub among : Contains n.regions c.region
  pub inside : c.header < length n.addresses
  pub at : slice_index n.addresses c.header ≡ c.region.header
  pub fitting : All (IsFitting n (aim.Lap c.region)) c.ways
  pub within : All (IsWithin c.base c.len) c.ways
  pub every : (w : Way) → Contains n.ways w → holds c.region w.edge.from ≡ true → Contains c.ways w

-- a region has its circuit among these
pub record HasCircuit (cs : List Circuit) (r : Region) : Type 0 where
  pub circuit : Circuit
  pub among : Contains cs circuit
  pub is : circuit.region ≡ r

-- the circuits of regions
pub record AreCircuits (n : Numbered) (rs : List Region) (cs : List Circuit) : Type 0 where
  pub each : All (IsCircuit n) cs
  pub every : All (HasCircuit cs) rs

-- no lap of a region costs more than this
pub record IsMost (t : Table) (turns : List ℕ) (rets : List (Option ℕ)) (c : Circuit) (most : ℕ) : Type 0 where
  pub inner : List (Option ℕ)
  pub satisfied : All (IsSatisfied t (aim.Lap c.region) turns rets c.base inner) c.ways
  pub least : (x : ℕ) → entry c.base inner c.header ≡ Some x → x ≤ most

-- what the costliest lap of a region costs; nothing where there is none
pub record IsTurnOf (t : Table) (turns : List ℕ) (rets : List (Option ℕ)) (c : Circuit) (turn : ℕ) : Type 0 where
  pub most : IsMost t turns rets c turn
  pub reached : (n : Numbered) → IsCircuit n c → AreKnown t n turns rets → (turn ≡ 0) ⊎ IsTurn t n c.header turn

abbrev pub or_zero : Option ℕ → ℕ
or_zero None = 0
or_zero (Some n) = n

abbrev pub IsTurned : Table → List ℕ → List (Option ℕ) → Circuit → Type 0
IsTurned t turns rets c = IsMost t turns rets c (slice_index turns c.header)

-- what comes of raising what a lap of a region costs
pub record IsTurnRaised (t : Table) (turns more : List ℕ) (rets : List (Option ℕ)) (c : Circuit) (changed : Bool) : Type 0 where
  pub beside : length more ≡ length turns
  pub kept : changed ≡ false → (more ≡ turns) × IsTurned t turns rets c
  pub less : changed ≡ true → room more < room turns
  pub reached : (n : Numbered) → IsCircuit n c → AreKnown t n turns rets → AreTurns t n more

-- the same of all regions
pub record AreTurnsRaised (t : Table) (turns more : List ℕ) (rets : List (Option ℕ)) (cs : List Circuit) (changed : Bool) : Type 0 where
  pub beside : length more ≡ length turns
  pub kept : changed ≡ false → (more ≡ turns) × All (IsTurned t turns rets) cs
  pub less : changed ≡ true → room more < room turns
  pub reached : (n : Numbered) → All (IsCircuit n) cs → AreKnown t n turns rets → AreTurns t n more

-- what a round leaves: nothing changed and all is satisfied, or less room
pub record IsRound (t : Table) (ways : List Way) (cs : List Circuit) (turns more : List ℕ) (rets others : List (Option ℕ)) (changed : Bool) : Type 0 where
  pub beside : length more ≡ length turns
  pub beside_rets : length others ≡ length rets
  pub kept : changed ≡ false → (more ≡ turns) × (others ≡ rets) × All (IsSatisfied t aim.Return turns rets 0 rets) ways × All (IsTurned t turns rets) cs
  pub less : changed ≡ true → room more + rooms others < room turns + rooms rets
  pub still : AreStill rets others
  pub reached : (n : Numbered) → All (IsFitting n aim.Return) ways → All (IsCircuit n) cs → AreKnown t n turns rets → AreKnown t n more others

-- what all rounds leave
pub record AreRounds (t : Table) (ways : List Way) (cs : List Circuit) (turns more : List ℕ) (rets others : List (Option ℕ)) : Type 0 where
  pub satisfied : All (IsSatisfied t aim.Return more others 0 others) ways
  pub turned : All (IsTurned t more others) cs
  pub still : AreStill rets others
  pub reached : (n : Numbered) → All (IsFitting n aim.Return) ways → All (IsCircuit n) cs → AreKnown t n turns rets → AreKnown t n more others

-- what a lap of each region costs and what is ahead to a return: each is reached, and no more can be
pub record IsFound (t : Table) (n : Numbered) (turns : List ℕ) (rets : List (Option ℕ)) : Type 0 where
  pub known : AreKnown t n turns rets
  pub still : AreStill t.ends rets
  pub satisfied : All (IsSatisfied t aim.Return turns rets 0 rets) n.ways
  pub turned : (r : Region) → Contains n.regions r → (c : Circuit) × IsCircuit n c × (c.region ≡ r) × IsTurned t turns rets c

-- what is ahead of each unit that may stop anywhere: each is reached, and no more can be
pub record AreStops (t : Table) (n : Numbered) (turns : List ℕ) (rets stops : List (Option ℕ)) : Type 0 where
  pub satisfied : All (IsSatisfied t aim.Stop turns rets 0 stops) n.ways
  pub there : (u : ℕ) → u < length n.addresses → IsFar (entry_at stops u) 0
  pub reached : AreKnown t n turns rets → AreReached t n aim.Stop 0 stops
