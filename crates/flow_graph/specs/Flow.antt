-- The graph of code, and why code has none. This project's own.
use Rattle.std.specs.Prelude.{ℕ, ◌+◌, ◌<◌, ◌≤◌, ◌≡◌, ◌⊎◌, ◌↔◌, Bool, true, false, Some, None, Result, Ok, Err, List, Contains, map, length, slice_get, slice_index, AllPairs}
use Rattle.std.specs.List.Sorted.{IsStrictlyIncreasing}
use Rattle.visa_io.specs.declared.records.Code.{Code}
use Rattle.flow_graph.specs.Code.{instr_at, is_code, is_control_at, is_control_instr}
use Rattle.flow_graph.specs.Faults.{is_reserved, is_word_of, has_indirect, has_link_branch, leaves_code}
use Rattle.flow_graph.specs.Reached.{Reached, IsReached, is_any, CallsAt, Chain, IsFunction, IsUnitOf, IsEdge, IsStart}
use Rattle.flow_graph.specs.declared.parts.Edge.{Edge}
use Rattle.flow_graph.specs.declared.parts.EdgeKind.{EdgeKind}
use Rattle.flow_graph.specs.declared.parts.EdgeKind.TheVariants as edge
use Rattle.flow_graph.specs.declared.parts.Unit.{Unit as FlowUnit}
use Rattle.flow_graph.specs.declared.fault.FlowFault.{FlowFault}
use Rattle.flow_graph.specs.declared.fault.FlowFault.TheVariants.{Reserved, Indirect, LinkBranch, SlotControl, SlotTarget, OffCode, Recursion, Deep, Memory}

-- the address is the slot of a unit of the code
pub record IsSlot (code : Code) (entry a : ℕ) : Type 0 where
  pub unit : ℕ
  pub reached : Reached code entry unit
  pub control : is_control_at code unit ≡ true
  pub follows : a ≡ unit + 4

-- the address of a word of a unit of the code
pub record IsWord (code : Code) (entry a : ℕ) : Type 0 where
  pub unit : ℕ
  pub reached : Reached code entry unit
  pub has : is_word_of code unit a ≡ true

-- a call is reached again from the function that it calls
pub record IsRecursive (code : Code) (entry u : ℕ) : Type 0 where
  pub reached : Reached code entry u
  pub function : ℕ
  pub calls : CallsAt code u function
  pub again : IsReached code is_any function u

-- the code has a fault
unfoldable pub Has : Code → ℕ → FlowFault → Type 0
Has code entry (Reserved a) = IsWord code entry a × (is_reserved code a ≡ true)
Has code entry (Indirect a) = Reached code entry a × (has_indirect code a ≡ true)
Has code entry (LinkBranch a) = Reached code entry a × (has_link_branch code a ≡ true)
Has code entry (SlotControl a) = IsSlot code entry a × (is_control_at code a ≡ true)
Has code entry (SlotTarget a) = IsSlot code entry a × Reached code entry a
Has code entry (OffCode a) = (Reached code entry a × (leaves_code code a ≡ true)) ⊎ ((a ≡ entry) × (is_code code a ≡ false))
Has code entry (Recursion a) = IsRecursive code entry a
Has code entry Deep = (n : ℕ) × (function : ℕ) × Chain code entry n function × (63 < n)
Has code entry Memory = ⊥

-- the order in which kinds of faults are told
abbrev pub rank : FlowFault → ℕ
rank (Reserved a) = 1
rank (Indirect a) = 2
rank (LinkBranch a) = 3
rank (SlotControl a) = 4
rank (SlotTarget a) = 5
rank (OffCode a) = 6
rank (Recursion a) = 7
rank Deep = 8
rank Memory = 9

-- where a fault is
abbrev pub address_of : FlowFault → ℕ
address_of (Reserved a) = a
address_of (Indirect a) = a
address_of (LinkBranch a) = a
address_of (SlotControl a) = a
address_of (SlotTarget a) = a
address_of (OffCode a) = a
address_of (Recursion a) = a
address_of Deep = 0
address_of Memory = 0

-- a fault is told no later than another
abbrev pub IsNoLater : FlowFault → FlowFault → Type 0
IsNoLater fault other = (rank fault < rank other) ⊎ ((rank fault ≡ rank other) × (address_of fault ≤ address_of other))

-- the first kind of faults that the code has, at its least address
pub record IsFirst (code : Code) (entry : ℕ) (fault : FlowFault) : Type 0 where
  pub has : Has code entry fault
  pub first : (other : FlowFault) → Has code entry other → IsNoLater fault other

-- what a graph is seen as: units by rising address, edges by (from, to, kind), functions by rising first address, beside each
-- its units by rising address, and the starts of blocks by rising address
pub record Flow : Type 0 where
  pub entry : ℕ
  pub units : List FlowUnit
  pub edges : List Edge
  pub functions : List ℕ
  pub function_units : List (List ℕ)
  pub blocks : List ℕ

-- a slot's instruction and the length that is recorded: a control instruction has a slot
abbrev pub HasShape : Code → FlowUnit → Bool → Type 0
HasShape code unit true = (instr_at code (unit.at + 4) ≡ unit.slot) × (unit.length ≡ 8)
HasShape code unit false = (unit.slot ≡ None) × (unit.length ≡ 4)

-- a unit of the code, as it is recorded
pub record IsUnit (code : Code) (entry : ℕ) (unit : FlowUnit) : Type 0 where
  pub reached : Reached code entry unit.at
  pub first : instr_at code unit.at ≡ Some unit.first
  pub shape : HasShape code unit (is_control_instr unit.first)

-- the order of edges from one unit to another
abbrev pub kind_rank : EdgeKind → ℕ
kind_rank edge.Next = 0
kind_rank edge.Taken = 1
kind_rank edge.Call = 2
kind_rank edge.Return = 3
kind_rank edge.Over = 4

-- edges by (from, to, kind)
abbrev pub ComesBefore : Edge → Edge → Type 0
ComesBefore one other =
    (one.from < other.from)
    ⊎ ((one.from ≡ other.from) × ((one.to < other.to) ⊎ ((one.to ≡ other.to) × (kind_rank one.kind < kind_rank other.kind))))

-- the units of a function, by rising address
pub record IsUnitsOf (code : Code) (function : ℕ) (us : List ℕ) : Type 0 where
  pub are : (u : ℕ) → Contains us u ↔ IsUnitOf code function u
  pub rise : IsStrictlyIncreasing us

-- the graph of code that has no fault. Blocks begin at all starts, and maybe at further units
pub record IsGraph (code : Code) (entry : ℕ) (g : Flow) : Type 0 where
  pub sound : (fault : FlowFault) → Has code entry fault → ⊥
  pub entry_is : g.entry ≡ entry
  pub units_are : (unit : FlowUnit) → Contains g.units unit ↔ IsUnit code entry unit
  pub units_rise : IsStrictlyIncreasing (map (λ unit. unit.at) g.units)
  pub edges_are : (e : Edge) → Contains g.edges e ↔ IsEdge code entry e
  pub edges_rise : AllPairs ComesBefore g.edges
  pub functions_are : (f : ℕ) → Contains g.functions f ↔ IsFunction code entry f
  pub functions_rise : IsStrictlyIncreasing g.functions
  pub function_units_beside : length g.function_units ≡ length g.functions
  pub function_units_are : (k : ℕ) (us : List ℕ) → slice_get g.function_units k ≡ Some us → IsUnitsOf code (slice_index g.functions k) us
  pub starts : (a : ℕ) → IsStart code entry a → Contains g.blocks a
  pub blocks_are : (a : ℕ) → Contains g.blocks a → Reached code entry a
  pub blocks_rise : IsStrictlyIncreasing g.blocks

-- what comes of code and its entry: its graph, whose blocks begin at its starts alone, or its first fault; where memory is
-- wanting, that at any time
unfoldable pub IsFlow : Code → ℕ → Result Flow FlowFault → Type 0
IsFlow code entry (Ok g) = IsGraph code entry g × ((a : ℕ) → Contains g.blocks a → IsStart code entry a)
IsFlow code entry (Err Memory) = Unit {0}
IsFlow code entry (Err fault) = IsFirst code entry fault

-- an address is that of a unit of the graph
abbrev pub IsUnitIn : Flow → ℕ → Type 0
IsUnitIn g a = Contains (map (λ unit. unit.at) g.units) a

-- the same graph, whose blocks begin also at those of further addresses that are units
pub record IsWithBlocks (old : Flow) (extra : List ℕ) (new : Flow) : Type 0 where
  pub entry : new.entry ≡ old.entry
  pub units : new.units ≡ old.units
  pub edges : new.edges ≡ old.edges
  pub functions : new.functions ≡ old.functions
  pub function_units : new.function_units ≡ old.function_units
  pub blocks_are : (a : ℕ) → Contains new.blocks a ↔ (Contains old.blocks a ⊎ (Contains extra a × IsUnitIn old a))
  pub blocks_rise : IsStrictlyIncreasing new.blocks
