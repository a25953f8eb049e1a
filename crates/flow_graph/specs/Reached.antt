-- What is reached in code from an address, and the functions, calls, returns and blocks of it. This project's own.
use Rattle.std.specs.Prelude.{ℕ, suc, ◌+◌, ◌≡◌, ◌⊎◌, Bool, true, false, Option, Some, List, [], ◌∷◌, Contains}
use Rattle.std.specs.Option.{option_and_then}
use Rattle.visa_io.specs.declared.records.Code.{Code}
use Rattle.mips_isa.specs.Kinds.{kind_of}
use Rattle.mips_isa.specs.declared.instr.Instr.{Instr}
use Rattle.mips_isa.specs.declared.instr.Kind.TheVariants as kind
use Rattle.flow_graph.specs.Code.{instr_at, is_code, is_control_at}
use Rattle.flow_graph.specs.Edges.{edge_of, target_of}
use Rattle.flow_graph.specs.Faults.{leads_from}
use Rattle.flow_graph.specs.declared.parts.Edge.{Edge}
use Rattle.flow_graph.specs.declared.parts.EdgeKind.{EdgeKind}
use Rattle.flow_graph.specs.declared.parts.EdgeKind.TheVariants.{Next, Taken, Call, Return, Over}

-- an edge along which its first unit leads on
abbrev pub Leads : Code → Edge → Type 0
Leads code e = Contains (leads_from code e.from) e

-- the edges inside a function: a call leads to its return point
abbrev pub is_inner : EdgeKind → Bool
is_inner Next = true
is_inner Taken = true
is_inner Over = true
is_inner Call = false
is_inner Return = false

abbrev pub is_any : EdgeKind → Bool
is_any kind = true

-- a unit leads to another along an edge of a kind that is asked for
pub record Joins (code : Code) (asked : EdgeKind → Bool) (from to : ℕ) : Type 0 where
  pub kind : EdgeKind
  pub is_asked : asked kind ≡ true
  pub leads : Leads code (edge_of from to kind)

-- a way from an address of code along such edges: its units, newest first
unfoldable pub IsWay : Code → (EdgeKind → Bool) → ℕ → List ℕ → Type 0
IsWay code asked start [] = ⊥
IsWay code asked start (u ∷ []) = (u ≡ start) × (is_code code u ≡ true)
IsWay code asked start (v ∷ (u ∷ us)) = Joins code asked u v × IsWay code asked start (u ∷ us)

-- a unit is reached from an address along such edges
pub record IsReached (code : Code) (asked : EdgeKind → Bool) (start u : ℕ) : Type 0 where
  pub us : List ℕ
  pub way : IsWay code asked start (u ∷ us)

-- the units of the code: reached from the entry, into called functions and over their calls
abbrev pub Reached : Code → ℕ → ℕ → Type 0
Reached code entry u = IsReached code is_any entry u

-- the units of a function: reached from its first without entering what it calls
abbrev pub IsUnitOf : Code → ℕ → ℕ → Type 0
IsUnitOf code function u = IsReached code is_inner function u

-- a unit calls a function
abbrev pub CallsAt : Code → ℕ → ℕ → Type 0
CallsAt code u function = Leads code (edge_of u function Call)

-- some unit of the code calls a function
pub record IsCalled (code : Code) (entry function : ℕ) : Type 0 where
  pub caller : ℕ
  pub reached : Reached code entry caller
  pub calls : CallsAt code caller function

-- a function is named by its first address: the entry, or the target of a call
abbrev pub IsFunction : Code → ℕ → ℕ → Type 0
IsFunction code entry f = ((f ≡ entry) × (is_code code f ≡ true)) ⊎ IsCalled code entry f

-- a return at a unit of a function goes to the return point of a call of it
pub record Returns (code : Code) (entry from to : ℕ) : Type 0 where
  pub function : ℕ
  pub caller : ℕ
  pub reached : Reached code entry caller
  pub calls : CallsAt code caller function
  pub member : IsUnitOf code function from
  pub instr : Instr
  pub at : instr_at code from ≡ Some instr
  pub is_return : kind_of instr ≡ kind.Return
  pub point : to ≡ caller + 8

-- the edges of the code: those along which its units lead on, and those of its returns
pub record IsEdge (code : Code) (entry : ℕ) (e : Edge) : Type 0 where
  pub reached : Reached code entry e.from
  pub joins : Leads code e ⊎ ((e.kind ≡ Return) × Returns code entry e.from e.to)

-- a chain of so many calls, each in the function that the one before calls, begins in the entry's function and ends in this
pub data Chain (code : Code) (entry : ℕ) : ℕ → ℕ → Type 0 where
  Begins : Chain code entry 0 entry
  Calls : (n caller u function : ℕ) → Chain code entry n caller → IsUnitOf code caller u → CallsAt code u function → Chain code entry (suc n) function

-- the target that the first instruction of a unit names
abbrev pub target_at : Code → ℕ → Option ℕ
target_at code u = option_and_then (λ i. target_of i u) (instr_at code u)

-- a control instruction at a unit makes a block begin at an address: its target, or what follows its slot
abbrev pub BeginsBlock : Code → ℕ → ℕ → Type 0
BeginsBlock code u a = (target_at code u ≡ Some a) ⊎ ((is_control_at code u ≡ true) × (a ≡ u + 8))

-- where blocks begin: at the entry, and at each unit that is the target of a control unit or follows one by address; so at
-- function entries and return points
pub record IsStart (code : Code) (entry a : ℕ) : Type 0 where
  pub reached : Reached code entry a
  pub begins : (a ≡ entry) ⊎ ((u : ℕ) × Reached code entry u × BeginsBlock code u a)
