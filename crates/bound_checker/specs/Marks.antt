-- Marks of what functions may write: 32 for each function of a graph, one row after the other. This project's own.
use Rattle.std.specs.Prelude.{◌≡◌, ◌<◌, ◌+◌, ◌*◌, ℕ, Bool, true, false, not, List, [], Option, Some, None, length, slice_index, slice_index_or}
use Rattle.std.specs.List.{Contains, count_by}
use Rattle.visa_io.specs.declared.records.Code.{Code}
use Rattle.mips_isa.specs.Kinds.{kind_of}
use Rattle.mips_isa.specs.Names.{writes_of}
use Rattle.mips_isa.specs.declared.instr.Kind.{Kind}
use Rattle.mips_isa.specs.declared.instr.Kind.TheVariants as kind
use Rattle.mips_isa.specs.declared.instr.Instr.{Instr}
use Rattle.flow_graph.specs.Code.{instr_at}
use Rattle.flow_graph.specs.Edges.{target_of}
use Rattle.flow_graph.specs.Faults.{is_word_of}
use Rattle.flow_graph.specs.declared.parts.Unit.{Unit as FlowUnit}
use Rattle.flow_graph.specs.Flow.{Flow}
use Rattle.flow_graph.specs.Reached.{CallsAt, IsUnitOf}
use Rattle.run_law.specs.Masks.{MayWrite}

abbrev pub mark_at : List Bool → ℕ → ℕ → Bool
mark_at marks row r = slice_index_or marks (row * 32 + r) false

-- how many marks aren't set
abbrev pub unmarked : List Bool → ℕ
unmarked marks = count_by (λ b. not b) marks

-- marks are only added
pub record IsBelow (a b : List Bool) : Type 0 where
  pub long : length a ≡ length b
  pub kept : (i : ℕ) → slice_index_or a i false ≡ true → slice_index_or b i false ≡ true

-- a mark has its reason
pub record IsDue (code : Code) (g : Flow) (i : ℕ) : Type 0 where
  pub row : ℕ
  pub register : ℕ
  pub place : i ≡ row * 32 + register
  pub below : register < 32
  pub within : row < length g.functions
  pub writes : MayWrite code (slice_index g.functions row) register

pub record AreDue (code : Code) (g : Flow) (marks : List Bool) : Type 0 where
  pub room : length marks ≡ length g.functions * 32
  pub due : (i : ℕ) → slice_index_or marks i false ≡ true → IsDue code g i

-- a function has the marks that one of its units asks for: what it writes, and what a function that it calls may write
pub record IsClosedAt (code : Code) (g : Flow) (marks : List Bool) (row u : ℕ) : Type 0 where
  pub own : (at r : ℕ) (i : Instr) → is_word_of code u at ≡ true → instr_at code at ≡ Some i → writes_of i ≡ Some r → r < 32 → mark_at marks row r ≡ true
  pub called : (other r : ℕ) → other < length g.functions → CallsAt code u (slice_index g.functions other) → r < 32
      → mark_at marks other r ≡ true → mark_at marks row r ≡ true

abbrev pub AreClosed : Code → Flow → List Bool → Type 0
AreClosed code g marks = (row u : ℕ) → row < length g.functions → IsUnitOf code (slice_index g.functions row) u → IsClosedAt code g marks row u

-- the function that a unit calls
abbrev pub called_if : Kind → Option ℕ → Option ℕ
called_if kind.Call target = target
called_if k target = None

abbrev pub called_of : FlowUnit → Option ℕ
called_of unit = called_if (kind_of unit.first) (target_of unit.first unit.at)

-- what a pass over some units of a function leaves: marks are added for a reason, and where none is, the function has all that its
-- units ask for
pub record IsPassed (code : Code) (g : Flow) (row : ℕ) (us : List ℕ) (old new : List Bool) : Type 0 where
  pub due : AreDue code g new
  pub below : IsBelow old new
  pub closed : new ≡ old → (u : ℕ) → Contains us u → IsClosedAt code g old row u

-- the same of some functions, the first so many
pub record ArePassed (code : Code) (g : Flow) (count : ℕ) (old new : List Bool) : Type 0 where
  pub due : AreDue code g new
  pub below : IsBelow old new
  pub closed : new ≡ old → (row u : ℕ) → row < count → row < length g.functions → Contains (slice_index_or g.function_units row []) u → IsClosedAt code g old row u

abbrev pub AreRowsClosed : Code → Flow → List Bool → Type 0
AreRowsClosed code g marks = (row u : ℕ) → row < length g.functions → Contains (slice_index_or g.function_units row []) u → IsClosedAt code g marks row u
