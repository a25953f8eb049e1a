-- Which fetches of a scope are charged with a miss, and how many lines are charged once instead. This project's own.
use Rattle.std.specs.Prelude.{◌≡◌, ℕ, ◌+◌, ◌-◌, ◌==◌, ◌&&◌, ◌||◌, Bool, true, false, not, nat_le, List, [], ◌∷◌, length, filter, map, Option, None, Some, if◌then◌else◌}
use Rattle.std.specs.List.{list_any, flat_map}
use Rattle.std.specs.List.Sorted.{IsStrictlyIncreasing}
use Rattle.visa_io.specs.declared.records.Shape.{Shape}
use Rattle.flow_graph.specs.Flow.{Flow}
use Rattle.flow_graph.specs.declared.parts.Unit.{Unit as FlowUnit}
use Rattle.cache_lru.specs.Recency.{is_among, line_of, lines_at, lines_of, set_of, without}

-- whether a unit has a delay slot
abbrev pub is_long_in : List FlowUnit → ℕ → Bool
is_long_in units u = list_any (λ unit. (unit.at == u) && (unit.length == 8)) units

abbrev pub has_slot : Flow → ℕ → Bool
has_slot g u = is_long_in g.units u

-- the addresses of the instructions of a unit, with a slot or without
abbrev pub addresses_in : Bool → ℕ → List ℕ
addresses_in long u = if long then u ∷ (u + 4) ∷ [] else u ∷ []

-- the addresses of the instructions of the units of a scope
abbrev pub addresses_of : Flow → List ℕ → List ℕ
addresses_of g scope = flat_map (λ u. addresses_in (has_slot g u) u) scope

-- the lines that hold instructions of a scope
abbrev pub scope_lines : Flow → List ℕ → Shape → List ℕ
scope_lines g scope shape = lines_at shape (addresses_of g scope)

-- A line is persistent where at most as many lines of its set as there are ways hold instructions of the scope, whose lines
-- are given.
abbrev pub is_persistent : Shape → List ℕ → ℕ → Bool
is_persistent shape lines line = nat_le (length (lines_of (set_of shape) (set_of shape line) lines)) shape.ways

-- an instruction is the first of its block, or the one before it in the block lies in another line
abbrev pub begins_line : Flow → Shape → ℕ → Bool
begins_line g shape at = is_among at g.blocks || not (line_of shape at == line_of shape (at - 4))

-- an instruction of the scope whose line is persistent, or that follows another one of its line in its block
abbrev pub is_free : Flow → List ℕ → Shape → ℕ → Bool
is_free g scope shape at =
    is_among at (addresses_of g scope)
    && (is_persistent shape (scope_lines g scope shape) (line_of shape at) || not (begins_line g shape at))

-- Whether the fetch of an instruction is charged: without a cache each is, and so is that of an instruction of no unit of the
-- scope.
abbrev pub is_charged : Flow → List ℕ → Option Shape → ℕ → Bool
is_charged g scope None at = true
is_charged g scope (Some shape) at = not (is_free g scope shape at)

-- a list without repetitions
abbrev pub each_once : List ℕ → List ℕ
each_once [] = []
each_once (n ∷ ns) = n ∷ without n (each_once ns)

-- the persistent lines that hold instructions of the scope, each once
abbrev pub persistent_lines : Flow → List ℕ → Option Shape → List ℕ
persistent_lines g scope None = []
persistent_lines g scope (Some shape) = filter (is_persistent shape (scope_lines g scope shape)) (each_once (scope_lines g scope shape))

-- whether a line is a persistent one
abbrev pub keeps : Flow → List ℕ → Option Shape → ℕ → Bool
keeps g scope None at = false
keeps g scope (Some shape) at = is_persistent shape (scope_lines g scope shape) (line_of shape at)

-- the fetch of an instruction is charged, or its line is charged once
abbrev pub is_covered : Flow → List ℕ → Option Shape → ℕ → Bool
is_covered g scope shape at = is_charged g scope shape at || keeps g scope shape at

-- what is charged: all fetches but those at the free addresses, and so many lines once
pub record Charge : Type 0 where
  pub free : List ℕ
  pub persistent : ℕ

abbrev pub charged_by : Charge → ℕ → Bool
charged_by charge at = not (is_among at charge.free)

-- the charge of a scope
pub record IsCharge (g : Flow) (scope : List ℕ) (shape : Option Shape) (charge : Charge) : Type 0 where
  pub charged : (at : ℕ) → charged_by charge at ≡ is_charged g scope shape at
  pub persistent : charge.persistent ≡ length (persistent_lines g scope shape)

-- units and blocks of a graph stand by rising address
pub record IsRising (g : Flow) : Type 0 where
  pub units : IsStrictlyIncreasing (map (λ unit. unit.at) g.units)
  pub blocks : IsStrictlyIncreasing g.blocks
