-- The units of each function of a graph, by its first address, and which units are long. This project's own.
use Rattle.std.specs.Prelude.{◌≡◌, ℕ, true}
use Rattle.flow_graph.specs.Reached.{Reached}
use Rattle.run_law.specs.Program.{Program}
pub use Rattle.subtask_cut.specs.Ways.{units_among as units_from, units_of}

-- no address but a unit's is long
abbrev pub IsLongAtUnits : Program → Type 0
IsLongAtUnits p = (u : ℕ) → p.graph.is_long u ≡ true → Reached p.code p.entry u
