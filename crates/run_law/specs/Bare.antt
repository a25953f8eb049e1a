-- A task of which no facts and no regions are known: each register but 0 may have any value, and each call may write
-- each
-- register. This project's own.
use Rattle.std.specs.Prelude.{ℕ, pos, Bool, true, List, [], replicate, slice_set}
use Rattle.visa_io.specs.declared.records.Code.{Code}
use Rattle.flow_graph.specs.declared.parts.Edge.{Edge}
use Rattle.range_facts.specs.Along.{begun}
use Rattle.range_facts.specs.Ranges.{constant, unknown}
use Rattle.range_facts.specs.declared.facts.Facts.{Facts}
use Rattle.run_law.specs.Program.{Program}

abbrev pub nothing_known : Facts
nothing_known = record { ranges = slice_set (replicate 32 unknown) 0 (constant (pos 0)) }

abbrev pub bare : Code → ℕ → List Edge → (ℕ → Bool) → Program
bare code entry edges is_long = record {
  code = code;
  entry = entry;
  graph = record { edges = edges; regions = []; is_long = is_long };
  mask = λ f r. true;
  before = λ u. begun nothing_known;
}
