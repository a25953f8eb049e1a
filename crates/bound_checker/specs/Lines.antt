-- The facts at the starts of blocks, from fact lines. This project's own.
use Rattle.std.specs.Prelude.{ℕ, suc, pos, ◌==◌, if◌then◌else◌, Bool, List, [], ◌∷◌, map, replicate, Some, slice_set}
use Rattle.std.specs.List.{fold, list_any}
use Rattle.visa_io.specs.declared.records.Code.{Code}
use Rattle.visa_io.specs.declared.records.FactLine.{FactLine}
use Rattle.flow_graph.specs.Flow.{Flow}
use Rattle.flow_graph.specs.declared.parts.Unit.{Unit as FlowUnit}
use Rattle.loop_regions.specs.Walks.{LoopGraph}
use Rattle.range_facts.specs.Ranges.{constant, unknown}
use Rattle.range_facts.specs.Transfer.{with_fact}
use Rattle.range_facts.specs.declared.strided.Strided.{Strided}
use Rattle.range_facts.specs.declared.facts.Facts.{Facts}
use Rattle.run_law.specs.Certificate.{Blocks, before_nth}
use Rattle.run_law.specs.Program.{Program}

-- nothing is known, but that register 0 is 0
unfoldable pub no_facts : Facts
no_facts = record { ranges = slice_set (replicate 32 unknown) 0 (constant (pos 0)) }

abbrev pub line_range : FactLine → Strided
line_range line = record { lo = line.lo; hi = line.hi; stride = line.stride }

-- a line says something at its address alone
abbrev pub put_line : ℕ → Facts → FactLine → Facts
put_line a f line = if line.at == a then with_fact f (Some line.register) (line_range line) else f

-- the facts at an address: those of its lines, and nothing of the other registers
abbrev pub facts_at : List FactLine → ℕ → Facts
facts_at lines a = fold (put_line a) no_facts lines

-- the place of a number in a list
abbrev pub place_in : List ℕ → ℕ → ℕ
place_in [] a = 0
place_in (u ∷ us) a = if u == a then 0 else suc (place_in us a)

abbrev pub unit_addresses : List FlowUnit → List ℕ
unit_addresses units = map (λ unit. unit.at) units

abbrev pub addresses_of : Flow → List ℕ
addresses_of g = unit_addresses g.units

-- the blocks of a graph, with the facts of these lines at their starts
unfoldable pub blocks_of : Flow → List FactLine → Blocks
blocks_of g lines =
    record {
      units = addresses_of g;
      index = place_in (addresses_of g);
      starts = λ a. list_any (λ b. b == a) g.blocks;
      facts = facts_at lines;
    }

-- the task of a graph and fact lines, with masks that tell what functions may write
unfoldable pub program_of : Code → Flow → List FactLine → LoopGraph → (ℕ → ℕ → Bool) → Program
program_of code g lines loops mask =
    record {
      code = code;
      entry = g.entry;
      graph = loops;
      mask = mask;
      before = λ u. before_nth code (blocks_of g lines) (place_in (addresses_of g) u);
    }
