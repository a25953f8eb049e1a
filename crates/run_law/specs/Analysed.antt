-- A task that passed every analysis before it runs. This project's own.
use Rattle.std.specs.Prelude.{◌≡◌, ◌≢◌, ◌<◌, ℕ, true, slice_index}
use Rattle.std.specs.List.{Contains}
use Rattle.visa_io.specs.declared.records.Region.{Region}
use Rattle.mips_isa.specs.Words.{signed}
use Rattle.mips_ref.specs.Mips.{Mips}
use Rattle.flow_graph.specs.Flow.{Flow, IsGraph}
use Rattle.flow_graph.specs.Reached.{Reached}
use Rattle.loop_regions.specs.Regions.{AreNested}
use Rattle.range_facts.specs.Ranges.{Holds}
use Rattle.range_facts.specs.Transfer.{AreFacts, fact_of}
use Rattle.run_law.specs.Certificate.{AreBlocksOf, Blocks, Certificate}
use Rattle.run_law.specs.Counts.{IsCounted}
use Rattle.run_law.specs.Masks.{AreMasks}
use Rattle.run_law.specs.Program.{IsGraphOf, Program}

-- its code has a graph, its regions nest and are counted by registers that can be written, and its facts are a
-- certificate
pub record Analysed (p : Program) (g : Flow) (b : Blocks) : Type 0 where
  pub graph : IsGraph p.code p.entry g
  pub of : IsGraphOf p g
  pub masks : AreMasks p.code p.entry p.mask
  pub blocks : AreBlocksOf g b
  pub certificate : Certificate p b
  pub nested : AreNested g p.graph.regions
  pub registers : (r : Region) → Contains p.graph.regions r → (r.counter ≢ 0) × (r.counter < 32)
  pub facts : (r : Region) → Contains p.graph.regions r → AreFacts (p.before r.header).facts
  pub counted : (r : Region) → Contains p.graph.regions r → IsCounted p r

-- a state at the start of a block has values of the facts there
abbrev pub KeepsFacts : Program → Blocks → Mips → Type 0
KeepsFacts p b x =
    Reached p.code p.entry x.pc → b.starts x.pc ≡ true → (r : ℕ)
    → Holds (fact_of (b.facts x.pc) r) (signed (slice_index x.registers r))
