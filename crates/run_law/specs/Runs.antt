-- How a run goes along a walk, as those above read it. This project's own.
use Rattle.std.specs.Prelude.{◌≡◌, ◌<◌, ◌≤◌, ◌^◌, length, ℕ, ◌+◌, true, List, [], ◌∷◌, ◌++◌, Option, Some, None}
use Rattle.visa_io.specs.declared.records.Code.{Code}
use Rattle.mips_isa.specs.declared.instr.Instr.{Instr}
use Rattle.mips_ref.specs.Memory.{AllStorable, Flat, LaidOut, code_word_at}
use Rattle.mips_ref.specs.Mips.{Mips, exit_address}
use Rattle.mips_ref.specs.declared.records.Ran.{Ran}
use Rattle.range_facts.specs.Along.{after_instr}
use Rattle.flow_graph.specs.Code.{instr_at, is_control_instr, word_at}
use Rattle.flow_graph.specs.Reached.{IsFunction, IsUnitOf, Reached}
use Rattle.flow_graph.specs.declared.parts.Edge.{Edge}
use Rattle.loop_regions.specs.Places.{Place, places, unit_places}
use Rattle.loop_regions.specs.Walks.{IsWalk, LoopGraph, alone, open_from}
use Rattle.run_law.specs.Advance.{AreRegisters}
use Rattle.run_law.specs.Fits.{Fits}
use Rattle.run_law.specs.Program.{Program}
use Rattle.run_law.specs.Ran.{Goes, WentBy}

-- the words of the code stand in a memory
pub record HasCode (code : Code) (m : Flat) : Type 0 where
  pub laid_out : LaidOut 0 m.spans
  pub words : (a word : ℕ) → word_at code a ≡ Some word → code_word_at m a ≡ Some word

-- how a job opens
pub record Opens (p : Program) (x : Mips) : Type 0 where
  pub pc : x.pc ≡ p.entry
  pub next_pc : x.next_pc ≡ p.entry + 4
  pub returns_are : x.returns ≡ exit_address ∷ []
  pub registers : AreRegisters x.registers
  pub has_code : HasCode p.code x.memory
  pub fit : Fits (p.before p.entry) x.registers

-- a job's input, on a memory: it goes into a declared buffer that can be stored to
pub record IsInput (m : Flat) (input_at input_len stack : ℕ) (input : List ℕ) : Type 0 where
  pub at_word : input_at < 2 ^ 32
  pub stack_word : stack < 2 ^ 32
  pub small : input_len ≤ 65536
  pub fits : length input ≤ input_len
  pub stores : AllStorable m input_at input_len

-- the return stack of the activations that wait, newest first: their return points, and the exit address
unfoldable pub points : List (List ℕ) → List ℕ
points [] = exit_address ∷ []
points ([] ∷ rest) = points rest
points ((u ∷ us) ∷ rest) = (u + 8) ∷ points rest

-- where in its newest unit a run stands: before it, before its slot, or at the exit behind the slot of the last
-- return
pub data Spot : Type 0 where
  First : Spot
  InSlot : Spot
  Done : Spot

abbrev pub newest_edge : List Edge → Option Edge
newest_edge [] = None
newest_edge (e ∷ es) = Some e

-- what of the newest unit isn't executed
abbrev pub later_of : LoopGraph → Spot → ℕ → List Edge → List Place
later_of g First u es = unit_places (g.is_long u) u (newest_edge es)
later_of g InSlot u es = record { at = u + 4; by = None } ∷ []
later_of g Done u es = []

-- the state there
abbrev pub IsAt : Program → ℕ → List (List ℕ) → List Ran → List Edge → Spot → Mips → Type 0
IsAt p u below rs es First x =
    (x.pc ≡ u) × (x.next_pc ≡ u + 4) × (x.returns ≡ points below) × Fits (p.before u) x.registers × WentBy p.code (newest_edge es) rs
IsAt p u below rs es InSlot x = (x.pc ≡ u + 4) × ((i : Instr) × (instr_at p.code u ≡ Some i) × (is_control_instr i ≡ true) × Fits (after_instr i u (p.before u)) x.registers)
IsAt p u below rs es Done x = (x.pc ≡ exit_address) × (x.returns ≡ [])

-- A run follows a legal walk: `edges`, newest first, lead from the entry to `unit`, the newest unit of the activation
-- on top; what ran stands at
-- the places of the walk but the newest ones, and went along its edges
pub record Runs (p : Program) (x : Mips) (rs : List Ran) : Type 0 where
  pub edges : List Edge
  pub unit : ℕ
  pub units : List ℕ
  pub below : List (List ℕ)
  pub opens : open_from (alone p.entry) edges ≡ (unit ∷ units) ∷ below
  pub walk : IsWalk p.graph (alone p.entry) edges
  pub function : ℕ
  pub is_function : IsFunction p.code p.entry function
  pub member : IsUnitOf p.code function unit
  pub reached : Reached p.code p.entry unit
  pub spot : Spot
  pub at : IsAt p unit below rs edges spot x
  pub gone : List Place
  pub places_are : places p.graph None p.entry edges ≡ later_of p.graph spot unit edges ++ gone
  pub goes : Goes p.code rs gone

-- what was executed stands at the places of a legal walk, but for the newest ones
pub record IsWalked (p : Program) (rs : List Ran) : Type 0 where
  pub edges : List Edge
  pub walk : IsWalk p.graph (alone p.entry) edges
  pub later : List Place
  pub gone : List Place
  pub places_are : places p.graph None p.entry edges ≡ later ++ gone
  pub goes : Goes p.code rs gone
