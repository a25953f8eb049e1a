-- The certificate of register facts: ranges at the starts of blocks, passed along blocks, and kept along every edge
-- into a
-- block's start. This project's own.
use Rattle.std.specs.Prelude.{◌≡◌, ◌↔◌, ◌+◌, ◌<◌, map, length, Contains, ℕ, zero, suc, Bool, true, false, if◌then◌else◌, List, Option, Some, None, slice_index}
use Rattle.visa_io.specs.declared.records.Code.{Code}
use Rattle.mips_isa.specs.declared.instr.Instr.{Instr}
use Rattle.flow_graph.specs.Code.{instr_at, is_control_at}
use Rattle.flow_graph.specs.Flow.{Flow}
use Rattle.flow_graph.specs.Reached.{Leads, Reached, target_at}
use Rattle.flow_graph.specs.declared.parts.Edge.{Edge}
use Rattle.flow_graph.specs.declared.parts.EdgeKind.{EdgeKind}
use Rattle.flow_graph.specs.declared.parts.EdgeKind.TheVariants.{Next, Taken, Call, Return, Over}
use Rattle.range_facts.specs.Along.{after_instr, begun}
use Rattle.range_facts.specs.Ranges.{IsWithin, unknown}
use Rattle.range_facts.specs.Transfer.{AreFacts, fact_of}
use Rattle.range_facts.specs.declared.along.Along.{Along}
use Rattle.range_facts.specs.declared.facts.Facts.{Facts}
use Rattle.range_facts.specs.declared.strided.Strided.{Strided}
use Rattle.run_law.specs.Program.{Program, refined_along}

-- units by rising address, the place of each among them, where blocks start, and the ranges there
pub record Blocks : Type 0 where
  pub units : List ℕ
  pub index : ℕ → ℕ
  pub starts : ℕ → Bool
  pub facts : ℕ → Facts

-- the facts behind an instruction, if there is one
abbrev pub behind : Option Instr → ℕ → Along → Along
behind None at a = a
behind (Some i) at a = after_instr i at a

-- the facts before the n-th unit: those of its block where it starts one, else those behind the unit before it
unfoldable pub before_nth : Code → Blocks → ℕ → Along
before_nth code b zero = begun (b.facts (slice_index b.units zero))
before_nth code b (suc n) =
    if b.starts (slice_index b.units (suc n)) then begun (b.facts (slice_index b.units (suc n)))
    else behind (instr_at code (slice_index b.units n)) (slice_index b.units n) (before_nth code b n)

-- facts behind a unit's slot
abbrev pub behind_slot : Code → ℕ → Along → Along
behind_slot code u a = behind (instr_at code (u + 4)) (u + 4) a

abbrev pub behind_slot_if : Code → ℕ → Option Along → Option Along
behind_slot_if code u None = None
behind_slot_if code u (Some a) = Some (behind_slot code u a)

-- the facts before a unit, behind its first instruction
abbrev pub behind_first : Program → ℕ → Along
behind_first p u = behind (instr_at p.code u) u (p.before u)

-- the facts at the end of an edge; none where no registers go along it
abbrev pub along_kind : Program → EdgeKind → Edge → Option Along
along_kind p Next e =
    if is_control_at p.code e.from then behind_slot_if p.code e.from (refined_along p e) else Some (behind_first p e.from)
along_kind p Taken e =
    if is_control_at p.code e.from then behind_slot_if p.code e.from (refined_along p e) else Some (behind_first p e.from)
along_kind p Call e = Some (behind_slot p.code e.from (behind_first p e.from))
along_kind p Over e = Some (behind_slot p.code e.from (behind_first p e.from))
along_kind p Return e = None

-- a call may write a register: the function that it calls may
abbrev pub masked_if : (ℕ → ℕ → Bool) → Option ℕ → ℕ → Bool
masked_if mask None r = false
masked_if mask (Some function) r = mask function r

-- over a call, what the function called may write is unknown
abbrev pub over_call : Program → EdgeKind → ℕ → ℕ → Strided → Strided
over_call p Over u r s = if masked_if p.mask (target_at p.code u) r then unknown else s
over_call p other u r s = s

-- the fact of a register at the end of an edge
abbrev pub fact_if : Program → Edge → ℕ → Option Along → Option Strided
fact_if p e r None = None
fact_if p e r (Some a) = Some (over_call p e.kind e.from r (fact_of a.facts r))

unfoldable pub fact_along : Program → Edge → ℕ → Option Strided
fact_along p e r = fact_if p e r (along_kind p e.kind e)

-- an edge keeps the fact of a register at the start of a block
abbrev pub IsKept : Program → Blocks → Edge → ℕ → Type 0
IsKept p b e r = (s : Strided) → fact_along p e r ≡ Some s → IsWithin s (fact_of (b.facts e.to) r)

-- the facts with which a job opens lie in those of the entry
abbrev pub OpensIn : Facts → Blocks → ℕ → Type 0
OpensIn opening b entry = (r : ℕ) → r < 32 → IsWithin (fact_of opening r) (fact_of (b.facts entry) r)

pub record Certificate (p : Program) (b : Blocks) : Type 0 where
  pub before_is : (u : ℕ) → Reached p.code p.entry u → p.before u ≡ before_nth p.code b (b.index u)
  pub facts : (u : ℕ) → Reached p.code p.entry u → b.starts u ≡ true → AreFacts (b.facts u)
  pub kept : (e : Edge) (r : ℕ) → Reached p.code p.entry e.from → Leads p.code e → b.starts e.to ≡ true → r < 32
      → IsKept p b e r

-- what the graph says of blocks: the unit behind a plain one is the next by address, unless it starts a block;
-- control
-- leads to starts alone
pub record Blocked (p : Program) (b : Blocks) : Type 0 where
  pub entry : b.starts p.entry ≡ true
  pub indexed : (u : ℕ) → Reached p.code p.entry u → slice_index b.units (b.index u) ≡ u
  pub follows : (u : ℕ) → Reached p.code p.entry u → Reached p.code p.entry (u + 4) → b.starts (u + 4) ≡ false
      → b.index (u + 4) ≡ suc (b.index u)
  pub ends : (e : Edge) → Reached p.code p.entry e.from → Leads p.code e → is_control_at p.code e.from ≡ true
      → b.starts e.to ≡ true

-- the units and blocks of a graph
pub record AreBlocksOf (g : Flow) (b : Blocks) : Type 0 where
  pub units : b.units ≡ map (λ unit. unit.at) g.units
  pub index : (u : ℕ) → Contains b.units u → (b.index u < length b.units) × (slice_index b.units (b.index u) ≡ u)
  pub starts : (u : ℕ) → (b.starts u ≡ true) ↔ Contains g.blocks u
