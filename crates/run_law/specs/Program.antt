-- A task's code with its graph, regions and facts, and what the analyses before the run say of it. This project's
-- own.
use Rattle.std.specs.Prelude.{ℕ, ℤ, pos, ◌+◌, ◌/◌, ◌<◌, ◌≤◌, ◌+ℤ◌, ◌-ℤ◌, ◌≡◌, ◌≢◌, ◌⊎◌, ◌==◌, FitsSigned, Bool, true, false, List, [], ◌∷◌, Option, Some, slice_index}
use Rattle.std.specs.Int.{w32}
use Rattle.std.specs.List.{Contains}
use Rattle.visa_io.specs.declared.records.Code.{Code}
use Rattle.visa_io.specs.declared.records.Region.{Region}
use Rattle.mips_isa.specs.Names.{writes_of}
use Rattle.mips_isa.specs.Words.{extended_half, signed}
use Rattle.mips_isa.specs.declared.instr.Instr.{Instr}
use Rattle.mips_isa.specs.declared.instr.Instr.TheVariants.{Imm}
use Rattle.mips_isa.specs.declared.instr.ImmOp.TheVariants.{Addiu}
use Rattle.flow_graph.specs.Code.{instr_at, is_control_instr}
use Rattle.flow_graph.specs.Edges.{edge_of, edges_by}
use Rattle.flow_graph.specs.Faults.{is_word_of}
use Rattle.flow_graph.specs.Flow.{Flow}
use Rattle.flow_graph.specs.declared.parts.Unit.{Unit as FlowUnit}
use Rattle.flow_graph.specs.Reached.{CallsAt, Chain, IsEdge, IsFunction, IsUnitOf, Leads, Reached, is_inner}
use Rattle.flow_graph.specs.declared.parts.Edge.{Edge}
use Rattle.flow_graph.specs.declared.parts.EdgeKind.{EdgeKind}
use Rattle.flow_graph.specs.declared.parts.EdgeKind.TheVariants.{Next, Taken}
use Rattle.loop_regions.specs.Walks.{LoopGraph, holds}
use Rattle.range_facts.specs.Along.{after_instr}
use Rattle.range_facts.specs.Transfer.{fact_of}
use Rattle.range_facts.specs.declared.along.Along.{Along}
use Rattle.range_facts.specs.declared.strided.Strided.{Strided}
use Rattle.run_law.specs.Advance.{AreRegisters}
use Rattle.run_law.specs.Fits.{Fits, PassOn, refined_if}
use Rattle.run_law.specs.Instructions.{is_direct}

pub record Program : Type 0 where
  pub code : Code
  pub entry : ℕ
  pub graph : LoopGraph
  -- a function, or one that it calls directly or through others, may write a register
  pub mask : ℕ → ℕ → Bool
  -- the facts before a unit
  pub before : ℕ → Along

-- the walks go along the edges of a graph, and its long units are those with a slot
pub record IsGraphOf (p : Program) (g : Flow) : Type 0 where
  pub edges : p.graph.edges ≡ g.edges
  pub long : (unit : FlowUnit) → Contains g.units unit → p.graph.is_long unit.at ≡ (unit.length == 8)

-- a unit without a fault of the graph
pub record Good (code : Code) (u : ℕ) : Type 0 where
  pub instr : Instr
  pub stands : instr_at code u ≡ Some instr
  pub direct : is_direct instr ≡ true
  pub slot : is_control_instr instr ≡ true
      → (s : Instr) × (instr_at code (u + 4) ≡ Some s) × (is_control_instr s ≡ false)

-- the graph: it has no fault, its units lead on along all edges that their first instructions decide, and these are
-- its edges
pub record Flowing (p : Program) : Type 0 where
  pub entry : IsFunction p.code p.entry p.entry × Reached p.code p.entry p.entry × IsUnitOf p.code p.entry p.entry
  pub good : (u : ℕ) → Reached p.code p.entry u → Good p.code u
  pub leads : (u : ℕ) (i : Instr) (e : Edge) → Reached p.code p.entry u → instr_at p.code u ≡ Some i → e.from ≡ u
      → Contains (edges_by i u) e → Leads p.code e
  pub edges : (e : Edge) → IsEdge p.code p.entry e → Contains p.graph.edges e
  pub long : (u : ℕ) (i : Instr) → Reached p.code p.entry u → instr_at p.code u ≡ Some i
      → p.graph.is_long u ≡ is_control_instr i
  pub on : (f : ℕ) (e : Edge) → IsUnitOf p.code f e.from → Leads p.code e → is_inner e.kind ≡ true
      → IsUnitOf p.code f e.to
  pub also : (e : Edge) → Reached p.code p.entry e.from → Leads p.code e → Reached p.code p.entry e.to
  pub into : (u g : ℕ) → Reached p.code p.entry u → CallsAt p.code u g → IsUnitOf p.code g g
  pub shallow : (n f : ℕ) → Chain p.code p.entry n f → n ≤ 63

-- the masks: what a function's units write, and what the functions that it calls may write
pub record Masked (p : Program) : Type 0 where
  pub written : (f u at : ℕ) (i : Instr) (r : ℕ) → IsFunction p.code p.entry f → IsUnitOf p.code f u
      → is_word_of p.code u at ≡ true → instr_at p.code at ≡ Some i → writes_of i ≡ Some r → r < 32
      → p.mask f r ≡ true
  pub callee : (f u g r : ℕ) → IsFunction p.code p.entry f → IsUnitOf p.code f u → CallsAt p.code u g
      → r < 32 → p.mask g r ≡ true → p.mask f r ≡ true

-- a region: edges of a function enter it at its header alone, and a function that begins in it begins there
pub record Nested (p : Program) (r : Region) : Type 0 where
  pub starts : (f : ℕ) → IsFunction p.code p.entry f → holds r f ≡ true → f ≡ r.header
  pub enters : (e : Edge) → Reached p.code p.entry e.from → Leads p.code e → is_inner e.kind ≡ true
      → holds r e.from ≡ false → holds r e.to ≡ true → e.to ≡ r.header

abbrev pub is_taken : EdgeKind → Bool
is_taken Taken = true
is_taken other = false

-- the facts before the unit from which an edge leads, refined by what its branch says on the edge; none where no
-- registers go along it
abbrev pub refined_along : Program → Edge → Option Along
refined_along p e = refined_if (instr_at p.code e.from) (is_taken e.kind) (p.before e.from)

-- registers after a call: those that the function called may write, with any value, the others as behind the call's
-- slot
pub record AreLeft (p : Program) (g : ℕ) (saved registers : List ℕ) : Type 0 where
  pub are : AreRegisters registers
  pub kept : (r : ℕ) → r < 32 → (p.mask g r ≡ true) ⊎ (slice_index registers r ≡ slice_index saved r)

-- the certificate: facts pass along every edge of a unit
pub record Kept (p : Program) : Type 0 where
  pub plain : (u : ℕ) (i : Instr) → Reached p.code p.entry u → instr_at p.code u ≡ Some i → is_control_instr i ≡ false
      → Leads p.code (edge_of u (u + 4) Next) → PassOn (after_instr i u (p.before u)) (p.before (u + 4))
  pub turn : (e : Edge) (i s : Instr) (a : Along) → Reached p.code p.entry e.from → Leads p.code e
      → (e.kind ≡ Next) ⊎ (e.kind ≡ Taken) → instr_at p.code e.from ≡ Some i → is_control_instr i ≡ true
      → instr_at p.code (e.from + 4) ≡ Some s → refined_along p e ≡ Some a
      → PassOn (after_instr s (e.from + 4) a) (p.before e.to)
  pub call : (u g : ℕ) (i s : Instr) → Reached p.code p.entry u → CallsAt p.code u g → instr_at p.code u ≡ Some i
      → instr_at p.code (u + 4) ≡ Some s
      → PassOn (after_instr s (u + 4) (after_instr i u (p.before u))) (p.before g)
  pub over : (u g : ℕ) (i s : Instr) → Reached p.code p.entry u → CallsAt p.code u g → instr_at p.code u ≡ Some i
      → instr_at p.code (u + 4) ≡ Some s
      → (saved registers : List ℕ) → Fits (after_instr s (u + 4) (after_instr i u (p.before u))) saved
      → AreLeft p g saved registers → Fits (p.before (u + 8)) registers

abbrev pub by_size : Bool → ℕ → ℤ
by_size true size = pos size
by_size false size = pos 0 -ℤ pos size

-- addiu c,c,s with s not 0
pub record Steps (c : ℕ) (i : Instr) : Type 0 where
  pub imm : ℕ
  pub is : i ≡ Imm Addiu c c imm
  pub some : signed (extended_half imm) ≢ pos 0

-- a step of a counter upward or downward, of at least this size, with a fact before it from which it doesn't leave
-- the signed words
pub record IsStep (c : ℕ) (up : Bool) (least : ℕ) (fact : Strided) (i : Instr) : Type 0 where
  pub imm : ℕ
  pub is : i ≡ Imm Addiu c c imm
  pub size : ℕ
  pub by : signed (extended_half imm) ≡ by_size up size
  pub enough : least ≤ size
  pub low : FitsSigned w32 (fact.lo +ℤ by_size up size)
  pub high : FitsSigned w32 (fact.hi +ℤ by_size up size)

-- steps of this size and more cross a fact in fewer visits than the count
pub record IsEnough (least count : ℕ) (fact : Strided) : Type 0 where
  pub some : 0 < least
  pub span : ℕ
  pub ends : fact.hi ≡ fact.lo +ℤ pos span
  pub needed : span / least + 1 ≤ count

-- no instruction of a unit is a step of a counter
abbrev pub IsQuiet : Code → ℕ → ℕ → Type 0
IsQuiet code c u = (at : ℕ) (i : Instr) → is_word_of code u at ≡ true → instr_at code at ≡ Some i → Steps c i → ⊥

-- an edge of a function inside a region, from a unit without a step
pub record QuietEdge (p : Program) (r : Region) (u v : ℕ) : Type 0 where
  pub edge : Edge
  pub from : edge.from ≡ u
  pub to : edge.to ≡ v
  pub reached : Reached p.code p.entry edge.from
  pub leads : Leads p.code edge
  pub inner : is_inner edge.kind ≡ true
  pub inside_from : holds r edge.from ≡ true
  pub inside_to : holds r edge.to ≡ true
  pub quiet : IsQuiet p.code r.counter edge.from

-- units of a region, newest first, from the header on without a step
unfoldable pub IsQuietWay : Program → Region → List ℕ → Type 0
IsQuietWay p r [] = ⊥
IsQuietWay p r (u ∷ []) = u ≡ r.header
IsQuietWay p r (v ∷ (u ∷ us)) = QuietEdge p r u v × IsQuietWay p r (u ∷ us)

-- a counted region: its counter is a register that can be written; no cycle through the header is without a step;
-- what writes the counter is a
-- step, all in one direction; no function called from it writes the counter; and the count is enough. `least` is the
-- least size of its steps,
-- 2 ^ 32 where it has none
pub record Counted (p : Program) (r : Region) : Type 0 where
  pub up : Bool
  pub least : ℕ
  pub some : r.counter ≢ 0
  pub below : r.counter < 32
  pub no_cycle : (u : ℕ) (us : List ℕ) → IsQuietWay p r (r.header ∷ (u ∷ us)) → ⊥
  pub first : (u : ℕ) (i : Instr) → Reached p.code p.entry u → holds r u ≡ true → instr_at p.code u ≡ Some i
      → writes_of i ≡ Some r.counter
      → IsStep r.counter up least (fact_of (p.before u).facts r.counter) i
  pub slot : (u : ℕ) (i s : Instr) → Reached p.code p.entry u → holds r u ≡ true → instr_at p.code u ≡ Some i
      → is_control_instr i ≡ true → instr_at p.code (u + 4) ≡ Some s → writes_of s ≡ Some r.counter
      → IsStep r.counter up least (fact_of (after_instr i u (p.before u)).facts r.counter) s
  pub callee : (u g : ℕ) → Reached p.code p.entry u → holds r u ≡ true → CallsAt p.code u g
      → p.mask g r.counter ≡ false
  pub enough : IsEnough least r.count (fact_of (p.before r.header).facts r.counter)

-- what holds of a task whose graph, regions, facts and counts passed
pub record Passed (p : Program) : Type 0 where
  pub flowing : Flowing p
  pub masked : Masked p
  pub kept : Kept p
  pub nested : (r : Region) → Contains p.graph.regions r → Nested p r
  pub counted : (r : Region) → Contains p.graph.regions r → Counted p r
