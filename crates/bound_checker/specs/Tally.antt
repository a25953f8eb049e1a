-- What the instructions of a region say of its count: least addresses and sizes. This project's own.
use Rattle.std.specs.Prelude.{◌≡◌, ◌≤◌, ◌<◌, ◌+◌, ℕ, ℤ, pos, min, Bool, true, false, ◌&&◌, not, ◌==◌, if◌then◌else◌, is_some, unsigned_abs, List, Option, Some, None, slice_index}
use Rattle.std.specs.Ordering.{int_eq}
use Rattle.visa_io.specs.declared.records.Code.{Code}
use Rattle.visa_io.specs.declared.records.FactLine.{FactLine}
use Rattle.mips_isa.specs.Names.{writes_of}
use Rattle.mips_isa.specs.declared.instr.Instr.{Instr}
use Rattle.flow_graph.specs.Calls.{IsLeast}
use Rattle.flow_graph.specs.Code.{instr_at}
use Rattle.flow_graph.specs.Faults.{is_word_of}
use Rattle.flow_graph.specs.Flow.{Flow}
use Rattle.flow_graph.specs.Own.{lesser}
use Rattle.flow_graph.specs.declared.parts.Unit.{Unit as FlowUnit}
use Rattle.range_facts.specs.Transfer.{fact_of}
use Rattle.range_facts.specs.declared.along.Along.{Along}
use Rattle.range_facts.specs.declared.strided.Strided.{Strided}
use Rattle.run_law.specs.Certificate.{before_nth, behind}
use Rattle.run_law.specs.Counts.{is_up, stays_fit, step_by}
use Rattle.bound_checker.specs.Ends.{behind_first_of}
use Rattle.bound_checker.specs.Lines.{addresses_of, blocks_of}
use Rattle.bound_checker.specs.declared.tally.Tally.{Tally}

abbrev pub add_step : ℕ → ℕ → ℕ → ℤ → Option ℤ
add_step c rs rt by = if (rs == c) && ((rt == c) && not (int_eq by (pos 0))) then Some by else None

abbrev pub is_step : ℕ → Instr → Bool
is_step c i = is_some (step_by c i)

abbrev pub is_register : ℕ → Option ℕ → Bool
is_register c None = false
is_register c (Some r) = r == c

abbrev pub writes_counter : ℕ → Instr → Bool
writes_counter c i = is_register c (writes_of i)

abbrev pub is_quiet_slot : ℕ → Option Instr → Bool
is_quiet_slot c None = true
is_quiet_slot c (Some i) = not (is_step c i)

abbrev pub is_quiet : ℕ → FlowUnit → Bool
is_quiet c unit = not (is_step c unit.first) && is_quiet_slot c unit.slot

abbrev pub empty : Tally
empty = record { up = None; down = None; size = None; other = None; wraps = None }

abbrev pub lesser_of : ℕ → Option ℕ → Option ℕ
lesser_of x None = Some x
lesser_of x (Some y) = Some (min x y)

abbrev pub joined : Tally → Tally → Tally
joined s t = record {
  up = lesser s.up t.up;
  down = lesser s.down t.down;
  size = lesser s.size t.size;
  other = lesser s.other t.other;
  wraps = lesser s.wraps t.wraps;
}

abbrev pub only_if : Bool → ℕ → Option ℕ
only_if test at = if test then Some at else None

abbrev pub of_step : ℕ → ℤ → Strided → Tally
of_step at by s = record {
  up = only_if (is_up by) at;
  down = only_if (not (is_up by)) at;
  size = Some (unsigned_abs by);
  other = None;
  wraps = only_if (not (stays_fit s by)) at;
}

abbrev pub of_other : ℕ → Bool → Tally
of_other at writes = record { up = None; down = None; size = None; other = only_if writes at; wraps = None }

abbrev pub of_step_if : Option ℤ → ℕ → Bool → Strided → Tally
of_step_if None at writes s = of_other at writes
of_step_if (Some by) at writes s = of_step at by s

unfoldable pub of_instr : ℕ → ℕ → Instr → Strided → Tally
of_instr c at i s = of_step_if (step_by c i) at (writes_counter c i) s

abbrev pub with_slot : ℕ → FlowUnit → Along → Option Instr → Tally → Tally
with_slot c unit a None t = t
with_slot c unit a (Some slot) t = joined t (of_instr c (unit.at + 4) slot (fact_of (behind_first_of unit a).facts c))

unfoldable pub of_unit : ℕ → FlowUnit → Along → Tally
of_unit c unit a = with_slot c unit a unit.slot (of_instr c unit.at unit.first (fact_of a.facts c))

-- a step among some instructions, each with the counter's fact before it
pub record HasStep (c : ℕ) (P : ℕ → Instr → Strided → Type 0) (at : ℕ) (by : ℤ) : Type 0 where
  pub instr : Instr
  pub fact : Strided
  pub among : P at instr fact
  pub steps : step_by c instr ≡ Some by

abbrev pub GoesWay : ℕ → (ℕ → Instr → Strided → Type 0) → Bool → ℕ → Type 0
GoesWay c P up at = (by : ℤ) × HasStep c P at by × (is_up by ≡ up)

abbrev pub HasSize : ℕ → (ℕ → Instr → Strided → Type 0) → ℕ → Type 0
HasSize c P size = (at : ℕ) × (by : ℤ) × HasStep c P at by × (unsigned_abs by ≡ size)

-- another write of the counter among them
pub record HasWrite (c : ℕ) (P : ℕ → Instr → Strided → Type 0) (at : ℕ) : Type 0 where
  pub instr : Instr
  pub fact : Strided
  pub among : P at instr fact
  pub writes : writes_of instr ≡ Some c
  pub no_step : step_by c instr ≡ None

abbrev pub MayWrap : ℕ → (ℕ → Instr → Strided → Type 0) → ℕ → Type 0
MayWrap c P at = (by : ℤ) × (step : HasStep c P at by) × (stays_fit step.fact by ≡ false)

-- what some instructions say
pub record IsTally (c : ℕ) (P : ℕ → Instr → Strided → Type 0) (t : Tally) : Type 0 where
  pub up : IsLeast (GoesWay c P true) t.up
  pub down : IsLeast (GoesWay c P false) t.down
  pub size : IsLeast (HasSize c P) t.size
  pub other : IsLeast (HasWrite c P) t.other
  pub wraps : IsLeast (MayWrap c P) t.wraps

abbrev pub address_at : Flow → ℕ → ℕ
address_at g k = slice_index (addresses_of g) k

-- the facts before an instruction of the unit of a number
abbrev pub before_word : Code → Flow → List FactLine → ℕ → ℕ → Along
before_word code g lines k at =
    if at == address_at g k then before_nth code (blocks_of g lines) k
    else behind (instr_at code (address_at g k)) (address_at g k) (before_nth code (blocks_of g lines) k)

-- an instruction of this unit, with the counter's fact before it
pub record IsIn (code : Code) (g : Flow) (lines : List FactLine) (c k at : ℕ) (i : Instr) (s : Strided) : Type 0 where
  pub word : is_word_of code (address_at g k) at ≡ true
  pub stands : instr_at code at ≡ Some i
  pub fact : s ≡ fact_of (before_word code g lines k at).facts c

-- of one of the units from a number on
abbrev pub IsAmong : Code → Flow → List FactLine → ℕ → ℕ → ℕ → ℕ → Instr → Strided → Type 0
IsAmong code g lines c lo hi at i s = (k : ℕ) × (lo ≤ k) × (k < hi) × IsIn code g lines c k at i s
