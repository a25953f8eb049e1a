-- The facts before each unit are facts.
use Rattle.std.proofs.Common.{◌≡◌, refl, ℕ, zero, suc, Bool, true, false}
use Rattle.std.specs.Prelude.{All, List, Option, Some, None, if◌then◌else◌, slice_index}
use Rattle.visa_io.specs.declared.records.Code.{Code}
use Rattle.visa_io.specs.declared.records.FactLine.{FactLine}
use Rattle.mips_isa.specs.declared.instr.Instr.{Instr}
use Rattle.flow_graph.specs.Code.{instr_at}
use Rattle.flow_graph.specs.Flow.{Flow}
use Rattle.range_facts.specs.Along.{after_instr, begun}
use Rattle.range_facts.specs.Transfer.{AreFacts}
use Rattle.range_facts.specs.declared.along.Along.{Along}
use Rattle.range_facts.proofs.Kept.{transfer_keeps}
use Rattle.run_law.specs.Certificate.{before_nth, behind}
use Rattle.bound_checker.specs.Input.{IsLine}
use Rattle.bound_checker.specs.Lines.{addresses_of, blocks_of, facts_at}
use Rattle.bound_checker.proofs.Recorded.{begun_facts, instr_fits}

behind_facts : (code : Code) (u : ℕ) (a : Along) (o : Option Instr) → instr_at code u ≡ o → AreFacts a.facts
    → AreFacts (behind o u a).facts
unfolding after_instr
behind_facts code u a None is are = are
behind_facts code u a (Some i) is are = transfer_keeps i u a.facts (instr_fits code u i is) are

pub nth_facts : (code : Code) (g : Flow) (lines : List FactLine) → All IsLine lines → (n : ℕ)
    → AreFacts (before_nth code (blocks_of g lines) n).facts
unfolding before_nth blocks_of
nth_facts code g lines all zero = begun_facts lines (slice_index (addresses_of g) zero) all
nth_facts code g lines all (suc n) = by_start (nth_facts code g lines all n)
    ((blocks_of g lines).starts (slice_index (addresses_of g) (suc n)))
  where
    by_start : AreFacts (before_nth code (blocks_of g lines) n).facts → (b : Bool)
        → AreFacts (if b then begun (facts_at lines (slice_index (addresses_of g) (suc n))) else behind
        (instr_at code (slice_index (addresses_of g) n)) (slice_index (addresses_of g) n)
        (before_nth code (blocks_of g lines) n)).facts
    by_start before true = begun_facts lines (slice_index (addresses_of g) (suc n)) all
    by_start before false =
        behind_facts code (slice_index (addresses_of g) n) (before_nth code (blocks_of g lines) n)
        (instr_at code (slice_index (addresses_of g) n)) refl before
