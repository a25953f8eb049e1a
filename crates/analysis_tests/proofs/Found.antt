-- What the calls ask of where walks begin, and of a laid out task's code.
use Rattle.std.proofs.Common.{◌≡◌, refl, sym, subst, ℕ, List, inl, Ok}
use Rattle.std.specs.List.{Contains}
use Rattle.visa_io.specs.ImageCode.{IsFilled, code_of_image}
use Rattle.visa_io.specs.declared.records.Code.{Code}
use Rattle.visa_io.specs.declared.records.Image.{Image}
use Rattle.task_text.specs.declared.task.Task.{Task}
use Rattle.mips_ref.specs.Memory.{Flat}
use Rattle.task_layout.specs.Layout.{IsLayout}
use Rattle.laid_code.proofs.WholeCode.{code_laid_out}
use Rattle.flow_graph.specs.Code.{IsCode}
use Rattle.flow_graph.specs.Flow.{Flow, IsFlow, IsGraph}
use Rattle.loop_regions.specs.Nested.{IsNest, Numbered}
use Rattle.run_law.proofs.Flows.{entry_code}
use Rattle.subtask_cut.proofs.Passed.{functions_of}
use Rattle.path_wcet.specs.Longest.{IsOpening}
use Rattle.path_wcet.proofs.Nests.{entered_function}

pub laid_code : (t : Task) (i : Image) (m : Flat) → IsLayout t i (Ok m) → IsFilled i → IsCode (code_of_image i)
unfolding IsLayout
laid_code t i m is filled = code_laid_out t i m is filled

-- the entry is a unit
pub entry_among : (code : Code) (entry : ℕ) (g : Flow) (n : Numbered) → IsGraph code entry g → IsNest g n → Contains n.addresses entry
entry_among code entry g n is nest =
    subst (λ (a : ℕ). Contains n.addresses a) is.entry_is
    (subst (λ (l : List ℕ). Contains l g.entry) (sym nest.numbered.addresses_are) (functions_of code entry g is).entry)

-- no region holds it, but one whose header it is
pub entry_opens : (code : Code) (entry : ℕ) (g : Flow) (n : Numbered) → IsGraph code entry g → IsNest g n → IsOpening n entry
entry_opens code entry g n is nest r among within =
    entered_function g n.regions nest.nested entry ((is.functions_are entry).1 (inl (refl, entry_code code entry g is))) r among within

pub made_graph : (code : Code) (entry : ℕ) (g : Flow) → IsFlow code entry (Ok g) → IsGraph code entry g
unfolding IsFlow
made_graph code entry g is = is.0
