-- The task that admission's analysis found passes, and its jobs open.
use Rattle.std.proofs.Common.{◌≡◌, refl, sym, subst, ℕ, List}
use Rattle.std.specs.Prelude.{All, true}
use Rattle.std.proofs.lemmas.List.Elements.{All-contains}
use Rattle.visa_io.specs.ImageCode.{code_of_image}
use Rattle.visa_io.specs.declared.records.Code.{Code}
use Rattle.visa_io.specs.declared.records.FactLine.{FactLine}
use Rattle.visa_io.specs.declared.records.Image.{Image}
use Rattle.visa_io.specs.declared.records.Region.{Region}
use Rattle.task_text.specs.Limits.{KeepsLimits}
use Rattle.task_text.specs.Table.{in_limits}
use Rattle.task_text.specs.declared.row.Row.TheVariants as row
use Rattle.task_text.specs.declared.task.Task.{Task}
use Rattle.mips_ref.specs.Job.{opening}
use Rattle.mips_ref.specs.Mips.{Mips}
use Rattle.flow_graph.specs.Flow.{IsGraph}
use Rattle.loop_regions.specs.Regions.{AreNested}
use Rattle.run_law.specs.Analysed.{Analysed}
use Rattle.run_law.specs.Counts.{IsCounted}
use Rattle.run_law.specs.Program.{IsGraphOf, Passed, Program}
use Rattle.run_law.specs.Runs.{Opens}
use Rattle.run_law.proofs.Blocking.{blocked_of}
use Rattle.run_law.proofs.Keeping.{passed_of}
use Rattle.run_law.proofs.Looping.{graph_of}
use Rattle.run_law.proofs.Opening.{opens_of}
use Rattle.bound_checker.proofs.Agreeing.{blocks_are}
use Rattle.bound_checker.specs.Input.{IsLine}
use Rattle.bound_checker.specs.Lines.{addresses_of, blocks_of, place_in, program_of}
use Rattle.admission.specs.Found.{Analysis, entry_of, program}
use Rattle.admitted_jobs.specs.Jobs.{IsJob}
use Rattle.admitted_jobs.proofs.Before.{nth_facts}
use Rattle.admission.proofs.Limits.{counter_in, line_in}

all_lines : (lines : List FactLine) → All (λ f. in_limits (row.Fact f) ≡ true) lines → All IsLine lines
all_lines lines all = λ k d below. line_in _ (all k d below)

-- the graph, for the entry that it has itself
pub own_graph : (t : Task) (code : Code) (entry : ℕ) (a : Analysis t code entry) → IsGraph code a.graph.entry a.graph
own_graph t code entry a = subst (λ e. IsGraph code e a.graph) (sym a.has_graph.graph.entry_is) a.has_graph.graph

-- the task found
abbrev pub found : (t : Task) (code : Code) (entry : ℕ) → Analysis t code entry → Program
found t code entry a = program t code a.graph a.mask

pub found_graph : (t : Task) (code : Code) (entry : ℕ) (a : Analysis t code entry)
    → IsGraph (found t code entry a).code (found t code entry a).entry a.graph
unfolding program_of
found_graph t code entry a = own_graph t code entry a

pub found_of : (t : Task) (code : Code) (entry : ℕ) (a : Analysis t code entry)
    → IsGraphOf (found t code entry a) a.graph
unfolding program_of
found_of t code entry a = graph_of (found t code entry a) a.graph t.regions (found_graph t code entry a) refl

analysed_of : (t : Task) (code : Code) (entry : ℕ) (a : Analysis t code entry) → KeepsLimits t
    → Analysed (found t code entry a) a.graph (blocks_of a.graph t.facts)
unfolding program_of
analysed_of t code entry a limits = record {
  graph = found_graph t code entry a;
  of = found_of t code entry a;
  masks = a.has_facts.masks;
  blocks = blocks_are a.graph t.facts;
  certificate = a.has_facts.kept.certificate;
  nested = subst (λ rs. AreNested a.graph rs) a.has_nest.regions_are a.has_nest.nest.nested;
  registers = λ r among. counter_in r (All-contains (λ (q : Region). in_limits (row.Loop q) ≡ true) t.regions r
      limits.regions among);
  facts = λ r among. nth_facts code a.graph t.facts (all_lines t.facts limits.facts)
      (place_in (addresses_of a.graph) r.header);
  counted = λ r among. All-contains (IsCounted (found t code entry a)) t.regions r a.has_counts among;
}

pub passes : (t : Task) (code : Code) (entry : ℕ) (a : Analysis t code entry) → KeepsLimits t
    → Passed (found t code entry a)
passes t code entry a limits =
    passed_of (found t code entry a) a.graph (blocks_of a.graph t.facts) (analysed_of t code entry a limits)

-- a job of it opens
opens_there : (t : Task) (i : Image) (a : Analysis t (code_of_image i) (entry_of t i)) (x : Mips) → KeepsLimits t
    → (job : IsJob t i x)
    → Opens (found t (code_of_image i) (entry_of t i) a)
    (opening a.graph.entry t.stack t.input_at t.input_len job.input job.memory t.out_max)
unfolding program_of
opens_there t i a x limits job =
    let p : Program = found t (code_of_image i) (entry_of t i) a in
    let analysed = analysed_of t (code_of_image i) (entry_of t i) a limits in
    let passed = passed_of p a.graph (blocks_of a.graph t.facts) analysed in
    opens_of p (blocks_of a.graph t.facts) t.stack t.input_at t.input_len job.input job.memory t.out_max
    passed.flowing
    (blocked_of p a.graph (blocks_of a.graph t.facts) analysed.graph analysed.blocks) analysed.certificate
    a.has_facts.kept.opened job.ready.has_code
    (record {
      at_word = job.ready.input_at;
      stack_word = limits.stack;
      small = limits.input_len;
      fits = job.fits;
      stores = job.ready.input;
    })

pub job_opens : (t : Task) (i : Image) (a : Analysis t (code_of_image i) (entry_of t i)) (x : Mips) → KeepsLimits t
    → IsJob t i x
    → Opens (found t (code_of_image i) (entry_of t i) a) x
job_opens t i a x limits job =
    let p : Program = found t (code_of_image i) (entry_of t i) a in
    subst (λ y. Opens p y) (sym job.opens)
    (subst (λ e. Opens p (opening e t.stack t.input_at t.input_len job.input job.memory t.out_max))
    a.has_graph.graph.entry_is (opens_there t i a x limits job))
