use Rattle.std.proofs.Common.{◌∙◌, ◌+◌, ◌*◌, max}
use Rattle.checkpoint_plan.specs.Plan.{overhead_of}
use Rattle.checkpoint_plan.proofs.times.overhead.Goals as goal

pub returns-clause-value : goal.returns-clause-value
unfolding overhead_of
returns-clause-value c =
    λ i.
    (c.max-wait.ensures ∙ (λ j. max (c.cycles_of-miss.ensures.value j) (c.cycles_of-store.ensures.value j))) i
    * c.from.ensures i
    + (34 + c.lines.ensures.value i + c.lines-2.ensures.value i + c.cycles_of-first_fetch.ensures.value i) * c.from-2.ensures i
    + c.from-3.ensures i
