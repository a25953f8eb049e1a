use Rattle.std.proofs.Common.{sym, subst}
use Rattle.flow_graph.specs.Code.{IsCode}
use Rattle.analysis_tests.proofs.Found.{laid_code}
use Rattle.analysis_tests.proofs.given.task_of.Goals as goal

pub returns-clause-code : goal.returns-clause-code
returns-clause-code c =
    laid_code c.in-Ok.task c.in-Ok-words_image.image c.in-Ok-layout._memory c.in-Ok-layout.ensures (c.in-Ok-words_image.ensures.filled c.in-Ok.ensures.limits)

pub returns-clause-own : goal.returns-clause-own
returns-clause-own c =
    subst IsCode (sym c.in-Ok-code_of.ensures.code)
    (laid_code c.in-Ok.task c.in-Ok-words_image.image c.in-Ok-layout._memory c.in-Ok-layout.ensures (c.in-Ok-words_image.ensures.filled c.in-Ok.ensures.limits))
