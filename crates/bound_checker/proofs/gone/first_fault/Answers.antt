use Rattle.std.proofs.Common.{◌∙◌, ap}
use Rattle.bound_checker.specs.Gone.{with_opening}
use Rattle.bound_checker.specs.Lines.{facts_at}
use Rattle.bound_checker.proofs.Going.{table_facts}
use Rattle.bound_checker.proofs.Opened.{fault_of}
use Rattle.bound_checker.proofs.gone.first_fault.Goals as goal

pub least_lost-lost-requires-clause-target : goal.least_lost-lost-requires-clause-target
least_lost-lost-requires-clause-target c =
    table_facts c.args.lines.now c.args.table.now c.args.code.now c.args.g.now c.entry.result c.facts_in-target.result c.requires.input c.requires.table c.facts_in-target.ensures

pub returns : goal.returns
returns c =
    fault_of c.args.code.now c.args.g.now c.args.lines.now c.args.masks.now c.args.opening.now c.facts_in-target.result c.first_lost-best.result c.least_lost-lost.result c.with_opening.result c.requires.input
    (c.facts_in-target.ensures ∙ c.requires.table c.entry.result ∙ ap (facts_at c.args.lines.now) c.entry.ensures) c.first_lost-best.ensures c.least_lost-lost.ensures
    (c.with_opening.ensures ∙ ap (λ n. with_opening n c.first_lost-best.result c.least_lost-lost.result) c.entry-2.ensures)
