use Rattle.std.proofs.Common.{sym, ◌∙◌}
use Rattle.flow_graph.specs.Flow.{IsFlow}
use Rattle.flow_graph.proofs.Entries.{off_entry}
use Rattle.flow_graph.proofs.making.graph.Goals as goal

pub returns-then-not-has_word-clause-flow : goal.returns-then-not-has_word-clause-flow
unfolding IsFlow
returns-then-not-has_word-clause-flow c = off_entry c.args.code.now c.args.entry (sym c.has_word.ensures ∙ c.if-not-has_word.true)

pub returns-in-Err-clause-flow : goal.returns-in-Err-clause-flow
unfolding IsFlow
returns-in-Err-clause-flow c = tt
