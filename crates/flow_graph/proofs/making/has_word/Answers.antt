use Rattle.std.proofs.Common.{List, ◌∙◌, ap}
use Rattle.std.specs.List.{list_any}
use Rattle.visa_io.specs.declared.records.Span.{Span}
use Rattle.flow_graph.specs.Code.{holds}
use Rattle.flow_graph.proofs.Entries.{has_word_is}
use Rattle.flow_graph.proofs.making.has_word.Goals as goal

pub returns-then-at-eq0 : goal.returns-then-at-eq0
returns-then-at-eq0 c = c.is_held.ensures ∙ ap (λ (l : List Span). list_any (λ (s : Span). holds s c.args.at) l) c.as_slice.ensures ∙ has_word_is c.args.code.now c.args.at c.requires c.if-at-eq0.true
