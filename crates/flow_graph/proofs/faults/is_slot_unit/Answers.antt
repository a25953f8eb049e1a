use Rattle.std.proofs.Common.{◌∙◌, ◌+◌, ap, ℕ}
use Rattle.flow_graph.specs.Own.{is_among}
use Rattle.flow_graph.proofs.Found.{found_is_among}
use Rattle.flow_graph.proofs.faults.is_slot_unit.Goals as goal

pub returns : goal.returns
returns c = c.is_some.ensures ∙ found_is_among _ _ _ c.find.ensures ∙ ap (λ (n : ℕ). is_among c.args.units.now (n + 4)) c.from.ensures
