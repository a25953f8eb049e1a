use Rattle.task_text.proofs.SeenFacts.{note_kept}
use Rattle.task_text.proofs.fact_keys.FactKeys.note.Goals as goal

pub returns-in-Fact : goal.returns-in-Fact
returns-in-Fact c = λ t h.
    note_kept c.insert.result c.args.self.now (record { seen = c.insert.new.seen }) c.args.row.now c.in-Fact.f c.fact_key.result t c.in-Fact.is c.requires c.fact_key.ensures c.insert.ensures h
