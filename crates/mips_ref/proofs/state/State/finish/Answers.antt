use Rattle.std.proofs.Common.{sym, ◌∙◌}
use Rattle.mips_ref.proofs.Lines.{parts_keep}
use Rattle.mips_ref.proofs.state.State.finish.Goals as goal

pub apply-requires-clause-code_stays : goal.apply-requires-clause-code_stays
apply-requires-clause-code_stays c =
    parts_keep c.args.i c.args.a c.parts-r.result c.args.self.now.mips c.requires.acts (sym c.trap.ensures ∙ c.in_default.is) c.parts-r.ensures
