use Rattle.std.proofs.Common.{sym}
use Rattle.ooo_clock.proofs.Owed.{not-due}
use Rattle.ooo_clock.proofs.clock.Parts.issue_past.Goals as goal

pub returns-then-delays-clause-due : goal.returns-then-delays-clause-due
returns-then-delays-clause-due c =
    sym (not-due c.args.self.now c.args.state.now.mips c.args.k
    (c.delays.ensures c.args.self.now.window c.args.state.now.mips c.args.k c.requires.owes c.requires.shown c.if-delays.true))
