use Rattle.std.proofs.Common.{◌≡◌, false, arith, sym, take, ◌∙◌}
use Rattle.std.proofs.lemmas.Grind.{common_steps}
use Rattle.ooo_clock.proofs.Owed.{busy-issued, held-issued, none-issued}
use Rattle.ooo_clock.proofs.pending.Pending.delays.Goals as goal

pub returns-in-None : goal.returns-in-None
returns-in-None c = λ d x k h there e. none-issued d x k c.args.v there c.in-None.is

pub returns-then-not-is_waiting : goal.returns-then-not-is_waiting
returns-then-not-is_waiting c =
    let busy : c.is_waiting.result ≡ false = grind (arith, common_steps, c.if-not-is_waiting.true) in
    λ d x k h there e. busy-issued d x k c.args.v there (sym c.is_waiting.ensures ∙ busy)

pub returns-else-not-is_waiting : goal.returns-else-not-is_waiting
returns-else-not-is_waiting c =
    λ d x k h there e. held-issued d x k c.args.v c.in-Some.i there c.in-Some.is (c.holds.ensures (take k d.entries) x h e)
