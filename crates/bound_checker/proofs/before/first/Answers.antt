use Rattle.bound_checker.proofs.Recorded.{first_is_before}
use Rattle.bound_checker.proofs.before.first.Goals as goal

pub returns : goal.returns
returns c =
    first_is_before c.args.code.now c.args.g.now c.args.lines.now c.unit_at.result c.unit_at.result c.begun_at.result c.requires.input c.requires.some (c.unit_at.ensures c.unit_at.result) c.begun_at.ensures
