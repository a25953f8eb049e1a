use Rattle.std.proofs.Common.{arith}
use Rattle.mips_text.proofs.Arcs.{reached_start, reached_first, missed_far, missed_odd}
use Rattle.mips_text.proofs.target.reaches.Goals as goal

pub returns-then-start-first-clause-reached : goal.returns-then-start-first-clause-reached
returns-then-start-first-clause-reached c = reached_start c.args.first c.args.size c.args.left c.args.value c.from.result c.pow-block.result (omega arith) c.requires.aligned c.requires.some c.requires.room c.from.ensures c.pow-block.ensures c.if-start-eq0.true

pub returns-else-start-first-clause-reached : goal.returns-else-start-first-clause-reached
returns-else-start-first-clause-reached c =
    reached_first c.args.first c.args.size c.args.left c.args.value c.from.result c.pow-block.result (omega arith) c.requires.aligned c.requires.some c.requires.room c.from.ensures c.pow-block.ensures c.from-else-start-first.result c.from-else-start-first.ensures

pub returns-else-start-first-clause-missed : goal.returns-else-start-first-clause-missed
returns-else-start-first-clause-missed c =
    missed_far c.args.first c.args.size c.args.left c.args.value c.from.result c.pow-block.result (omega arith) c.requires.aligned c.requires.some c.requires.room c.from.ensures c.pow-block.ensures c.from-else-start-first.result c.from-else-start-first.ensures c.if-start-first.false

pub returns-else-start-eq0-clause-missed : goal.returns-else-start-eq0-clause-missed
returns-else-start-eq0-clause-missed c = missed_odd c.args.first c.args.size c.args.left c.args.value c.from.result c.pow-block.result (omega arith) c.requires.aligned c.requires.some c.requires.room c.from.ensures c.pow-block.ensures
