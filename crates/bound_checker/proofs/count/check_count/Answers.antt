use Rattle.bound_checker.specs.Counted.{IsCountAnswer}
use Rattle.bound_checker.specs.Lines.{program_of}
use Rattle.bound_checker.proofs.Deciding.{answer_at, inside_at, still_proved}
use Rattle.bound_checker.proofs.count.check_count.Goals as goal
use Rattle.std.proofs.Common.{◌+◌}

pub checked-requires-clause-header : goal.checked-requires-clause-header
checked-requires-clause-header c = inside_at c.args.g.now c.args.n.now.regions c.regions.result.now c.args.r _ c.regions.ensures c.requires.nest.nested c.requires.region

pub returns-clause-answer : goal.returns-clause-answer
returns-clause-answer c = λ region is loops mask.
    answer_at (λ x. IsCountAnswer (program_of c.args.code.now c.args.g.now c.args.facts.now loops mask) x (c.args.r + 1) c.checked.result) c.args.n.now.regions c.regions.result.now c.args.r _ region c.regions.ensures is (c.checked.ensures.answer loops mask)

pub returns-clause-proved : goal.returns-clause-proved
returns-clause-proved c = still_proved c.args.code.now c.args.g.now c.args.facts.now _ _ c.requires.proved c.checked.ensures.same
