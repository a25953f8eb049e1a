use Rattle.bound_checker.specs.Lines.{program_of}
use Rattle.bound_checker.proofs.Deciding.{answered}
use Rattle.bound_checker.proofs.count.checked.Goals as goal

pub returns-clause-answer : goal.returns-clause-answer
returns-clause-answer c = λ loops mask.
    answered (program_of c.args.code.now c.args.g.now c.args.facts.now loops mask) c.args.region c.args.r c.has_no_step.result c.counted.result (c.has_no_step.ensures.is c.args.facts.now loops mask) c.if-has_no_step.false (c.counted.ensures.answer loops mask)
