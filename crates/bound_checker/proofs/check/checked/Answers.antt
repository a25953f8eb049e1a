use Rattle.bound_checker.proofs.Masking.{some_units}
use Rattle.bound_checker.proofs.Told.{check_is}
use Rattle.bound_checker.proofs.check.checked.Goals as goal

pub first_fault-requires-clause-some : goal.first_fault-requires-clause-some
first_fault-requires-clause-some c = some_units c.args.code.now c.args.g.now c.requires.input.graph

pub returns : goal.returns
returns c = check_is c.args.code.now c.args.g.now c.args.facts.now c.args.opening.now c.args.p.now c.first_fault.result c.requires.proved c.first_fault.ensures
