use Rattle.run_law.proofs.Answering.{answers}
use Rattle.run_law.proofs.Acting.{registers_stay_words, steps_by}
use Rattle.run_law.proofs.laws.a_step_by_kind.Goals as goal

pub returns-clause-leaves : goal.returns-clause-leaves
returns-clause-leaves c = steps_by

pub returns-clause-registers : goal.returns-clause-registers
returns-clause-registers c = registers_stay_words

pub returns-clause-answers : goal.returns-clause-answers
returns-clause-answers c = answers
