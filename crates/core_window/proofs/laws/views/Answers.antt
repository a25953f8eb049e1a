use Rattle.core_window.proofs.Operands.{issue-known, memory-past, operands, stores-known}
use Rattle.core_window.specs.View.{all_known}
use Rattle.core_window.proofs.laws.views.Goals as goal

pub returns-clause-names : goal.returns-clause-names
returns-clause-names c = operands

pub returns-clause-memory : goal.returns-clause-memory
returns-clause-memory c = λ older x. memory-past older (all_known x)

pub returns-clause-stores : goal.returns-clause-stores
returns-clause-stores c = stores-known

pub returns-clause-outcome : goal.returns-clause-outcome
returns-clause-outcome c = issue-known
