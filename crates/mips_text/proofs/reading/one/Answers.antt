use Rattle.mips_text.specs.Faults.{IsFault}
use Rattle.mips_text.specs.Forms.{IsOperand}
use Rattle.mips_text.proofs.Exits.{exit}
use Rattle.mips_text.proofs.ChainsRead.{one_fault, one_longer, not_empty}
use Rattle.mips_text.proofs.reading.one.Goals as goal

pub returns-in_err-value-clause-fault : goal.returns-in_err-value-clause-fault
returns-in_err-value-clause-fault c =
    exit c.from_residual.result c.in_err-value.field-0.0 (λ rest. IsFault (IsOperand c.args.kind c.args.at) (IsOperand c.args.kind c.args.at) c.args.text.now rest.now) c.from_residual.ensures.1
    (one_fault c.args.kind c.args.at c.requires c.args.text.now c.in_err-value.field-0.0.now c.in_err-value.ensures.fault)

pub returns-then-not-is_empty-clause-fault : goal.returns-then-not-is_empty-clause-fault
returns-then-not-is_empty-clause-fault c = one_longer c.args.kind c.args.at c.requires c.args.text.now c.in_ok-value.value c.in_ok-value.rest.now c.in_ok-value.ensures.found (not_empty c.is_empty.result c.in_ok-value.rest.now c.is_empty.ensures c.if-not-is_empty.true)
