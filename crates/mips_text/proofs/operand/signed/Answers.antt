use Rattle.mips_text.specs.declared.form.Operand.TheVariants as o
use Rattle.mips_text.specs.Faults.{IsFault}
use Rattle.mips_text.specs.Forms.{IsOperand, OpensOperand}
use Rattle.mips_text.proofs.Exits.{exit}
use Rattle.mips_text.proofs.OperandsRead.{minus_read, minus_fault, plus_read, plus_fault}
use Rattle.mips_text.proofs.operand.signed.Goals as goal

pub returns-in_err-size-in-Ok-clause-fault : goal.returns-in_err-size-in-Ok-clause-fault
returns-in_err-size-in-Ok-clause-fault c at =
    exit c.from_residual.result c.in_err-size-in-Ok.field-0.0 (λ rest. IsFault (IsOperand o.Signed at) (OpensOperand o.Signed at) c.args.text.now rest.now) c.from_residual.ensures.1
    (minus_fault at c.args.text.now c.in-Ok.digits.now c.in-Ok.ensures.found c.in_err-size-in-Ok.field-0.0.now c.in_err-size-in-Ok.ensures.fault)

pub returns-in_err-value-in-Err-clause-fault : goal.returns-in_err-value-in-Err-clause-fault
returns-in_err-value-in-Err-clause-fault c at =
    exit c.from_residual-in_err-value-in-Err.result c.in_err-value-in-Err.field-0.0 (λ rest. IsFault (IsOperand o.Signed at) (OpensOperand o.Signed at) c.args.text.now rest.now) c.from_residual-in_err-value-in-Err.ensures.1
    (plus_fault at c.args.text.now c.in-Err.field-0.now c.in_err-value-in-Err.field-0.0.now c.in-Err.ensures.fault c.in_err-value-in-Err.ensures.fault)

pub returns-in_ok-size-in-Ok-clause-found : goal.returns-in_ok-size-in-Ok-clause-found
returns-in_ok-size-in-Ok-clause-found c at = minus_read at c.args.text.now c.in-Ok.digits.now c.in-Ok.ensures.found c.in_ok-size-in-Ok.size c.in_ok-size-in-Ok.rest.now c.in_ok-size-in-Ok.ensures.found

pub returns-in_ok-value-in-Err-clause-found : goal.returns-in_ok-value-in-Err-clause-found
returns-in_ok-value-in-Err-clause-found c at = plus_read at c.args.text.now c.in_ok-value-in-Err.value c.in_ok-value-in-Err.rest.now c.in_ok-value-in-Err.ensures.found
