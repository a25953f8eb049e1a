use Rattle.mips_text.specs.declared.form.Operand.TheVariants as o
use Rattle.mips_text.specs.Faults.{IsFault}
use Rattle.mips_text.specs.Forms.{IsOperand, OpensOperand}
use Rattle.mips_text.proofs.Exits.{exit}
use Rattle.mips_text.proofs.OperandsRead.{register_mark, register_read, register_fault}
use Rattle.mips_text.proofs.operand.register.Goals as goal

pub returns-in_err-digits-clause-fault : goal.returns-in_err-digits-clause-fault
returns-in_err-digits-clause-fault c at =
    exit c.from_residual.result c.in_err-digits.field-0.0 (λ rest. IsFault (IsOperand o.Register at) (OpensOperand o.Register at) c.args.text.now rest.now) c.from_residual.ensures.1
    (register_mark at c.args.text.now c.in_err-digits.field-0.0.now c.in_err-digits.ensures.fault)

pub returns-in_err-value-clause-fault : goal.returns-in_err-value-clause-fault
returns-in_err-value-clause-fault c at =
    exit c.from_residual-in_err-value.result c.in_err-value.field-0.0 (λ rest. IsFault (IsOperand o.Register at) (OpensOperand o.Register at) c.args.text.now rest.now) c.from_residual-in_err-value.ensures.1
    (register_fault at c.args.text.now c.in_ok-digits.digits.now c.in_ok-digits.ensures.found c.in_err-value.field-0.0.now c.in_err-value.ensures.fault)

pub returns-clause-found : goal.returns-clause-found
returns-clause-found c at = register_read at c.args.text.now c.in_ok-digits.digits.now c.in_ok-digits.ensures.found c.in_ok-value.value c.in_ok-value.rest.now c.in_ok-value.ensures.found
