use Rattle.mips_text.specs.declared.form.Operand.TheVariants as o
use Rattle.mips_text.specs.Faults.{IsFault}
use Rattle.mips_text.specs.Forms.{IsOperand, OpensOperand}
use Rattle.mips_text.proofs.Exits.{exit}
use Rattle.mips_text.proofs.OperandsRead.{number_read, number_fault}
use Rattle.mips_text.proofs.operand.plain.Goals as goal

pub returns-in_err-value-clause-fault : goal.returns-in_err-value-clause-fault
returns-in_err-value-clause-fault c at =
    exit c.from_residual.result c.in_err-value.field-0.0 (λ rest. IsFault (IsOperand (o.Number c.args.most) at) (OpensOperand (o.Number c.args.most) at) c.args.text.now rest.now) c.from_residual.ensures.1
    (number_fault c.args.most at c.args.text.now c.ranges.most.fits c.in_err-value.field-0.0.now c.in_err-value.ensures.fault)

pub returns-clause-found : goal.returns-clause-found
returns-clause-found c at = number_read c.args.most at c.args.text.now c.ranges.most.fits c.in_ok-value.value c.in_ok-value.rest.now c.in_ok-value.ensures.found
