use Rattle.std.proofs.Common.{refl}
use Rattle.mips_text.specs.Faults.{IsFault}
use Rattle.mips_text.specs.Forms.{IsOperand, IsPair, operand_text}
use Rattle.mips_text.proofs.Exits.{exit}
use Rattle.mips_text.proofs.ChainsRead.{some_operand, chain_first, chain_rest}
use Rattle.mips_text.proofs.reading.two.Goals as goal

pub returns-in_err-a-clause-fault : goal.returns-in_err-a-clause-fault
returns-in_err-a-clause-fault c =
    exit c.from_residual.result c.in_err-a.field-0.0 (λ rest. IsFault (IsPair c.args.p c.args.q c.args.at) (IsPair c.args.p c.args.q c.args.at) c.args.text.now rest.now) c.from_residual.ensures.1
    (chain_first c.args.p 44 c.args.at refl c.requires (IsOperand c.args.q c.args.at) c.args.text.now c.in_err-a.field-0.0.now (operand_text c.args.q c.args.at 0) (some_operand c.args.q c.args.at) c.in_err-a.ensures.fault)

pub returns-in_err-b-clause-fault : goal.returns-in_err-b-clause-fault
returns-in_err-b-clause-fault c =
    exit c.from_residual-in_err-b.result c.in_err-b.field-0.0 (λ rest. IsFault (IsPair c.args.p c.args.q c.args.at) (IsPair c.args.p c.args.q c.args.at) c.args.text.now rest.now) c.from_residual-in_err-b.ensures.1
    (chain_rest c.args.p 44 c.args.at refl c.requires (IsOperand c.args.q c.args.at) c.args.text.now c.in_ok-a.a c.in_ok-a.others.now c.in_err-b.field-0.0.now c.in_ok-a.ensures.fits c.in_ok-a.ensures.is c.in_err-b.ensures.fault)
