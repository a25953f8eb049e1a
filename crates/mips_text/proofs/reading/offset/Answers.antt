use Rattle.std.proofs.Common.{refl, []}
use Rattle.mips_text.specs.Faults.{IsFault, IsWord}
use Rattle.mips_text.specs.Forms.{IsClosed, IsOffset}
use Rattle.mips_text.specs.declared.form.Operand.TheVariants as o
use Rattle.mips_text.proofs.Exits.{exit}
use Rattle.mips_text.proofs.ChainsRead.{some_chain, chain_first, chain_rest}
use Rattle.mips_text.proofs.reading.offset.Goals as goal

pub returns-in_err-off-clause-fault : goal.returns-in_err-off-clause-fault
returns-in_err-off-clause-fault c =
    exit c.from_residual.result c.in_err-off.field-0.0 (λ rest. IsFault (IsOffset c.args.at) (IsOffset c.args.at) c.args.text.now rest.now) c.from_residual.ensures.1
    (chain_first o.Signed 40 c.args.at refl c.requires (IsClosed c.args.at) c.args.text.now c.in_err-off.field-0.0.now _ (some_chain o.Register 41 c.args.at (IsWord []) [] refl) c.in_err-off.ensures.fault)

pub returns-in_err-base-clause-fault : goal.returns-in_err-base-clause-fault
returns-in_err-base-clause-fault c =
    exit c.from_residual-in_err-base.result c.in_err-base.field-0.0 (λ rest. IsFault (IsOffset c.args.at) (IsOffset c.args.at) c.args.text.now rest.now) c.from_residual-in_err-base.ensures.1
    (chain_rest o.Signed 40 c.args.at refl c.requires (IsClosed c.args.at) c.args.text.now c.in_ok-off.off c.in_ok-off.others.now c.in_err-base.field-0.0.now c.in_ok-off.ensures.fits c.in_ok-off.ensures.is c.in_err-base.ensures.fault)
