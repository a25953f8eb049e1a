use Rattle.std.proofs.Common.{refl, []}
use Rattle.mips_text.specs.Faults.{IsFault, IsWord}
use Rattle.mips_text.specs.Forms.{IsClosed}
use Rattle.mips_text.specs.declared.form.Operand.TheVariants as o
use Rattle.mips_text.proofs.Exits.{exit}
use Rattle.mips_text.proofs.ChainsRead.{chain_first, chain_rest, ended, not_empty}
use Rattle.mips_text.proofs.reading.closed.Goals as goal

pub returns-in_err-base-clause-fault : goal.returns-in_err-base-clause-fault
returns-in_err-base-clause-fault c =
    exit c.from_residual.result c.in_err-base.field-0.0 (λ rest. IsFault (IsClosed c.args.at) (IsClosed c.args.at) c.args.text.now rest.now) c.from_residual.ensures.1
    (chain_first o.Register 41 c.args.at refl c.requires (IsWord []) c.args.text.now c.in_err-base.field-0.0.now [] refl c.in_err-base.ensures.fault)

pub returns-then-not-is_empty-clause-fault : goal.returns-then-not-is_empty-clause-fault
returns-then-not-is_empty-clause-fault c = chain_rest o.Register 41 c.args.at refl c.requires (IsWord []) c.args.text.now c.in_ok-base.base c.in_ok-base.rest.now c.in_ok-base.rest.now c.in_ok-base.ensures.fits c.in_ok-base.ensures.is (ended c.in_ok-base.rest.now (not_empty c.is_empty.result c.in_ok-base.rest.now c.is_empty.ensures c.if-not-is_empty.true))
