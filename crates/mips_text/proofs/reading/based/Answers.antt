use Rattle.std.proofs.Common.{refl, []}
use Rattle.mips_text.specs.Faults.{IsFault, IsWord}
use Rattle.mips_text.specs.Forms.{IsBased, IsClosed, IsOffset}
use Rattle.mips_text.specs.declared.form.Operand.TheVariants as o
use Rattle.mips_text.proofs.Exits.{exit}
use Rattle.mips_text.proofs.ChainsRead.{some_chain, chain_first, chain_rest}
use Rattle.mips_text.proofs.reading.based.Goals as goal

pub returns-in_err-a-clause-fault : goal.returns-in_err-a-clause-fault
returns-in_err-a-clause-fault c =
    exit c.from_residual.result c.in_err-a.field-0.0 (λ rest. IsFault (IsBased c.args.p c.args.at) (IsBased c.args.p c.args.at) c.args.text.now rest.now) c.from_residual.ensures.1
    (chain_first c.args.p 44 c.args.at refl c.requires (IsOffset c.args.at) c.args.text.now c.in_err-a.field-0.0.now _ (some_chain o.Signed 40 c.args.at (IsClosed c.args.at) _ (some_chain o.Register 41 c.args.at (IsWord []) [] refl)) c.in_err-a.ensures.fault)

pub returns-in_err-off-clause-fault : goal.returns-in_err-off-clause-fault
returns-in_err-off-clause-fault c =
    exit c.from_residual-in_err-off.result c.in_err-off.field-0.0 (λ rest. IsFault (IsBased c.args.p c.args.at) (IsBased c.args.p c.args.at) c.args.text.now rest.now) c.from_residual-in_err-off.ensures.1
    (chain_rest c.args.p 44 c.args.at refl c.requires (IsOffset c.args.at) c.args.text.now c.in_ok-a.a c.in_ok-a.others.now c.in_err-off.field-0.0.now c.in_ok-a.ensures.fits c.in_ok-a.ensures.is c.in_err-off.ensures.fault)
