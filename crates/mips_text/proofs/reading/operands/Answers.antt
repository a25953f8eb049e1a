use Rattle.std.proofs.Common.{sym, subst}
use Rattle.mips_text.specs.declared.form.Form.{Form}
use Rattle.mips_text.specs.Faults.{IsFault}
use Rattle.mips_text.specs.Forms.{IsFormText}
use Rattle.mips_text.proofs.Exits.{exit}
use Rattle.mips_text.proofs.ChainsRead.{one_form, two_form, three_form, based_form}
use Rattle.mips_text.proofs.reading.operands.Goals as goal

pub returns-in_err-a-in-One-clause-fault : goal.returns-in_err-a-in-One-clause-fault
returns-in_err-a-in-One-clause-fault c =
    exit c.from_residual.result c.in_err-a-in-One.field-0.0 (λ rest. IsFault (IsFormText c.args.form c.args.at) (IsFormText c.args.form c.args.at) c.args.text.now rest.now) c.from_residual.ensures.1
    (subst (λ (form : Form). IsFault (IsFormText form c.args.at) (IsFormText form c.args.at) c.args.text.now c.in_err-a-in-One.field-0.0.now) (sym c.in-One.is) (one_form c.args.at c.args.text.now c.in_err-a-in-One.field-0.0.now c.in-One.p c.in_err-a-in-One.ensures.fault))

pub returns-in_err-a-in-Two-clause-fault : goal.returns-in_err-a-in-Two-clause-fault
returns-in_err-a-in-Two-clause-fault c =
    exit c.from_residual-in_err-a-in-Two.result c.in_err-a-in-Two.field-0.0 (λ rest. IsFault (IsFormText c.args.form c.args.at) (IsFormText c.args.form c.args.at) c.args.text.now rest.now) c.from_residual-in_err-a-in-Two.ensures.1
    (subst (λ (form : Form). IsFault (IsFormText form c.args.at) (IsFormText form c.args.at) c.args.text.now c.in_err-a-in-Two.field-0.0.now) (sym c.in-Two.is) (two_form c.args.at c.args.text.now c.in_err-a-in-Two.field-0.0.now c.in-Two.p c.in-Two.q c.in_err-a-in-Two.ensures.fault))

pub returns-in_err-a-in-Three-clause-fault : goal.returns-in_err-a-in-Three-clause-fault
returns-in_err-a-in-Three-clause-fault c =
    exit c.from_residual-in_err-a-in-Three.result c.in_err-a-in-Three.field-0.0 (λ rest. IsFault (IsFormText c.args.form c.args.at) (IsFormText c.args.form c.args.at) c.args.text.now rest.now) c.from_residual-in_err-a-in-Three.ensures.1
    (subst (λ (form : Form). IsFault (IsFormText form c.args.at) (IsFormText form c.args.at) c.args.text.now c.in_err-a-in-Three.field-0.0.now) (sym c.in-Three.is) (three_form c.args.at c.args.text.now c.in_err-a-in-Three.field-0.0.now c.in-Three.p c.in-Three.q c.in-Three.r c.in_err-a-in-Three.ensures.fault))

pub returns-in_err-a-in-Based-clause-fault : goal.returns-in_err-a-in-Based-clause-fault
returns-in_err-a-in-Based-clause-fault c =
    exit c.from_residual-in_err-a-in-Based.result c.in_err-a-in-Based.field-0.0 (λ rest. IsFault (IsFormText c.args.form c.args.at) (IsFormText c.args.form c.args.at) c.args.text.now rest.now) c.from_residual-in_err-a-in-Based.ensures.1
    (subst (λ (form : Form). IsFault (IsFormText form c.args.at) (IsFormText form c.args.at) c.args.text.now c.in_err-a-in-Based.field-0.0.now) (sym c.in-Based.is) (based_form c.args.at c.args.text.now c.in_err-a-in-Based.field-0.0.now c.in-Based.p c.in_err-a-in-Based.ensures.fault))
