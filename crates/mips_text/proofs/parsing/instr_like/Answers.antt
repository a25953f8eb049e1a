use Rattle.std.proofs.Common.{sym, subst, ◌∙◌}
use Rattle.mips_text.specs.declared.form.Form.{Form}
use Rattle.mips_text.specs.Beginnings.{IsTextOf}
use Rattle.mips_text.specs.Faults.{IsFault}
use Rattle.mips_text.specs.Forms.{FormFits, IsFormText, form_text}
use Rattle.mips_text.specs.Templates.{IsTemplateText}
use Rattle.mips_text.proofs.Exits.{exit}
use Rattle.mips_text.proofs.TemplatesRead.{name_fault, space_fault, operands_fault, told}
use Rattle.mips_text.proofs.parsing.instr_like.Goals as goal

pub returns-in_err-spaced-clause-fault : goal.returns-in_err-spaced-clause-fault
returns-in_err-spaced-clause-fault c =
    exit c.from_residual.result c.in_err-spaced.field-0.0 (λ rest. IsFault (IsTemplateText c.args.template c.args.at) (IsTemplateText c.args.template c.args.at) c.args.text.now rest.now) c.from_residual.ensures.1
    (name_fault c.args.template c.args.at c.args.text.now c.name.result.now c.in_err-spaced.field-0.0.now c.name.ensures c.in_err-spaced.ensures.fault)

pub returns-in_err-rest-clause-fault : goal.returns-in_err-rest-clause-fault
returns-in_err-rest-clause-fault c =
    exit c.from_residual-in_err-rest.result c.in_err-rest.field-0.0 (λ rest. IsFault (IsTemplateText c.args.template c.args.at) (IsTemplateText c.args.template c.args.at) c.args.text.now rest.now) c.from_residual-in_err-rest.ensures.1
    (space_fault c.args.template c.args.at c.args.text.now c.name.result.now c.in_ok-spaced.spaced.now c.in_err-rest.field-0.0.now c.name.ensures c.in_ok-spaced.ensures.found c.in_err-rest.ensures.fault)

pub returns-in_err-a-clause-fault : goal.returns-in_err-a-clause-fault
returns-in_err-a-clause-fault c =
    exit c.from_residual-in_err-a.result c.in_err-a.field-0.0 (λ rest. IsFault (IsTemplateText c.args.template c.args.at) (IsTemplateText c.args.template c.args.at) c.args.text.now rest.now) c.from_residual-in_err-a.ensures.1
    (operands_fault c.args.template c.args.at c.args.text.now c.name.result.now c.in_ok-spaced.spaced.now c.in_ok-rest.rest.now c.in_err-a.field-0.0.now c.name.ensures c.in_ok-spaced.ensures.found c.in_ok-rest.ensures.found
    (subst (λ (form : Form). IsFault (IsFormText form c.args.at) (IsFormText form c.args.at) c.in_ok-rest.rest.now c.in_err-a.field-0.0.now) c.form_of.ensures c.in_err-a.ensures.fault))

pub returns-clause-found : goal.returns-clause-found
returns-clause-found c =
    subst (IsTextOf c.args.at c.args.text.now) (sym c.filled.ensures)
    (told c.args.template c.args.at c.args.text.now c.name.result.now c.in_ok-spaced.spaced.now c.in_ok-rest.rest.now c.in_ok-a.a c.in_ok-a.b c.in_ok-a.c c.name.ensures c.in_ok-spaced.ensures.found c.in_ok-rest.ensures.found
    (subst (λ (form : Form). FormFits form c.in_ok-a.a c.in_ok-a.b c.in_ok-a.c) c.form_of.ensures c.in_ok-a.ensures.fits)
    (c.in_ok-a.ensures.is ∙ (λ i. form_text (c.form_of.ensures i) c.args.at c.in_ok-a.a c.in_ok-a.b c.in_ok-a.c)))
