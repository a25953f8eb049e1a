use Rattle.std.proofs.Common.{◌+◌, get_or, sym, subst}
use Rattle.std.proofs.lemmas.List.{get_or_default}
use Rattle.mips_isa.specs.declared.instr.Instr.TheVariants.{R3, Sync}
use Rattle.mips_isa.specs.declared.instr.R3Op.TheVariants.{Sllv}
use Rattle.mips_text.specs.Beginnings.{IsInstrText}
use Rattle.mips_text.specs.Faults.{IsFault}
use Rattle.mips_text.specs.Templates.{IsAmongFirst}
use Rattle.mips_text.proofs.TemplatesRead.{first_fault, kept_fault, moved_fault, whole_fault}
use Rattle.mips_text.proofs.parsing.any_of.Goals as goal
use Rattle.mips_text.proofs.parsing.any_of.Goals.{then-rest-last, else-rest-last}

pub loop-template-init : goal.loop-template-init
loop-template-init c = first_fault c.args.templates.now c.args.at c.args.text.now (Sync 0)

pub loop-template-preserved : goal.loop-template-preserved
loop-template-preserved c =
    let template = get_or c.args.templates.now c.loop-template.template-index (R3 Sllv 0 0 0) in
    let there = get_or_default c.args.templates.now c.loop-template.template-index template (R3 Sllv 0 0 0) c.loop-template-test.true in
    elim c.if-rest-last.branch [
      | then-rest-last w ↦ subst (λ q. IsFault (IsInstrText c.args.at) (IsAmongFirst c.args.templates.now (c.loop-template.template-index + 1) c.args.at) c.args.text.now q.now) (sym w.last-is)
          (moved_fault c.args.templates.now c.args.at c.args.text.now c.loop-template.template-index template c.loop-template.last.now c.in-Err.rest.now c.loop-template-test.true there w.if-rest-last.true c.loop-template.invariant c.in-Err.ensures.fault)
      | else-rest-last w ↦ subst (λ q. IsFault (IsInstrText c.args.at) (IsAmongFirst c.args.templates.now (c.loop-template.template-index + 1) c.args.at) c.args.text.now q.now) (sym w.last-is)
          (kept_fault c.args.templates.now c.args.at c.args.text.now c.loop-template.template-index template c.loop-template.last.now c.in-Err.rest.now c.loop-template-test.true there w.if-rest-last.false c.loop-template.invariant c.in-Err.ensures.fault)
    ]

pub returns-clause-fault : goal.returns-clause-fault
returns-clause-fault c = whole_fault c.args.templates.now c.args.at c.args.text.now c.loop-template.template-index c.loop-template.last.now c.requires.each c.loop-template-test.false c.loop-template.invariant
