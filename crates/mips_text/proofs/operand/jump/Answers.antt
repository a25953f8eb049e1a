use Rattle.std.proofs.Common.{refl, arith}
use Rattle.mips_isa.specs.Words.{jump_target}
use Rattle.mips_text.specs.declared.form.Operand.TheVariants as o
use Rattle.mips_text.specs.Faults.{IsFault}
use Rattle.mips_text.specs.Forms.{IsOperand, OpensOperand}
use Rattle.mips_text.proofs.Exits.{exit}
use Rattle.mips_text.proofs.OperandTargets.{arc_of, jump_field, jump_first, jump_from, jump_into, target_fault, target_read, target_some}
use Rattle.mips_text.proofs.operand.jump.Goals as goal

pub target_end-requires-clause-reached : goal.target_end-requires-clause-reached
target_end-requires-clause-reached c = target_some o.Jump c.args.at (jump_first c.args.at) 268435456 (jump_target c.args.at) (λ v. refl) (jump_into c.args.at) (omega arith)

pub returns-in_err-target-clause-fault : goal.returns-in_err-target-clause-fault
returns-in_err-target-clause-fault c =
    exit c.from_residual.result c.in_err-target.field-0.0 (λ rest. IsFault (IsOperand o.Jump c.args.at) (OpensOperand o.Jump c.args.at) c.args.text.now rest.now) c.from_residual.ensures.1
    (target_fault o.Jump c.args.at (jump_first c.args.at) 268435456 (jump_target c.args.at) (λ v. refl) (jump_into c.args.at) c.args.text.now c.in_err-target.field-0.0.now (λ a i. let p = jump_from c.args.at a i in (jump_field c.args.at a, p.0, p.1)) c.in_err-target.ensures.fault)

pub returns-clause-found : goal.returns-clause-found
returns-clause-found c =
    let p = jump_from c.args.at c.in_ok-target.target (arc_of (jump_first c.args.at) 268435456 c.args.text.now c.in_ok-target.target c.in_ok-target.rest.now c.in_ok-target.ensures.found) in
    target_read o.Jump c.args.at (jump_first c.args.at) 268435456 (jump_target c.args.at) (λ v. refl) (jump_into c.args.at) c.args.text.now c.in_ok-target.target (jump_field c.args.at c.in_ok-target.target) c.in_ok-target.rest.now p.0 p.1 c.in_ok-target.ensures.found
