use Rattle.std.proofs.Common.{refl, arith}
use Rattle.mips_isa.specs.Words.{branch_target}
use Rattle.mips_text.specs.declared.form.Operand.TheVariants as o
use Rattle.mips_text.specs.Faults.{IsFault}
use Rattle.mips_text.specs.Forms.{IsOperand, OpensOperand}
use Rattle.mips_text.proofs.Exits.{exit}
use Rattle.mips_text.proofs.OperandTargets.{arc_of, branch_field, branch_first, branch_from, branch_into, target_fault, target_read, target_some}
use Rattle.mips_text.proofs.operand.branch.Goals as goal

pub target_end-requires-clause-reached : goal.target_end-requires-clause-reached
target_end-requires-clause-reached c = target_some o.Branch c.args.at (branch_first c.args.at) 262144 (branch_target c.args.at) (λ v. refl) (branch_into c.args.at c.requires) (omega arith)

pub returns-in_err-target-clause-fault : goal.returns-in_err-target-clause-fault
returns-in_err-target-clause-fault c =
    exit c.from_residual.result c.in_err-target.field-0.0 (λ rest. IsFault (IsOperand o.Branch c.args.at) (OpensOperand o.Branch c.args.at) c.args.text.now rest.now) c.from_residual.ensures.1
    (target_fault o.Branch c.args.at (branch_first c.args.at) 262144 (branch_target c.args.at) (λ v. refl) (branch_into c.args.at c.requires) c.args.text.now c.in_err-target.field-0.0.now (λ a i. (branch_field c.args.at a, omega arith, branch_from c.args.at c.requires a i)) c.in_err-target.ensures.fault)

pub returns-clause-found : goal.returns-clause-found
returns-clause-found c =
    target_read o.Branch c.args.at (branch_first c.args.at) 262144 (branch_target c.args.at) (λ v. refl) (branch_into c.args.at c.requires) c.args.text.now c.in_ok-target.target (branch_field c.args.at c.in_ok-target.target) c.in_ok-target.rest.now (omega arith)
    (branch_from c.args.at c.requires c.in_ok-target.target (arc_of (branch_first c.args.at) 262144 c.args.text.now c.in_ok-target.target c.in_ok-target.rest.now c.in_ok-target.ensures.found)) c.in_ok-target.ensures.found
