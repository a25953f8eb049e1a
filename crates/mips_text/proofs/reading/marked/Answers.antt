use Rattle.mips_text.specs.Faults.{IsFault}
use Rattle.mips_text.specs.Forms.{IsMarked, OpensMarked}
use Rattle.mips_text.proofs.Exits.{exit}
use Rattle.mips_text.proofs.ChainsRead.{mark_fault, mark_lacks, mark_other}
use Rattle.mips_text.proofs.reading.marked.Goals as goal

pub returns-in_err-value-clause-fault : goal.returns-in_err-value-clause-fault
returns-in_err-value-clause-fault c =
    exit c.from_residual.result c.in_err-value.field-0.0 (λ rest. IsFault (IsMarked c.args.kind c.args.mark c.args.at) (OpensMarked c.args.kind c.args.mark c.args.at) c.args.text.now rest.now) c.from_residual.ensures.1
    (mark_fault c.args.kind c.args.mark c.args.at c.requires.mark c.requires.aligned c.args.text.now c.in_err-value.field-0.0.now c.in_err-value.ensures.fault)

pub returns-in_default-clause-fault : goal.returns-in_default-clause-fault
returns-in_default-clause-fault c = mark_lacks c.args.kind c.args.mark c.args.at c.requires.mark c.requires.aligned c.args.text.now c.in_ok-value.value c.in_ok-value.rest.now c.in_ok-value.ensures.found c.in_default.len_below

pub returns-then-first-mark-clause-fault : goal.returns-then-first-mark-clause-fault
returns-then-first-mark-clause-fault c = mark_other c.args.kind c.args.mark c.args.at c.requires.mark c.requires.aligned c.args.text.now c.in_ok-value.value c.in_ok-value.rest.now c.in_ok-value.ensures.found c.in-len1-up.len_at_least c.if-first-mark.true
