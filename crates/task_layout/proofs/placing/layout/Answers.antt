use Rattle.std.proofs.Common.{◌++◌, List, Err, ap₂, subst, sym}
use Rattle.visa_io.specs.declared.records.Span.{Span}
use Rattle.mips_ref.specs.Layout.{Made}
use Rattle.task_layout.specs.declared.fault.LayoutFault.{LayoutFault}
use Rattle.task_layout.specs.Layout.{IsLayout}
use Rattle.task_layout.proofs.Layouts.{differs, fault-says, order-says, same-order}
use Rattle.task_layout.proofs.placing.layout.Goals as goal

pub returns-then-task-image : goal.returns-then-task-image
returns-then-task-image c =
    order-says c.args.task.now c.args.image.now (differs c.args.task.now.big c.args.image.now.big c.if-task-image.true)

pub returns-in-Err : goal.returns-in-Err
returns-in-Err c =
    let t = c.args.task.now in
    let i = c.args.image.now in
    let ranges = ap₂ (λ (xs : List Span) (ys : List Span). xs ++ ys) c.as_slice.ensures c.as_slice-2.ensures in
    let why = subst (λ (xs : List Span). Made xs i.big (Err c.in-Err.error)) ranges c.in-Err.ensures in
    subst (λ (e : LayoutFault). IsLayout t i (Err e)) (sym c.fault_of.ensures)
    (fault-says t i c.in-Err.error (same-order t.big i.big c.if-task-image.false) why)
