use Rattle.std.proofs.Common.{List, ℕ, sym, ap, ap₂, subst, ◌∙◌, arith}
use Rattle.std.specs.Prelude.{All}
use Rattle.visa_io.specs.declared.records.Span.{Span}
use Rattle.visa_io.specs.ImageCode.{total_len}
use Rattle.task_layout.specs.Layout.{IsDeclared, code_len, filled}
use Rattle.task_layout.proofs.Filling.{made-small}
use Rattle.task_layout.proofs.Layouts.{laid-says, code-says, uncovered-says}
use Rattle.task_layout.proofs.Ranges.{all-declared}
use Rattle.task_layout.proofs.placing.with_image.Goals as goal

pub code_len-requires : goal.code_len-requires
code_len-requires c =
    let small = made-small c.args.image.now.spans c.args.task.now.ram c.args.image.now.big c.args.memory c.requires.empty.made in
    omega (arith, small, ap total_len c.as_slice.ensures)

pub returns-then-code_len-gt-GREATEST_CODE-clause-layout : goal.returns-then-code_len-gt-GREATEST_CODE-clause-layout
returns-then-code_len-gt-GREATEST_CODE-clause-layout c =
    let len = c.code_len.ensures ∙ ap code_len c.as_slice.ensures in
    code-says _ _ _ c.requires.empty (omega (arith, len, c.if-code_len-gt-GREATEST_CODE.true))

pub returns-in-Some-clause-layout : goal.returns-in-Some-clause-layout
returns-in-Some-clause-layout c =
    let len = c.code_len.ensures ∙ ap code_len c.as_slice.ensures in
    uncovered-says _ _ _ _ c.requires.empty (omega (arith, len, c.if-code_len-gt-GREATEST_CODE.false)) c.in-Some.ensures.uncovered

pub fill-requires-clause-declared : goal.fill-requires-clause-declared
fill-requires-clause-declared c =
    let all = all-declared c.args.image.now.spans c.args.task.now.ram c.args.image.now.big c.args.memory c.requires.empty.made in
    subst (λ (ss : List Span). All (IsDeclared c.args.memory) ss) (sym c.as_slice-2.ensures) all

pub returns-clause-layout : goal.returns-clause-layout
returns-clause-layout c =
    let len = c.code_len.ensures ∙ ap code_len c.as_slice.ensures in
    let is = c.fill.ensures ∙ ap₂ (λ (ss : List Span) (bs : List ℕ). filled ss bs c.args.memory) c.as_slice-2.ensures c.as_slice-3.ensures in
    laid-says _ _ _ _ c.requires.empty is (omega (arith, len, c.if-code_len-gt-GREATEST_CODE.false)) c.in_default.ensures.input c.in_default.ensures.shows
