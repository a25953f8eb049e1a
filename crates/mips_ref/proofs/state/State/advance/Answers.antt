use Rattle.std.proofs.Common.{◌≡◌, Some, None, true, false, ap, sym, subst, ◌∙◌, arith}
use Rattle.mips_ref.proofs.Lines.{instr_fits, step_at}
use Rattle.mips_ref.proofs.Traced.{off_code-answer, off_code-state, ran_found, ran_off_code, ran_reserved, step_reserved}
use Rattle.mips_ref.specs.Decoded.{HasNoInstr}
use Rattle.mips_ref.specs.Mips.{Held, Mips}
use Rattle.mips_ref.specs.Ran.{is_trap, off_code_answer, ran_as, ran_nothing}
use Rattle.mips_ref.specs.Step.{Stepped, acted, executed}
use Rattle.mips_ref.specs.declared.records.Step.TheVariants.{Trap}
use Rattle.mips_ref.specs.declared.records.TrapKind.TheVariants.{Reserved}
use Rattle.mips_ref.proofs.state.State.advance.Goals as goal

pub execute-requires : goal.execute-requires
execute-requires c = instr_fits c.args.self.now.mips.memory c.args.self.now.mips.pc c.in-Ok.i c.in-Ok.ensures.some

pub returns-in-Ok-clause-answer : goal.returns-in-Ok-clause-answer
returns-in-Ok-clause-answer c =
    let x = c.args.self.now.mips in
    let same = ap (λ (h : Held). h.mips) c.fetch.ensures.same in
    c.execute.ensures.answer ∙ ap (λ (y : Mips). (executed c.in-Ok.i y).answer) same ∙ sym (ap (λ (s : Stepped). s.answer) (step_at x c.in-Ok.i c.in-Ok.ensures.some))

pub returns-in-Ok-clause-state : goal.returns-in-Ok-clause-state
returns-in-Ok-clause-state c =
    let x = c.args.self.now.mips in
    let same = ap (λ (h : Held). h.mips) c.fetch.ensures.same in
    c.execute.ensures.state ∙ ap (λ (y : Mips). (executed c.in-Ok.i y).state) same ∙ sym (ap (λ (s : Stepped). s.state) (step_at x c.in-Ok.i c.in-Ok.ensures.some))

pub returns-in-Ok-clause-ran : goal.returns-in-Ok-clause-ran
returns-in-Ok-clause-ran c =
    let x = c.args.self.now.mips in
    let i = c.in-Ok.i in
    let is = c.in-Ok.ensures.some in
    let same = ap (λ (h : Held). h.mips) c.fetch.ensures.same in
    let answer = c.execute.ensures.answer ∙ ap (λ (y : Mips). (executed i y).answer) same ∙ sym (ap (λ (s : Stepped). s.answer) (step_at x i is)) in
    c.execute.ensures.ran ∙ ap (λ (y : Mips). ran_as y.pc i (acted i y) (is_trap c.execute.result.0)) same
    ∙ ran_found x is.word i c.execute.result.0 is.found is.decoded answer

pub returns-in-Err-true-clause-answer : goal.returns-in-Err-true-clause-answer
returns-in-Err-true-clause-answer c =
    let x = c.args.self.now.mips in
    let none = subst (HasNoInstr x.memory x.pc) c.in-Err-true.field-0-test c.in-Err-true.ensures.none in
    ap (Trap Reserved) c.pc-at.ensures ∙ sym (ap (λ (s : Stepped). s.answer) (step_reserved x none.0 (omega (arith, none.3)) none.1 none.2))

pub returns-in-Err-true-clause-state : goal.returns-in-Err-true-clause-state
returns-in-Err-true-clause-state c =
    let x = c.args.self.now.mips in
    let none = subst (HasNoInstr x.memory x.pc) c.in-Err-true.field-0-test c.in-Err-true.ensures.none in
    ap (λ (h : Held). h.mips) c.fetch.ensures.same ∙ sym (ap (λ (s : Stepped). s.state) (step_reserved x none.0 (omega (arith, none.3)) none.1 none.2))

pub returns-in-Err-true-clause-ran : goal.returns-in-Err-true-clause-ran
returns-in-Err-true-clause-ran c =
    let x = c.args.self.now.mips in
    let none = subst (HasNoInstr x.memory x.pc) c.in-Err-true.field-0-test c.in-Err-true.ensures.none in
    c.nothing.ensures ∙ ap (λ at. ran_nothing at true) c.pc-at.ensures ∙ ran_reserved x none.0 none.1 none.2

pub returns-in-Err-false-clause-answer : goal.returns-in-Err-false-clause-answer
returns-in-Err-false-clause-answer c =
    let x = c.args.self.now.mips in
    let none = subst (HasNoInstr x.memory x.pc) c.in-Err-false.field-0-test c.in-Err-false.ensures.none in
    c.off_code.ensures ∙ ap (λ (h : Held). off_code_answer h.mips) c.fetch.ensures.same ∙ off_code-answer x none

pub returns-in-Err-false-clause-state : goal.returns-in-Err-false-clause-state
returns-in-Err-false-clause-state c =
    let x = c.args.self.now.mips in
    let none = subst (HasNoInstr x.memory x.pc) c.in-Err-false.field-0-test c.in-Err-false.ensures.none in
    ap (λ (h : Held). h.mips) c.fetch.ensures.same ∙ off_code-state x none

pub returns-in-Err-false-clause-ran : goal.returns-in-Err-false-clause-ran
returns-in-Err-false-clause-ran c =
    let x = c.args.self.now.mips in
    let none = subst (HasNoInstr x.memory x.pc) c.in-Err-false.field-0-test c.in-Err-false.ensures.none in
    c.nothing-in-Err-false.ensures ∙ ap (λ at. ran_nothing at false) c.pc-at.ensures ∙ ran_off_code x none
