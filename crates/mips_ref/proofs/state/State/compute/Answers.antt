use Rattle.std.proofs.Common.{◌≡◌, Some, None, refl, sym, ap, ap₂, ◌∙◌, List, ℕ}
use Rattle.mips_ref.proofs.Computed.{compute-trap, compute-went}
use Rattle.mips_ref.specs.Computed.{with_register}
use Rattle.mips_ref.specs.Mips.{Held, Mips}
use Rattle.mips_ref.specs.Step.{Stepped}
use Rattle.mips_ref.specs.declared.records.Step.TheVariants.{Trap}
use Rattle.mips_ref.proofs.state.State.compute.Goals as goal

pub returns-in-Some-clause-answer : goal.returns-in-Some-clause-answer
returns-in-Some-clause-answer c =
    let is = compute-trap c.args.self.now.mips c.args.i c.args.r c.args.a c.in-Some.kind c.requires.fits c.requires.computes c.requires.acts c.in-Some.is in
    ap (Trap c.in-Some.kind) (ap (λ (h : Held). h.mips.pc) c.self.view_is) ∙ sym (ap (λ (s : Stepped). s.answer) is)

pub returns-in-Some-clause-state : goal.returns-in-Some-clause-state
returns-in-Some-clause-state c =
    let is = compute-trap c.args.self.now.mips c.args.i c.args.r c.args.a c.in-Some.kind c.requires.fits c.requires.computes c.requires.acts c.in-Some.is in
    sym (ap (λ (s : Stepped). s.state) is)

pub returns-clause-answer : goal.returns-clause-answer
returns-clause-answer c =
    let is = compute-went c.args.self.now.mips c.args.i c.args.r c.args.a c.requires.fits c.requires.computes c.requires.acts c.in_default.is in
    sym (ap (λ (s : Stepped). s.answer) is)

pub returns-clause-state : goal.returns-clause-state
returns-clause-state c =
    let x = c.args.self.now.mips in
    let is = compute-went x c.args.i c.args.r c.args.a c.requires.fits c.requires.computes c.requires.acts c.in_default.is in
    let of : (m : Mips) (regs : List ℕ) → Mips = λ m regs. record m { registers = regs; pc = m.next_pc; next_pc = c.args.a.next } in
    ap₂ of (ap (λ (h : Held). h.mips) c.self.view_is) (c.give_register.ensures.items ∙ ap (λ (h : Held). with_register c.args.r c.args.a.write h.mips.registers) c.self.view_is)
    ∙ sym (ap (λ (s : Stepped). s.state) is)
