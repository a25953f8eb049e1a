use Rattle.std.proofs.Common.{subst, ap, ◌∙◌}
use Rattle.mips_ref.proofs.Lines.{retired_keep}
use Rattle.mips_ref.proofs.StepByParts.{retired_answer, retired_state, retires_fits}
use Rattle.mips_ref.specs.Memory.{Flat, IsMemory}
use Rattle.mips_ref.specs.Mips.{Held}
use Rattle.mips_ref.specs.declared.state.State.TheInside.{Inside}
use Rattle.mips_ref.proofs.state.State.retire.Goals as goal

pub apply-requires-clause-fits : goal.apply-requires-clause-fits
apply-requires-clause-fits c = retires_fits c.args.self.now.mips c.args.i c.args.r c.requires

pub apply-requires-clause-code_stays : goal.apply-requires-clause-code_stays
apply-requires-clause-code_stays c = retired_keep c.args.i c.args.r c.args.self.now.mips c.requires

pub returns-clause-answer : goal.returns-clause-answer
returns-clause-answer c =
    let kept = subst (λ (m : Flat). IsMemory m) (ap (λ (s : Inside). s.memory) c.self-inside.view_is ∙ ap (λ (h : Held). h.mips.memory) c.self.view_is) c.self-inside.invariant.memory in
    retired_answer c.args.self.now.mips c.args.i c.args.r c.apply.result kept c.requires c.apply.ensures.answer

pub returns-clause-state : goal.returns-clause-state
returns-clause-state c =
    let kept = subst (λ (m : Flat). IsMemory m) (ap (λ (s : Inside). s.memory) c.self-inside.view_is ∙ ap (λ (h : Held). h.mips.memory) c.self.view_is) c.self-inside.invariant.memory in
    retired_state c.args.self.now.mips c.apply.new.self.mips c.args.i c.args.r kept c.requires c.apply.ensures.state
