use Rattle.std.proofs.Common.{rules, ◌≡◌, ap, sym, subst, ◌∙◌, arith}
use Rattle.std.proofs.lemmas.Grind.{common_steps}
use Rattle.std.proofs.lemmas.List.{length-reverse}
use Rattle.mips_ref.proofs.Lines.{lines_after}
use Rattle.mips_ref.specs.Memory.{Flat, IsMemory}
use Rattle.mips_ref.specs.Mips.{Held}
use Rattle.mips_ref.specs.declared.state.State.TheInside.{Inside}
use Rattle.mips_ref.proofs.state.State.change.Goals as goal

pub invariant_of-self : goal.invariant_of-self
invariant_of-self c =
    let m = c.self.inside.memory in
    let kept = subst (λ (f : Flat). IsMemory f) (ap (λ (s : Inside). s.memory) c.self-inside.view_is) c.self-inside.invariant.memory in
    record {
      state = record { registers = search rules; zero = search rules; depth = grind (arith, common_steps, c.change_returns.ensures.depth, length-reverse c.change_returns.new.stack.items); output = search rules };
      return_room = search rules;
      output_room = search rules;
      decoded =
          lines_after c.args.i c.args.r c.args.self.now.mips m c.change_memory.new.memory c.store_at-stored_at.result c.self.inside.code.items kept
          (ap (λ (h : Held). h.mips.memory) c.self.view_is) c.store_at-stored_at.ensures c.change_memory.ensures c.requires.code_stays c.self.invariant.decoded;
    }
