use Rattle.std.proofs.Common.{rules, ◌≡◌, ap, sym, subst, ◌∙◌, arith, length}
use Rattle.std.proofs.lemmas.Grind.{common_steps}
use Rattle.mips_ref.proofs.CodeOpened.{buffer_len, put_keeps_code}
use Rattle.mips_ref.proofs.Lines.{lines_stay}
use Rattle.mips_ref.specs.Memory.{AllStorable, Flat, IsMemory, input_buffer}
use Rattle.mips_ref.specs.Mips.{Held}
use Rattle.mips_ref.specs.SameCode.{SameCode}
use Rattle.mips_ref.specs.declared.state.State.TheInside.{Inside}
use Rattle.mips_ref.proofs.state.State.open.Goals as goal

pub invariant_of-self : goal.invariant_of-self
invariant_of-self c =
    let m = c.self.inside.memory in
    let kept = subst (λ (f : Flat). IsMemory f) (ap (λ (s : Inside). s.memory) c.self-inside.view_is) c.self-inside.invariant.memory in
    let stores = subst (λ (f : Flat). AllStorable f c.args.input_at c.args.input_len) (ap (λ (h : Held). h.mips.memory) (sym c.self.view_is)) c.requires.buffer in
    let whole = subst (λ len. AllStorable m c.args.input_at len) (sym (buffer_len c.args.input_len c.args.input.now c.requires.fits)) stores in
    let same = subst (λ f. SameCode m f) (sym c.fill_buffer.ensures) (put_keeps_code m c.args.input_at (input_buffer c.args.input_len c.args.input.now) whole) in
    record {
      state = record { registers = search rules; zero = search rules; depth = search rules; output = search rules };
      return_room = search rules;
      output_room = search rules;
      decoded = lines_stay m c.fill_buffer.new.self c.self.inside.code.items kept same c.self.invariant.decoded;
    }
