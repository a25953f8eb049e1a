use Rattle.std.proofs.Common.{◌++◌, refl, ap, sym, ◌∙◌, append-nil, arith}
use Rattle.log_text.proofs.Registers.{registers_text-none, registers_text-step}
use Rattle.log_text.proofs.write.add_registers.Goals as goal

pub loop-r-init : goal.loop-r-init
loop-r-init c =
    let line = c.args.room.now.line in
    record {
      line = sym (ap (λ text. line ++ text) (registers_text-none c.args.state.now.mips) ∙ append-nil line);
      len = omega arith;
      room = refl;
    }

pub loop-r-preserved : goal.loop-r-preserved
loop-r-preserved c = record {
  line = registers_text-step c.args.state.now.mips c.loop-r.r _ _ c.args.room.now.line _ _ c.loop-r.auto.r refl c.register.ensures c.loop-r.invariant.line c.add_register.ensures.line;
  len = omega (arith, c.loop-r.auto.r, c.loop-r.invariant.len, c.add_register.ensures.len);
  room = c.add_register.ensures.room ∙ c.loop-r.invariant.room;
}
