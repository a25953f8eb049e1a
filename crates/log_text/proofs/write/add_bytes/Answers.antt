use Rattle.std.proofs.Common.{◌≡◌, ◌++◌, refl, ap, sym, ◌∙◌, append-nil, arith}
use Rattle.log_text.specs.Lines.{bytes_text}
use Rattle.log_text.proofs.Shown.{bytes_text-none, bytes_text-run}
use Rattle.log_text.proofs.write.add_bytes.Goals as goal

pub loop-done-init : goal.loop-done-init
loop-done-init c =
    let line = c.args.room.now.line in
    record {
      within = omega arith;
      line = sym (ap (λ text. line ++ text) (bytes_text-none c.args.state.now.mips.memory c.args.start) ∙ append-nil line);
      len = omega arith;
      room = refl;
    }

pub loop-done-preserved : goal.loop-done-preserved
loop-done-preserved c = record {
  within = omega (arith, c.add_run-done.ensures.few, c.loop-done-test.true);
  line = bytes_text-run c.args.state.now.mips.memory c.args.start c.loop-done.done c.add_run-done.result c.args.room.now.line _ _ c.loop-done.invariant.line c.add_run-done.ensures.line;
  len = omega (arith, c.loop-done.invariant.len, c.add_run-done.ensures.len);
  room = c.add_run-done.ensures.room ∙ c.loop-done.invariant.room;
}

pub returns-clause-line : goal.returns-clause-line
returns-clause-line c =
    let all = ap (λ n. c.args.room.now.line ++ bytes_text c.args.state.now.mips.memory c.args.start n) (let e : c.loop-done.done ≡ c.args.len = omega (arith, c.loop-done.invariant.within, c.loop-done-test.false) in e) in
    c.loop-done.invariant.line ∙ all
