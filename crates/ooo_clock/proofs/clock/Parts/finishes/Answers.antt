use Rattle.std.proofs.Common.{◌≡◌, length, refl, arith, sym, ◌∙◌}
use Rattle.ooo_clock.proofs.Passed.{all-finishing, more-finishing, none-finishing}
use Rattle.ooo_clock.proofs.Repeats.{stays-on, stays-same}
use Rattle.ooo_clock.proofs.clock.Parts.finishes.Goals as goal

pub loop-k-init : goal.loop-k-init
loop-k-init c =
    record {
      finishing = none-finishing c.args.self.now c.args.state.now.mips;
      sound = c.requires;
      stays = stays-same c.args.self.now;
      computed = refl;
    }

pub loop-k-preserved : goal.loop-k-preserved
loop-k-preserved c =
    let i = c.loop-k.invariant in
    record {
      finishing = more-finishing c.loop-k.k c.args.self.now c.args.state.now.mips c.loop-k.self c.loop-k.state.mips c.finish_entry.new.self
          c.finish_entry.new.state.mips i.finishing (omega (arith, c.if-k-len.false, c.len.ensures)) (sym c.is_over.ensures ∙ c.if-not-is_over.false)
          c.finish_entry.ensures.made c.finish_entry.ensures.passed c.finish_entry.ensures.fewer;
      sound = c.finish_entry.ensures.sound;
      stays = stays-on c.args.self.now c.loop-k.self c.finish_entry.new.self i.stays c.finish_entry.ensures.stays;
      computed = c.finish_entry.ensures.computed ∙ i.computed;
    }

pub returns-then-k-len-clause-shows : goal.returns-then-k-len-clause-shows
returns-then-k-len-clause-shows c =
    let i = c.loop-k.invariant in
    λ numbers. (all-finishing c.loop-k.k c.args.self.now c.args.state.now.mips c.loop-k.self c.loop-k.state.mips i.finishing
    (omega (arith, c.loop-k-test.true, c.len-k-end.ensures)) (omega (arith, c.if-k-len.true, c.len.ensures)) numbers).shows

pub returns-clause-shows : goal.returns-clause-shows
returns-clause-shows c =
    let i = c.loop-k.invariant in
    let all : c.loop-k.k ≡ length c.args.self.now.window.entries = omega (arith, c.loop-k-test.false, c.loop-k.auto.k-end, c.len-k-end.ensures) in
    λ numbers. (all-finishing c.loop-k.k c.args.self.now c.args.state.now.mips c.loop-k.self c.loop-k.state.mips i.finishing
    (omega (arith, all)) (omega (arith, i.finishing.fewer, all)) numbers).shows
