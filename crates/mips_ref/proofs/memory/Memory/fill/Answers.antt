use Rattle.std.proofs.Common.{sym, ap, ◌∙◌, ◌≤◌, ◌<◌, ◌+◌, arith, take, drop, length, length-drop}
use Rattle.std.proofs.lemmas.List.{take_rest}
use Rattle.mips_ref.proofs.Filled.{put-spans, put-next, put-none, declared-same}
use Rattle.mips_ref.proofs.memory.Memory.fill.Goals as goal

pub fill_run-count-requires : goal.fill_run-count-requires
fill_run-count-requires c =
    let done = c.loop-done.done in
    let there = c.requires done c.loop-done-test.true in
    let left : 0 < length (drop done c.args.bytes.now) = omega (arith, length-drop done c.args.bytes.now) in
    record {
      declared = rw c.loop-done.invariant.next (declared-same c.args.self.now c.loop-done.self (c.args.at + done) c.loop-done.invariant.spans there);
      any = rw (take_rest c.args.bytes.now done) left;
    }

pub loop-done-preserved : goal.loop-done-preserved
loop-done-preserved c =
    let done = c.loop-done.done in
    let count = c.fill_run-count.result in
    let bytes = c.args.bytes.now in
    let filled = rw (take_rest bytes done) at c.fill_run-count.ensures.filled in
    let within : count ≤ length (drop done bytes) = rw (take_rest bytes done) at c.fill_run-count.ensures.within in
    record {
      within = omega (arith, within, length-drop done bytes);
      next = omega arith;
      spans = ap (λ m. m.spans) filled ∙ put-spans c.loop-done.self c.loop-done.next (take count (drop done bytes)) ∙ c.loop-done.invariant.spans;
      filled = put-next c.loop-done.self c.fill_run-count.new.self c.loop-done.next count done bytes filled within ∙ c.loop-done.invariant.filled;
    }

pub returns : goal.returns
returns c =
    sym (put-none c.loop-done.self c.loop-done.next c.loop-done.done c.args.bytes.now c.loop-done-test.false) ∙ c.loop-done.invariant.filled
