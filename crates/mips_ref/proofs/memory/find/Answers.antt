use Rattle.std.proofs.Common.{◌-◌, arith, sym, false}
use Rattle.std.proofs.lemmas.Grind.{common_steps}
use Rattle.mips_ref.proofs.Places.{place_from-at, none_past, length-firsts_from}
use Rattle.mips_ref.proofs.memory.find.Goals as goal

pub returns-then-above-eq0 : goal.returns-then-above-eq0
returns-then-above-eq0 c =
    sym (none_past 0 0 c.args.spans.now c.args.at c.requires.laid_out (λ k d below. c.begun-above.ensures.past k d (omega arith) below))

pub overflow_sub-offset : goal.overflow_sub-offset
overflow_sub-offset c = c.begun-above.ensures.at_most _ _ (omega arith)

pub bounds-firsts-above : goal.bounds-firsts-above
bounds-firsts-above c = rw (c.requires.firsts_are, length-firsts_from) (omega (arith, c.begun-above.ensures.within))

pub returns-then-offset-span : goal.returns-then-offset-span
returns-then-offset-span c =
    let i = c.begun-above.result - 1 in
    let at = place_from-at 0 0 c.args.spans.now c.args.at i (record { start = 0; len = 0; r = false; w = false; x = false }) c.requires.laid_out (omega (arith, c.begun-above.ensures.within))
    (λ k d low. c.begun-above.ensures.at_most k d (omega arith)) (λ k d high below. c.begun-above.ensures.past k d (omega arith) below) in
    let inside = c.if-offset-span.true in
    grind (arith, common_steps, at, inside, c.requires.firsts_are)

pub returns-else-offset-span : goal.returns-else-offset-span
returns-else-offset-span c =
    let i = c.begun-above.result - 1 in
    let at = place_from-at 0 0 c.args.spans.now c.args.at i (record { start = 0; len = 0; r = false; w = false; x = false }) c.requires.laid_out (omega (arith, c.begun-above.ensures.within))
    (λ k d low. c.begun-above.ensures.at_most k d (omega arith)) (λ k d high below. c.begun-above.ensures.past k d (omega arith) below) in
    let outside = c.if-offset-span.false in
    grind (arith, common_steps, at, outside, c.requires.firsts_are)
