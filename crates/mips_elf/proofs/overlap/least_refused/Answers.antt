use Rattle.std.proofs.Common.{◌≡◌, ℕ, true, max, subst}
use Rattle.mips_elf.specs.Segments.{is_refused, first_too_high, AtMost}
use Rattle.mips_elf.proofs.Overlaps.{found_least, none_refused, seen_next, seen_all}
use Rattle.mips_elf.proofs.overlap.least_refused.Goals as goal

pub loop-s-preserved : goal.loop-s-preserved
loop-s-preserved c =
    let P : ℕ → Type 0 = λ a. is_refused c.args.loads.now a ≡ true → AtMost c.lower-least-in-loop-s.result a in
    let too_high : P (max _ first_too_high) = subst P c.max.ensures c.lower-least-in-loop-s.ensures.takes in (
      c.lower-least-in-loop-s.ensures.found,
      seen_next c.args.loads.now c.loop-s.s-index (record { kind = 0; offset = 0; address = 0; file_len = 0; memory_len = 0; flags = 0 }) c.loop-s.least c.lower-least-in-loop-s.result c.loop-s-test.true
          (λ b h. c.lower-least-in-loop-s.ensures.keeps b (c.lower-least.ensures.keeps b h)) c.loop-s.invariant.1
          (record { first = λ r. c.lower-least-in-loop-s.ensures.keeps _ (c.lower-least.ensures.takes r); too_high = too_high }),
    )

pub returns-clause-found : goal.returns-clause-found
returns-clause-found c =
    found_least c.args.loads.now c.loop-s.least c.loop-s.invariant.0 (seen_all c.args.loads.now c.loop-s.s-index c.loop-s.least c.loop-s-test.false c.loop-s.invariant.1)

pub returns-clause-none : goal.returns-clause-none
returns-clause-none c =
    none_refused c.args.loads.now c.loop-s.least (seen_all c.args.loads.now c.loop-s.s-index c.loop-s.least c.loop-s-test.false c.loop-s.invariant.1)
