use Rattle.std.proofs.Common.{◌≡◌, ◌∙◌, ap, ap₂, arith}
use Rattle.std.proofs.lemmas.Int.{ints, to_z-of_z}
use Rattle.std.specs.Int.{w64}
use Rattle.range_facts.specs.Ranges.{range}
use Rattle.range_facts.specs.Refining.{distance, whole}
use Rattle.range_facts.proofs.Sets.{fits64_hi, fits64_lo, le_fails64, lt_fails64}
use Rattle.range_facts.proofs.Left.{cut_above_is}
use Rattle.range_facts.proofs.strided.cut_above.Goals as goal

pub returns-else-s-c : goal.returns-else-s-c
returns-else-s-c c =
    let far : c.distance.result ≡ distance c.args.s.lo c.args.c = c.distance.ensures.value ∙ ap₂ distance (to_z-of_z w64 c.args.s.lo (fits64_lo c.args.s c.requires)) (to_z-of_z w64 c.args.c c.ranges.c) in
    let span : c.whole-span.result ≡ whole (distance c.args.s.lo c.args.c) c.args.s.stride = c.whole-span.ensures.value ∙ ap (λ n. whole n c.args.s.stride) far in
    cut_above_is c.args.s c.args.c c.range.result (lt_fails64 c.args.c c.args.s.lo c.ranges.c (fits64_lo c.args.s c.requires) c.if-c-s.false) (le_fails64 c.args.s.hi c.args.c (fits64_hi c.args.s c.requires) c.ranges.c c.if-s-c.false)
    (c.range.ensures ∙ ap₂ (λ x y. range x y c.args.s.stride) (omega (arith, ints)) (omega (arith, ints, c.cast_signed.ensures, span)))
