use Rattle.std.proofs.Common.{◌≡◌, ◌∙◌, ap, ap₂, arith}
use Rattle.std.proofs.lemmas.Int.{ints, to_z-of_z}
use Rattle.std.specs.Int.{w64}
use Rattle.range_facts.specs.Ranges.{range}
use Rattle.range_facts.specs.Refining.{distance, whole}
use Rattle.range_facts.proofs.Sets.{fits64_hi, fits64_lo, le_fails64, lt_fails64}
use Rattle.range_facts.proofs.Left.{cut_below_is}
use Rattle.range_facts.proofs.strided.cut_below.Goals as goal

pub returns-else-c-s : goal.returns-else-c-s
returns-else-c-s c =
    let far : c.distance.result ≡ distance c.args.c c.args.s.hi = c.distance.ensures.value ∙ ap₂ distance (to_z-of_z w64 c.args.c c.ranges.c) (to_z-of_z w64 c.args.s.hi (fits64_hi c.args.s c.requires)) in
    let span : c.whole-span.result ≡ whole (distance c.args.c c.args.s.hi) c.args.s.stride = c.whole-span.ensures.value ∙ ap (λ n. whole n c.args.s.stride) far in
    cut_below_is c.args.s c.args.c c.range.result (le_fails64 c.args.c c.args.s.lo c.ranges.c (fits64_lo c.args.s c.requires) c.if-c-s.false) (lt_fails64 c.args.s.hi c.args.c (fits64_hi c.args.s c.requires) c.ranges.c c.if-s-c.false)
    (c.range.ensures ∙ ap₂ (λ x y. range x y c.args.s.stride) (omega (arith, ints, c.cast_signed.ensures, span)) (omega (arith, ints)))
