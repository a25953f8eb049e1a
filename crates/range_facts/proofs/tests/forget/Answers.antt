use Rattle.std.proofs.Common.{◌≡◌, ◌∙◌, ap, length, get_or, None, arith, rules}
use Rattle.std.specs.Prelude.{slice_set}
use Rattle.std.proofs.lemmas.List.{get_or_default}
use Rattle.range_facts.proofs.Mapped.{mapped_length}
use Rattle.std.proofs.lemmas.List.Edits.{map_over_more}
use Rattle.range_facts.specs.Along.{unless_of}
use Rattle.range_facts.proofs.tests.forget.Goals as goal

pub loop-k-preserved : goal.loop-k-preserved
loop-k-preserved c =
    let long : length c.args.tests.now ≡ 32 = search rules in
    let long_now : length c.loop-k.tests ≡ 32 = mapped_length (unless_of c.args.r) c.args.tests.now c.loop-k.tests c.loop-k.k c.loop-k.invariant ∙ long in
    let t = get_or c.loop-k.tests c.loop-k.k None in
    ap (λ u. slice_set c.loop-k.tests c.loop-k.k u) c.unless_of.ensures
    ∙ map_over_more (unless_of c.args.r) c.args.tests.now c.loop-k.tests c.loop-k.k t (omega (arith, long)) c.loop-k.invariant
    (get_or_default c.loop-k.tests c.loop-k.k None t (omega (arith, long_now)))
