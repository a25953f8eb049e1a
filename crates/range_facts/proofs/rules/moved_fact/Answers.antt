use Rattle.std.proofs.Common.{◌≡◌, ◌+ℤ◌, ◌∙◌, ap, ap₂}
use Rattle.std.specs.Int.{w16}
use Rattle.std.proofs.lemmas.Int.{to_z-of_z}
use Rattle.range_facts.specs.Transfer.{moved_fact, within_words}
use Rattle.range_facts.proofs.Again.{again_sum, hi_word, lo_word}
use Rattle.range_facts.proofs.Words.{half_word}
use Rattle.range_facts.proofs.rules.moved_fact.Goals as goal

pub returns : goal.returns
unfolding moved_fact
returns c =
    let first : c.from.result ≡ c.args.by = c.from.ensures ∙ to_z-of_z w16 c.args.by c.ranges.by in
    let second : c.from-2.result ≡ c.args.by = c.from-2.ensures ∙ to_z-of_z w16 c.args.by c.ranges.by in
    c.within_words.ensures
    ∙ ap₂ (λ u v. within_words u v c.args.a.stride)
    (again_sum c.args.a.lo c.from.result (lo_word c.args.a c.requires) (half_word c.args.by c.from.result c.ranges.by first) ∙ ap (λ z. c.args.a.lo +ℤ z) first)
    (again_sum c.args.a.hi c.from-2.result (hi_word c.args.a c.requires) (half_word c.args.by c.from-2.result c.ranges.by second) ∙ ap (λ z. c.args.a.hi +ℤ z) second)
