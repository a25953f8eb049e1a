use Rattle.std.proofs.Common.{◌-ℤ◌, ◌∙◌, ap, ap₂}
use Rattle.range_facts.specs.Transfer.{difference_fact, within_words}
use Rattle.range_facts.proofs.Again.{again_difference, hi_word, lo_word}
use Rattle.range_facts.proofs.rules.difference_fact.Goals as goal

pub returns : goal.returns
unfolding difference_fact
returns c =
    c.within_words.ensures
    ∙ ap₂ (λ u v. within_words u v c.common_stride.result)
    (again_difference c.args.a.lo c.args.b.hi (lo_word c.args.a c.requires.first) (hi_word c.args.b c.requires.second))
    (again_difference c.args.a.hi c.args.b.lo (hi_word c.args.a c.requires.first) (lo_word c.args.b c.requires.second))
    ∙ ap (λ n. within_words (c.args.a.lo -ℤ c.args.b.hi) (c.args.a.hi -ℤ c.args.b.lo) n) c.common_stride.ensures
