use Rattle.std.proofs.Common.{◌+ℤ◌, ◌∙◌, ap, ap₂}
use Rattle.range_facts.specs.Transfer.{sum_fact, within_words}
use Rattle.range_facts.proofs.Again.{again_sum, hi_word, lo_word}
use Rattle.range_facts.proofs.rules.sum_fact.Goals as goal

pub returns : goal.returns
unfolding sum_fact
returns c =
    c.within_words.ensures
    ∙ ap₂ (λ u v. within_words u v c.common_stride.result)
    (again_sum c.args.a.lo c.args.b.lo (lo_word c.args.a c.requires.first) (lo_word c.args.b c.requires.second))
    (again_sum c.args.a.hi c.args.b.hi (hi_word c.args.a c.requires.first) (hi_word c.args.b c.requires.second))
    ∙ ap (λ n. within_words (c.args.a.lo +ℤ c.args.b.lo) (c.args.a.hi +ℤ c.args.b.hi) n) c.common_stride.ensures
