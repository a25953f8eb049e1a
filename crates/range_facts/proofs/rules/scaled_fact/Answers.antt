use Rattle.std.proofs.Common.{◌*ℤ◌, ◌*◌, ◌^◌, ◌∙◌, pos, ap, arith}
use Rattle.std.specs.Int.{w64}
use Rattle.std.proofs.lemmas.Int.{to_z-of_z}
use Rattle.range_facts.proofs.Sets.{fits64_hi, fits64_lo}
use Rattle.range_facts.proofs.Values.{scaled_at, words_at}
use Rattle.range_facts.proofs.rules.scaled_fact.Goals as goal

pub returns-then-stride-lt4294967296 : goal.returns-then-stride-lt4294967296
returns-then-stride-lt4294967296 c =
    let m = 2 ^ c.args.sa in
    scaled_at c.args.a c.args.sa c.within_words.result (omega (arith, c.scaled_stride-stride.ensures))
    (words_at c.within_words.result _ _ (c.args.a.lo *ℤ pos m) (c.args.a.hi *ℤ pos m) _ (c.args.a.stride * m)
    (to_z-of_z w64 c.scaled.result (record { sfits = c.scaled.type_inv }) ∙ c.scaled.ensures ∙ ap (λ z. z *ℤ pos m) (to_z-of_z w64 c.args.a.lo (fits64_lo c.args.a c.requires.fact)))
    (to_z-of_z w64 c.scaled-then-stride-lt4294967296.result (record { sfits = c.scaled-then-stride-lt4294967296.type_inv }) ∙ c.scaled-then-stride-lt4294967296.ensures
    ∙ ap (λ z. z *ℤ pos m) (to_z-of_z w64 c.args.a.hi (fits64_hi c.args.a c.requires.fact)))
    c.scaled_stride-stride.ensures c.within_words.ensures)
