use Rattle.std.proofs.Common.{◌≡◌, ◌∙◌, ap, arith, to_z, of_z, w64, ◌+ℤ◌}
use Rattle.std.proofs.lemmas.Int.{ints}
use Rattle.mips_ref.specs.Act.{fits_word}
use Rattle.bound_checker.proofs.steps.moves_to_word.Goals as goal

pub returns : goal.returns
returns c =
    let e : to_z w64 (of_z w64 (to_z w64 (of_z w64 c.args.z) +ℤ to_z w64 (of_z w64 c.from.result))) ≡ c.args.z +ℤ c.args.by = omega (arith, ints) in
    c.is_word.ensures ∙ ap fits_word e
