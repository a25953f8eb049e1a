use Rattle.std.proofs.Common.{◌∙◌, ◌==◌, ap}
use Rattle.mips_elf.specs.Symbols.{before_zero}
use Rattle.mips_elf.proofs.Tables.{place_in_part}
use Rattle.mips_elf.proofs.symbol.end_of_name.Goals as goal

pub returns-clause-place : goal.returns-clause-place
returns-clause-place c =
    ap (before_zero c.args.text.now) c.first_zero.ensures.place ∙ place_in_part (λ b. b == 0) c.args.text.now c.min.result c.min.ensures
