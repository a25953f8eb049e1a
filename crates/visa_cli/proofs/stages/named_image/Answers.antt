use Rattle.std.proofs.Common.{subst, ℕ, List, []}
use Rattle.mips_elf.specs.Images.{IsAnswer}
use Rattle.visa_cli.specs.Stage.{Outcome, still}
use Rattle.visa_cli.specs.Stages.{elf_status, image_from}
use Rattle.visa_cli.proofs.Chains.{ran_stops, ran_then_still}
use Rattle.visa_cli.proofs.stages.named_image.Goals as goal

pub returns-in-Ok-clause-ran : goal.returns-in-Ok-clause-ran
unfolding image_from
returns-in-Ok-clause-ran g c =
    let Of : List ℕ → Type 0 = λ b. Outcome (still (IsAnswer b) elf_status) [] c.image_of.result in
    ran_then_still c.image_of.result c.in-Ok.ensures (subst Of c.as_slice.ensures c.image_of.ensures.outcome)

pub returns-in-Err-clause-ran : goal.returns-in-Err-clause-ran
unfolding image_from
returns-in-Err-clause-ran g c = ran_stops c.in-Err.ensures
