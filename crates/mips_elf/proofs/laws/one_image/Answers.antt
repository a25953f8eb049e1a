use Rattle.mips_elf.proofs.OneAnswer.{image_excludes, one_image, one_refusal}
use Rattle.mips_elf.proofs.laws.one_image.Goals as goal

pub returns-clause-images : goal.returns-clause-images
returns-clause-images c = one_image

pub returns-clause-refusals : goal.returns-clause-refusals
returns-clause-refusals c = one_refusal

pub returns-clause-apart : goal.returns-clause-apart
returns-clause-apart c = image_excludes
