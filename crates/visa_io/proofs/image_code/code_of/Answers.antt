use Rattle.visa_io.specs.ImageCode.{code_of_image}
use Rattle.visa_io.proofs.image_code.code_of.Goals as goal

pub returns-clause-code : goal.returns-clause-code
unfolding code_of_image
returns-clause-code c = rw (← c.as_slice.ensures, ← c.as_slice-2.ensures) c.code_of_parts.ensures.code
