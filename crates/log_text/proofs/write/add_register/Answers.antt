use Rattle.std.proofs.Common.{◌∙◌}
use Rattle.log_text.proofs.Registers.{number_short}
use Rattle.log_text.proofs.write.add_register.Goals as goal

pub add_named-requires-clause-name : goal.add_named-requires-clause-name
add_named-requires-clause-name c = number_short c.args.r _ (c.as_bytes.ensures.value ∙ c.format.ensures.text) c.requires.number
