use Rattle.visa_io.proofs.ImageLaws.{whole}
use Rattle.visa_io.proofs.image_code.code_from.Goals as goal

pub returns-clause-whole : goal.returns-clause-whole
returns-clause-whole c =
    whole c.args.big c.args.bytes.now c.args.pieces.now _ c.in_ok-spans_of.ensures c.in_ok-words_of.ensures
