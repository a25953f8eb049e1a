-- `split` cuts at each space, and `take` keeps the first pieces.
use Rattle.std.proofs.lemmas.Iterator.{YieldsList-from_take}
use Rattle.std.proofs.lemmas.Iterator.Consumers.{YieldsList-at, map_from_collect}
use Rattle.std.proofs.lemmas.Iterator.Splits.{YieldsList-from_slice_split}
use Rattle.std.proofs.Common.{rules}
use Rattle.text_fields.specs.Lines.{is_space, fields as fields_lem}
use Rattle.text_fields.proofs.lines.fields.Goals as goal

pub returns : goal.returns
unfolding fields_lem
returns c =
    let pieces = YieldsList-from_slice_split {s = c.split.result} _ is_space c.args.line.now c.split.ensures.rest c.split.ensures.done c.split.ensures.closure (search rules) in
    map_from_collect _ c.collect.ensures.ran (YieldsList-from_take {s = c.take.result} c.args.most (YieldsList-at c.take.ensures.source pieces) c.take.ensures.count)
