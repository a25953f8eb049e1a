use Rattle.std.proofs.Common.{◌∙◌}
use Rattle.persistence.proofs.Members.{search_finds}
use Rattle.persistence.proofs.sorted.is_in_words.Goals as goal

pub returns : goal.returns
returns c = c.is_ok.ensures.value ∙ search_finds c.args.sorted.now c.args.n c.binary_search.result c.binary_search.ensures.position c.requires
