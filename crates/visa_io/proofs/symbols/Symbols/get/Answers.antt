use Rattle.std.proofs.Common.{◌∙◌, ap}
use Rattle.visa_io.specs.SymbolLists.{value_of}
use Rattle.visa_io.proofs.SymbolLaws.{lookup-pairs_of}
use Rattle.visa_io.proofs.symbols.Symbols.get.Goals as goal

pub returns : goal.returns
returns c =
    c.copied.ensures ∙ c.get.ensures.value ∙ lookup-pairs_of c.args.name.now c.self.inside.map.entries
    ∙ ap (λ pairs. value_of pairs c.args.name.now) c.self.view_is
