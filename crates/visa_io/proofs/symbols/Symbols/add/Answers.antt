use Rattle.std.proofs.Common.{◌≡◌, ◌∙◌, ap, sym, not, false, ◌++◌, [], ◌∷◌}
use Rattle.std.specs.Prelude.{is_some}
use Rattle.visa_io.specs.SymbolLists.{value_of, names, pairs_of}
use Rattle.visa_io.proofs.SymbolLaws.{lookup-pairs_of, pairs_of-inserted}
use Rattle.visa_io.proofs.symbols.Symbols.add.Goals as goal

-- the map's test for the name is that of the symbols
tested : (c : goal.In_ok-insert) → c.contains_key.result ≡ names c.args.self.now c.args.name.now
tested c = c.contains_key.ensures ∙ ap is_some (lookup-pairs_of c.args.name.now c.self.inside.map.entries
    ∙ ap (λ pairs. value_of pairs c.args.name.now) c.self.view_is)

pub returns-then-contains_key-clause-new : goal.returns-then-contains_key-clause-new
returns-then-contains_key-clause-new c =
    sym (ap not (sym (c.contains_key.ensures ∙ ap is_some (lookup-pairs_of c.args.name.now c.self.inside.map.entries
    ∙ ap (λ pairs. value_of pairs c.args.name.now) c.self.view_is)) ∙ c.if-contains_key.true))

pub returns-clause-new : goal.returns-clause-new
returns-clause-new c = sym (ap not (sym (tested c) ∙ c.if-contains_key.false))

pub returns-clause-ok : goal.returns-clause-ok
returns-clause-ok c =
    let absent : names (pairs_of c.self.inside.map.entries) c.args.name.now ≡ false
    = ap (λ pairs. names pairs c.args.name.now) c.self.view_is ∙ sym (tested c) ∙ c.if-contains_key.false in
    pairs_of-inserted c.self.inside.map c.in_ok-owned.field-0 c.args.name.now c.args.value _ c.in_ok-owned.ensures absent c.in_ok-insert.ensures.entries
    ∙ ap (λ pairs. pairs ++ (c.args.name.now, c.args.value) ∷ []) c.self.view_is
