use Rattle.std.proofs.Common.{◌∙◌, sym}
use Rattle.bound_checker.proofs.Searching.{edge_found, edge_left, target_among}
use Rattle.bound_checker.proofs.search.pass_edge.Goals as goal

pub number_of-requires-clause-among : goal.number_of-requires-clause-among
number_of-requires-clause-among c =
    target_among c.args.code.now c.args.g.now c.args.scope c.args.k c.unit_at.result c.args.e c.args.addresses.now c.requires.graph c.requires.within c.unit_at.ensures c.requires.from c.requires.edge c.requires.addresses (sym c.allows.ensures ∙ c.if-allows.true)

pub returns-then-allows-clause-adds : goal.returns-then-allows-clause-adds
returns-then-allows-clause-adds c =
    edge_found c.args.code.now c.args.g.now c.args.scope c.args.k c.unit_at.result c.args.e c.number_of.result c.args.addresses.now _ _ c.requires.graph c.requires.within c.unit_at.ensures c.requires.from c.requires.addresses (sym c.allows.ensures ∙ c.if-allows.true) c.number_of.ensures.inside c.number_of.ensures.at c.put.ensures.adds

pub returns-else-allows-clause-adds : goal.returns-else-allows-clause-adds
returns-else-allows-clause-adds c =
    edge_left c.args.code.now c.args.g.now c.args.scope c.args.k c.unit_at.result c.args.e _ c.requires.graph c.requires.within c.unit_at.ensures c.requires.from (sym c.allows.ensures ∙ c.if-allows.false)
