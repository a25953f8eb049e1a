use Rattle.std.proofs.Common.{sym, subst}
use Rattle.std.specs.Prelude.{Contains}
use Rattle.bound_checker.proofs.Checking.{address_among, leads_on}
use Rattle.bound_checker.proofs.Going.{better_best}
use Rattle.bound_checker.proofs.gone.over_edge.Goals as goal

pub number_of-to-requires-clause-among : goal.number_of-to-requires-clause-among
number_of-to-requires-clause-among c =
    subst (λ l. Contains l c.args.e.from) (sym c.requires.addresses) (address_among c.args.code.now c.args.g.now c.args.e c.requires.input.graph c.requires.edge c.requires.leads)

pub edge_lost-lost-requires-clause-leads : goal.edge_lost-lost-requires-clause-leads
edge_lost-lost-requires-clause-leads c = (leads_on c.args.code.now c.args.g.now c.args.e c.requires.input.graph c.requires.edge c.requires.leads).1

pub returns-clause-best : goal.returns-clause-best
returns-clause-best c =
    better_best c.args.code.now c.args.g.now c.args.lines.now c.args.masks.now c.args.e c.args.w.best c.edge_lost-lost.result c.better.result c.requires.input c.requires.edge c.requires.leads c.requires.start
    c.edge_lost-lost.ensures c.better.ensures
