use Rattle.std.proofs.Common.{◌∙◌, sym}
use Rattle.bound_checker.proofs.Going.{callee_there, none_along, some_along, table_facts}
use Rattle.bound_checker.proofs.Recorded.{unit_sound}
use Rattle.bound_checker.proofs.gone.edge_lost.Goals as goal

pub end_of-requires-clause-unit : goal.end_of-requires-clause-unit
end_of-requires-clause-unit c =
    unit_sound c.args.code.now c.args.g.now c.args.lines.now c.args.n c.unit_at-unit.result c.unit_at-unit.result c.requires.input c.requires.before.within (c.unit_at-unit.ensures c.unit_at-unit.result)

pub callee_of-requires : goal.callee_of-requires
callee_of-requires c =
    (unit_sound c.args.code.now c.args.g.now c.args.lines.now c.args.n c.unit_at-unit.result c.unit_at-unit.result c.requires.input c.requires.before.within (c.unit_at-unit.ensures c.unit_at-unit.result)).first

pub least_lost-requires-clause-callee : goal.least_lost-requires-clause-callee
least_lost-requires-clause-callee c =
    callee_there c.args.code.now c.args.g.now c.args.lines.now c.args.masks.now c.args.n c.unit_at-unit.result c.args.e c.args.a c.callee_of.result c.requires.input c.requires.masks c.requires.before c.unit_at-unit.ensures
    c.requires.from c.requires.reached c.requires.leads c.callee_of.ensures

pub least_lost-requires-clause-target : goal.least_lost-requires-clause-target
least_lost-requires-clause-target c =
    table_facts c.args.lines.now c.args.table.now c.args.code.now c.args.g.now c.args.e.to c.facts_in-target.result c.requires.input c.requires.table c.facts_in-target.ensures

pub returns-in-None : goal.returns-in-None
returns-in-None c =
    none_along c.args.code.now c.args.g.now c.args.lines.now c.args.masks.now c.args.n c.unit_at-unit.result c.args.e c.args.a c.requires.input c.requires.before c.unit_at-unit.ensures c.requires.from c.requires.leads
    (sym c.end_of.ensures.is ∙ c.in-None.is)

pub returns-in-Some : goal.returns-in-Some
returns-in-Some c =
    some_along c.args.code.now c.args.g.now c.args.lines.now c.args.table.now c.args.masks.now c.args.n c.unit_at-unit.result c.args.e c.args.a c.in-Some.end c.facts_in-target.result c.least_lost.result c.requires.input
    c.requires.table c.requires.before c.unit_at-unit.ensures c.requires.from c.requires.leads (sym c.end_of.ensures.is ∙ c.in-Some.is) c.facts_in-target.ensures c.callee_of.result c.callee_of.ensures c.least_lost.ensures
