use Rattle.std.proofs.Common.{sym, subst}
use Rattle.std.specs.Prelude.{Contains}
use Rattle.bound_checker.proofs.Entering.{call_among, none_called, one_called}
use Rattle.bound_checker.proofs.Recorded.{address_is, numbered_unit, unit_fits}
use Rattle.bound_checker.proofs.callees.put_called.Goals as goal

pub called_of-requires : goal.called_of-requires
called_of-requires c =
    unit_fits c.args.code.now c.args.g.now.entry c.unit_at.result (numbered_unit c.args.code.now c.args.g.now c.args.k c.unit_at.result c.unit_at.result c.requires.graph c.requires.within (c.unit_at.ensures c.unit_at.result))

pub number_of-requires-clause-among : goal.number_of-requires-clause-among
number_of-requires-clause-among c =
    subst (λ l. Contains l c.in-Some.f) (sym c.requires.addresses)
    (call_among c.args.code.now c.args.g.now c.unit_at.result c.in-Some.f c.requires.graph (numbered_unit c.args.code.now c.args.g.now c.args.k c.unit_at.result c.unit_at.result c.requires.graph c.requires.within (c.unit_at.ensures c.unit_at.result)) (sym c.in-Some.ensures))

pub returns-in-None-clause-adds : goal.returns-in-None-clause-adds
returns-in-None-clause-adds c =
    none_called c.args.code.now c.args.g.now c.args.k c.unit_at.result _ (numbered_unit c.args.code.now c.args.g.now c.args.k c.unit_at.result c.unit_at.result c.requires.graph c.requires.within (c.unit_at.ensures c.unit_at.result))
    (address_is c.args.g.now.units c.args.k c.unit_at.result c.unit_at.result c.requires.within (c.unit_at.ensures c.unit_at.result)) (sym c.in-None.ensures)

pub returns-in-Some-clause-adds : goal.returns-in-Some-clause-adds
returns-in-Some-clause-adds c =
    one_called c.args.code.now c.args.g.now c.args.k c.number_of.result c.in-Some.f c.unit_at.result c.args.addresses.now _ _ c.requires.graph
    (numbered_unit c.args.code.now c.args.g.now c.args.k c.unit_at.result c.unit_at.result c.requires.graph c.requires.within (c.unit_at.ensures c.unit_at.result))
    (address_is c.args.g.now.units c.args.k c.unit_at.result c.unit_at.result c.requires.within (c.unit_at.ensures c.unit_at.result)) (sym c.in-Some.ensures) c.requires.addresses c.number_of.ensures.inside c.number_of.ensures.at c.put.ensures.adds
