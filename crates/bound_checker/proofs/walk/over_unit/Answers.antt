use Rattle.std.proofs.Common.{◌∙◌, ap}
use Rattle.bound_checker.specs.Tally.{joined}
use Rattle.bound_checker.proofs.Recorded.{address_is, numbered_unit, unit_sound}
use Rattle.bound_checker.proofs.Tallies.{walked_more}
use Rattle.bound_checker.proofs.walk.over_unit.Goals as goal

pub of_unit-requires-clause-unit : goal.of_unit-requires-clause-unit
of_unit-requires-clause-unit c =
    unit_sound c.args.code.now c.args.g.now c.args.lines.now c.args.k c.unit_at-unit.result c.unit_at-unit.result c.requires.input c.requires.within (c.unit_at-unit.ensures c.unit_at-unit.result)

pub returns-clause-walked : goal.returns-clause-walked
returns-clause-walked c = λ lo low walked.
    walked_more c.args.code.now c.args.g.now c.args.lines.now c.args.region lo c.args.k c.unit_at-unit.result c.moved-along.result c.args.w _ c.requires.input.graph c.requires.within
    (record {
      is = numbered_unit c.args.code.now c.args.g.now c.args.k c.unit_at-unit.result c.unit_at-unit.result c.requires.input.graph c.requires.within (c.unit_at-unit.ensures c.unit_at-unit.result);
      at = address_is c.args.g.now.units c.args.k c.unit_at-unit.result c.unit_at-unit.result c.requires.within (c.unit_at-unit.ensures c.unit_at-unit.result);
      before = c.moved-along.ensures.is;
    })
    c.moved-along.ensures.facts low (c.joined.ensures ∙ ap (joined c.args.w.tally) c.of_unit.ensures) c.header_fact.ensures walked
