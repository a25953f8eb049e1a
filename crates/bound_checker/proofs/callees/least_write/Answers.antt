use Rattle.std.proofs.Common.{◌≡◌, ◌<◌, ◌∙◌, ap, arith, length, subst, sym}
use Rattle.std.proofs.lemmas.Grind.{get_or_default_zero}
use Rattle.flow_graph.specs.Own.{lesser}
use Rattle.bound_checker.specs.Room.{found_at}
use Rattle.bound_checker.specs.Tally.{address_at}
use Rattle.bound_checker.specs.Units.{IsSoundUnit}
use Rattle.bound_checker.proofs.Entering.{all_writes, more_writes}
use Rattle.bound_checker.proofs.Recorded.{address_is, numbered_unit}
use Rattle.bound_checker.proofs.Rooms.{count_most}
use Rattle.bound_checker.proofs.Searching.{count_within}
use Rattle.bound_checker.proofs.callees.least_write.Goals as goal

pub unit_at-requires : goal.unit_at-requires
unit_at-requires c =
    let most = count_most (length c.args.g.now.units) c.args.room.now c.requires.room in
    let here : c.index.result.now ≡ found_at c.args.room.now c.loop-i.i = c.index.ensures ∙ get_or_default_zero c.args.room.now.found.items c.loop-i.i c.index.result.now (omega (arith, most, c.loop-i-test.true)) in
    omega (arith, here, count_within (length c.args.g.now.units) c.args.room.now c.loop-i.i c.requires.room c.loop-i-test.true)

pub write_of-requires : goal.write_of-requires
write_of-requires c =
    let most = count_most (length c.args.g.now.units) c.args.room.now c.requires.room in
    let here : c.index.result.now ≡ found_at c.args.room.now c.loop-i.i = c.index.ensures ∙ get_or_default_zero c.args.room.now.found.items c.loop-i.i c.index.result.now (omega (arith, most, c.loop-i-test.true)) in
    let below : c.index.result.now < length c.args.g.now.units = omega (arith, here, count_within (length c.args.g.now.units) c.args.room.now c.loop-i.i c.requires.room c.loop-i-test.true) in
    subst IsSoundUnit (c.unit_at.ensures c.unit_at.result) (c.requires.low c.index.result.now c.unit_at.result below)

pub loop-i-preserved : goal.loop-i-preserved
loop-i-preserved c =
    let most = count_most (length c.args.g.now.units) c.args.room.now c.requires.room in
    let here : c.index.result.now ≡ found_at c.args.room.now c.loop-i.i = c.index.ensures ∙ get_or_default_zero c.args.room.now.found.items c.loop-i.i c.index.result.now (omega (arith, most, c.loop-i-test.true)) in
    let below : c.index.result.now < length c.args.g.now.units = omega (arith, here, count_within (length c.args.g.now.units) c.args.room.now c.loop-i.i c.requires.room c.loop-i-test.true) in
    more_writes c.args.code.now c.args.g.now c.args.room.now c.args.c c.loop-i.i c.unit_at.result c.loop-i.best c.lesser-best.result
    (numbered_unit c.args.code.now c.args.g.now c.index.result.now c.unit_at.result c.unit_at.result c.requires.graph below (c.unit_at.ensures c.unit_at.result))
    (ap (address_at c.args.g.now) (sym here) ∙ address_is c.args.g.now.units c.index.result.now c.unit_at.result c.unit_at.result below (c.unit_at.ensures c.unit_at.result))
    (c.lesser-best.ensures ∙ ap (lesser c.loop-i.best) c.write_of.ensures) c.loop-i.invariant

pub returns : goal.returns
returns c = all_writes c.args.code.now c.args.g.now c.args.room.now c.args.c c.loop-i.i c.loop-i.best c.requires.room (omega arith) (omega arith) c.loop-i.invariant
