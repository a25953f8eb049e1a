use Rattle.std.proofs.Common.{[], subst, sym, arith}
use Rattle.std.specs.Prelude.{Contains, slice_index_or}
use Rattle.std.specs.List.Sorted.{IsStrictlyIncreasing}
use Rattle.bound_checker.proofs.Members.{all_passed, found_member, found_unit, member_address, none_passed, step_at}
use Rattle.bound_checker.proofs.passing.mark_function.Goals as goal

pub loop-k-init : goal.loop-k-init
loop-k-init c = none_passed c.args.code.now c.args.g.now c.args.row c.args.marks.now (slice_index_or c.args.g.now.function_units c.args.row []) c.requires.due

pub number_of-requires-clause-rise : goal.number_of-requires-clause-rise
number_of-requires-clause-rise c = subst (λ l. IsStrictlyIncreasing l) (sym c.requires.addresses) c.requires.graph.units_rise

pub number_of-requires-clause-among : goal.number_of-requires-clause-among
number_of-requires-clause-among c =
    subst (λ l. Contains l c.member_at-u.result) (sym c.requires.addresses)
    (member_address c.args.code.now c.args.g.now c.args.row c.loop-k.k c.member_at-u.result c.requires.graph c.requires.row (omega arith) c.member_at-u.ensures)

pub mark_unit-requires-clause-unit : goal.mark_unit-requires-clause-unit
mark_unit-requires-clause-unit c =
    found_unit c.args.code.now c.args.g.now c.args.addresses.now c.number_of.result c.unit_at-unit.result c.requires.graph c.requires.addresses c.number_of.ensures.inside c.unit_at-unit.ensures

pub mark_unit-requires-clause-member : goal.mark_unit-requires-clause-member
mark_unit-requires-clause-member c =
    found_member c.args.code.now c.args.g.now c.args.addresses.now c.args.row c.loop-k.k c.number_of.result c.member_at-u.result c.unit_at-unit.result c.requires.graph c.requires.addresses c.requires.row (omega arith)
    c.member_at-u.ensures c.number_of.ensures.inside c.number_of.ensures.at c.unit_at-unit.ensures

pub loop-k-preserved : goal.loop-k-preserved
loop-k-preserved c =
    step_at c.args.code.now c.args.g.now c.args.addresses.now c.args.row c.loop-k.k c.number_of.result c.member_at-u.result c.unit_at-unit.result c.args.marks.now c.loop-k.marks c.mark_unit.new.marks c.requires.addresses (omega arith)
    c.member_at-u.ensures c.number_of.ensures.inside c.number_of.ensures.at c.unit_at-unit.ensures c.loop-k.invariant c.mark_unit.ensures.due c.mark_unit.ensures.below c.mark_unit.ensures.closed

pub returns : goal.returns
returns c = all_passed c.args.code.now c.args.g.now c.args.row c.loop-k.k (slice_index_or c.args.g.now.function_units c.args.row []) c.args.marks.now c.loop-k.marks (omega arith) c.loop-k.invariant
