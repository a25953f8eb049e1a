use Rattle.std.proofs.Common.{◌<◌, length, ◌≡◌, ◌∙◌, sym, subst}
use Rattle.std.specs.Prelude.{Contains, slice_index}
use Rattle.bound_checker.proofs.Calls.{called_done, called_none, called_reason, named_function}
use Rattle.bound_checker.proofs.Recorded.{unit_fits}
use Rattle.bound_checker.proofs.passing.mark_called.Goals as goal

pub called_of-requires : goal.called_of-requires
called_of-requires c = unit_fits c.args.code.now c.args.g.now.entry c.args.unit c.requires.unit

pub number_of-other-requires-clause-among : goal.number_of-other-requires-clause-among
number_of-other-requires-clause-among c =
    subst (λ l. Contains l c.in-Some.f) (sym c.functions.ensures) (named_function c.args.code.now c.args.g.now c.in-Some.f c.args.unit c.requires.graph c.requires.unit (sym c.called_of.ensures ∙ c.in-Some.is))

pub join-requires-clause-writes : goal.join-requires-clause-writes
join-requires-clause-writes c =
    called_reason c.args.code.now c.args.g.now c.args.row c.number_of-other.result c.in-Some.f c.args.unit c.requires.graph c.requires.unit c.requires.member (sym c.called_of.ensures ∙ c.in-Some.is)
    (subst (λ l. slice_index l c.number_of-other.result ≡ c.in-Some.f) c.functions.ensures c.number_of-other.ensures.at)

pub returns-in-None-clause-called : goal.returns-in-None-clause-called
returns-in-None-clause-called c = called_none c.args.code.now c.args.g.now c.args.row c.args.marks.now c.args.unit c.requires.unit (sym c.called_of.ensures ∙ c.in-None.is)

pub returns-in-Some-clause-called : goal.returns-in-Some-clause-called
returns-in-Some-clause-called c =
    called_done c.args.code.now c.args.g.now c.args.row c.number_of-other.result c.in-Some.f c.args.unit c.args.marks.now c.join.new.marks c.requires.graph c.requires.unit (sym c.called_of.ensures ∙ c.in-Some.is)
    (subst (λ l. slice_index l c.number_of-other.result ≡ c.in-Some.f) c.functions.ensures c.number_of-other.ensures.at) (subst (λ l. c.number_of-other.result < length l) c.functions.ensures c.number_of-other.ensures.inside)
    c.join.ensures.set
