use Rattle.std.proofs.Common.{subst, sym}
use Rattle.std.specs.List.Sorted.{IsStrictlyIncreasing}
use Rattle.std.proofs.lemmas.Result.{IfOk-weaker}
use Rattle.flow_graph.specs.Making.{IsAnswer}
use Rattle.flow_graph.proofs.Built.{units_found}
use Rattle.flow_graph.proofs.Whole.{none_answer, told_answer}
use Rattle.flow_graph.proofs.making.from.Goals as goal

pub first_fault-requires-clause-rise : goal.first_fault-requires-clause-rise
first_fault-requires-clause-rise c =
    subst IsStrictlyIncreasing (sym c.deref-6.ensures.value)
    (units_found c.args.places.now c.args.start c.in_ok-reached.reached.items c.deref-3.result.now c.in_ok-at.at.items c.deref-2.result.now c.deref.result.now c.requires.net c.deref.ensures.value c.deref-2.ensures.value c.deref-3.ensures.value c.in_ok-at.ensures c.in_ok-reached.ensures.found).rise

pub without_own_fault-requires-clause-at : goal.without_own_fault-requires-clause-at
without_own_fault-requires-clause-at c =
    rw (c.deref-in-None.ensures.value, c.deref-in-None-2.ensures.value)
    (units_found c.args.places.now c.args.start c.in_ok-reached.reached.items c.deref-3.result.now c.in_ok-at.at.items c.deref-2.result.now c.deref.result.now c.requires.net c.deref.ensures.value c.deref-2.ensures.value c.deref-3.ensures.value c.in_ok-at.ensures c.in_ok-reached.ensures.found)

pub returns-in-Some : goal.returns-in-Some
returns-in-Some c =
    told_answer c.args.places.now c.args.start c.in_ok-reached.reached.items c.deref-5.result.now c.in_ok-at.at.items c.deref-6.result.now c.deref.result.now c.deref-4.result.now c.in-Some.fault
    c.requires.net c.requires.start c.deref.ensures.value c.in_ok-reached.ensures.found
    (units_found c.args.places.now c.args.start c.in_ok-reached.reached.items c.deref-3.result.now c.in_ok-at.at.items c.deref-2.result.now c.deref.result.now c.requires.net c.deref.ensures.value c.deref-2.ensures.value c.deref-3.ensures.value c.in_ok-at.ensures c.in_ok-reached.ensures.found)
    c.deref-4.ensures.value c.deref-5.ensures.value c.deref-6.ensures.value c.in-Some.ensures

pub returns : goal.returns
returns c =
    IfOk-weaker c.without_own_fault.result _ (IsAnswer c.args.places.now c.args.start)
    (λ r answer. none_answer c.args.places.now c.args.start c.in_ok-reached.reached.items c.deref-5.result.now c.deref-in-None.result.now c.in_ok-at.at.items c.deref-6.result.now c.deref-in-None-2.result.now c.deref.result.now c.deref-4.result.now r
    c.requires.net c.requires.start c.deref.ensures.value c.in_ok-reached.ensures.found
    (units_found c.args.places.now c.args.start c.in_ok-reached.reached.items c.deref-3.result.now c.in_ok-at.at.items c.deref-2.result.now c.deref.result.now c.requires.net c.deref.ensures.value c.deref-2.ensures.value c.deref-3.ensures.value c.in_ok-at.ensures c.in_ok-reached.ensures.found)
    c.deref-4.ensures.value c.deref-5.ensures.value c.deref-6.ensures.value c.deref-in-None.ensures.value c.deref-in-None-2.ensures.value c.in-None.ensures answer)
    c.without_own_fault.ensures
