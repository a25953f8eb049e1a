use Rattle.std.proofs.Common.{◌∙◌, subst, sym}
use Rattle.bound_checker.specs.Counted.{IsCountAfter}
use Rattle.bound_checker.specs.Lines.{program_of}
use Rattle.bound_checker.proofs.Deciding.{decided}
use Rattle.bound_checker.proofs.Verdicts.{long_within, of_region, region_order, sound_units}
use Rattle.bound_checker.proofs.count.counted.Goals as goal

pub callee_write-callee-requires-clause-low : goal.callee_write-callee-requires-clause-low
callee_write-callee-requires-clause-low c = sound_units c.args.code.now c.args.g.now c.requires.input.whole c.requires.input.graph

pub callee_write-callee-requires-clause-order : goal.callee_write-callee-requires-clause-order
callee_write-callee-requires-clause-order c =
    region_order c.args.g.now c.args.region c.first_number-lo.result c.first_number-hi.result c.requires.header
    (of_region c.args.code.now c.args.g.now c.args.region _ _ c.from.result c.from-2.result _ _ (c.as_slice.ensures.value ∙ c.requires.proved.addresses_are) (c.as_slice-2.ensures.value ∙ c.requires.proved.addresses_are) c.from.ensures c.from-2.ensures c.first_number-lo.ensures c.first_number-hi.ensures)

pub walk-w-requires-clause-order : goal.walk-w-requires-clause-order
walk-w-requires-clause-order c =
    region_order c.args.g.now c.args.region c.first_number-lo.result c.first_number-hi.result c.requires.header
    (of_region c.args.code.now c.args.g.now c.args.region _ _ c.from.result c.from-2.result _ _ (c.as_slice.ensures.value ∙ c.requires.proved.addresses_are) (c.as_slice-2.ensures.value ∙ c.requires.proved.addresses_are) c.from.ensures c.from-2.ensures c.first_number-lo.ensures c.first_number-hi.ensures)

pub returns-clause-answer : goal.returns-clause-answer
returns-clause-answer c = λ loops mask.
    subst (IsCountAfter (program_of c.args.code.now c.args.g.now c.args.facts.now loops mask) c.args.region c.args.r) (sym c.verdict.ensures)
    (decided c.args.code.now c.args.g.now c.args.facts.now c.args.region c.args.r c.first_number-lo.result c.first_number-hi.result loops mask c.walk-w.result c.callee_write-callee.result
    (record {
      graph = c.requires.input.graph;
      of = of_region c.args.code.now c.args.g.now c.args.region _ _ c.from.result c.from-2.result _ _ (c.as_slice.ensures.value ∙ c.requires.proved.addresses_are) (c.as_slice-2.ensures.value ∙ c.requires.proved.addresses_are) c.from.ensures c.from-2.ensures c.first_number-lo.ensures c.first_number-hi.ensures;
      within = long_within c.args.g.now _ _ c.first_number-hi.result (c.as_slice-2.ensures.value ∙ c.requires.proved.addresses_are) c.first_number-hi.ensures;
    })
    c.requires.header c.walk-w.ensures (c.callee_write-callee.ensures.least c.args.facts.now loops mask))
