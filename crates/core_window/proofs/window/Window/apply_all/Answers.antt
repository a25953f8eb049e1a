use Rattle.std.proofs.Common.{ap, refl, ◌∙◌}
use Rattle.std.proofs.lemmas.List.{take_all}
use Rattle.core_window.proofs.EachEvent.{events-state}
use Rattle.core_window.proofs.Happened.{happened-more, happened-none}
use Rattle.core_window.specs.Core.{paired}
use Rattle.core_window.specs.Events.{all_happen}
use Rattle.core_window.proofs.window.Window.apply_all.Goals as goal

pub loop-e-init : goal.loop-e-init
loop-e-init c = record { happened = happened-none (paired c.args.self.now c.args.state.now.mips) c.requires; computed = refl }

pub loop-e-preserved : goal.loop-e-preserved
loop-e-preserved c =
    record {
      happened = happened-more (paired c.args.self.now c.args.state.now.mips) c.args.events.now c.loop-e.e-index _ c.loop-e.self c.apply.new.self
          c.loop-e.state.mips c.apply.new.state.mips c.loop-e-test.true c.loop-e.invariant.happened c.apply.ensures.core c.apply.ensures.state
          c.apply.ensures.stands;
      computed = c.apply.ensures.computed ∙ c.loop-e.invariant.computed;
    }

pub returns-clause-reference : goal.returns-clause-reference
returns-clause-reference c =
    let p = paired c.args.self.now c.args.state.now.mips in
    c.loop-e.invariant.happened.state
    ∙ ap (λ es. (all_happen p es).state) (take_all c.loop-e.e-index c.args.events.now c.loop-e-test.false)
    ∙ events-state p c.args.events.now
