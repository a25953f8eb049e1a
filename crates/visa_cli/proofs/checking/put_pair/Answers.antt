use Rattle.std.proofs.Common.{◌∙◌, refl, sym, ap}
use Rattle.frequency_pick.specs.Choice.{plan_of}
use Rattle.visa_cli.proofs.Telling.{watchdogs_few}
use Rattle.visa_cli.proofs.checking.put_pair.Goals as goal

pub put_plan-requires-clause-few : goal.put_plan-requires-clause-few
put_plan-requires-clause-few g c =
    watchdogs_few _ c.args.admitted.now c.args.a c.args.b (record { a = c.args.a; b = c.args.b }) c.in-Some.plan.now c.requires.fit c.requires.speculative c.requires.recovery refl
    (ap (λ t. plan_of t (record { a = c.args.a; b = c.args.b })) (sym c.plans.ensures) ∙ c.in-Some.ensures)
