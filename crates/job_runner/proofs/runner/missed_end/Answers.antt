use Rattle.std.proofs.Common.{ap, subst, ◌∙◌, List, ◌∷◌, ℕ, length, arith}
use Rattle.std.proofs.lemmas.List.{length-set}
use Rattle.frequency_pick.specs.Counts.{count}
use Rattle.mode_states.specs.Ends.{SimpleEnd}
use Rattle.mode_states.specs.Views.{Going}
use Rattle.mode_states.specs.declared.kept.Kept.{Kept}
use Rattle.job_runner.specs.Run.{with_subs}
use Rattle.job_runner.specs.Running.{switched}
use Rattle.job_runner.proofs.Ends.{same_ending, told_missed}
use Rattle.job_runner.proofs.runner.missed_end.Goals as goal

pub invariant_of-runner : goal.invariant_of-runner
invariant_of-runner c =
    let told = c.requires.told in
    let long = ap (λ (h : List (List ℕ)). length h) c.push.ensures.kept ∙ length-set _ _ _ in
    let kept = c.run-idle.ensures.ends.kept ∙ ap (λ (g : Going). g.kept) c.switch.ensures in
    let cuts = ap (λ (k : Kept). length k.cuts) kept in
    record {
      counts = count c.sub-sub.result c.bound.result ∷ with_subs 1 c.counts.result.now told.counts;
      stands = c.push.ensures.stands _ (c.tell.ensures.stands told.counts told.stands);
      subs = omega (arith, long, c.tell.ensures.subs, told.subs, cuts);
    }

pub returns-clause-ends : goal.returns-clause-ends
returns-clause-ends c =
    same_ending (switched c.args.draining) c.run-idle.result.0 c.run-idle.result.1
    (subst (λ g. SimpleEnd g c.run-idle.result.0 c.run-idle.result.1) c.switch.ensures c.run-idle.ensures.ends)

pub returns-clause-stands : goal.returns-clause-stands
returns-clause-stands c = λ cs stands.
    let d = c.args.draining in
    let kept = c.run-idle.ensures.ends.kept ∙ ap (λ (g : Going). g.kept) c.switch.ensures in
    let counts = c.counts.ensures.value ∙ c.run-idle.ensures.ends.counts ∙ ap (λ (g : Going). g.counts) c.switch.ensures
    in
    told_missed c.push.new.self d c.run-idle.result.0.kept c.args.pair c.sub-sub.result c.bound.result
    c.counts.result.now cs c.sub-sub.ensures.value kept counts c.bound.ensures
    (c.push.ensures.stands (with_subs 1 c.counts.result.now cs) (c.tell.ensures.stands cs stands))
