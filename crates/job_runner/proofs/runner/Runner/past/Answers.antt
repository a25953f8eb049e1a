use Rattle.std.proofs.Common.{ap, ◌∙◌, List, ◌∷◌, ℕ, length}
use Rattle.std.proofs.lemmas.List.{length-set}
use Rattle.frequency_pick.specs.Counts.{count}
use Rattle.job_runner.proofs.runner.Runner.past.Goals as goal

pub invariant_of-self : goal.invariant_of-self
invariant_of-self c =
    let told = c.self.invariant in
    record {
      counts = count c.args.sub c.args.cycles ∷ told.counts;
      stands = c.push.ensures.stands told.counts told.stands;
      subs = ap (λ (h : List (List ℕ)). length h) c.push.ensures.kept ∙ length-set _ _ _ ∙ told.subs;
    }
