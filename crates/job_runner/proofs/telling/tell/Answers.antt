use Rattle.std.proofs.Common.{refl, sym, ap, subst, ◌∙◌, List, ℕ, length, get_or, take}
use Rattle.std.proofs.lemmas.List.{length-set}
use Rattle.frequency_pick.specs.Counts.{Count, StandsFor}
use Rattle.job_runner.specs.Run.{with_subs}
use Rattle.job_runner.proofs.ToldCounts.{told_more}
use Rattle.job_runner.proofs.telling.tell.Goals as goal

pub loop-i-preserved : goal.loop-i-preserved
loop-i-preserved c =
    let before = c.loop-i.invariant in
    let ns = c.args.counts.now in
    let i = c.loop-i.i in
    record {
      subs = ap (λ (h : List (List ℕ)). length h) c.push.ensures.kept ∙ length-set _ _ _ ∙ before.subs;
      stands = λ cs stands.
          let told = c.push.ensures.stands (with_subs 1 (take i ns) cs) (before.stands cs stands) in
          subst (λ (l : List Count). StandsFor c.push.new.self l)
          (sym (told_more ns i (get_or ns i 0) cs c.loop-i-test.true refl)) told;
    }
