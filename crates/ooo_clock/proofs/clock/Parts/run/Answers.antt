use Rattle.std.proofs.Common.{true, false, ap, sym, ◌∙◌, subst}
use Rattle.ooo_clock.proofs.Issued.{plain-shows, view-if}
use Rattle.ooo_clock.specs.Moves.{ends_after, load_with}
use Rattle.ooo_clock.specs.Shows.{Shows, speeds_of}
use Rattle.ooo_clock.proofs.clock.Parts.run.Goals as goal

pub returns-in-None-clause-shows : goal.returns-in-None-clause-shows
returns-in-None-clause-shows c =
    λ x numbers q h. subst (Shows c.ends_after.new.self x numbers)
    (sym (view-if (speeds_of c.args.self.now) q c.args.k c.args.t q.core c.args.v true (sym c.loads_now.ensures ∙ c.if-loads_now.true)
    ∙ ap (load_with (speeds_of c.args.self.now) q c.args.k c.args.t q.core) c.in-None.is))
    (plain-shows c.args.self.now c.ends_after.new.self x numbers q c.args.k c.args.t 1 h c.ends_after.ensures.parts c.ends_after.ensures.times)

pub returns-else-loads_now-clause-shows : goal.returns-else-loads_now-clause-shows
returns-else-loads_now-clause-shows c =
    λ x numbers q h. subst (Shows c.ends_after-else-loads_now.new.self x numbers)
    (ap (λ n. ends_after q c.args.k c.args.t q.core n) c.latency-latency.ensures
    ∙ sym (view-if (speeds_of c.args.self.now) q c.args.k c.args.t q.core c.args.v false (sym c.loads_now.ensures ∙ c.if-loads_now.false)))
    (plain-shows c.args.self.now c.ends_after-else-loads_now.new.self x numbers q c.args.k c.args.t c.latency-latency.result h
    c.ends_after-else-loads_now.ensures.parts c.ends_after-else-loads_now.ensures.times)
