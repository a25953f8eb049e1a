use Rattle.std.proofs.Common.{sym, ◌∙◌, subst}
use Rattle.ooo_clock.proofs.Issued.{hit-is, hits-shows, miss-is, misses-shows, port-is}
use Rattle.ooo_clock.specs.Shows.{Shows, speeds_of}
use Rattle.ooo_clock.proofs.clock.Parts.load.Goals as goal

pub returns-then-in_port-clause-shows : goal.returns-then-in_port-clause-shows
returns-then-in_port-clause-shows c =
    λ x numbers q h. subst (Shows c.load_misses.new.self x numbers)
    (sym (port-is (speeds_of c.args.self.now) q c.args.k c.args.t q.core c.args.at (sym c.in_port.ensures ∙ c.if-in_port.true)))
    (misses-shows c.args.self.now c.load_misses.new.self x numbers q.loaded q c.args.k c.args.t c.args.self.now.dcache h c.load_misses.ensures.parts
    c.load_misses.ensures.times h.dcache)

pub returns-then-hit-clause-shows : goal.returns-then-hit-clause-shows
returns-then-hit-clause-shows c =
    λ x numbers q h. subst (Shows c.load_hits.new.self x numbers)
    (sym (hit-is (speeds_of c.args.self.now) q c.args.k c.args.t q.core c.args.at (sym c.in_port.ensures ∙ c.if-in_port.false)
    (sym (c.access-hit.ensures.hit q.loaded h.dcache) ∙ c.if-hit.true)))
    (hits-shows c.args.self.now c.load_hits.new.self x numbers q c.args.k c.args.t c.args.at c.access-hit.new.self h c.load_hits.ensures.parts
    c.load_hits.ensures.times (c.access-hit.ensures.stands q.loaded h.dcache))

pub returns-else-hit-clause-shows : goal.returns-else-hit-clause-shows
returns-else-hit-clause-shows c =
    λ x numbers q h. subst (Shows c.load_misses-else-hit.new.self x numbers)
    (sym (miss-is (speeds_of c.args.self.now) q c.args.k c.args.t q.core c.args.at (sym c.in_port.ensures ∙ c.if-in_port.false)
    (sym (c.access-hit.ensures.hit q.loaded h.dcache) ∙ c.if-hit.false)))
    (misses-shows c.args.self.now c.load_misses-else-hit.new.self x numbers _ q c.args.k c.args.t c.access-hit.new.self h
    c.load_misses-else-hit.ensures.parts c.load_misses-else-hit.ensures.times (c.access-hit.ensures.stands q.loaded h.dcache))
