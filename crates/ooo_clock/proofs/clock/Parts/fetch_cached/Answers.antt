use Rattle.std.proofs.Common.{◌∷◌, true, length, length-append, ap, sym, arith, ◌∙◌, subst}
use Rattle.cache_lru.specs.Contents.{StandsForAddresses, shape_of}
use Rattle.cache_lru.specs.Recency.{hits_at}
use Rattle.core_window.specs.declared.records.Event.TheVariants.{Fetch}
use Rattle.ooo_clock.proofs.Fetched.{FetchedTo, cached-hit, cached-miss, entered-sound, fetch-room, fetch-left}
use Rattle.ooo_clock.proofs.Finished.{AppliedAs}
use Rattle.ooo_clock.specs.Shows.{Stays}
use Rattle.ooo_clock.specs.declared.clock.Parts.{Parts}
use Rattle.ooo_clock.proofs.clock.Parts.fetch_cached.Goals as goal

pub enter-requires-clause-room : goal.enter-requires-clause-room
enter-requires-clause-room c =
    omega (arith, c.requires.sound.times, c.requires.sound.room, fetch-room c.args.self.now.window c.args.state.now.mips c.args.guess c.requires.enabled)

pub returns-then-hit-clause-shows : goal.returns-then-hit-clause-shows
returns-then-hit-clause-shows c =
    let r = c.args.self.now in
    let x = c.args.state.now.mips in
    let a : AppliedAs r.window x (Fetch c.args.guess) true c.enter.new.self.window c.enter.new.state.mips =
    record { enabled = sym c.requires.enabled; core = c.enter.ensures.window; state = c.enter.ensures.state; stands = c.enter.ensures.stands } in
    let g : FetchedTo r c.enter.new.self _ _ r.fetch_free r.arrived c.access-hit.new.self =
    record { parts = c.enter.ensures.parts; core_is = c.enter.ensures.window; times_are = c.enter.ensures.times } in
    λ numbers q h. cached-hit r c.enter.new.self x c.enter.new.state.mips numbers q c.args.guess _ c.access-hit.new.self h (fetch-left r.window x c.args.guess _ _ a)
    (ap (λ at. hits_at (shape_of r.icache) at q.fetched) (sym c.requires.pc) ∙ sym (c.access-hit.ensures.hit q.fetched h.icache) ∙ c.if-hit.true) g
    (subst (λ at. StandsForAddresses c.access-hit.new.self (at ∷ q.fetched)) c.requires.pc (c.access-hit.ensures.stands q.fetched h.icache))

pub returns-then-hit-clause-sound : goal.returns-then-hit-clause-sound
returns-then-hit-clause-sound c =
    let r = c.args.self.now in
    let x = c.args.state.now.mips in
    let n = c.enter.new.self in
    let window = c.enter.ensures.window in
    let a : AppliedAs r.window x (Fetch c.args.guess) true n.window c.enter.new.state.mips =
    record { enabled = sym c.requires.enabled; core = window; state = c.enter.ensures.state; stands = c.enter.ensures.stands } in
    let parts = c.enter.ensures.parts in
    let stays : Stays r n =
    record {
      pace = ap (λ (t : Parts). t.pace) parts;
      cycle = ap (λ (t : Parts). t.cycle) parts;
      icache = ap (λ (t : Parts). shape_of t.icache) parts ∙ c.access-hit.ensures.shape;
      dcache = ap (λ (t : Parts). shape_of t.dcache) parts;
    } in
    entered-sound r n x c.enter.new.state.mips c.args.guess c.requires.sound a (ap length c.enter.ensures.times ∙ length-append r.times.items _)
    c.enter.ensures.capacity stays

pub returns-else-hit-clause-shows : goal.returns-else-hit-clause-shows
returns-else-hit-clause-shows c =
    let r = c.args.self.now in
    let x = c.args.state.now.mips in
    λ numbers q h. cached-miss r c.miss.new.self x numbers q c.args.guess _ c.access-hit.new.self h
    (ap (λ at. hits_at (shape_of r.icache) at q.fetched) (sym c.requires.pc) ∙ sym (c.access-hit.ensures.hit q.fetched h.icache) ∙ c.if-hit.false)
    c.miss.ensures
    (subst (λ at. StandsForAddresses c.access-hit.new.self (at ∷ q.fetched)) c.requires.pc (c.access-hit.ensures.stands q.fetched h.icache))
