use Rattle.std.proofs.Common.{◌+◌, None, Some, true, length, length-append, ap, sym, arith, ◌∙◌}
use Rattle.cache_lru.specs.Contents.{shape_of}
use Rattle.core_window.specs.declared.records.Event.TheVariants.{Fetch}
use Rattle.ooo_clock.proofs.Fetched.{FetchedTo, entered-sound, fetch-left, fetch-room, uncached-away, uncached-there}
use Rattle.ooo_clock.proofs.Finished.{AppliedAs}
use Rattle.ooo_clock.specs.Moves.{is_there}
use Rattle.ooo_clock.specs.Shows.{Stays}
use Rattle.ooo_clock.specs.declared.clock.Parts.{Parts}
use Rattle.ooo_clock.proofs.clock.Parts.fetch_uncached.Goals as goal

pub enter-requires-clause-room : goal.enter-requires-clause-room
enter-requires-clause-room c =
    omega (arith, c.requires.sound.times, c.requires.sound.room, fetch-room c.args.self.now.window c.args.state.now.mips c.args.guess c.requires.enabled)

pub returns-then-there-clause-shows : goal.returns-then-there-clause-shows
returns-then-there-clause-shows c =
    let r = c.args.self.now in
    let x = c.args.state.now.mips in
    let a : AppliedAs r.window x (Fetch c.args.guess) true c.enter.new.self.window c.enter.new.state.mips =
    record { enabled = sym c.requires.enabled; core = c.enter.ensures.window; state = c.enter.ensures.state; stands = c.enter.ensures.stands } in
    let g : FetchedTo r c.enter.new.self _ _ r.fetch_free None r.icache =
    record { parts = c.enter.ensures.parts; core_is = c.enter.ensures.window; times_are = c.enter.ensures.times } in
    λ numbers q h. uncached-there r c.enter.new.self x c.enter.new.state.mips numbers q c.args.guess _ h (fetch-left r.window x c.args.guess _ _ a)
    (ap (is_there r.arrived) (sym c.requires.pc) ∙ sym c.is_there-there.ensures ∙ c.if-there.true) g

pub returns-then-there-clause-sound : goal.returns-then-there-clause-sound
returns-then-there-clause-sound c =
    let r = c.args.self.now in
    let x = c.args.state.now.mips in
    let n = c.enter.new.self in
    let a : AppliedAs r.window x (Fetch c.args.guess) true n.window c.enter.new.state.mips =
    record { enabled = sym c.requires.enabled; core = c.enter.ensures.window; state = c.enter.ensures.state; stands = c.enter.ensures.stands } in
    let parts = c.enter.ensures.parts in
    let stays : Stays r n =
    record {
      pace = ap (λ (t : Parts). t.pace) parts;
      cycle = ap (λ (t : Parts). t.cycle) parts;
      icache = ap (λ (t : Parts). shape_of t.icache) parts;
      dcache = ap (λ (t : Parts). shape_of t.dcache) parts;
    } in
    entered-sound r n x c.enter.new.state.mips c.args.guess c.requires.sound a (ap length c.enter.ensures.times ∙ length-append r.times.items _)
    c.enter.ensures.capacity stays

pub returns-else-there-clause-shows : goal.returns-else-there-clause-shows
returns-else-there-clause-shows c =
    let r = c.args.self.now in
    let x = c.args.state.now.mips in
    λ numbers q h. uncached-away r c.miss.new.self x numbers q c.args.guess _ h
    (ap (is_there r.arrived) (sym c.requires.pc) ∙ sym c.is_there-there.ensures ∙ c.if-there.false)
    (c.miss.ensures ∙ ap (λ at. record r { fetch_free = r.cycle + r.pace.miss; arrived = Some at }) c.requires.pc)
