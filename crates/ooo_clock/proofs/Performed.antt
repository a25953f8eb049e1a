-- The phases of a cycle, one after the other.
use Rattle.std.proofs.Common.{◌≡◌, ◌+◌, ℕ, true, false, List, length, Option, Some, None, refl, sym, ap, ◌∙◌, subst}
use Rattle.std.specs.Prelude.{is_some}
use Rattle.mips_ref.specs.Mips.{Mips}
use Rattle.mips_ref.specs.declared.records.Step.{Step}
use Rattle.core_window.specs.Core.{Core}
use Rattle.core_window.specs.Events.{is_open}
use Rattle.ooo_clock.proofs.Committed.{words-of}
use Rattle.ooo_clock.proofs.Repeats.{speeds-stay, stays-on}
use Rattle.ooo_clock.specs.Clock.{Clock, Predicts, Speeds}
use Rattle.ooo_clock.specs.Cycle.{commits_in, cycle_of, repeat, unless_ended}
use Rattle.ooo_clock.specs.Moves.{Move, fetch_move, finish_move, issue_move}
use Rattle.ooo_clock.specs.Shows.{Shows, Stays, clock_of, speeds_of}
use Rattle.ooo_clock.specs.declared.clock.Parts.{Parts}

ended-closed : (o : Option Step) → is_some o ≡ true → is_open o ≡ false
ended-closed None e = cc
ended-closed (Some s) e = refl

going-open : (o : Option Step) → is_some o ≡ false → is_open o ≡ true
going-open None e = refl
going-open (Some s) e = cc

pub ended-shows : (p : Predicts) (r : Parts) (x : Mips) (numbers : List ℕ) (m : Move) → Shows r x numbers m.clock → is_some r.window.ending ≡ true
    → Shows r x numbers (unless_ended (speeds_of r) p (is_open m.clock.core.ending) m).clock
ended-shows p r x numbers m h ended =
    let closed : is_open m.clock.core.ending ≡ false =
    ap (λ (c : Core). is_open c.ending) (words-of r x numbers m.clock h).core ∙ ended-closed r.window.ending ended in
    subst (λ b. Shows r x numbers (unless_ended (speeds_of r) p b m).clock) (sym closed) h

-- three phases
pub going-shows : (p : Predicts) (r f i n : Parts) (x y z w : Mips) (numbers : List ℕ) (m : Move) → Shows r x numbers m.clock
    → is_some r.window.ending ≡ false → Stays r f → Stays f i
    → ((q : Clock) → Shows r x numbers q → Shows f y numbers (repeat (length r.window.entries) finish_move q).clock)
    → ((q : Clock) → Shows f y numbers q → Shows i z numbers (repeat f.pace.width (issue_move (speeds_of f)) q).clock)
    → ((q : Clock) → Shows i z numbers q → Shows n w numbers (repeat i.pace.width (fetch_move (speeds_of i) p) q).clock)
    → Shows n w numbers (unless_ended (speeds_of r) p (is_open m.clock.core.ending) m).clock
going-shows p r f i n x y z w numbers m h going sf si finishes issues fetches =
    let core = (words-of r x numbers m.clock h).core in
    let open_still : is_open m.clock.core.ending ≡ true = ap (λ (c : Core). is_open c.ending) core ∙ going-open r.window.ending going in
    let s = speeds_of r in
    let a = (repeat (length m.clock.core.entries) finish_move m.clock).clock in
    let finished : Shows f y numbers a =
    subst (λ k. Shows f y numbers (repeat k finish_move m.clock).clock) (ap (λ (c : Core). length c.entries) (sym core)) (finishes m.clock h) in
    let b = (repeat s.width (issue_move s) a).clock in
    let issued : Shows i z numbers b =
    subst (λ (v : Speeds). Shows i z numbers (repeat v.width (issue_move v) a).clock) (speeds-stay r f sf) (issues a finished) in
    let fetched : Shows n w numbers (repeat s.width (fetch_move s p) b).clock =
    subst (λ (v : Speeds). Shows n w numbers (repeat v.width (fetch_move v p) b).clock) (speeds-stay r i (stays-on r f i sf si)) (fetches b issued) in
    subst (λ t. Shows n w numbers (unless_ended s p t m).clock) (sym open_still) fetched

-- the next cycle
next-clock : Clock → Clock
next-clock q = record q { cycle = q.cycle + 1 }

pub next-shows : (r : Parts) (x : Mips) (numbers : List ℕ) (q : Clock) → Shows r x numbers q
    → Shows (record r { cycle = r.cycle + 1 }) x numbers (record q { cycle = q.cycle + 1 })
unfolding clock_of next-clock
next-shows r x numbers q h = record { clock = ap next-clock h.clock; icache = h.icache; dcache = h.dcache }

pub cycle-shows : (s : Speeds) (p : Predicts) (r : Parts) (x : Mips) (numbers : List ℕ) (q : Clock)
    → Shows r x numbers (unless_ended s p (is_open (commits_in s p q).clock.core.ending) (commits_in s p q)).clock
    → Shows (record r { cycle = r.cycle + 1 }) x numbers (cycle_of s p q).clock
unfolding cycle_of
cycle-shows s p r x numbers q h = next-shows r x numbers _ h
