-- What holds of a course while it is run.
use Rattle.std.proofs.Common.{◌≡◌, refl, sym, ap, subst, ◌∙◌, inl, inr, ℕ, suc, ◌+◌, ◌-◌, ◌≤◌, ◌<◌, Bool, true, false, List, [], ◌∷◌, length, get_or, None, arith, length-append}
use Rattle.std.proofs.lemmas.Bool.{cases_lt}
use Rattle.std.specs.Prelude.{slice_get, slice_index, vec_capacity, if◌then◌else◌}
use Rattle.mips_ref.specs.Mips.{Held, Mips}
use Rattle.mips_ref.specs.declared.records.Step.{Step}
use Rattle.core_window.specs.Core.{Core}
use Rattle.ooo_clock.specs.Clock.{Clock}
use Rattle.ooo_clock.specs.Cycle.{cycled_of, cycles_of}
use Rattle.ooo_clock.specs.Fasts.{Clocked, IsAt, StandsBeside, clock_with, ended_by}
use Rattle.ooo_clock.specs.declared.ending.CycleEnd.{CycleEnd}
use Rattle.ooo_clock.specs.declared.ending.CycleEnd.TheVariants as cycle
use Rattle.mode_states.specs.Course.{Course, IsMissed, clock_at, ending_at, pcs_at, progress_at}
use Rattle.mode_states.specs.Fits.{HoldsCounts, IsWatching, progress_of}
use Rattle.mode_states.specs.Loop.{AreWatchdogs, HasEnded, IsRunning}
use Rattle.mode_states.specs.Progress.{Progress, all_passed, ended_in, is_cut, passed}
use Rattle.mode_states.specs.declared.watch.Watch.{Watch}

-- the core of a clock is that of the fast core which shows it
pub core_shown : (fast : Clocked) (x : Mips) (numbers : List ℕ) (q : Clock) → IsAt fast x numbers q → q.core ≡ fast.core
unfolding clock_with
core_shown fast x numbers q at = ap (λ (r : Clock). r.core) at.clock

pub state_shown : (fast : Clocked) (x : Mips) (numbers : List ℕ) (q : Clock) → IsAt fast x numbers q → q.state ≡ x
unfolding clock_with
state_shown fast x numbers q at = ap (λ (r : Clock). r.state) at.clock

pub numbers_shown : (fast : Clocked) (x : Mips) (numbers : List ℕ) (q : Clock) → IsAt fast x numbers q
    → q.numbers ≡ numbers
unfolding clock_with
numbers_shown fast x numbers q at = ap (λ (r : Clock). r.numbers) at.clock

-- so many sub-tasks have ended by what is known of a watch
watched : (c : Course) (fast : Clocked) (w : Watch) → progress_of w ≡ progress_at c fast.cycle
    → length w.counts.items ≡ length (progress_at c fast.cycle).counts
watched c fast w progress = ap (λ (p : Progress). length p.counts) progress

-- no checkpoint is missed before the watchdog
not_late : (c : Course) (fast : Clocked) (w : Watch) → progress_of w ≡ progress_at c fast.cycle
    → fast.cycle < slice_index c.watchdogs (length w.counts.items)
    → ¬ (IsMissed c fast.cycle)
not_late c fast w progress early missed =
    let late : slice_index c.watchdogs (length w.counts.items) ≤ fast.cycle =
    subst (λ i. slice_index c.watchdogs i ≤ fast.cycle) (sym (watched c fast w progress)) missed.late in
    omega (arith, early, late)

-- what holds of the numbers below one, and of it, holds of those below the next one
pub one_more : (P : ℕ → Type 0) (n m : ℕ) → m ≡ suc n → ((i : ℕ) → i < n → P i) → P n → (i : ℕ) → i < m → P i
one_more P n m e below here i l = elim (cases_lt i n) [
  | inl before ↦ below i before
  | inr later ↦ let same : n ≡ i = omega (arith, l, later, e) in subst P same here
]

-- a sub-task that has ended stays ended
grown_one : (cuts : List ℕ) (n : ℕ) (p : Progress) (pc : ℕ) → length p.counts ≤ length (passed cuts n p pc).counts
grown_one cuts n p pc = by (is_cut (slice_get cuts (length p.counts)) pc)
  where
    by : (b : Bool) → length p.counts ≤ (let q : Progress = if b then ended_in n p else p in length q.counts)
    by true = omega (arith, length-append p.counts ((n - p.last) ∷ []))
    by false = omega arith

pub grown_counts : (cuts : List ℕ) (n : ℕ) (p : Progress) (pcs : List ℕ)
    → length p.counts ≤ length (all_passed cuts n p pcs).counts
unfolding all_passed
grown_counts cuts n p [] = omega arith
grown_counts cuts n p (pc ∷ pcs) = omega (arith, grown_one cuts n p pc, grown_counts cuts n (passed cuts n p pc) pcs)

-- the count of a sub-task that ends finds room
pub holds_more : (cuts n : ℕ) (w u : Watch) → IsWatching cuts n w → progress_of u ≡ ended_in n (progress_of w)
    → vec_capacity u.counts ≡ vec_capacity w.counts
    → HoldsCounts cuts (length u.counts.items) (vec_capacity u.counts)
holds_more cuts n w u watching progress capacity =
    let counts = ap (λ (p : Progress). length p.counts) progress in
    record {
      few = omega (arith, watching.sub, counts, length-append w.counts.items ((n - w.last) ∷ []));
      room = omega (arith, watching.room, capacity);
    }

-- the test of the loop
pub before_watchdog : (fast : Clocked) (w : Watch) (watchdogs : List ℕ) (n sub : ℕ) → n ≡ fast.cycle
    → sub ≡ length w.counts.items
    → n < get_or watchdogs sub 0 → fast.cycle < slice_index watchdogs (length w.counts.items)
before_watchdog fast w watchdogs n sub n_is sub_is early =
    let there = ap (λ i. get_or watchdogs i 0) sub_is in
    omega (arith, early, n_is, there)

-- what a cycle did to a course
pub record HasCycled (c : Course) (fast fast' : Clocked) (is is' : Held) (w w' : Watch) (numbers' : List ℕ)
    (end : CycleEnd) : Type 0 where
  pub clock : IsAt fast' is'.mips numbers' (cycled_of c.speeds c.predicts (clock_at c fast.cycle)).q
  pub ended : ended_by end ≡ (cycled_of c.speeds c.predicts (clock_at c fast.cycle)).ended
  pub cycle : fast'.cycle ≡ fast.cycle + 1
  pub speeds : fast'.speeds ≡ fast.speeds
  pub computed : is'.computed ≡ is.computed
  pub progress : progress_of w' ≡ all_passed c.cuts fast'.cycle (progress_of w) (pcs_at c fast.cycle)
  pub watching : IsWatching (length c.cuts) fast'.cycle w'

-- by what the calls for a cycle and for its pcs say
pub has_cycled : (c : Course) (fast fast' : Clocked) (is is' : Held) (w w' : Watch) (numbers numbers' : List ℕ)
    (end : CycleEnd) (n : ℕ) (pcs : List ℕ)
    → fast.speeds ≡ c.speeds → IsAt fast is.mips numbers (clock_at c fast.cycle)
    → ((q : Clock) → IsAt fast is.mips numbers q → IsAt fast' is'.mips numbers' (cycled_of fast.speeds c.predicts q).q)
    → ((q : Clock) → IsAt fast is.mips numbers q → fast'.commits ≡ (cycled_of fast.speeds c.predicts q).pcs)
    → ((q : Clock) → IsAt fast is.mips numbers q → ended_by end ≡ (cycled_of fast.speeds c.predicts q).ended)
    → fast'.cycle ≡ fast.cycle + 1 → fast'.speeds ≡ fast.speeds → is'.computed ≡ is.computed
    → n ≡ fast'.cycle → pcs ≡ fast'.commits
    → progress_of w' ≡ all_passed c.cuts n (progress_of w) pcs → IsWatching (length c.cuts) n w'
    → HasCycled c fast fast' is is' w w' numbers' end
has_cycled c fast fast' is is' w w' numbers numbers' end n pcs speeds at q commits ended cycle same computed n_is
    pcs_are progress watching =
    let y = clock_at c fast.cycle in
    record {
      clock = subst (λ s. IsAt fast' is'.mips numbers' (cycled_of s c.predicts y).q) speeds (q y at);
      ended = ended y at ∙ ap (λ s. (cycled_of s c.predicts y).ended) speeds;
      cycle = cycle;
      speeds = same;
      computed = computed;
      progress =
          progress ∙ (λ i. all_passed c.cuts (n_is i) (progress_of w) (pcs_are i))
          ∙ ap (λ l. all_passed c.cuts fast'.cycle (progress_of w) l)
          (commits y at ∙ ap (λ s. (cycled_of s c.predicts y).pcs) speeds);
      watching = subst (λ m. IsWatching (length c.cuts) m w') n_is watching;
    }

-- the cycle's number and progress are the course's
next_is : (fast fast' : Clocked) → fast'.cycle ≡ fast.cycle + 1 → fast'.cycle ≡ suc fast.cycle
next_is fast fast' e = omega (arith, e)

next_clock : (c : Course) (fast fast' : Clocked) (is is' : Held) (w w' : Watch) (numbers' : List ℕ) (end : CycleEnd)
    → HasCycled c fast fast' is is' w w' numbers' end → IsAt fast' is'.mips numbers' (clock_at c fast'.cycle)
unfolding cycles_of
next_clock c fast fast' is is' w w' numbers' end h =
    subst (λ m. IsAt fast' is'.mips numbers' (clock_at c m)) (sym (next_is fast fast' h.cycle)) h.clock

next_progress : (c : Course) (fast fast' : Clocked) (is is' : Held) (w w' : Watch) (numbers' : List ℕ) (end : CycleEnd)
    → progress_of w ≡ progress_at c fast.cycle → HasCycled c fast fast' is is' w w' numbers' end
    → progress_of w' ≡ progress_at c fast'.cycle
unfolding progress_at
next_progress c fast fast' is is' w w' numbers' end before h =
    let e = next_is fast fast' h.cycle in
    h.progress ∙ (λ i. all_passed c.cuts (e i) (before i) (pcs_at c fast.cycle)) ∙ ap (progress_at c) (sym e)

next_ending : (c : Course) (fast fast' : Clocked) (is is' : Held) (w w' : Watch) (numbers' : List ℕ) (end : CycleEnd)
    → HasCycled c fast fast' is is' w w' numbers' end → ending_at c fast'.cycle ≡ ended_by end
unfolding cycles_of cycled_of
next_ending c fast fast' is is' w w' numbers' end h = ap (ending_at c) (next_is fast fast' h.cycle) ∙ sym h.ended

-- a watchdog isn't passed before a sub-task ends
next_early : (c : Course) (fast fast' : Clocked) (is is' : Held) (w w' : Watch) (numbers' : List ℕ) (end : CycleEnd)
    → AreWatchdogs (length c.cuts) c.watchdogs
    → fast.cycle < slice_index c.watchdogs (length w.counts.items) → HasCycled c fast fast' is is' w w' numbers' end
    → fast'.cycle ≤ slice_index c.watchdogs (length w'.counts.items)
next_early c fast fast' is is' w w' numbers' end dogs early h =
    let grown = grown_counts c.cuts fast'.cycle (progress_of w) (pcs_at c fast.cycle) in
    let count : length w'.counts.items ≡ length
    (all_passed c.cuts fast'.cycle (progress_of w) (pcs_at c fast.cycle)).counts = ap
    (λ (p : Progress). length p.counts) h.progress in
    let more : length w.counts.items ≤ length w'.counts.items = omega (arith, grown, count) in
    omega (arith, early, h.cycle, dogs.rise (length w.counts.items) (length w'.counts.items) more h.watching.sub)

-- the run goes on
pub runs_on : (c : Course) (was is is' : Held) (fast fast' : Clocked) (w w' : Watch) (numbers numbers' : List ℕ)
    (end : CycleEnd)
    → AreWatchdogs (length c.cuts) c.watchdogs → IsRunning c was is fast w numbers
    → fast.cycle < slice_index c.watchdogs (length w.counts.items)
    → HasCycled c fast fast' is is' w w' numbers' end → StandsBeside fast' is'.mips
    → IsRunning c was is' fast' w' numbers'
runs_on c was is is' fast fast' w w' numbers numbers' end dogs r early h beside =
    let clock = next_clock c fast fast' is is' w w' numbers' end h in
    let going : ending_at c fast'.cycle ≡ None =
    ap (λ (k : Core). k.ending) (core_shown fast' is'.mips numbers' (clock_at c fast'.cycle) clock) ∙ beside.goes_on in
    record {
      clock = clock;
      beside = beside;
      speeds = h.speeds ∙ r.speeds;
      computed = h.computed ∙ r.computed;
      progress = next_progress c fast fast' is is' w w' numbers' end r.progress h;
      watching = h.watching;
      goes_on = λ m l.
          one_more (λ i. ending_at c i ≡ None) fast'.cycle (suc fast'.cycle) refl
          (λ i low. r.goes_on i (omega (arith, low, h.cycle))) going m (omega (arith, l));
      never = one_more (λ i. ¬ (IsMissed c i)) fast.cycle fast'.cycle (next_is fast fast' h.cycle) r.never
          (not_late c fast w r.progress early);
      early = next_early c fast fast' is is' w w' numbers' end dogs early h;
    }

-- or the job has ended
pub runs_out : (c : Course) (was is is' : Held) (fast fast' : Clocked) (w w' ended : Watch)
    (numbers numbers' : List ℕ) (end : CycleEnd) (answer : Step)
    → AreWatchdogs (length c.cuts) c.watchdogs → IsRunning c was is fast w numbers
    → fast.cycle < slice_index c.watchdogs (length w.counts.items)
    → HasCycled c fast fast' is is' w w' numbers' end → end ≡ cycle.Ended answer
    → (n : ℕ) → n ≡ fast'.cycle → progress_of ended ≡ ended_in n (progress_of w')
    → HasEnded c was is' fast' ended numbers' answer
runs_out c was is is' fast fast' w w' ended numbers numbers' end answer dogs r early h ends n n_is progress =
    let before = next_progress c fast fast' is is' w w' numbers' end r.progress h in
    record {
      clock = next_clock c fast fast' is is' w w' numbers' end h;
      computed = h.computed ∙ r.computed;
      progress = progress ∙ (λ i. ended_in (n_is i) (before i));
      ended = next_ending c fast fast' is is' w w' numbers' end h ∙ ap ended_by ends;
      goes_on = λ m l. r.goes_on m (omega (arith, l, h.cycle));
      never = one_more (λ i. ¬ (IsMissed c i)) fast.cycle fast'.cycle (next_is fast fast' h.cycle) r.never
          (not_late c fast w r.progress early);
      few = omega
          (arith, early, h.cycle, dogs.rise (length w.counts.items) (length c.cuts) r.watching.sub (omega arith));
    }
