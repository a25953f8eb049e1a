-- What one state of the modes hands to the next.
use Rattle.std.proofs.Common.{◌≡◌, refl, sym, ap, subst, ◌∙◌, ℕ, ◌+◌, ◌*◌, ◌≤◌, List, length, arith}
use Rattle.std.specs.Prelude.{slice_index, None}
use Rattle.mips_ref.specs.Mips.{Held, Mips}
use Rattle.core_window.specs.Beside.{Stands}
use Rattle.core_window.specs.Core.{Core}
use Rattle.ooo_clock.specs.Clock.{Predicts, in_flight_of, opening, speeds_at}
use Rattle.ooo_clock.specs.Cycle.{cycles_of}
use Rattle.ooo_clock.specs.Fasts.{Clocked, IsAt}
use Rattle.frequency_pick.specs.declared.plans.Pair.{Pair}
use Rattle.timed_jobs.specs.Pace.{pcs_of}
use Rattle.mode_states.specs.Course.{Course, IsMissed, clock_at, ending_at, progress_at, sub_at}
use Rattle.mode_states.specs.Ends.{ComesTo, EndedSo, IsAfter, MissedSo, course_of}
use Rattle.mode_states.specs.Fits.{IsFresh, IsOpened, progress_of}
use Rattle.mode_states.specs.Kept.{period_at, watchdogs_of}
use Rattle.mode_states.specs.Loop.{AreWatchdogs, HasEnded, HasRunOut, IsRunning, course_from}
use Rattle.mode_states.specs.Progress.{Progress, no_progress}
use Rattle.mode_states.specs.Views.{Released, Resting, Waiting}
use Rattle.mode_states.specs.declared.ending.Ending.{Ending}
use Rattle.mode_states.specs.declared.kept.Kept.{Kept}
use Rattle.mode_states.specs.declared.watch.Watch.{Watch}
use Rattle.mode_states.proofs.InOrder.{IsOrdered, exact_count}
use Rattle.mode_states.proofs.Follows.{Follows, OpensOn, follows}
use Rattle.mode_states.proofs.Runs.{core_shown, numbers_shown, state_shown}
use Rattle.mode_states.proofs.Stays.{never_missed}

-- the course of a core that is opened for a released job is the job's
pub same_course : (p : Predicts) (k : Kept) (x : Held) (pair : Pair) (fast : Clocked)
    (numbers cuts watchdogs : List ℕ) → fast.machine ≡ k.machine
    → IsOpened (period_at k pair.a) x fast → cuts ≡ k.cuts → watchdogs ≡ watchdogs_of k pair
    → course_from p fast x.mips numbers cuts watchdogs ≡ course_of p
    (record { kept = k; state = x; pair = pair }) numbers
same_course p k x pair fast numbers cuts watchdogs machine o cuts_are watchdogs_are =
    let speeds : fast.speeds ≡ speeds_at k.machine (period_at k pair.a) = o.speeds ∙ ap
    (λ m. speeds_at m (period_at k pair.a)) machine in
    λ i. record {
      speeds = speeds i;
      predicts = p;
      opening = opening (machine i).rob x.mips numbers;
      cuts = cuts_are i;
      watchdogs = watchdogs_are i;
    }

opening_state : (rob : ℕ) (x : Mips) (numbers : List ℕ) → (opening rob x numbers).state ≡ x
unfolding opening
opening_state rob x numbers = refl

-- a course opens on the state beside which the core stands
pub opens_on : (p : Predicts) (fast : Clocked) (x : Held) (period : ℕ) (numbers cuts watchdogs : List ℕ)
    → IsOpened period x fast
    → OpensOn (course_from p fast x.mips numbers cuts watchdogs) x.mips
opens_on p fast x period numbers cuts watchdogs o =
    let q = opening fast.machine.rob x.mips numbers in
    let core : q.core ≡ fast.core = core_shown fast x.mips numbers q (o.clock numbers) in
    let state = opening_state fast.machine.rob x.mips numbers in
    record {
      state = state;
      stands = subst (λ y. Stands q.core y) (sym state) (subst (λ c. Stands c x.mips) (sym core) o.beside.stands);
      goes_on = ap (λ (c : Core). c.ending) core ∙ o.beside.goes_on;
    }

-- the run of the course begins
pub begins : (p : Predicts) (fast : Clocked) (x : Held) (period : ℕ) (numbers cuts watchdogs : List ℕ) (w : Watch)
    → IsOpened period x fast → IsFresh (length cuts) w
    → IsRunning (course_from p fast x.mips numbers cuts watchdogs) x x fast w numbers
unfolding cycles_of progress_at
begins p fast x period numbers cuts watchdogs w o fresh =
    let c = course_from p fast x.mips numbers cuts watchdogs in
    let starts = opens_on p fast x period numbers cuts watchdogs o in
    let none : length w.counts.items ≡ 0 = ap (λ (l : List ℕ). length l) fresh.counts in
    let at : IsAt fast x.mips numbers (clock_at c 0) = o.clock numbers in
    let start : ◌≡◌ {A = Progress} (progress_of w) no_progress = λ i. record
    { counts = fresh.counts i; last = fresh.last i } in
    record {
      clock = subst (λ n. IsAt fast x.mips numbers (clock_at c n)) (sym o.cycle) at;
      beside = o.beside;
      speeds = refl;
      computed = refl;
      progress = start ∙ ap (progress_at c) (sym o.cycle);
      watching = record { last = omega (arith, fresh.last, o.cycle); sub = omega (arith, none); room = fresh.room };
      goes_on = λ m l. let here : 0 ≡ m = omega (arith, l, o.cycle) in subst
          (λ n. ending_at c n ≡ None) here starts.goes_on;
      never = λ m l. absurd (omega (arith, l, o.cycle));
      early = omega (arith, o.cycle);
    }

-- the reference has come to the state
pub comes_to : (c : Course) (x y : Mips) (n : ℕ) (w : Watch) → IsOrdered c.cuts x → Follows c x n
    → y ≡ (clock_at c n).state → progress_of w ≡ progress_at c n
    → length w.counts.items ≤ length c.cuts → ComesTo c.cuts x y (sub_at c n)
comes_to c x y n w ordered f e progress few =
    let count : length w.counts.items ≡ sub_at c n = ap (λ (p : Progress). length p.counts) progress in
    record {
      steps = f.steps;
      went = f.went;
      is = e ∙ f.state;
      sub_is = exact_count c.cuts (pcs_of f.steps x) (sub_at c n) (omega (arith, few, count)) f.met (f.unmet ordered);
    }

-- the watch has come as far as the course
pub sub_is : (c : Course) (n : ℕ) (w : Watch) → progress_of w ≡ progress_at c n → length w.counts.items ≡ sub_at c n
sub_is c n w progress = ap (λ (p : Progress). length p.counts) progress

-- a watchdog has run out: a checkpoint is missed
pub missed_so : (c : Course) (f : Released) (d : Waiting) (fast : Clocked) (w : Watch) (numbers : List ℕ)
    → OpensOn c f.state.mips → IsOrdered c.cuts f.state.mips
    → AreWatchdogs (length c.cuts) c.watchdogs → HasRunOut c f.state d.state fast w numbers
    → d.kept ≡ f.kept → d.pair ≡ f.pair → d.counts ≡ w.counts.items → d.sub ≡ length w.counts.items + 1
    → d.at ≡ fast.cycle
    → d.flight ≡ in_flight_of (clock_at c fast.cycle) → MissedSo c f d numbers
missed_so c f d fast w numbers opens ordered dogs out kept pair counts sub at flight =
    let r = out.running in
    let n : ℕ = fast.cycle in
    let q = clock_at c n in
    let ended = sub_is c n w r.progress in
    let state : d.state.mips ≡ q.state = sym (state_shown fast d.state.mips numbers q r.clock) in
    let follow = follows c f.state.mips opens n (λ m l. r.goes_on m (omega (arith, l))) in
    let missed : IsMissed c n = record {
      goes_on = r.goes_on n (omega arith);
      late = subst (λ i. slice_index c.watchdogs i ≤ n) ended out.late;
    } in
    let back = sym at in
    record {
      missed = subst (λ i. IsMissed c i) back missed;
      least = λ m l. r.never m (omega (arith, l, at));
      few = omega (arith, at, r.early, dogs.rise (length w.counts.items) (length c.cuts) r.watching.sub (omega arith));
      kept = kept;
      pair = pair;
      sub = sub ∙ ap (λ i. i + 1) (ended ∙ ap (sub_at c) back);
      counts = counts ∙ ap (λ (p : Progress). p.counts) r.progress ∙ ap (λ i. (progress_at c i).counts) back;
      flight = flight ∙ ap (λ i. in_flight_of (clock_at c i)) back;
      after = subst (λ i. IsAfter c i f.state d.state numbers) back (record {
        mips = state;
        computed = r.computed;
        numbers_are = sym (numbers_shown fast d.state.mips numbers q r.clock);
      });
      reference = subst (λ i. ComesTo c.cuts f.state.mips d.state.mips (sub_at c i)) back
          (comes_to c f.state.mips d.state.mips n w ordered follow state r.progress r.watching.sub);
    }

-- the job has ended in fast mode
pub ended_so : (c : Course) (f : Released) (i : Resting) (e : Ending) (fast : Clocked) (w : Watch) (numbers : List ℕ)
    → OpensOn c f.state.mips
    → HasEnded c f.state i.state fast w numbers e.step
    → i.kept ≡ f.kept → i.counts ≡ w.counts.items → e.switch_ps ≡ 0
    → e.end_ps ≡ f.kept.machine.start_ps + fast.cycle * period_at f.kept f.pair.a → EndedSo c f i e numbers
ended_so c f i e fast w numbers opens h kept counts switch_is end_is =
    let n : ℕ = fast.cycle in
    let q = clock_at c n in
    let state : i.state.mips ≡ q.state = sym (state_shown fast i.state.mips numbers q h.clock) in
    let follow = follows c f.state.mips opens n h.goes_on in
    record {
      cycles = n;
      ended = h.ended;
      least = h.goes_on;
      never = never_missed c n e.step h.ended h.never;
      few = h.few;
      kept = kept;
      counts = counts ∙ ap (λ (p : Progress). p.counts) h.progress;
      switch_is = switch_is;
      end_is = end_is;
      after = record
          { mips = state; computed = h.computed; numbers_are = sym (numbers_shown fast i.state.mips numbers q h.clock) };
      reference = record { steps = follow.steps; ends = follow.answer e.step h.ended; is = state ∙ follow.state };
    }
