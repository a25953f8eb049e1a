-- What the run of a job in fast mode hands on.
use Rattle.std.proofs.Common.{◌≡◌, refl, sym, ap, subst, ◌∙◌, ℕ, ◌+◌, ◌-◌, ◌*◌, ◌≤◌, ◌^◌, max, List, length, arith}
use Rattle.std.specs.Prelude.{slice_index, Option, Some, None}
use Rattle.mips_ref.specs.Mips.{Held, Mips}
use Rattle.mips_ref.specs.declared.records.Step.{Step}
use Rattle.ooo_clock.specs.Clock.{Clock, Predicts, Speeds, in_flight_of}
use Rattle.ooo_clock.specs.Fasts.{Clocked, IsAt}
use Rattle.simple_pipe.specs.Pipe.{Piped}
use Rattle.frequency_pick.specs.declared.plans.Pair.{Pair}
use Rattle.mode_states.specs.Course.{Course, clock_at, sub_at}
use Rattle.mode_states.specs.Ends.{ComesTo, EndedSo, MissedSo, course_of}
use Rattle.mode_states.specs.Fits.{FitsDraining, FitsEnd, FitsFastRun, HoldsCounts}
use Rattle.mode_states.specs.Kept.{period_at, watchdogs_of}
use Rattle.mode_states.specs.Loop.{AreWatchdogs, HasRunOut, IsRunning, Stops, course_from}
use Rattle.mode_states.specs.Views.{Released, Resting, Waiting}
use Rattle.mode_states.specs.declared.ending.Ending.{Ending}
use Rattle.mode_states.specs.declared.kept.Kept.{Kept}
use Rattle.mode_states.specs.declared.watch.Watch.{Watch}
use Rattle.mode_states.proofs.Follows.{OpensOn, follows}
use Rattle.mode_states.proofs.Handing.{begins, comes_to, ended_so, missed_so, opens_on, same_course, sub_is as watched_sub}
use Rattle.mode_states.proofs.InTime.{cycles_in_time, deadline_small, few_cuts, plan_watchdogs, watchdogs_are}
use Rattle.mode_states.proofs.InOrder.{IsOrdered}
use Rattle.mode_states.proofs.KeptJobs.{leaves_kept, ordered}
use Rattle.mode_states.proofs.Runs.{state_shown}

abbrev pub released : Kept → Held → Pair → Released
released k x pair = record { kept = k; state = x; pair = pair }

-- the watchdogs of a released job
pub are_watchdogs : (k : Kept) (x : Held) (pair : Pair) (fast : Clocked) (pipe : Piped) (w : Watch)
    (cuts watchdogs : List ℕ) → FitsFastRun k x pair fast pipe w
    → cuts ≡ k.cuts → watchdogs ≡ watchdogs_of k pair → AreWatchdogs (length cuts) watchdogs
are_watchdogs k x pair fast pipe w cuts watchdogs f cuts_are dogs_are =
    let there = plan_watchdogs k f.opens.before pair f.opens.kept f.planned in
    subst (λ (l : List ℕ). AreWatchdogs (length l) watchdogs) (sym cuts_are)
    (subst (λ d. AreWatchdogs (length k.cuts) d) (sym (dogs_are ∙ watchdogs_are k pair f.planned)) there)

-- its run begins
pub runs : (p : Predicts) (k : Kept) (x : Held) (pair : Pair) (fast : Clocked) (pipe : Piped) (w : Watch)
    (numbers cuts watchdogs : List ℕ)
    → FitsFastRun k x pair fast pipe w → cuts ≡ k.cuts
    → IsRunning (course_from p fast x.mips numbers cuts watchdogs) x x fast w numbers
runs p k x pair fast pipe w numbers cuts watchdogs f cuts_are =
    begins p fast x (period_at k pair.a) numbers cuts watchdogs w f.opened
    (record {
      counts = f.watch.counts;
      last = f.watch.last;
      room = omega
          (arith, f.watch.room, ap (λ (l : List ℕ). length l) cuts_are);
    })

-- how it stopped, on the job's course
pub record HasStopped (c : Course) (x is : Held) (fast : Clocked) (w : Watch) (numbers : List ℕ)
    (o : Option Step) : Type 0 where
  pub stops : Stops c x is fast w numbers o
  pub opens : OpensOn c x.mips
  pub in_order : IsOrdered c.cuts x.mips
  pub dogs : AreWatchdogs (length c.cuts) c.watchdogs

pub has_stopped : (p : Predicts) (k : Kept) (x is : Held) (pair : Pair) (fast new : Clocked) (pipe : Piped)
    (w u : Watch) (numbers later cuts watchdogs : List ℕ)
    (o : Option Step) → FitsFastRun k x pair fast pipe w → cuts ≡ k.cuts → watchdogs ≡ watchdogs_of k pair
    → Stops (course_from p fast x.mips numbers cuts watchdogs) x is new u later o
    → HasStopped (course_of p (released k x pair) numbers) x is new u later o
has_stopped p k x is pair fast new pipe w u numbers later cuts watchdogs o f cuts_are dogs_are stops =
    let same = same_course p k x pair fast numbers cuts watchdogs f.core f.opened cuts_are dogs_are in
    subst (λ c. HasStopped c x is new u later o) same (record {
      stops = stops;
      opens = opens_on p fast x (period_at k pair.a) numbers cuts watchdogs f.opened;
      in_order = subst (λ l. IsOrdered l x.mips) (sym cuts_are) (ordered k x f.opens);
      dogs = are_watchdogs k x pair fast pipe w cuts watchdogs f cuts_are dogs_are;
    })

-- the counts of a run are those of the job
pub counts_held : (k : Kept) (cuts : List ℕ) (counts capacity : ℕ) → cuts ≡ k.cuts
    → HoldsCounts (length cuts) counts capacity → HoldsCounts (length k.cuts) counts capacity
counts_held k cuts counts capacity cuts_are h =
    subst (λ (l : List ℕ). HoldsCounts (length l) counts capacity) cuts_are h

-- where a watchdog has run out
pub few_subs : (k : Kept) (x is : Held) (pair : Pair) (fast new : Clocked) (pipe : Piped) (w u : Watch) (c : Course)
    (later : List ℕ) → FitsFastRun k x pair fast pipe w
    → c.cuts ≡ k.cuts → HasRunOut c x is new u later → length u.counts.items ≤ 31
few_subs k x is pair fast new pipe w u c later f cuts_are out =
    omega (
      arith,
      out.running.watching.sub,
      ap
          (λ (l : List ℕ). length l) cuts_are,
      few_cuts k f.opens.before f.opens.kept,
    )

pub drains : (p : Predicts) (k : Kept) (x is : Held) (pair : Pair) (fast new : Clocked) (pipe : Piped) (w u : Watch)
    (numbers later : List ℕ) (sub at flight : ℕ)
    → FitsFastRun k x pair fast pipe w → HasStopped (course_of p (released k x pair) numbers) x is new u later None
    → sub ≡ length u.counts.items + 1 → at ≡ new.cycle → flight ≤ max new.speeds.miss new.speeds.store
    → new.machine ≡ fast.machine
    → FitsDraining k is pair sub at flight new pipe
drains p k x is pair fast new pipe w u numbers later sub at flight f h sub_is at_is short machine =
    let c = course_of p (released k x pair) numbers in
    let r = h.stops.running in
    let n = new.cycle in
    let state = sym (state_shown new is.mips later (clock_at c n) r.clock) in
    let follow = follows c x.mips h.opens n (λ m l. r.goes_on m (omega (arith, l))) in
    let came = comes_to c x.mips is.mips n u h.in_order follow state r.progress r.watching.sub in
    let ended : sub_at c n ≡ sub - 1 = omega (arith, watched_sub c n u r.progress, sub_is) in
    let dogs = ap (λ (l : List ℕ). slice_index l (length u.counts.items)) (watchdogs_are k pair f.planned) in
    let place : length u.counts.items ≡ sub - 1 = omega (arith, sub_is) in
    let wait = ap (λ (s : Speeds). max s.miss s.store) r.speeds in
    record {
      job = record { opening = x; opens = f.opens; comes = subst (λ i. ComesTo k.cuts x.mips is.mips i) ended came };
      planned = f.planned;
      first = omega (arith, sub_is);
      last = omega (arith, sub_is, r.watching.sub);
      early = omega (arith, at_is, r.early, dogs, ap (λ i. slice_index f.planned.plan.watchdog i) place);
      short = omega (arith, short, wait);
      core = machine ∙ f.core;
      pipeline = f.pipeline;
    }

-- where the job has ended
pub ends_early : (p : Predicts) (k : Kept) (x is : Held) (pair : Pair) (fast new : Clocked) (pipe : Piped)
    (w u : Watch) (numbers later : List ℕ) (answer : Step)
    → FitsFastRun k x pair fast pipe w
    → HasStopped (course_of p (released k x pair) numbers) x is new u later (Some answer)
    → new.machine ≡ fast.machine → FitsEnd k is pair new pipe
ends_early p k x is pair fast new pipe w u numbers later answer f h machine =
    let c = course_of p (released k x pair) numbers in
    let e = h.stops in
    let n = new.cycle in
    let state = sym (state_shown new is.mips later (clock_at c n) e.clock) in
    let follow = follows c x.mips h.opens n e.goes_on in
    let dogs = ap (λ (l : List ℕ). slice_index l (length k.cuts)) (watchdogs_are k pair f.planned) in
    record {
      rests = record {
        kept = leaves_kept k x is f.opens follow.steps (state ∙ follow.state);
        core = machine ∙ f.core;
        pipeline = f.pipeline;
      };
      speculative = f.planned.speculative;
      in_time = cycles_in_time k f.opens.before pair f.opens.kept f.planned (length k.cuts) n (omega arith)
          (omega (arith, e.few, dogs));
      small = deadline_small k f.opens.before f.opens.kept;
    }

-- what the run answers where a checkpoint was missed
pub missed_end : (p : Predicts) (k : Kept) (x is : Held) (pair : Pair) (new : Clocked) (u : Watch)
    (numbers later : List ℕ) (sub at flight : ℕ) (f : Released)
    → released k x pair ≡ f → HasStopped (course_of p (released k x pair) numbers) x is new u later None
    → sub ≡ length u.counts.items + 1 → at ≡ new.cycle
    → ((y : Mips) (held : List ℕ) (q : Clock) → IsAt new y held q → flight ≡ in_flight_of q)
    → MissedSo (course_of p f numbers) f
    (record { kept = k; state = is; pair = pair; counts = u.counts.items; sub = sub; at = at; flight = flight }) later
missed_end p k x is pair new u numbers later sub at flight f made h sub_is at_is short =
    let d : Waiting = record
    { kept = k; state = is; pair = pair; counts = u.counts.items; sub = sub; at = at; flight = flight } in
    let g = released k x pair in
    let c = course_of p g numbers in
    subst (λ (r : Released). MissedSo (course_of p r numbers) r d later) made
    (missed_so c g d new u later h.opens h.in_order h.dogs h.stops refl refl refl sub_is at_is
    (short is.mips later (clock_at c new.cycle) h.stops.running.clock))

-- and where the job has ended
pub ended_end : (p : Predicts) (k : Kept) (x is : Held) (pair : Pair) (new : Clocked) (u : Watch)
    (numbers later : List ℕ) (answer : Step) (f : Released)
    (i : Resting) (e : Ending) → released k x pair ≡ f
    → HasStopped (course_of p (released k x pair) numbers) x is new u later (Some answer)
    → i ≡ record { kept = k; state = is; counts = u.counts.items }
    → e ≡ record { step = answer; switch_ps = 0; end_ps = k.machine.start_ps + new.cycle * period_at k pair.a }
    → EndedSo (course_of p f numbers) f i e later
ended_end p k x is pair new u numbers later answer f i e made h i_is e_is =
    let j : Resting = record { kept = k; state = is; counts = u.counts.items } in
    let s : Ending = record
    { step = answer; switch_ps = 0; end_ps = k.machine.start_ps + new.cycle * period_at k pair.a } in
    let g = released k x pair in
    let c = course_of p g numbers in
    let there : EndedSo c g j s later = ended_so c g j s new u later h.opens h.stops refl refl refl refl in
    let by_ending : EndedSo c g j e later = subst (λ (a : Ending). EndedSo c g j a later) (sym e_is) there in
    let by_rest : EndedSo c g i e later = subst (λ (a : Resting). EndedSo c g a e later) (sym i_is) by_ending in
    subst (λ (r : Released). EndedSo (course_of p r numbers) r i e later) made by_rest

-- in time
pub ended_by_deadline : (k : Kept) (x is : Held) (pair : Pair) (new : Clocked) (pipe : Piped) (answer : Step)
    (f : Released) (e : Ending) → released k x pair ≡ f
    → FitsEnd k is pair new pipe
    → e ≡ record { step = answer; switch_ps = 0; end_ps = k.machine.start_ps + new.cycle * period_at k pair.a }
    → e.end_ps ≤ f.kept.deadline_ps
ended_by_deadline k x is pair new pipe answer f e made ends e_is =
    let there = ap (λ (a : Ending). a.end_ps) e_is in
    let deadline = ap (λ (r : Released). r.kept.deadline_ps) made in
    omega (arith, ends.in_time, there, deadline)

-- the time of the cycles is small
pub cycles_ps : (k : Kept) (x : Held) (pair : Pair) (fast : Clocked) (pipe : Piped) (cycles period : ℕ)
    → cycles ≡ fast.cycle → period ≡ period_at k pair.a
    → FitsEnd k x pair fast pipe → k.machine.start_ps + cycles * period ≤ 10 ^ 12
cycles_ps k x pair fast pipe cycles period cycles_is period_is ends =
    let same : cycles * period ≡ fast.cycle * period_at k pair.a = λ i. cycles_is i * period_is i in
    omega (arith, ends.in_time, ends.small, same)
