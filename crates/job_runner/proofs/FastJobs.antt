-- Each job of an admitted task runs in fast mode at a pair of points that has a plan, by its deadline.
use Rattle.std.proofs.Common.{◌≡◌, refl, sym, ap, subst, ◌∙◌, inl, inr, ℕ, ◌+◌, ◌*◌, ◌≤◌, List, length, arith}
use Rattle.std.specs.Prelude.{slice_index}
use Rattle.mips_ref.specs.Job.{after}
use Rattle.mips_ref.specs.Mips.{Held}
use Rattle.mips_ref.specs.Step.{step_of}
use Rattle.mips_ref.specs.declared.records.Step.{Step}
use Rattle.mips_ref.proofs.Rans.{after_add}
use Rattle.simple_pipe.specs.Simple.{simple_time}
use Rattle.remaining_wcet.specs.Runs.{cuts_met}
use Rattle.timed_jobs.specs.Pace.{pcs_of}
use Rattle.log_text.specs.declared.record.JobMode.TheVariants.{Fast, Missed}
use Rattle.ooo_clock.specs.Clock.{in_flight_of}
use Rattle.mode_states.specs.Course.{clock_at, progress_at, sub_at}
use Rattle.mode_states.specs.Ends.{last_watchdog}
use Rattle.mode_states.specs.Kept.{EndsSoon, IsPlanned, caches, pace_at, period_at, watchdogs_of}
use Rattle.mode_states.specs.Loop.{AreWatchdogs}
use Rattle.mode_states.specs.Progress.{ended_in}
use Rattle.mode_states.proofs.Follows.{Follows, follows}
use Rattle.mode_states.proofs.InOrder.{exact_count}
use Rattle.mode_states.proofs.InTime.{cycles_in_time, plan_watchdogs, switch_in_time, watchdogs_are}
use Rattle.mode_states.proofs.KeptJobs.{left_of, ordered, remains}
use Rattle.mode_states.proofs.Stays.{never_missed}
use Rattle.job_runner.specs.Job.{Before, RanJob, RunsFast, Setting, course_in, number_of, opening_of, pair_of, switch_at}
use Rattle.job_runner.specs.Opens.{CanOpen, IsInTime}
use Rattle.job_runner.proofs.Joined.{ends_more}
use Rattle.job_runner.proofs.Once.{job_once}
use Rattle.job_runner.proofs.Opening.{course_opens, opens, short_flight}
use Rattle.job_runner.proofs.SimpleJobs.{by_limit, leaves_open}
use Rattle.job_runner.proofs.Stopping.{EndsFirst, MissesFirst, few_subs, runs_out, stops}

-- a job that can be released in fast mode
record CanRun (s : Setting) (b : Before) (input : List ℕ) : Type 0 where
  can : CanOpen s b.memory
  fits : length input ≤ s.kept.input_len
  planned : IsPlanned s.kept (pair_of s b)

-- the watchdogs of its course
dogs_of : (s : Setting) (b : Before) (input : List ℕ) → CanRun s b input
    → AreWatchdogs (length s.kept.cuts) (watchdogs_of s.kept (pair_of s b))
dogs_of s b input h =
    let o = opens s b input h.can h.fits in
    subst (λ d. AreWatchdogs (length s.kept.cuts) d) (sym (watchdogs_are s.kept (pair_of s b) h.planned))
    (plan_watchdogs s.kept o.before (pair_of s b) o.kept h.planned)

-- a watchdog is that of the plan
dog_is : (s : Setting) (b : Before) (input : List ℕ) → (h : CanRun s b input) → (i : ℕ)
    → slice_index (watchdogs_of s.kept (pair_of s b)) i ≡ slice_index h.planned.plan.watchdog i
dog_is s b input h i = ap (λ (l : List ℕ). slice_index l i) (watchdogs_are s.kept (pair_of s b) h.planned)

-- the job as it ends after so many cycles
abbrev fast_job : Setting → Before → List ℕ → ℕ → Step → RanJob
fast_job s b input n a =
    let c = course_in s b input in
    record {
      job = record {
        number = number_of b;
        mode = Fast (pair_of s b);
        end_ps = s.kept.machine.start_ps + n * period_at s.kept (pair_of s b).a;
        step = a;
      };
      state = (clock_at c n).state;
      counts = (ended_in n (progress_at c n)).counts;
      numbers = (clock_at c n).numbers;
    }

ends_fast : (s : Setting) (b : Before) (input : List ℕ) (n : ℕ) (a : Step) → CanRun s b input
    → n ≤ last_watchdog (course_in s b input)
    → EndsFirst (course_in s b input) n a → (r : RanJob) × RunsFast s b input r × IsInTime s r
ends_fast s b input n a h few e =
    let c = course_in s b input in
    let x = opening_of s b input in
    let o = opens s b input h.can h.fits in
    let f = follows c x (course_opens s b input h.can h.fits) n e.least in
    let r = fast_job s b input n a in
    let dog = dog_is s b input h (length s.kept.cuts) in (
      r,
      record {
        number_is = refl;
        reference = record { steps = f.steps; ends = f.answer a e.ended; is = f.state };
        ends = inl (record {
          mode_is = refl;
          cycles = n;
          ended = e.ended;
          least = e.least;
          never = never_missed c n a e.ended e.never;
          end_is = refl;
          state_is = refl;
          counts_are = refl;
          numbers_are = refl;
        });
      },
      record {
        in_time = cycles_in_time s.kept o.before (pair_of s b) o.kept h.planned (length s.kept.cuts) n (omega arith)
            (omega (arith, few, dog));
        next = leaves_open s b input h.can h.fits f.steps r.state f.state;
      },
    )

-- the job as it ends by so many steps in simple mode, after a checkpoint that was missed after so many cycles
abbrev missed_job : Setting → Before → List ℕ → ℕ → ℕ → RanJob
missed_job s b input at n =
    let c = course_in s b input in
    let y = (clock_at c at).state in
    let pair = pair_of s b in
    record {
      job = record {
        number = number_of b;
        mode = Missed (sub_at c at + 1) pair at (switch_at s b input at);
        end_ps = (s.kept.machine.start_ps + at * period_at s.kept pair.a + switch_at s b input at)
            + simple_time (pace_at s.kept pair.b) (caches s.kept) n y * period_at s.kept pair.b;
        step = (step_of (after n y)).answer;
      };
      state = after n y;
      counts = (progress_at c at).counts;
      numbers = (clock_at c at).numbers;
    }

-- what remains of it ends in time
rest_of : (s : Setting) (b : Before) (input : List ℕ) (at : ℕ) → (h : CanRun s b input)
    → (f : Follows (course_in s b input) (opening_of s b input) at)
    → EndsSoon s.kept (pair_of s b).b (clock_at (course_in s b input) at).state
    (left_of s.kept (pair_of s b).b (sub_at (course_in s b input) at))
rest_of s b input at h f =
    let c = course_in s b input in
    let x : Held = record { mips = opening_of s b input; computed = 0 } in
    let o = opens s b input h.can h.fits in
    let sub : ℕ = sub_at c at in
    let count : sub ≡ cuts_met c.cuts (pcs_of f.steps x.mips) =
    exact_count c.cuts (pcs_of f.steps x.mips) sub (few_subs c at) f.met (f.unmet (ordered s.kept x o)) in
    let there = remains s.kept x o f.steps f.went (pair_of s b).b h.planned.recovery sub (omega (arith, count)) in
    subst (λ y. EndsSoon s.kept (pair_of s b).b y (left_of s.kept (pair_of s b).b sub)) (sym f.state) there

switch_fits : (s : Setting) (b : Before) (input : List ℕ) (at : ℕ) → (h : CanRun s b input)
    → MissesFirst (course_in s b input) at
    → s.kept.machine.start_ps + at * period_at s.kept (pair_of s b).a + switch_at s b input at
    + left_of s.kept (pair_of s b).b (sub_at (course_in s b input) at) * period_at s.kept (pair_of s b).b
    ≤ s.kept.deadline_ps
switch_fits s b input at h e =
    let c = course_in s b input in
    let o = opens s b input h.can h.fits in
    let sub : ℕ = sub_at c at in
    let out = runs_out c at (dogs_of s b input h) e in
    switch_in_time s.kept o.before (pair_of s b) o.kept h.planned sub at (in_flight_of (clock_at c at)) (few_subs c at)
    (omega (arith, out, dog_is s b input h sub)) (short_flight s b input at)

ends_missed : (s : Setting) (b : Before) (input : List ℕ) (at : ℕ) → CanRun s b input
    → MissesFirst (course_in s b input) at → (r : RanJob) × RunsFast s b input r × IsInTime s r
ends_missed s b input at h e =
    let c = course_in s b input in
    let x = opening_of s b input in
    let pair = pair_of s b in
    let f = follows c x (course_opens s b input h.can h.fits) at e.goes_on in
    let rest = rest_of s b input at h f in
    let y = (clock_at c at).state in
    let r = missed_job s b input at rest.steps in
    let end : r.state ≡ after (rest.steps + f.steps) x =
    ap (after rest.steps) f.state ∙ sym (after_add rest.steps f.steps x) in (
      r,
      record {
        number_is = refl;
        reference = record {
          steps = rest.steps + f.steps;
          ends = ends_more x y f.steps rest.steps r.job.step f.went f.state rest.ends refl;
          is = end;
        };
        ends = inr (record {
          at = at;
          missed = e.missed;
          least = e.least;
          mode_is = refl;
          steps = rest.steps;
          ends = record { ends = rest.ends; answer_is = refl };
          state_is = refl;
          end_is = refl;
          counts_are = refl;
          numbers_are = refl;
        });
      },
      record {
        in_time = by_limit (s.kept.machine.start_ps + at * period_at s.kept pair.a + switch_at s b input at)
            (simple_time (pace_at s.kept pair.b) (caches s.kept) rest.steps y)
            (left_of s.kept pair.b (sub_at c at)) (period_at s.kept pair.b) s.kept.deadline_ps rest.within
            (switch_fits s b input at h e);
        next = leaves_open s b input h.can h.fits (rest.steps + f.steps) r.state end;
      },
    )

pub fast_runs : (s : Setting) (b : Before) (input : List ℕ) → CanOpen s b.memory → length input ≤ s.kept.input_len
    → IsPlanned s.kept (pair_of s b) → (r : RanJob) × RunsFast s b input r × IsInTime s r
fast_runs s b input can fits planned =
    let h : CanRun s b input = record { can = can; fits = fits; planned = planned } in
    let stop = stops (course_in s b input) (dogs_of s b input h) in
    elim stop.2 [
      | inl early ↦ ends_fast s b input stop.0 early.0 h stop.1 early.1
      | inr missed ↦ ends_missed s b input stop.0 h missed
    ]

-- however it has run
pub fast_in_time_once : (s : Setting) (b : Before) (input : List ℕ) (r : RanJob) → CanOpen s b.memory
    → length input ≤ s.kept.input_len → IsPlanned s.kept (pair_of s b) → RunsFast s b input r → IsInTime s r
fast_in_time_once s b input r can fits planned runs =
    let there = fast_runs s b input can fits planned in
    subst (λ o. IsInTime s o) (job_once s b input there.0 r there.1 runs) there.2
