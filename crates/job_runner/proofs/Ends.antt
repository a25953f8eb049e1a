-- How a job that a runner runs ends, as a job of a run.
use Rattle.std.proofs.Common.{◌≡◌, refl, sym, ap, subst, ◌∙◌, inl, inr, ℕ, ◌+◌, ◌-◌, ◌*◌, ◌≤◌, ◌^◌, min, List, [], ◌∷◌, arith}
use Rattle.std.specs.Prelude.{slice_index}
use Rattle.admission.specs.Found.{bounds_at}
use Rattle.admission.specs.declared.mode.Mode.TheVariants as admitted
use Rattle.checkpoint_plan.specs.Plan.{switch_of}
use Rattle.frequency_pick.specs.Choice.{PlanTable, choice}
use Rattle.frequency_pick.specs.Counts.{Count, StandsFor, count}
use Rattle.frequency_pick.specs.declared.plans.Pair.{Pair}
use Rattle.log_text.specs.declared.record.JobMode.TheVariants.{Simple, Fast, Missed}
use Rattle.log_text.specs.declared.record.JobRecord.{JobRecord}
use Rattle.mips_ref.specs.Job.{after, opening}
use Rattle.mips_ref.specs.Memory.{Flat}
use Rattle.mips_ref.specs.Mips.{Held, Mips}
use Rattle.mips_ref.specs.declared.records.Step.{Step}
use Rattle.mips_ref.proofs.Rans.{after_add}
use Rattle.ooo_clock.specs.Along.{EndsWith}
use Rattle.ooo_clock.specs.Clock.{Predicts}
use Rattle.simple_pipe.specs.Simple.{simple_time}
use Rattle.mode_states.specs.Course.{sub_at}
use Rattle.mode_states.specs.Ends.{ComesTo, EndedSo, EndsAs, MissedSo, SimpleEnd, course_of}
use Rattle.mode_states.specs.Kept.{caches, fastest, opened_on, pace_at, period_at}
use Rattle.mode_states.specs.Views.{Going, Released, Resting, Waiting}
use Rattle.mode_states.specs.declared.ending.Ending.{Ending}
use Rattle.mode_states.specs.declared.kept.Kept.{Kept}
use Rattle.mode_states.proofs.KeptJobs.{keeps_room}
use Rattle.job_runner.specs.Job.{Before, EndsFast, EndsMissed, RunsFast, RunsSimple, Setting, course_in, released_of, switch_at}
use Rattle.job_runner.specs.Run.{counts_after, with_missed, with_subs}
use Rattle.job_runner.specs.Running.{HasRun, Running, ran_by, switched}
use Rattle.job_runner.proofs.Joined.{ends_more}
use Rattle.job_runner.proofs.Places.{found_at, moved, next_number, setting_at, stands_next}

-- a run that comes to a state, and the end from there
ends_along : (cuts : List ℕ) (x y z : Mips) (sub m : ℕ) (answer : Step) → ComesTo cuts x y sub → EndsWith y m answer
    → z ≡ after m y → EndsAs x z answer
ends_along cuts x y z sub m answer comes ends is =
    record {
      steps = m + comes.steps;
      ends = ends_more x y comes.steps m answer comes.went comes.is ends.ends ends.answer_is;
      is = is ∙ ap (after m) comes.is ∙ sym (after_add m comes.steps x);
    }

-- the room for output stays
opening_room : (entry stack at len : ℕ) (input : List ℕ) (m : Flat) (room : ℕ)
    → (opening entry stack at len input m room).output_max ≡ room
unfolding opening
opening_room entry stack at len input m room = refl

opened_room : (k : Kept) (input : List ℕ) (x : Held) → (opened_on k input x).mips.output_max ≡ x.mips.output_max
opened_room k input x = opening_room k.entry k.stack k.input_at k.input_len input x.mips.memory x.mips.output_max

ends_in_room : (k : Kept) (input : List ℕ) (x : Held) (y : Mips) (answer : Step)
    → EndsAs (opened_on k input x).mips y answer → y.output_max ≡ x.mips.output_max
ends_in_room k input x y answer e =
    ap (λ (z : Mips). z.output_max) e.is ∙ keeps_room e.steps (opened_on k input x).mips ∙ opened_room k input x

-- the job that a runner releases
abbrev pub released : Running → List ℕ → Pair → Released
released was input pair =
    record { kept = was.idle.kept; state = opened_on was.idle.kept input was.idle.state; pair = pair }

-- the pair is the choice by all counts for which the history stands
abbrev pub Chose : Running → Pair → Type 0
Chose was pair = (cs : List Count) → StandsFor was.history cs → pair ≡ choice was.idle.kept.admitted.plans cs

by_plans : (was : Running) (plans : PlanTable) (pair : Pair) → plans ≡ was.idle.kept.admitted.plans
    → ((cs : List Count) → StandsFor was.history cs → pair ≡ choice plans cs) → Chose was pair
by_plans was plans pair plans_are picked = λ cs stands. picked cs stands ∙ ap (λ t. choice t cs) plans_are

-- the record of a job in fast mode
abbrev pub fast_record : ℕ → Pair → Ending → JobRecord
fast_record number pair e = record { number = number; mode = Fast pair; end_ps = e.end_ps; step = e.step }

-- it ended in fast mode
ends_fast : (p : Predicts) (s : Setting) (b : Before) (was is : Running) (numbers later input : List ℕ) (number : ℕ)
    (pair : Pair) (e : Ending) → pair ≡ choice was.idle.kept.admitted.plans b.counts
    → EndedSo (course_of p (released was input pair) numbers) (released was input pair) is.idle e later
    → EndsFast (setting_at was p s) (found_at was numbers b) input (ran_by is (fast_record number pair e) later)
ends_fast p s b was is numbers later input number pair e picked ended =
    let F : Pair → Type 0 = λ q.
    EndedSo (course_of p (released was input q) numbers) (released was input q) is.idle e later in
    let h = subst F picked ended in
    record {
      mode_is = λ i. Fast (picked i);
      cycles = h.cycles;
      ended = h.ended;
      least = h.least;
      never = h.never;
      end_is = h.end_is;
      state_is = h.after.mips;
      counts_are = h.counts;
      numbers_are = h.after.numbers_are;
    }

runs_ended : (p : Predicts) (s : Setting) (b : Before) (was is : Running) (numbers later input : List ℕ) (number : ℕ)
    (pair : Pair) (e : Ending) → pair ≡ choice was.idle.kept.admitted.plans b.counts
    → number ≡ min (was.ran + 1) (2 ^ 64 - 1) → was.ran ≡ min b.jobs (2 ^ 64 - 1)
    → EndedSo (course_of p (released was input pair) numbers) (released was input pair) is.idle e later
    → RunsFast (setting_at was p s) (found_at was numbers b) input (ran_by is (fast_record number pair e) later)
runs_ended p s b was is numbers later input number pair e picked number_is ran_is h =
    record {
      number_is = next_number b.jobs was.ran number ran_is number_is;
      reference = h.reference;
      ends = inl (ends_fast p s b was is numbers later input number pair e picked h);
    }

ended_run : (p : Predicts) (was is : Running) (numbers later input : List ℕ) (number : ℕ) (pair : Pair) (e : Ending)
    → Chose was pair → number ≡ min (was.ran + 1) (2 ^ 64 - 1) → is.ran ≡ number
    → ((cs : List Count) → StandsFor was.history cs → StandsFor is.history (with_subs 1 is.idle.counts cs))
    → EndedSo (course_of p (released was input pair) numbers) (released was input pair) is.idle e later
    → e.end_ps ≤ was.idle.kept.deadline_ps
    → HasRun admitted.Fast p was numbers input is (fast_record number pair e) later
ended_run p was is numbers later input number pair e chose number_is ran told h in_time =
    let job = fast_record number pair e in
    let room = ends_in_room was.idle.kept input was.idle.state is.idle.state.mips e.step h.reference in
    record {
      runs = λ s b predicts at.
          moved (λ q c. RunsFast q c input (ran_by is job later)) p s b was numbers predicts at
          (runs_ended p s b was is numbers later input number pair e (chose b.counts at.counts) number_is at.ran_is h);
      stands = λ s b at.
          stands_next s b was is numbers later job at h.kept room (ran ∙ number_is) (told b.counts at.counts);
      in_time = in_time;
      kept = h.kept;
    }

pub ended_has_run : (p : Predicts) (was given is : Running) (numbers later input : List ℕ) (number : ℕ)
    (plans : PlanTable) (pair : Pair) (f : Released) (i : Resting) (e : Ending) (job : JobRecord)
    → was ≡ given → number ≡ min (was.ran + 1) (2 ^ 64 - 1) → plans ≡ was.idle.kept.admitted.plans
    → ((cs : List Count) → StandsFor was.history cs → pair ≡ choice plans cs) → f ≡ released was input pair
    → EndedSo (course_of p f numbers) f i e later → e.end_ps ≤ f.kept.deadline_ps
    → is.idle ≡ i → is.ran ≡ number → job ≡ fast_record number pair e
    → ((cs : List Count) → StandsFor was.history cs → StandsFor is.history (with_subs 1 i.counts cs))
    → HasRun admitted.Fast p given numbers input is job later
ended_has_run p was given is numbers later input number plans pair f i e job was_is number_is plans_are picked f_is
    ended in_time idle_is ran job_is told =
    let back = sym idle_is in
    let h = subst (λ g. EndedSo (course_of p g numbers) g i e later) f_is ended in
    let deadline = ap (λ (g : Released). g.kept.deadline_ps) f_is in
    let there = ended_run p was is numbers later input number pair e (by_plans was plans pair plans_are picked) number_is
    ran (λ cs s. subst (λ (r : Resting). StandsFor is.history (with_subs 1 r.counts cs)) back (told cs s))
    (subst (λ r. EndedSo (course_of p (released was input pair) numbers) (released was input pair) r e later) back h)
    (omega (arith, in_time, deadline)) in
    subst (λ w. HasRun admitted.Fast p w numbers input is job later) was_is
    (subst (λ j. HasRun admitted.Fast p was numbers input is j later) (sym job_is) there)

-- the ending of a rest that is run after a switch
pub same_ending : (g : Going) (i : Resting) (e : Ending) → SimpleEnd g i e
    → SimpleEnd g i (record { step = e.step; switch_ps = g.switch_ps; end_ps = e.end_ps })
same_ending g i e h =
    let same = h.switch_is in
    subst (λ n. SimpleEnd g i (record { step = e.step; switch_ps = n; end_ps = e.end_ps })) same h

-- the counts that are told, with the bound of the missed sub-task
pub told_missed : (history : List (List ℕ)) (d : Waiting) (k : Kept) (pair : Pair) (sub bound : ℕ) (ns : List ℕ)
    (cs : List Count) → sub ≡ d.sub → k ≡ d.kept → ns ≡ d.counts
    → bound ≡ slice_index (bounds_at k.admitted.bounds pair.a) (sub - 1)
    → StandsFor history (count sub bound ∷ with_subs 1 ns cs)
    → StandsFor history
    (count d.sub (slice_index (bounds_at d.kept.admitted.bounds pair.a) (d.sub - 1)) ∷ with_subs 1 d.counts cs)
told_missed history d k pair sub bound ns cs sub_is kept counts is told =
    let there : bound ≡ slice_index (bounds_at d.kept.admitted.bounds pair.a) (d.sub - 1) =
    is ∙ (λ i. slice_index (bounds_at (kept i).admitted.bounds pair.a) (sub_is i - 1)) in
    subst (λ (l : List Count). StandsFor history l)
    (λ i. count (sub_is i) (there i) ∷ with_subs 1 (counts i) cs) told

-- what is known of a job that missed a checkpoint, and of its rest
pub record HasRecovered (was is : Running) (d : Waiting) (pair : Pair) (job : JobRecord) : Type 0 where
  pub number : job.number ≡ is.ran
  pub mode : job.mode ≡ Missed d.sub pair d.at (switched d).switch_ps
  pub ends : SimpleEnd (switched d) is.idle
      (record { step = job.step; switch_ps = (switched d).switch_ps; end_ps = job.end_ps })
  pub stands : (cs : List Count) → StandsFor was.history cs
      → StandsFor is.history
      (count d.sub (slice_index (bounds_at d.kept.admitted.bounds pair.a) (d.sub - 1)) ∷ with_subs 1 d.counts cs)

-- the time of its switch
switch_same : (p : Predicts) (s : Setting) (b : Before) (was : Running) (numbers later input : List ℕ) (d : Waiting)
    → MissedSo (course_in (setting_at was p s) (found_at was numbers b) input)
    (released_of (setting_at was p s) (found_at was numbers b) input) d later
    → (switched d).switch_ps ≡ switch_at (setting_at was p s) (found_at was numbers b) input d.at
switch_same p s b was numbers later input d h = λ i. switch_of (h.kept i).machine (h.flight i)
    (period_at (h.kept i) (h.pair i).a) (period_at (h.kept i) (h.pair i).b)

-- it ended in simple mode
ends_missed : (p : Predicts) (s : Setting) (b : Before) (was is : Running) (numbers later input : List ℕ) (pair : Pair)
    (d : Waiting) (job : JobRecord) → pair ≡ choice was.idle.kept.admitted.plans b.counts
    → MissedSo (course_of p (released was input pair) numbers) (released was input pair) d later
    → HasRecovered was is d pair job
    → EndsMissed (setting_at was p s) (found_at was numbers b) input (ran_by is job later)
ends_missed p s b was is numbers later input pair d job picked missed e =
    let F : Pair → Type 0 = λ q.
    MissedSo (course_of p (released was input q) numbers) (released was input q) d later in
    let h = subst F picked missed in
    let q = setting_at was p s in
    let c = found_at was numbers b in
    let switch = switch_same p s b was numbers later input d h in
    let g = e.ends in
    record {
      at = d.at;
      missed = h.missed;
      least = h.least;
      mode_is = e.mode ∙ (λ i. Missed (h.sub i) (picked i) d.at (switch i));
      steps = g.steps;
      ends = subst (λ y. EndsWith y g.steps job.step) h.after.mips g.ends;
      state_is = g.mips ∙ ap (after g.steps) h.after.mips;
      end_is = g.end_is ∙ (λ i.
          ((h.kept i).machine.start_ps + d.at * period_at (h.kept i) (h.pair i).a + switch i)
          + simple_time (pace_at (h.kept i) (h.pair i).b) (caches (h.kept i)) g.steps (h.after.mips i)
          * period_at (h.kept i) (h.pair i).b);
      counts_are = g.counts ∙ h.counts;
      numbers_are = h.after.numbers_are;
    }

missed_reference : (p : Predicts) (was is : Running) (numbers later input : List ℕ) (pair : Pair) (d : Waiting)
    (job : JobRecord) → MissedSo (course_of p (released was input pair) numbers) (released was input pair) d later
    → HasRecovered was is d pair job
    → EndsAs (opened_on was.idle.kept input was.idle.state).mips is.idle.state.mips job.step
missed_reference p was is numbers later input pair d job h e =
    let c = course_of p (released was input pair) numbers in
    ends_along was.idle.kept.cuts (opened_on was.idle.kept input was.idle.state).mips d.state.mips is.idle.state.mips
    (sub_at c d.at) e.ends.steps job.step h.reference e.ends.ends e.ends.mips

missed_counts : (p : Predicts) (was is : Running) (numbers later input : List ℕ) (pair : Pair) (d : Waiting)
    (job : JobRecord) → MissedSo (course_of p (released was input pair) numbers) (released was input pair) d later
    → HasRecovered was is d pair job
    → (cs : List Count) → StandsFor was.history cs
    → StandsFor is.history (counts_after was.idle.kept (ran_by is job later) cs)
missed_counts p was is numbers later input pair d job h e cs stands =
    let told = e.stands cs stands in
    let counts = sym e.ends.counts in
    let there = subst (λ (l : List ℕ). StandsFor is.history (with_missed d.kept
    (Missed d.sub pair d.at (switched d).switch_ps) (with_subs 1 l cs))) counts told in
    let kept = subst (λ k. StandsFor is.history (with_missed k
    (Missed d.sub pair d.at (switched d).switch_ps) (with_subs 1 is.idle.counts cs))) h.kept there in
    subst (λ m. StandsFor is.history (with_missed was.idle.kept m (with_subs 1 is.idle.counts cs))) (sym e.mode) kept

missed_run : (p : Predicts) (was is : Running) (numbers later input : List ℕ) (number : ℕ) (pair : Pair)
    (d : Waiting) (job : JobRecord)
    → Chose was pair → number ≡ min (was.ran + 1) (2 ^ 64 - 1) → is.ran ≡ number
    → MissedSo (course_of p (released was input pair) numbers) (released was input pair) d later
    → HasRecovered was is d pair job → job.end_ps ≤ d.kept.deadline_ps
    → HasRun admitted.Fast p was numbers input is job later
missed_run p was is numbers later input number pair d job chose number_is ran h e in_time =
    let reference = missed_reference p was is numbers later input pair d job h e in
    let room = ends_in_room was.idle.kept input was.idle.state is.idle.state.mips job.step reference in
    let kept = e.ends.kept ∙ h.kept in
    let deadline = ap (λ (k : Kept). k.deadline_ps) h.kept in
    record {
      runs = λ s b predicts at.
          moved (λ q c. RunsFast q c input (ran_by is job later)) p s b was numbers predicts at (record {
            number_is = e.number ∙ next_number b.jobs was.ran is.ran at.ran_is (ran ∙ number_is);
            reference = reference;
            ends = inr (ends_missed p s b was is numbers later input pair d job (chose b.counts at.counts) h e);
          });
      stands = λ s b at.
          stands_next s b was is numbers later job at kept room (ran ∙ number_is)
          (missed_counts p was is numbers later input pair d job h e b.counts at.counts);
      in_time = omega (arith, in_time, deadline);
      kept = kept;
    }

pub missed_has_run : (p : Predicts) (was given is : Running) (numbers later input : List ℕ) (number : ℕ)
    (plans : PlanTable) (pair : Pair) (f : Released) (d : Waiting) (job : JobRecord)
    → was ≡ given → number ≡ min (was.ran + 1) (2 ^ 64 - 1) → plans ≡ was.idle.kept.admitted.plans
    → ((cs : List Count) → StandsFor was.history cs → pair ≡ choice plans cs) → f ≡ released was input pair
    → MissedSo (course_of p f numbers) f d later → is.ran ≡ number → HasRecovered was is d pair job
    → job.end_ps ≤ d.kept.deadline_ps → HasRun admitted.Fast p given numbers input is job later
missed_has_run p was given is numbers later input number plans pair f d job was_is number_is plans_are picked f_is
    missed ran e in_time =
    let h = subst (λ g. MissedSo (course_of p g numbers) g d later) f_is missed in
    subst (λ w. HasRun admitted.Fast p w numbers input is job later) was_is
    (missed_run p was is numbers later input number pair d job (by_plans was plans pair plans_are picked) number_is ran h
    e in_time)

-- a job that is released in simple mode
abbrev pub going : Running → List ℕ → Going
going was input =
    record {
      kept = was.idle.kept;
      state = opened_on was.idle.kept input was.idle.state;
      counts = [];
      point = fastest was.idle.kept;
      switch_ps = 0;
      spent_ps = was.idle.kept.machine.start_ps;
    }

abbrev pub simple_record : ℕ → Ending → JobRecord
simple_record number e = record { number = number; mode = Simple; end_ps = e.end_ps; step = e.step }

simple_run : (p : Predicts) (was : Running) (numbers input : List ℕ) (number : ℕ) (i : Resting) (e : Ending)
    → number ≡ min (was.ran + 1) (2 ^ 64 - 1) → SimpleEnd (going was input) i e
    → e.end_ps ≤ was.idle.kept.deadline_ps
    → HasRun admitted.Simple p was numbers input (record { idle = i; history = was.history; ran = number })
    (simple_record number e) numbers
simple_run p was numbers input number i e number_is h in_time =
    let is : Running = record { idle = i; history = was.history; ran = number } in
    let job = simple_record number e in
    let reference : EndsAs (opened_on was.idle.kept input was.idle.state).mips i.state.mips e.step =
    record { steps = h.steps; ends = h.ends; is = h.mips } in
    let room = ends_in_room was.idle.kept input was.idle.state i.state.mips e.step reference in
    record {
      runs = λ s b predicts at.
          moved (λ q c. RunsSimple q c input (ran_by is job numbers)) p s b was numbers predicts at (record {
            number_is = next_number b.jobs was.ran number at.ran_is number_is;
            mode_is = refl;
            steps = h.steps;
            ends = h.ends;
            state_is = h.mips;
            end_is = h.end_is;
            counts_are = h.counts;
            numbers_are = refl;
          });
      stands = λ s b at.
          stands_next s b was is numbers numbers job at h.kept room number_is
          (subst (λ (l : List ℕ). StandsFor was.history (with_subs 1 l b.counts)) (sym h.counts) at.counts);
      in_time = in_time;
      kept = h.kept;
    }

pub simple_has_run : (p : Predicts) (was given : Running) (numbers input : List ℕ) (number : ℕ) (g : Going)
    (i : Resting) (e : Ending) → was ≡ given → number ≡ min (was.ran + 1) (2 ^ 64 - 1) → g ≡ going was input
    → SimpleEnd g i e → e.end_ps ≤ g.kept.deadline_ps
    → HasRun admitted.Simple p given numbers input (record { idle = i; history = was.history; ran = number })
    (simple_record number e) numbers
simple_has_run p was given numbers input number g i e was_is number_is g_is ended in_time =
    let deadline = ap (λ (q : Going). q.kept.deadline_ps) g_is in
    let is : Running = record { idle = i; history = was.history; ran = number } in
    subst (λ w. HasRun admitted.Simple p w numbers input is (simple_record number e) numbers) was_is
    (simple_run p was numbers input number i e number_is (subst (λ q. SimpleEnd q i e) g_is ended)
    (omega (arith, in_time, deadline)))
