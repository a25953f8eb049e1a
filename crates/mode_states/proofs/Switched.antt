-- What a switch and a release in simple mode hand on.
use Rattle.std.proofs.Common.{◌≡◌, refl, sym, ap, subst, ◌∙◌, ℕ, ◌+◌, ◌-◌, ◌*◌, ◌≤◌, ◌<◌, ◌^◌, List, length, sum, arith}
use Rattle.std.specs.Prelude.{Some}
use Rattle.mips_ref.specs.Job.{after}
use Rattle.mips_ref.specs.Mips.{Held}
use Rattle.visa_io.specs.declared.records.Machine.{Machine}
use Rattle.checkpoint_plan.specs.Plan.{switch_of}
use Rattle.ooo_clock.specs.Clock.{opening, speeds_at}
use Rattle.ooo_clock.specs.Fasts.{Clocked, IsAt, StandsBeside}
use Rattle.simple_pipe.specs.Pace.{pace_of}
use Rattle.simple_pipe.specs.Pipe.{Piped}
use Rattle.frequency_pick.specs.declared.plans.Pair.{Pair}
use Rattle.timed_jobs.specs.Pace.{pcs_of}
use Rattle.admission.specs.Found.{bounds_at}
use Rattle.mode_states.specs.Fits.{FitsDraining, FitsSimpleRun, IsOpened, IsPipeOf, IsUnderWay}
use Rattle.mode_states.specs.Kept.{EndsSoon, IsOpening, fastest, pace_at, period_at}
use Rattle.mode_states.specs.declared.kept.Kept.{Kept}
use Rattle.mode_states.proofs.InTime.{Fits, deadline_small, period_in, simple_in_time, some_points, switch_in_time}
use Rattle.mode_states.proofs.InOrder.{exact_count, none_met}
use Rattle.mode_states.proofs.KeptJobs.{left_of, ordered, remains, whole}
use Rattle.mode_states.specs.Progress.{no_progress}

-- the times of a switch are small
pub record AreSmall (start at flight pa pb : ℕ) (m : Machine) : Type 0 where
  pub waited : at * pa ≤ 10 ^ 12
  pub begun : start + at * pa ≤ 10 ^ 12
  pub time : switch_of m flight pa pb ≤ 10 ^ 12
  pub both : start + at * pa + switch_of m flight pa pb ≤ 10 ^ 12
  pub least : 100 ≤ pb
  pub most : pb ≤ 1000000

draining_fits : (k : Kept) (x : Held) (pair : Pair) (sub at flight : ℕ) (fast : Clocked) (pipe : Piped)
    → FitsDraining k x pair sub at flight fast pipe
    → Fits k pair (sub - 1) at flight
draining_fits k x pair sub at flight fast pipe d =
    switch_in_time k d.job.opens.before pair d.job.opens.kept d.planned (sub - 1) at flight
    (omega (arith, d.last)) d.early d.short

pub small_times : (k : Kept) (x : Held) (pair : Pair) (sub at flight : ℕ) (fast : Clocked) (pipe : Piped) (pa pb : ℕ)
    → pa ≡ period_at k pair.a → pb ≡ period_at k pair.b → FitsDraining k x pair sub at flight fast pipe
    → AreSmall k.machine.start_ps at flight pa pb k.machine
small_times k x pair sub at flight fast pipe pa pb a_is b_is d =
    let h = d.job.opens.kept in
    let before = d.job.opens.before in
    let fits = draining_fits k x pair sub at flight fast pipe d in
    let deadline = deadline_small k before h in
    let short = period_in k before h pair.b d.planned.recovery in
    let there : AreSmall k.machine.start_ps at flight (period_at k pair.a) (period_at k pair.b) k.machine = record {
      waited = omega (arith, fits, deadline);
      begun = omega (arith, fits, deadline);
      time = omega (arith, fits, deadline);
      both = omega (arith, fits, deadline);
      least = short.least;
      most = short.most;
    } in
    subst (λ a. AreSmall k.machine.start_ps at flight a pb k.machine) (sym a_is)
    (subst (λ b. AreSmall k.machine.start_ps at flight (period_at k pair.a) b k.machine) (sym b_is) there)

-- a core that is opened again
pub opened_again : (fast old : Clocked) (x : Held) (given period : ℕ) → given ≡ period
    → ((numbers : List ℕ) → IsAt fast x.mips numbers (opening old.machine.rob x.mips numbers))
    → StandsBeside fast x.mips
    → fast.speeds ≡ speeds_at old.machine given → fast.machine ≡ old.machine → fast.cycle ≡ 0 → IsOpened period x fast
opened_again fast old x given period given_is clock beside speeds machine cycle = record {
  clock = λ numbers. subst (λ (m : Machine). IsAt fast x.mips numbers (opening m.rob x.mips numbers)) (sym machine)
      (clock numbers);
  beside = beside;
  speeds = speeds ∙ ap (λ m. speeds_at m given) (sym machine) ∙ ap (speeds_at fast.machine) given_is;
  cycle = cycle;
}

-- a pipeline that is started
abbrev pub started_at : Piped → ℕ → Piped
started_at pipe period = record pipe { started = Some (pace_of pipe.mem_ps pipe.store_ps pipe.mul pipe.div period) }

pub still_piped : (m : Machine) (pipe new : Piped) (period : ℕ) → new ≡ started_at pipe period → IsPipeOf m pipe
    → IsPipeOf m new
still_piped m pipe new period is p =
    subst (λ q. IsPipeOf m q) (sym is)
    (record { mem = p.mem; store = p.store; mul = p.mul; div = p.div; icache = p.icache; dcache = p.dcache })

pub pipe_started : (k : Kept) (pipe new : Piped) (given point : ℕ) → given ≡ period_at k point
    → new ≡ started_at pipe given → IsPipeOf k.machine pipe
    → new.started ≡ Some (pace_at k point)
pipe_started k pipe new given point given_is is p =
    ap (λ (q : Piped). q.started) is ∙ (λ i. Some (pace_of (p.mem i) (p.store i) (p.mul i) (p.div i) (given_is i)))

-- what remains of a job that is under way
rest_ends : (k : Kept) (x : Held) (ended : ℕ) → (j : IsUnderWay k x ended) → (point : ℕ) → point < length k.points
    → EndsSoon k point x.mips (left_of k point ended)
rest_ends k x ended j point below =
    let there = remains k j.opening j.opens j.comes.steps j.comes.went point below ended
    (omega (arith, j.comes.sub_is)) in
    subst (λ y. EndsSoon k point y (left_of k point ended)) (sym j.comes.is) there

-- after a switch
pub recovers : (k : Kept) (x : Held) (pair : Pair) (sub at flight : ℕ) (fast new : Clocked) (pipe started : Piped)
    (pa pb taken : ℕ)
    → pa ≡ period_at k pair.a → pb ≡ period_at k pair.b → taken ≡ switch_of k.machine flight pa pb
    → FitsDraining k x pair sub at flight fast pipe
    → ((numbers : List ℕ) → IsAt new x.mips numbers (opening fast.machine.rob x.mips numbers)) → StandsBeside new x.mips
    → new.speeds ≡ speeds_at fast.machine pb → new.machine ≡ fast.machine → new.cycle ≡ 0
    → started ≡ started_at pipe pb
    → FitsSimpleRun k x pair.b (k.machine.start_ps + at * pa + taken) new started
recovers k x pair sub at flight fast new pipe started pa pb taken a_is b_is taken_is d clock beside speeds machine
    cycle pipe_is =
    let fits = draining_fits k x pair sub at flight fast pipe d in
    let same : taken ≡ switch_of k.machine flight (period_at k pair.a) (period_at k pair.b) = taken_is ∙
    (λ i. switch_of k.machine flight (a_is i) (b_is i)) in
    let spent = ap (λ n. at * n) a_is in
    record {
      sub = sub - 1;
      job = d.job;
      in_points = d.planned.recovery;
      core = machine ∙ d.core;
      emptied = opened_again new fast x pb (period_at k pair.b) b_is clock beside speeds machine cycle;
      pipeline = still_piped k.machine pipe started pb pipe_is d.pipeline;
      started = pipe_started k pipe started pb pair.b b_is pipe_is d.pipeline;
      limit = left_of k pair.b (sub - 1);
      ends = rest_ends k x (sub - 1) d.job pair.b d.planned.recovery;
      in_time = omega (arith, fits, same, spent);
    }

-- a job that has just opened is under way
just_opened : (k : Kept) (x : Held) → IsOpening k x → IsUnderWay k x 0
unfolding after
just_opened k x o = record {
  opening = x;
  opens = o;
  comes = record {
    steps = 0;
    went = λ i l. absurd (omega (arith, l));
    is = refl;
    sub_is = exact_count k.cuts (pcs_of 0 x.mips) 0 (omega arith) (λ j l. absurd (omega (arith, l)))
        (λ j past below. none_met k.cuts x.mips no_progress (ordered k x o) j past below);
  };
}

-- and in simple mode it has the time that it needs
pub starts_simple : (k : Kept) (x : Held) (point : ℕ) (fast new : Clocked) (pipe started : Piped) (period : ℕ)
    → IsOpening k x → point ≡ fastest k
    → period ≡ period_at k point → fast.machine ≡ k.machine → IsPipeOf k.machine pipe
    → ((numbers : List ℕ) → IsAt new x.mips numbers (opening fast.machine.rob x.mips numbers)) → StandsBeside new x.mips
    → new.speeds ≡ speeds_at fast.machine period → new.machine ≡ fast.machine → new.cycle ≡ 0
    → started ≡ started_at pipe period
    → FitsSimpleRun k x point k.machine.start_ps new started
starts_simple k x point fast new pipe started period o point_is period_is core piped clock beside speeds machine cycle
    pipe_is =
    let h = o.kept in
    let some = some_points k o.before h in
    let in_time = simple_in_time k o.before h in
    let below : point < length k.points = omega (arith, point_is, some) in
    let all : k.machine.start_ps + (5 + sum (bounds_at k.admitted.bounds point)) * period_at k point ≤ k.deadline_ps =
    subst (λ p. k.machine.start_ps + (5 + sum (bounds_at k.admitted.bounds p)) * period_at k p ≤ k.deadline_ps)
    (sym point_is) in_time in
    record {
      sub = 0;
      job = just_opened k x o;
      in_points = below;
      core = machine ∙ core;
      emptied = opened_again new fast x period (period_at k point) period_is clock beside speeds machine cycle;
      pipeline = still_piped k.machine pipe started period pipe_is piped;
      started = pipe_started k pipe started period point period_is pipe_is piped;
      limit = 5 + sum (bounds_at k.admitted.bounds point);
      ends = whole k x o point below;
      in_time = all;
    }
