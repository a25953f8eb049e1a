-- Each job of an admitted task runs in simple mode, by its deadline.
use Rattle.std.proofs.Common.{◌≡◌, refl, sym, ap, subst, ◌∙◌, ℕ, ◌+◌, ◌*◌, ◌≤◌, ◌<◌, List, [], length, sum, arith}
use Rattle.std.proofs.Math.Nat.{mul-le-mul_right}
use Rattle.mips_ref.specs.Job.{after, opening}
use Rattle.mips_ref.specs.Memory.{Flat}
use Rattle.mips_ref.specs.Mips.{Held, Mips, blank}
use Rattle.mips_ref.specs.Step.{step_of}
use Rattle.simple_pipe.specs.Simple.{simple_time}
use Rattle.admission.specs.Found.{bounds_at}
use Rattle.log_text.specs.declared.record.JobMode.TheVariants.{Simple}
use Rattle.mode_states.specs.Kept.{EndsSoon, IsKept, caches, fastest, pace_at, period_at}
use Rattle.mode_states.specs.declared.kept.Kept.{Kept}
use Rattle.mode_states.proofs.InTime.{simple_in_time, some_points}
use Rattle.mode_states.proofs.KeptJobs.{keeps_room, leaves_kept, whole}
use Rattle.job_runner.specs.Job.{Before, RanJob, RunsSimple, Setting, number_of, opening_of}
use Rattle.job_runner.specs.Opens.{CanOpen, IsInTime}
use Rattle.job_runner.proofs.Opening.{opens}
use Rattle.job_runner.proofs.Once.{simple_once}

opening_room : (entry stack at len : ℕ) (input : List ℕ) (m : Flat) (out : ℕ)
    → (opening entry stack at len input m out).output_max ≡ out
unfolding opening
opening_room entry stack at len input m out = refl

-- a job can open on the memory of a state on which it is kept that one can
opens_on : (s : Setting) (y : Held) → IsKept s.kept y → y.mips.output_max ≡ s.output_max → CanOpen s y.mips.memory
unfolding blank
opens_on s y h room = record { task = h.task; is = h.is; made = h.made; room = sym room ∙ h.room }

-- after any number of its steps another job can open
pub leaves_open : (s : Setting) (b : Before) (input : List ℕ) → CanOpen s b.memory → length input ≤ s.kept.input_len
    → (n : ℕ) (y : Mips) → y ≡ after n (opening_of s b input) → CanOpen s y.memory
leaves_open s b input can fits n y is =
    let x : Held = record { mips = opening_of s b input; computed = 0 } in
    let z : Held = record { mips = y; computed = 0 } in
    let room : y.output_max ≡ s.output_max = ap (λ (w : Mips). w.output_max) is ∙ keeps_room n x.mips
    ∙ opening_room s.kept.entry s.kept.stack s.kept.input_at s.kept.input_len input b.memory s.output_max in
    opens_on s z (leaves_kept s.kept x z (opens s b input can fits) n is) room

-- a time within a limit
pub by_limit : (spent time limit period deadline : ℕ) → time ≤ limit → spent + limit * period ≤ deadline
    → spent + time * period ≤ deadline
by_limit spent time limit period deadline few in_time =
    let most = mul-le-mul_right {m = time} {n = limit} period few in
    omega (arith, most, in_time)

-- the job as it ends after so many steps
abbrev simple_job : Setting → Before → List ℕ → ℕ → RanJob
simple_job s b input n =
    let x = opening_of s b input in
    let at = fastest s.kept in
    record {
      job = record {
        number = number_of b;
        mode = Simple;
        end_ps = s.kept.machine.start_ps + simple_time (pace_at s.kept at) (caches s.kept) n x * period_at s.kept at;
        step = (step_of (after n x)).answer;
      };
      state = after n x;
      counts = [];
      numbers = b.numbers;
    }

pub simple_runs : (s : Setting) (b : Before) (input : List ℕ) → CanOpen s b.memory → length input ≤ s.kept.input_len
    → (r : RanJob) × RunsSimple s b input r × IsInTime s r
simple_runs s b input can fits =
    let k : Kept = s.kept in
    let x : Held = record { mips = opening_of s b input; computed = 0 } in
    let o = opens s b input can fits in
    let at = fastest k in
    let below : at < length k.points = omega (arith, some_points k o.before o.kept) in
    let e : EndsSoon k at x.mips (5 + sum (bounds_at k.admitted.bounds at)) = whole k x o at below in
    let in_time = by_limit k.machine.start_ps (simple_time (pace_at k at) (caches k) e.steps x.mips)
    (5 + sum (bounds_at k.admitted.bounds at)) (period_at k at) k.deadline_ps e.within
    (simple_in_time k o.before o.kept) in
    let r = simple_job s b input e.steps in (
      r,
      record {
        number_is = refl;
        mode_is = refl;
        steps = e.steps;
        ends = record { ends = e.ends; answer_is = refl };
        state_is = refl;
        end_is = refl;
        counts_are = refl;
        numbers_are = refl;
      },
      record { in_time = in_time; next = leaves_open s b input can fits e.steps r.state refl },
    )

-- however it has run
pub simple_in_time_once : (s : Setting) (b : Before) (input : List ℕ) (r : RanJob) → CanOpen s b.memory
    → length input ≤ s.kept.input_len → RunsSimple s b input r → IsInTime s r
simple_in_time_once s b input r can fits runs =
    let there = simple_runs s b input can fits in
    subst (λ o. IsInTime s o) (simple_once s b input there.0 r there.1 runs) there.2
