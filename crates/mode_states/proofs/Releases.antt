-- What a release hands on.
use Rattle.std.proofs.Common.{◌≡◌, refl, sym, ap, subst, ◌∙◌, ℕ, ◌≤◌, ◌<◌, List, [], length, arith}
use Rattle.std.specs.Prelude.{None}
use Rattle.mips_ref.specs.Job.{opening}
use Rattle.mips_ref.specs.Memory.{AllStorable, Flat}
use Rattle.mips_ref.specs.Mips.{Held, Mips, blank}
use Rattle.ooo_clock.specs.Clock.{opening as opened_clock, speeds_at}
use Rattle.ooo_clock.specs.Fasts.{Clocked, IsAt, StandsBeside}
use Rattle.simple_pipe.specs.Pipe.{Piped}
use Rattle.task_text.specs.declared.task.Task.{Task}
use Rattle.admission.specs.Admitted.{Times}
use Rattle.frequency_pick.specs.declared.plans.Pair.{Pair}
use Rattle.mode_states.specs.Fits.{FitsFastRun, FitsIdle, FitsSimpleRun, HoldsCounts, IsFresh, IsPipeOf}
use Rattle.mode_states.specs.Kept.{IsKept, IsMadeOf, IsOpening, IsPlanned, fastest, kept_of, period_at}
use Rattle.mode_states.specs.declared.kept.Kept.{Kept}
use Rattle.mode_states.specs.declared.watch.Watch.{Watch}
use Rattle.mode_states.proofs.Switched.{opened_again, started_at, starts_simple}

-- the input goes into a buffer that can be stored to
pub buffer_in : (k : Kept) (x : Held) → IsKept k x → AllStorable x.mips.memory k.input_at k.input_len
buffer_in k x h = subst (λ (q : Kept). AllStorable x.mips.memory q.input_at q.input_len) (sym h.is) h.made.ready.input

-- a job opens
pub opens_now : (k : Kept) (x y : Held) (input : List ℕ) → IsKept k x → length input ≤ k.input_len
    → y.mips ≡ opening k.entry k.stack k.input_at k.input_len input x.mips.memory x.mips.output_max → y.computed ≡ 0
    → IsOpening k y
opens_now k x y input h fits mips computed =
    record {
      before = x;
      input = input;
      fits = fits;
      kept = h;
      is = λ i. record
          { mips = mips i; computed = computed i };
    }

-- there are no counts yet
pub no_counts : (cuts capacity : ℕ) (counts : List ℕ) → counts ≡ [] → cuts < capacity
    → HoldsCounts cuts (length counts) capacity
no_counts cuts capacity counts none room =
    record { few = omega (arith, ap (λ (l : List ℕ). length l) none); room = room }

pub releases : (k : Kept) (x y : Held) (input : List ℕ) (pair : Pair) (fast new : Clocked) (pipe : Piped) (w : Watch)
    (period : ℕ)
    → FitsIdle k x fast pipe → IsPlanned k pair → length input ≤ k.input_len
    → y.mips ≡ opening k.entry k.stack k.input_at k.input_len input x.mips.memory x.mips.output_max → y.computed ≡ 0
    → period ≡ period_at k pair.a
    → ((numbers : List ℕ) → IsAt new y.mips numbers (opened_clock fast.machine.rob y.mips numbers))
    → StandsBeside new y.mips
    → new.speeds ≡ speeds_at fast.machine period → new.machine ≡ fast.machine → new.cycle ≡ 0
    → IsFresh (length k.cuts) w → FitsFastRun k y pair new pipe w
releases k x y input pair fast new pipe w period f planned fits mips computed period_is clock beside speeds machine
    cycle fresh = record {
      opens = opens_now k x y input f.kept fits mips computed;
      planned = planned;
      core = machine ∙ f.core;
      opened = opened_again new fast y period (period_at k pair.a) period_is clock beside speeds machine cycle;
      pipeline = f.pipeline;
      watch = fresh;
    }

pub releases_simple : (k : Kept) (x y : Held) (input : List ℕ) (point : ℕ) (fast new : Clocked) (pipe started : Piped)
    (period : ℕ) → FitsIdle k x fast pipe
    → length input ≤ k.input_len
    → y.mips ≡ opening k.entry k.stack k.input_at k.input_len input x.mips.memory x.mips.output_max → y.computed ≡ 0
    → point ≡ fastest k → period ≡ period_at k point
    → ((numbers : List ℕ) → IsAt new y.mips numbers (opened_clock fast.machine.rob y.mips numbers))
    → StandsBeside new y.mips
    → new.speeds ≡ speeds_at fast.machine period → new.machine ≡ fast.machine → new.cycle ≡ 0
    → started ≡ started_at pipe period → FitsSimpleRun k y point k.machine.start_ps new started
releases_simple k x y input point fast new pipe started period f fits mips computed point_is period_is clock beside
    speeds machine cycle pipe_is =
    starts_simple k y point fast new pipe started period
    (opens_now k x y input f.kept fits mips computed) point_is period_is f.core f.pipeline clock beside
    speeds machine cycle pipe_is

blank_memory : (m : Flat) (out : ℕ) → (blank m out).memory ≡ m
unfolding blank
blank_memory m out = refl

blank_room : (m : Flat) (out : ℕ) → (blank m out).output_max ≡ out
unfolding blank
blank_room m out = refl

-- a pipeline as it is made for a machine
abbrev pub pipe_for : Task → Piped
pipe_for t =
    record {
      mem_ps = t.machine.mem_ps;
      store_ps = t.machine.store_ps;
      mul = t.machine.mul;
      div = t.machine.div;
      icache = t.machine.icache;
      dcache = t.machine.dcache;
      started = None;
    }

-- before the first job
pub rests_first : (t : Task) (entry : ℕ) (times : Times) (m : Flat) (k : Kept) (x : Held) (fast : Clocked)
    (pipe : Piped) → IsMadeOf t entry times m
    → k ≡ kept_of t entry times → x.mips ≡ blank m t.out_max → fast.machine ≡ t.machine → pipe ≡ pipe_for t
    → FitsIdle k x fast pipe
rests_first t entry times m k x fast pipe made k_is x_is core pipe_is =
    let memory : m ≡ x.mips.memory = sym (ap (λ (y : Mips). y.memory) x_is ∙ blank_memory m t.out_max) in
    let there : FitsIdle (kept_of t entry times) x fast pipe = record {
      kept = record {
        task = t;
        is = refl;
        made = subst (λ n. IsMadeOf t entry times n) memory made;
        room = ap (λ (y : Mips). y.output_max) x_is ∙ blank_room m t.out_max;
      };
      core = core;
      pipeline = subst (λ q. IsPipeOf t.machine q) (sym pipe_is)
          (record { mem = refl; store = refl; mul = refl; div = refl; icache = refl; dcache = refl });
    } in
    subst (λ q. FitsIdle q x fast pipe) (sym k_is) there
