-- The jobs of a task that is kept: on which memories they open, and how they end in simple mode.
use Rattle.std.proofs.Common.{◌≡◌, refl, sym, ap, subst, ◌∙◌, ℕ, zero, suc, ◌+◌, ◌-◌, ◌≤◌, ◌<◌, List, [], ◌∷◌, length, drop, get_or, sum, arith}
use Rattle.std.proofs.lemmas.List.{drop-drop}
use Rattle.std.proofs.lemmas.List.Sums.{sum_by-take-drop}
use Rattle.std.specs.Int.{div_ceil}
use Rattle.std.specs.Prelude.{Some, slice_get, slice_index}
use Rattle.visa_io.specs.ImageCode.{code_of_image}
use Rattle.visa_io.specs.declared.records.Image.{Image}
use Rattle.mips_ref.specs.Job.{after, opening}
use Rattle.mips_ref.specs.Memory.{Flat}
use Rattle.mips_ref.specs.Mips.{Held, Mips}
use Rattle.mips_ref.proofs.Steps.{step_keeps_room}
use Rattle.simple_pipe.specs.Simple.{simple_time}
use Rattle.task_text.specs.declared.task.Task.{Task}
use Rattle.remaining_wcet.specs.Runs.{cuts_met}
use Rattle.timed_jobs.specs.Pace.{pcs_of}
use Rattle.admission.specs.Found.{bounds_at, entry_of}
use Rattle.admitted_jobs.specs.Jobs.{EndsBy, IsJob, inside, job_of}
use Rattle.admitted_jobs.specs.Ready.{IsReady}
use Rattle.ooo_clock.specs.Along.{AllWent}
use Rattle.mode_states.specs.Kept.{EndsSoon, IsKept, IsOpening, caches, kept_of, pace_at, period_at}
use Rattle.mode_states.specs.declared.kept.Kept.{Kept}
use Rattle.mode_states.proofs.InOrder.{IsOrdered, stood_among}
use Rattle.mode_states.proofs.Laws.{entry_law, job_law, order_law, ready_law, suffix_law}

-- a job that opens is one of the task
pub opens_job : (k : Kept) (x : Held) → (o : IsOpening k x) → IsJob o.kept.task o.kept.made.image x.mips
opens_job k x o =
    let is = o.kept.is in
    let entry = o.kept.made.entry_is in
    record {
      memory = o.before.mips.memory;
      input = o.input;
      ready = o.kept.made.ready;
      fits = omega (arith, o.fits, ap (λ (q : Kept). q.input_len) is);
      opens =
          ap (λ (y : Held). y.mips) o.is
          ∙ (λ i. opening (entry i) (is i).stack (is i).input_at (is i).input_len o.input o.before.mips.memory
          (o.kept.room i));
    }

pub keeps_room : (n : ℕ) (x : Mips) → (after n x).output_max ≡ x.output_max
unfolding after
keeps_room zero x = refl
keeps_room (suc n) x = step_keeps_room (after n x) ∙ keeps_room n x

job_room : (t : Task) (i : Image) (m : Flat) (input : List ℕ) → (job_of t i m input).output_max ≡ t.out_max
unfolding opening
job_room t i m input = refl

-- after any number of its steps another one can open
pub leaves_kept : (k : Kept) (x y : Held) → IsOpening k x → (n : ℕ) → y.mips ≡ after n x.mips → IsKept k y
leaves_kept k x y o n e =
    let t = o.kept.task in
    let i = o.kept.made.image in
    let job = opens_job k x o in
    let there : after n (job_of t i job.memory job.input) ≡ y.mips = ap (after n) (sym job.opens) ∙ sym e in
    record {
      task = t;
      is = o.kept.is;
      made = record {
        mode = o.kept.made.mode;
        image = i;
        limits = o.kept.made.limits;
        admitted = o.kept.made.admitted;
        entry_is = o.kept.made.entry_is;
        ready = subst (λ z. IsReady t (code_of_image i) z.memory) there
            (ready_law t i job.memory job.input n job.ready job.fits);
      };
      room = ap (λ z. z.output_max) e ∙ keeps_room n x.mips ∙ ap (λ z. z.output_max) job.opens
          ∙ job_room t i job.memory job.input;
    }

-- how a job ends, by what is kept
ends_soon : (k : Kept) (t : Task) → k ≡ kept_of t k.entry k.admitted → (point : ℕ) (y : Mips) (first most limit : ℕ)
    → EndsBy t point y first most
    → 5 + (first + most) ≤ limit → EndsSoon k point y limit
ends_soon k t is point y first most limit e l =
    let Time : Kept → ℕ = λ q. simple_time (pace_at q point) (caches q) e.steps y in
    let within : Time (kept_of t k.entry k.admitted) ≤ 5 + (first + most) = e.within in
    let same : Time k ≡ Time (kept_of t k.entry k.admitted) = ap Time is in
    record { steps = e.steps; ends = e.ends; few = omega (arith, e.few, l); within = omega (arith, within, same, l) }

sum_less : (ns : List ℕ) (i : ℕ) → sum (drop i ns) ≤ sum ns
sum_less ns i = omega (arith, sum_by-take-drop (λ (n : ℕ). n) ns i)

pub sum_falls : (ns : List ℕ) (i j : ℕ) → i ≤ j → sum (drop j ns) ≤ sum (drop i ns)
sum_falls ns i j later =
    let n : ℕ = j - i in
    let whole : i + n ≡ j = omega (arith, later) in
    let same : drop n (drop i ns) ≡ drop j ns = drop-drop n i ns ∙ ap (λ m. drop m ns) whole in
    subst (λ l. sum l ≤ sum (drop i ns)) same (sum_less (drop i ns) n)

-- the bounds of what remains at a point, five cycles and a missed fetch
abbrev pub left_of : Kept → ℕ → ℕ → ℕ
left_of k point sub = 5 + div_ceil k.machine.mem_ps (period_at k point) + sum
    (drop sub (bounds_at k.admitted.bounds point))

-- wherever it is broken off, what remains of a job ends in simple mode
pub remains : (k : Kept) (x : Held) → IsOpening k x → (n : ℕ) → AllWent n x.mips → (point : ℕ)
    → point < length k.points → (sub : ℕ)
    → sub ≤ cuts_met k.cuts (pcs_of n x.mips) → EndsSoon k point (after n x.mips) (left_of k point sub)
remains k x o n went point below sub met =
    let t = o.kept.task in
    let is = o.kept.is in
    let made = o.kept.made in
    let few = ap (λ (q : Kept). length q.points) is in
    let cuts = ap (λ (q : Kept). cuts_met q.cuts (pcs_of n x.mips)) is in
    let miss = ap (λ (q : Kept). div_ceil q.machine.mem_ps (period_at q point)) is in
    let law = suffix_law made.mode t made.image k.admitted x.mips point n made.limits made.admitted (opens_job k x o)
    (omega (arith, below, few)) went in
    let falls = sum_falls (bounds_at k.admitted.bounds point) sub (inside t.cuts x.mips n) (omega (arith, met, cuts)) in
    ends_soon k t is point (after n x.mips) (div_ceil t.machine.mem_ps (slice_index t.points point))
    (sum (drop (inside t.cuts x.mips n) (bounds_at k.admitted.bounds point))) (left_of k point sub) law
    (omega (arith, falls, miss))

-- and so does all of it
pub whole : (k : Kept) (x : Held) → IsOpening k x → (point : ℕ) → point < length k.points
    → EndsSoon k point x.mips (5 + sum (bounds_at k.admitted.bounds point))
whole k x o point below =
    let t = o.kept.task in
    let is = o.kept.is in
    let made = o.kept.made in
    let few = ap (λ (q : Kept). length q.points) is in
    let law = job_law made.mode t made.image k.admitted x.mips point made.limits made.admitted (opens_job k x o)
    (omega (arith, below, few)) in
    ends_soon k t is point x.mips 0 (sum (bounds_at k.admitted.bounds point))
    (5 + sum (bounds_at k.admitted.bounds point)) law (omega arith)

-- its cuts come in order
opening_pc : (t : Task) (i : Image) (m : Flat) (input : List ℕ) → (job_of t i m input).pc ≡ entry_of t i
unfolding opening
opening_pc t i m input = refl

there_is : (l : List ℕ) (j : ℕ) → j < length l → slice_get l j ≡ Some (get_or l j 0)
there_is [] j below = absurd (omega (arith, below))
there_is (c ∷ cs) zero below = refl
there_is (c ∷ cs) (suc j) below = there_is cs j (omega (arith, below))

task_ordered : (k : Kept) (x : Held) → (o : IsOpening k x) → IsOrdered o.kept.task.cuts x.mips
task_ordered k x o =
    let t = o.kept.task in
    let made = o.kept.made in
    let job = opens_job k x o in
    record {
      opens = λ j below at. entry_law made.mode t made.image k.admitted j made.admitted below
          (at ∙ ap (λ y. y.pc) job.opens ∙ opening_pc t made.image job.memory job.input);
      order = λ n went j below here.
          let stood = order_law made.mode t made.image k.admitted x.mips (suc n) j (get_or t.cuts j 0)
          (get_or t.cuts (suc j) 0) made.limits made.admitted job
          went (there_is t.cuts j (omega (arith, below))) (there_is t.cuts (suc j) below) (sym here) in
          stood_among x.mips n stood.steps (get_or t.cuts j 0) (omega (arith, stood.earlier)) stood.at;
    }

pub ordered : (k : Kept) (x : Held) → IsOpening k x → IsOrdered k.cuts x.mips
ordered k x o = subst (λ (q : Kept). IsOrdered q.cuts x.mips) (sym o.kept.is) (task_ordered k x o)
