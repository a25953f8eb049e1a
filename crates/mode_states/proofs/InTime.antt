-- The times of a task that is kept: periods, watchdogs, switches, and simple mode alone.
use Rattle.std.proofs.Common.{◌≡◌, sym, ap, subst, ◌∙◌, ℕ, ◌+◌, ◌-◌, ◌*◌, ◌≤◌, ◌<◌, ◌^◌, List, [], ◌∷◌, length, drop, get_or, sum, arith}
use Rattle.std.proofs.Math.Nat.{mul-le-mul_left}
use Rattle.std.proofs.lemmas.List.{length-map}
use Rattle.std.specs.Int.{div_ceil}
use Rattle.std.specs.Prelude.{slice_index}
use Rattle.mips_ref.specs.Mips.{Held}
use Rattle.task_text.specs.TaskParts.{fastest_ps}
use Rattle.task_text.specs.declared.task.Task.{Task}
use Rattle.task_text.proofs.TaskParts.{last_is}
use Rattle.checkpoint_plan.specs.Plan.{IsPlan, checkpoint_of, owed_of, rem_of, rems_of, switch_of, wait_of, watchdog_of}
use Rattle.checkpoint_plan.specs.declared.plan.Plan.{Plan}
use Rattle.checkpoint_plan.proofs.Fits.{switch_fits, watchdogs_grow}
use Rattle.frequency_pick.specs.declared.plans.Pair.{Pair}
use Rattle.admission.specs.Admitted.{fastest_bounds, needed_of}
use Rattle.admission.specs.Plans.{IsPlanOf}
use Rattle.admission.specs.Found.{bounds_at}
use Rattle.admission.specs.declared.mode.Mode.{Mode}
use Rattle.admission.specs.declared.mode.Mode.TheVariants.{Simple, Fast}
use Rattle.mode_states.specs.Kept.{IsKept, IsPlanned, fastest, period_at, watchdogs_in, watchdogs_of}
use Rattle.mode_states.specs.Loop.{AreWatchdogs}
use Rattle.mode_states.specs.declared.kept.Kept.{Kept}
use Rattle.mode_states.proofs.KeptJobs.{left_of}
use Rattle.mode_states.proofs.Laws.{bounds_long}

-- a clock period, ps
pub record IsShort (p : ℕ) : Type 0 where
  pub least : 100 ≤ p
  pub most : p ≤ 1000000

pub period_in : (k : Kept) (x : Held) → IsKept k x → (point : ℕ) → point < length k.points → IsShort (period_at k point)
period_in k x h point below =
    let points = ap (λ (q : Kept). q.points) h.is in
    let there = ap (λ (l : List ℕ). get_or l point 0) points in
    let count = ap (λ (l : List ℕ). length l) points in
    let each = h.made.limits.points.each point 0 (omega (arith, below, count)) in
    record { least = omega (arith, each.0, there); most = omega (arith, each.1, there) }

pub deadline_small : (k : Kept) (x : Held) → IsKept k x → k.deadline_ps ≤ 10 ^ 12
deadline_small k x h =
    let same = ap (λ (q : Kept). q.deadline_ps) h.is in
    omega (arith, same, h.made.limits.deadline.1, h.made.limits.period.1)

pub some_points : (k : Kept) (x : Held) → IsKept k x → 0 < length k.points
some_points k x h = let count = ap (λ (q : Kept). length q.points) h.is in omega
    (arith, count, h.made.limits.points.some)

pub few_cuts : (k : Kept) (x : Held) → IsKept k x → length k.cuts ≤ 31
few_cuts k x h = let count = ap (λ (q : Kept). length q.cuts) h.is in omega (arith, count, h.made.limits.few_cuts)

pub planned_points : (k : Kept) (x : Held) → IsKept k x → k.admitted.plans.points ≡ length k.points
planned_points k x h = h.made.admitted.plans.points ∙ sym (ap (λ (q : Kept). length q.points) h.is)

-- the plan of a pair is that of checkpoint plans
pub plan_is : (k : Kept) (x : Held) (pair : Pair) → (h : IsKept k x) → (p : IsPlanned k pair)
    → IsPlan h.task (bounds_at k.admitted.bounds pair.b) pair.a pair.b (slice_index h.task.points pair.a)
    (slice_index h.task.points pair.b) p.plan
plan_is k x pair h p =
    let count = ap (λ (q : Kept). length q.points) h.is in
    let are = h.made.admitted.plans.are pair.a pair.b (omega (arith, p.speculative, count))
    (omega (arith, p.recovery, count)) in
    subst (λ o. IsPlanOf h.task k.admitted.bounds pair.a pair.b o) p.is are

pub bounds_are : (k : Kept) (x : Held) → IsKept k x → (point : ℕ) → point < length k.points
    → length (bounds_at k.admitted.bounds point) ≡ length k.cuts + 1
bounds_are k x h point below =
    let count = ap (λ (q : Kept). length q.points) h.is in
    let cuts = ap (λ (q : Kept). length q.cuts) h.is in
    let long = bounds_long h.made.mode h.task h.made.image k.admitted point h.made.admitted
    (omega (arith, below, count)) in
    omega (arith, long, cuts)

-- a switch by the watchdog of a sub-task leaves time for what remains
abbrev pub Fits : Kept → Pair → ℕ → ℕ → ℕ → Type 0
Fits k pair sub at flight =
    k.machine.start_ps + at * period_at k pair.a + switch_of k.machine flight (period_at k pair.a) (period_at k pair.b)
    + left_of k pair.b sub * period_at k pair.b ≤ k.deadline_ps

pub switch_in_time : (k : Kept) (x : Held) (pair : Pair) → IsKept k x → (p : IsPlanned k pair) → (sub at flight : ℕ)
    → sub ≤ length k.cuts
    → at ≤ slice_index p.plan.watchdog sub → flight ≤ wait_of k.machine (period_at k pair.a) → Fits k pair sub at flight
switch_in_time k x pair h p sub at flight inside early short =
    let t = h.task in
    let long = bounds_are k x h pair.b p.recovery in
    let wait = ap (λ (q : Kept). wait_of q.machine (period_at q pair.a)) h.is in
    let bounds = bounds_at k.admitted.bounds pair.b in
    let fits = switch_fits t bounds pair.a pair.b (slice_index t.points pair.a)
    (slice_index t.points pair.b) p.plan sub at flight
    (plan_is k x pair h p) (omega (arith, inside, long)) early (omega (arith, short, wait)) in
    let Holds : Kept → Type 0 = λ q.
    q.machine.start_ps + at * period_at q pair.a + switch_of q.machine flight (period_at q pair.a) (period_at q pair.b)
    + (5 + div_ceil q.machine.mem_ps (period_at q pair.b) + sum
    (drop sub bounds)) * period_at q pair.b ≤ q.deadline_ps in
    subst Holds (sym h.is) fits

-- cycles up to a watchdog end by the deadline
pub cycles_in_time : (k : Kept) (x : Held) (pair : Pair) → IsKept k x → (p : IsPlanned k pair) → (sub at : ℕ)
    → sub ≤ length k.cuts
    → at ≤ slice_index p.plan.watchdog sub → k.machine.start_ps + at * period_at k pair.a ≤ k.deadline_ps
cycles_in_time k x pair h p sub at inside early = let fits = switch_in_time k x pair h p sub at 0 inside early
    (omega arith) in omega (arith, fits)

-- the watchdogs of a pair
pub watchdogs_are : (k : Kept) (pair : Pair) → (p : IsPlanned k pair) → watchdogs_of k pair ≡ p.plan.watchdog
watchdogs_are k pair p = ap watchdogs_in p.is

pub rems_long : (bounds : List ℕ) (pb : ℕ) → length (rems_of bounds pb) ≡ length bounds
unfolding rems_of
rems_long [] pb = omega arith
rems_long (n ∷ ns) pb = omega (arith, rems_long ns pb)

watchdogs_long : (t : Task) (bounds : List ℕ) (a b pa pb : ℕ) (p : Plan) → IsPlan t bounds a b pa pb p
    → length p.watchdog ≡ length bounds
watchdogs_long t bounds a b pa pb p is =
    ap (λ (l : List ℕ). length l) is.watchdogs_are ∙ length-map p.checkpoint_ps (watchdog_of pa)
    ∙ ap (λ (l : List ℕ). length l) is.checkpoints_are ∙ length-map (rems_of bounds pb) (checkpoint_of t pa pb)
    ∙ rems_long bounds pb

small_by : (start n period deadline : ℕ) → start + n * period ≤ deadline → deadline ≤ 10 ^ 12 → 100 ≤ period
    → n ≤ 10 ^ 12
small_by start n period deadline in_time small some =
    let most = mul-le-mul_left {m = 1} {n = period} n (omega (arith, some)) in
    omega (arith, in_time, small, most)

pub plan_watchdogs : (k : Kept) (x : Held) (pair : Pair) → IsKept k x → (p : IsPlanned k pair)
    → AreWatchdogs (length k.cuts) p.plan.watchdog
plan_watchdogs k x pair h p =
    let t = h.task in
    let bounds = bounds_at k.admitted.bounds pair.b in
    let is = plan_is k x pair h p in
    let long = bounds_are k x h pair.b p.recovery in
    let period = period_in k x h pair.a p.speculative in
    let same = ap (λ (q : Kept). period_at q pair.a) h.is in
    let some : 0 < slice_index t.points pair.a = omega (arith, period.least, same) in
    record {
      enough = omega (
        arith,
        watchdogs_long t bounds pair.a pair.b (slice_index t.points pair.a)
            (slice_index t.points pair.b) p.plan is,
        long,
      );
      rise = λ i j later inside.
          watchdogs_grow t bounds pair.a pair.b (slice_index t.points pair.a)
          (slice_index t.points pair.b) p.plan i j is some later (omega (arith, inside, long));
      small = small_by k.machine.start_ps (slice_index p.plan.watchdog (length k.cuts))
          (period_at k pair.a) k.deadline_ps
          (cycles_in_time k x pair h p (length k.cuts) (slice_index p.plan.watchdog (length k.cuts)) (omega arith)
          (omega arith))
          (deadline_small k x h) period.least;
    }

-- in simple mode alone
needed : (mode : Mode) (t : Task) (bounds : List (List ℕ)) → needed_of mode t bounds ≤ t.deadline_ps
    → t.machine.start_ps + rem_of (fastest_bounds t bounds) (fastest_ps t) ≤ t.deadline_ps
unfolding needed_of owed_of
needed Simple t bounds h = h
needed Fast t bounds h = omega (arith, h)

needed_parts : (t : Task) (bounds : List ℕ) (period : ℕ) → period ≡ fastest_ps t
    → t.machine.start_ps + rem_of bounds (fastest_ps t) ≤ t.deadline_ps
    → t.machine.start_ps + (5 + sum bounds) * period ≤ t.deadline_ps
unfolding rem_of
needed_parts t bounds period is h = let same = ap (λ n. (5 + sum bounds) * n) is in omega (arith, h, same)

pub simple_in_time : (k : Kept) (x : Held) → IsKept k x
    → k.machine.start_ps + (5 + sum (bounds_at k.admitted.bounds (fastest k))) * period_at k (fastest k) ≤ k.deadline_ps
simple_in_time k x h =
    let t = h.task in
    let all = needed h.made.mode t k.admitted.bounds h.made.admitted.in_time in
    let parts = needed_parts t (fastest_bounds t k.admitted.bounds) (slice_index t.points (length t.points - 1))
    (last_is t.points) all in
    let Holds : Kept → Type 0 = λ q.
    q.machine.start_ps + (5 + sum (bounds_at k.admitted.bounds (fastest q))) * period_at q
    (fastest q) ≤ q.deadline_ps in
    subst Holds (sym h.is) parts
