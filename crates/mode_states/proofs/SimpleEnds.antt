-- A job in simple mode ends, and by its deadline.
use Rattle.std.proofs.Common.{◌≡◌, refl, sym, ap, subst, ◌∙◌, inl, inr, ℕ, ◌+◌, ◌*◌, ◌≤◌, ◌<◌, ◌^◌, arith}
use Rattle.std.proofs.Math.Nat.{mul-le-mul_left, mul-le-mul_right}
use Rattle.std.proofs.lemmas.Bool.{cases_lt}
use Rattle.std.specs.Option.{IfSome}
use Rattle.std.specs.Prelude.{List, Option, Some, None, is_some, true}
use Rattle.mips_ref.specs.Job.{EndsAfter, after}
use Rattle.mips_ref.specs.Mips.{Held, Mips}
use Rattle.mips_ref.specs.declared.records.Step.{Step}
use Rattle.simple_pipe.specs.Pipe.{Piped, pipe_caches}
use Rattle.simple_pipe.specs.Run.{EndsIn, GoesOn, StopsAs}
use Rattle.simple_pipe.specs.Simple.{caches_of, simple_time}
use Rattle.simple_pipe.specs.declared.pace.Pace.{Pace}
use Rattle.simple_pipe.specs.declared.stop.PipeStop.{PipeStop}
use Rattle.simple_pipe.specs.declared.stop.PipeStop.TheVariants.{Ended, Limit}
use Rattle.ooo_clock.specs.Fasts.{Clocked}
use Rattle.mode_states.specs.Ends.{SimpleEnd}
use Rattle.mode_states.specs.Fits.{FitsIdle, FitsSimpleRun, IsPipeOf}
use Rattle.mode_states.specs.Kept.{caches, pace_at, period_at}
use Rattle.mode_states.specs.Views.{Going, Resting}
use Rattle.mode_states.specs.declared.ending.Ending.{Ending}
use Rattle.mode_states.specs.declared.kept.Kept.{Kept}
use Rattle.mode_states.proofs.InTime.{IsShort, deadline_small, period_in}
use Rattle.mode_states.proofs.KeptJobs.{leaves_kept}
use Rattle.mips_ref.proofs.Rans.{after_add}

-- a job ends once
ends_once : (x : Mips) (n m : ℕ) → EndsAfter x n → EndsAfter x m → n ≡ m
ends_once x n m e f = elim (cases_lt n m) [
  | inl before ↦ absurd (e.ended (f.went n before))
  | inr later ↦ elim (cases_lt m n) [
    | inl after ↦ absurd (f.ended (e.went m after))
    | inr same ↦ omega (arith, later, same)
  ]
]

period_of : (k : Kept) (x : Held) (point spent : ℕ) (fast : Clocked) (pipe : Piped)
    → FitsSimpleRun k x point spent fast pipe → IsShort (period_at k point)
period_of k x point spent fast pipe s = period_in k s.job.opens.before s.job.opens.kept point s.in_points

deadline_of : (k : Kept) (x : Held) (point spent : ℕ) (fast : Clocked) (pipe : Piped)
    → FitsSimpleRun k x point spent fast pipe → k.deadline_ps ≤ 10 ^ 12
deadline_of k x point spent fast pipe s = deadline_small k s.job.opens.before s.job.opens.kept

-- far fewer instructions than the limit
few_by : (spent limit period deadline : ℕ) → spent + limit * period ≤ deadline → deadline ≤ 10 ^ 12 → 100 ≤ period
    → limit < 10 ^ 12
few_by spent limit period deadline in_time small some =
    let most = mul-le-mul_left {m = 100} {n = period} limit some in
    omega (arith, in_time, small, most)

-- how the pipeline stops, at the pace and with the caches that are kept
pub stops_at : (k : Kept) (x is : Held) (point spent : ℕ) (fast : Clocked) (pipe : Piped) (limit : ℕ)
    (stop : PipeStop) → FitsSimpleRun k x point spent fast pipe
    → IfSome pipe.started (λ (pace : Pace). StopsAs pace (pipe_caches pipe) x limit stop is)
    → StopsAs (pace_at k point) (caches k) x limit stop is
stops_at k x is point spent fast pipe limit stop s h =
    let there : StopsAs (pace_at k point) (pipe_caches pipe) x limit stop is =
    subst (λ (o : Option Pace). IfSome o (λ pace. StopsAs pace (pipe_caches pipe) x limit stop is)) s.started h in
    subst (λ c. StopsAs (pace_at k point) c x limit stop is)
    (λ i. caches_of (s.pipeline.icache i) (s.pipeline.dcache i)) there

-- it doesn't stop at the limit
pub never_limited : (k : Kept) (x is : Held) (point spent : ℕ) (fast : Clocked) (pipe : Piped) (limit : ℕ)
    → limit ≡ 10 ^ 12 → FitsSimpleRun k x point spent fast pipe
    → IfSome pipe.started (λ (pace : Pace). StopsAs pace (pipe_caches pipe) x limit Limit is) → ⊥
never_limited k x is point spent fast pipe limit limit_is s h =
    let goes : GoesOn x limit is = stops_at k x is point spent fast pipe limit Limit s h in
    let short = period_of k x point spent fast pipe s in
    let few = few_by spent s.limit (period_at k point) k.deadline_ps s.in_time
    (deadline_of k x point spent fast pipe s) short.least in
    s.ends.ends.ended (goes.went s.ends.steps (omega (arith, s.ends.few, few, limit_is)))

-- what is known of its end
pub record IsEnd (k : Kept) (x is : Held) (point spent cycles : ℕ) (step : Step) : Type 0 where
  pub steps : ℕ
  pub limit : ℕ
  pub ends : EndsIn (pace_at k point) (caches k) x limit cycles step is steps
  pub in_time : spent + cycles * period_at k point ≤ k.deadline_ps
  pub small : k.deadline_ps ≤ 10 ^ 12

pub is_end : (k : Kept) (x is : Held) (point spent : ℕ) (fast : Clocked) (pipe : Piped) (limit cycles : ℕ)
    (step : Step) → FitsSimpleRun k x point spent fast pipe
    → IfSome pipe.started (λ (pace : Pace). StopsAs pace (pipe_caches pipe) x limit (Ended cycles step) is)
    → IsEnd k x is point spent cycles step
is_end k x is point spent fast pipe limit cycles step s h =
    let ended : (n : ℕ) × EndsIn (pace_at k point)
    (caches k) x limit cycles step is n = stops_at k x is point spent fast pipe limit (Ended cycles step) s h in
    let n = ended.0 in
    let e = ended.1 in
    let same : s.ends.steps ≡ n = ends_once x.mips s.ends.steps n s.ends.ends e.ends in
    let time : simple_time (pace_at k point) (caches k) s.ends.steps x.mips ≡ cycles = ap
    (λ m. simple_time (pace_at k point) (caches k) m x.mips) same ∙ sym e.time in
    let within : cycles ≤ s.limit = omega (arith, s.ends.within, time) in
    let spent_on = mul-le-mul_right {m = cycles} {n = s.limit} (period_at k point) within in
    record {
      steps = n;
      limit = limit;
      ends = e;
      in_time = omega (arith, spent_on, s.in_time);
      small = deadline_of k x point spent fast pipe s;
    }

-- the end as it is given
pub simple_end : (g : Going) (i : Resting) (e : Ending) (cycles period : ℕ)
    → (known : IsEnd g.kept g.state i.state g.point g.spent_ps cycles e.step)
    → i.kept ≡ g.kept → i.counts ≡ g.counts → e.switch_ps ≡ g.switch_ps → period ≡ period_at g.kept g.point
    → e.end_ps ≡ g.spent_ps + cycles * period
    → SimpleEnd g i e
simple_end g i e cycles period known kept counts switch_is period_is end_is =
    let ended = known.ends in
    record {
      steps = known.steps;
      ends = record { ends = ended.ends; answer_is = sym ended.answer };
      mips = ended.state;
      computed = ended.computed;
      kept = kept;
      counts = counts;
      switch_is = switch_is;
      end_is = end_is ∙ (λ j. g.spent_ps + ended.time j * period_is j);
    }

-- another job can open then
pub rests : (k : Kept) (x is : Held) (point spent cycles : ℕ) (step : Step) (fast : Clocked) (pipe new : Piped)
    → FitsSimpleRun k x point spent fast pipe
    → IsEnd k x is point spent cycles step → new ≡ record pipe { started = None } → FitsIdle k is fast new
rests k x is point spent cycles step fast pipe new s e stopped =
    let j = s.job in
    let there : is.mips ≡ after (e.steps + j.comes.steps) j.opening.mips =
    e.ends.state ∙ ap (after e.steps) j.comes.is ∙ sym (after_add e.steps j.comes.steps j.opening.mips) in
    record {
      kept = leaves_kept k j.opening is j.opens (e.steps + j.comes.steps) there;
      core = s.core;
      pipeline = subst (λ q. IsPipeOf k.machine q) (sym stopped) (record {
        mem = s.pipeline.mem;
        store = s.pipeline.store;
        mul = s.pipeline.mul;
        div = s.pipeline.div;
        icache = s.pipeline.icache;
        dcache = s.pipeline.dcache;
      });
    }

-- the pipeline is started
pub is_started : (o : Option Pace) (pace : Pace) → o ≡ Some pace → is_some o ≡ true
is_started o pace e = ap is_some e

-- the answer of the run
pub simple_answer : (k : Kept) (x is : Held) (counts : List ℕ) (point switch spent cycles period : ℕ) (step : Step)
    (g : Going)
    → record { kept = k; state = x; counts = counts; point = point; switch_ps = switch; spent_ps = spent } ≡ g
    → IsEnd k x is point spent cycles step → period ≡ period_at k point
    → SimpleEnd g (record { kept = k; state = is; counts = counts })
    (record { step = step; switch_ps = switch; end_ps = spent + cycles * period })
simple_answer k x is counts point switch spent cycles period step g made known period_is =
    let h : Going = record
    { kept = k; state = x; counts = counts; point = point; switch_ps = switch; spent_ps = spent } in
    let i : Resting = record { kept = k; state = is; counts = counts } in
    let e : Ending = record { step = step; switch_ps = switch; end_ps = spent + cycles * period } in
    subst (λ (a : Going). SimpleEnd a i e) made (simple_end h i e cycles period known refl refl refl period_is refl)

pub simple_by_deadline : (k : Kept) (x is : Held) (counts : List ℕ) (point switch spent cycles period : ℕ)
    (step : Step) (g : Going)
    → record { kept = k; state = x; counts = counts; point = point; switch_ps = switch; spent_ps = spent } ≡ g
    → IsEnd k x is point spent cycles step → period ≡ period_at k point → spent + cycles * period ≤ g.kept.deadline_ps
simple_by_deadline k x is counts point switch spent cycles period step g made known period_is =
    let deadline = ap (λ (a : Going). a.kept.deadline_ps) made in
    omega (arith, known.in_time, deadline, ap (λ p. cycles * p) period_is)

-- its time is small
pub simple_ps : (k : Kept) (x is : Held) (point spent cycles period : ℕ) (step : Step)
    → IsEnd k x is point spent cycles step → period ≡ period_at k point
    → spent + cycles * period ≤ 10 ^ 12
simple_ps k x is point spent cycles period step known period_is = omega
    (arith, known.in_time, known.small, ap (λ p. cycles * p) period_is)
