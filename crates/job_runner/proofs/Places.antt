-- Places of a run, and the runner that stands there.
use Rattle.std.proofs.Common.{◌≡◌, refl, sym, subst, ◌∙◌, ℕ, suc, ◌+◌, ◌-◌, ◌^◌, min, List, [], ◌∷◌, arith}
use Rattle.frequency_pick.specs.Counts.{StandsFor}
use Rattle.log_text.specs.declared.record.JobRecord.{JobRecord}
use Rattle.ooo_clock.specs.Clock.{Predicts}
use Rattle.job_runner.specs.Job.{Before, RanJob, Setting}
use Rattle.job_runner.specs.Run.{all_counts, before, counts_after}
use Rattle.job_runner.specs.Running.{Running, StandsAt, next, ran_by}

-- a setting and what a job finds, as a runner has them
abbrev pub setting_at : Running → Predicts → Setting → Setting
setting_at was p s =
    record {
      kept = was.idle.kept;
      output_max = was.idle.state.mips.output_max;
      predicts = p;
      memory = s.memory;
      numbers = s.numbers;
      past = s.past;
    }

abbrev pub found_at : Running → List ℕ → Before → Before
found_at was numbers b =
    record {
      jobs = b.jobs;
      memory = was.idle.state.mips.memory;
      numbers = numbers;
      counts = b.counts;
    }

-- what holds there holds wherever the runner stands
pub moved : (F : Setting → Before → Type 0) (p : Predicts) (s : Setting) (b : Before) (was : Running) (numbers : List ℕ)
    → s.predicts ≡ p → StandsAt s b was numbers → F (setting_at was p s) (found_at was numbers b) → F s b
moved F p s b was numbers predicts at there =
    let given = sym predicts in
    let same_s : setting_at was p s ≡ s = λ i. record {
      kept = at.kept i;
      output_max = at.output_max i;
      predicts = given i;
      memory = s.memory;
      numbers = s.numbers;
      past = s.past;
    } in
    let same_b : found_at was numbers b ≡ b = λ i. record {
      jobs = b.jobs;
      memory = at.memory i;
      numbers = at.numbers_are i;
      counts = b.counts;
    } in
    subst (λ q. F q b) same_s (subst (λ c. F (setting_at was p s) c) same_b there)

-- the number of the next job
pub next_number : (jobs ran number : ℕ) → ran ≡ min jobs (2 ^ 64 - 1) → number ≡ min (ran + 1) (2 ^ 64 - 1)
    → number ≡ min (suc jobs) (2 ^ 64 - 1)
next_number jobs ran number ran_is is = omega (arith, ran_is, is)

-- the runner stands at the next place
pub stands_next : (s : Setting) (b : Before) (was is : Running) (numbers later : List ℕ) (job : JobRecord)
    → StandsAt s b was numbers → is.idle.kept ≡ was.idle.kept
    → is.idle.state.mips.output_max ≡ was.idle.state.mips.output_max → is.ran ≡ min (was.ran + 1) (2 ^ 64 - 1)
    → StandsFor is.history (counts_after was.idle.kept (ran_by is job later) b.counts)
    → StandsAt s (next s b (ran_by is job later)) is later
stands_next s b was is numbers later job at kept room ran told =
    record {
      kept = kept ∙ at.kept;
      memory = refl;
      output_max = room ∙ at.output_max;
      numbers_are = refl;
      counts = subst (λ k. StandsFor is.history (counts_after k (ran_by is job later) b.counts)) at.kept told;
      ran_is = next_number b.jobs was.ran is.ran at.ran_is ran;
    }

-- the next place of a run is behind its newest job
pub next_is : (s : Setting) (r : RanJob) (older : List RanJob) → next s (before s older) r ≡ before s (r ∷ older)
unfolding before all_counts
next_is s r [] = refl
next_is s r (q ∷ older) = refl

-- so a runner that stands at the next place of a run stands behind its newest job
pub stands_behind : (s : Setting) (r : RanJob) (older : List RanJob) (is : Running) (numbers : List ℕ)
    → StandsAt s (next s (before s older) r) is numbers → StandsAt s (before s (r ∷ older)) is numbers
stands_behind s r older is numbers at = subst (λ b. StandsAt s b is numbers) (next_is s r older) at

-- and a new one at the first place
pub stands_first : (s : Setting) (is : Running) (numbers : List ℕ) → is.idle.kept ≡ s.kept
    → is.idle.state.mips.memory ≡ s.memory → is.idle.state.mips.output_max ≡ s.output_max → numbers ≡ s.numbers
    → StandsFor is.history s.past → is.ran ≡ 0 → StandsAt s (before s []) is numbers
unfolding before
stands_first s is numbers kept memory room numbers_are told ran =
    record {
      kept = kept;
      memory = memory;
      output_max = room;
      numbers_are = numbers_are;
      counts = told;
      ran_is = omega (arith, ran);
    }
