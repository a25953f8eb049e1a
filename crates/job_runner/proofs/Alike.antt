-- Whatever the mode, the points, the predictor and the counts, jobs that open alike leave the same states and answers.
use Rattle.std.proofs.Common.{◌≡◌, refl, sym, ap, subst, ◌∙◌, ℕ, List, [], ◌∷◌, length, arith}
use Rattle.mips_ref.specs.Job.{after, opening}
use Rattle.mips_ref.specs.Mips.{Mips}
use Rattle.mips_ref.specs.declared.records.Step.{Step}
use Rattle.admission.specs.declared.mode.Mode.{Mode}
use Rattle.admission.specs.declared.mode.Mode.TheVariants.{Simple, Fast}
use Rattle.mode_states.specs.Ends.{EndsAs}
use Rattle.job_runner.specs.Job.{Before, RanJob, Setting, opening_of}
use Rattle.job_runner.specs.Opens.{OpenAlike, answers_of, states_of}
use Rattle.job_runner.specs.Run.{AreRun, Runs, before}
use Rattle.job_runner.proofs.Once.{ends_with_once}

-- in either mode a job ends as the reference's
ends_as : (mode : Mode) (s : Setting) (b : Before) (input : List ℕ) (r : RanJob) → Runs mode s b input r
    → EndsAs (opening_of s b input) r.state r.job.step
ends_as Simple s b input r runs = record { steps = runs.steps; ends = runs.ends; is = runs.state_is }
ends_as Fast s b input r runs = runs.reference

-- one state and one answer
record AreSame (x y : Mips) (a b : Step) : Type 0 where
  state : x ≡ y
  answer : a ≡ b

same_end : (x y z : Mips) (a b : Step) → EndsAs x y a → EndsAs x z b → AreSame y z a b
same_end x y z a b e f =
    let one = ends_with_once x e.steps f.steps a b e.ends f.ends in
    record { state = e.is ∙ ap (λ n. after n x) one.steps ∙ sym f.is; answer = one.answer }

open_alike : (s o : Setting) (b c : Before) (input : List ℕ) → OpenAlike s o → b.memory ≡ c.memory
    → opening_of s b input ≡ opening_of o c input
open_alike s o b c input h memory =
    λ i. opening (h.entry i) (h.stack i) (h.input_at i) (h.input_len i) input (memory i) (h.room i)

one_alike : (mode other : Mode) (s o : Setting) (b c : Before) (input : List ℕ) (r q : RanJob) → OpenAlike s o
    → b.memory ≡ c.memory → Runs mode s b input r → Runs other o c input q
    → AreSame r.state q.state r.job.step q.job.step
one_alike mode other s o b c input r q h memory one two =
    let there : EndsAs (opening_of s b input) q.state q.job.step =
    subst (λ x. EndsAs x q.state q.job.step) (sym (open_alike s o b c input h memory))
    (ends_as other o c input q two) in
    same_end (opening_of s b input) r.state q.state r.job.step q.job.step (ends_as mode s b input r one) there

-- and so do all jobs of runs
record AllSame (s o : Setting) (jobs others : List RanJob) : Type 0 where
  memory : (before s jobs).memory ≡ (before o others).memory
  states : states_of jobs ≡ states_of others
  answers : answers_of jobs ≡ answers_of others

all_same : (mode other : Mode) (s o : Setting) (inputs : ℕ → List ℕ) (jobs others : List RanJob) → OpenAlike s o
    → AreRun mode s inputs jobs → AreRun other o inputs others → length jobs ≡ length others → AllSame s o jobs others
unfolding before
all_same mode other s o inputs [] [] h one two long = record { memory = h.memory; states = refl; answers = refl }
all_same mode other s o inputs [] (q ∷ qs) h one two long = absurd (omega (arith, long))
all_same mode other s o inputs (r ∷ rs) [] h one two long = absurd (omega (arith, long))
all_same mode other s o inputs (r ∷ rs) (q ∷ qs) h one two long =
    let number : length rs ≡ length qs = omega (arith, long) in
    let older = all_same mode other s o inputs rs qs h one.1 two.1 number in
    let there : Runs other o (before o qs) (inputs (length rs)) q =
    subst (λ n. Runs other o (before o qs) (inputs n) q) (sym number) two.0 in
    let first = one_alike mode other s o (before s rs) (before o qs) (inputs (length rs)) r q h older.memory one.0
    there in
    record {
      memory = ap (λ (x : Mips). x.memory) first.state;
      states = λ i. first.state i ∷ older.states i;
      answers = λ i. first.answer i ∷ older.answers i;
    }

pub same_states : (mode other : Mode) (s o : Setting) (inputs : ℕ → List ℕ) (jobs others : List RanJob)
    → OpenAlike s o → AreRun mode s inputs jobs → AreRun other o inputs others → length jobs ≡ length others
    → states_of jobs ≡ states_of others
same_states mode other s o inputs jobs others h one two long =
    (all_same mode other s o inputs jobs others h one two long).states

pub same_answers : (mode other : Mode) (s o : Setting) (inputs : ℕ → List ℕ) (jobs others : List RanJob)
    → OpenAlike s o → AreRun mode s inputs jobs → AreRun other o inputs others → length jobs ≡ length others
    → answers_of jobs ≡ answers_of others
same_answers mode other s o inputs jobs others h one two long =
    (all_same mode other s o inputs jobs others h one two long).answers
