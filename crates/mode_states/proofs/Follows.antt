-- A course goes along the reference: after each number of cycles its state is one to which the reference's steps lead.
use Rattle.std.proofs.Common.{◌≡◌, sym, ◌∙◌, ℕ, zero, suc, ◌<◌, Option, Some, None, arith}
use Rattle.mips_ref.specs.Job.{after}
use Rattle.mips_ref.specs.Mips.{Mips}
use Rattle.mips_ref.specs.declared.records.Step.{Step}
use Rattle.core_window.specs.Beside.{Stands}
use Rattle.ooo_clock.specs.Along.{AllWent, EndsWith, grown}
use Rattle.ooo_clock.specs.Cycle.{cycles_of}
use Rattle.ooo_clock.proofs.Along.{cycle-along}
use Rattle.timed_jobs.specs.Pace.{pcs_of}
use Rattle.mode_states.specs.Course.{Course, clock_at, ending_at, pcs_at, progress_at}
use Rattle.mode_states.specs.Progress.{no_progress}
use Rattle.mode_states.proofs.CutsMet.{AreMet, all_met}
use Rattle.mode_states.proofs.InOrder.{AreUnmet, IsOrdered, all_unmet, none_met}

pub record Follows (c : Course) (x : Mips) (n : ℕ) : Type 0 where
  pub steps : ℕ
  pub went : AllWent steps x
  pub state : (clock_at c n).state ≡ after steps x
  pub stands : Stands (clock_at c n).core (clock_at c n).state
  pub met : AreMet c.cuts (progress_at c n) (pcs_of steps x)
  pub unmet : IsOrdered c.cuts x → AreUnmet c.cuts (progress_at c n) (pcs_of steps x)
  pub answer : (a : Step) → ending_at c n ≡ Some a → EndsWith x steps a

-- a course that opens on a state
pub record OpensOn (c : Course) (x : Mips) : Type 0 where
  pub state : c.opening.state ≡ x
  pub stands : Stands c.opening.core c.opening.state
  pub goes_on : c.opening.core.ending ≡ None

follows_none : (c : Course) (x : Mips) → OpensOn c x → Follows c x 0
unfolding cycles_of progress_at after
follows_none c x o = record {
  steps = 0;
  went = λ k l. absurd (omega (arith, l));
  state = o.state;
  stands = o.stands;
  met = λ j l. absurd (omega (arith, l));
  unmet = λ ordered. none_met c.cuts x no_progress ordered;
  answer = λ a e. let no : ◌≡◌ {A = Option Step} None (Some a) = sym o.goes_on ∙ e in cc;
}

follows_next : (c : Course) (x : Mips) (n : ℕ) → ending_at c n ≡ None → Follows c x n → Follows c x (suc n)
unfolding cycles_of progress_at
follows_next c x n goes_on f =
    let y = cycle-along c.speeds c.predicts (clock_at c n) x f.steps f.stands goes_on f.went f.state in
    record {
      steps = grown f.steps (pcs_at c n);
      went = y.went;
      state = y.state;
      stands = y.stands;
      met = all_met c.cuts (suc n) x f.steps (progress_at c n) (pcs_at c n) y.commits f.met;
      unmet = λ ordered. all_unmet c.cuts (suc n) x f.steps (progress_at c n) (pcs_at c n) ordered y.commits y.went
          (f.unmet ordered);
      answer = λ a e. y.ended a (sym y.ending ∙ e);
    }

pub follows : (c : Course) (x : Mips) → OpensOn c x → (n : ℕ) → ((m : ℕ) → m < n → ending_at c m ≡ None) → Follows c x n
follows c x o zero before = follows_none c x o
follows c x o (suc n) before = follows_next c x n (before n (omega arith))
    (follows c x o n (λ m l. before m (omega (arith, l))))
