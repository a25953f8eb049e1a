-- What admission says of a task: it is admitted or refused, and its lines have room for its bounds.
use Rattle.std.proofs.Common.{◌≡◌, ◌∙◌, refl, ap, ℕ, suc, ◌<◌, length, arith, Ok, Err}
use Rattle.std.proofs.lemmas.List.{get_or_default}
use Rattle.visa_io.specs.declared.records.Image.{Image}
use Rattle.task_text.specs.Limits.{KeepsLimits}
use Rattle.task_text.specs.declared.task.Task.{Task}
use Rattle.checkpoint_plan.specs.Limits.{AreBounds}
use Rattle.admission.specs.Admitted.{IsAdmitted, Times}
use Rattle.admission.specs.Found.{bounds_at}
use Rattle.admission.specs.Refused.{Admits}
use Rattle.admission.specs.declared.mode.Mode.{Mode}
use Rattle.admission.specs.declared.refusal.Refusal.{Refusal}
use Rattle.admission.specs.declared.refusal.Refusal.TheVariants.{Flow, Region, Fact, Loop, Cut, Exceeds, Memory}
use Rattle.admission.proofs.OneAdmission.{admitted_or_refused}

-- a task that is admitted isn't refused
pub times_exclude : (mode : Mode) (t : Task) (i : Image) (a : Times) (fault : Refusal) → Admits mode t i (Ok a) → Admits mode t i (Err fault) → fault ≡ Memory
times_exclude mode t i a (Flow fault) x y = absurd (admitted_or_refused mode t i a (Flow fault) x y (λ e. cc))
times_exclude mode t i a (Region fault) x y = absurd (admitted_or_refused mode t i a (Region fault) x y (λ e. cc))
times_exclude mode t i a (Fact fault) x y = absurd (admitted_or_refused mode t i a (Fact fault) x y (λ e. cc))
times_exclude mode t i a (Loop fault) x y = absurd (admitted_or_refused mode t i a (Loop fault) x y (λ e. cc))
times_exclude mode t i a (Cut fault) x y = absurd (admitted_or_refused mode t i a (Cut fault) x y (λ e. cc))
times_exclude mode t i a (Exceeds needed deadline) x y = absurd (admitted_or_refused mode t i a (Exceeds needed deadline) x y (λ e. cc))
times_exclude mode t i a Memory x y = refl

pub admits_is : (mode : Mode) (t : Task) (i : Image) (times : Times) → Admits mode t i (Ok times) → IsAdmitted mode t i times
unfolding Admits
admits_is mode t i times is = is

-- a bound for each sub-task, at each point
pub subs_are : (mode : Mode) (t : Task) (i : Image) (times : Times) (b : ℕ) → IsAdmitted mode t i times → b < length t.points
    → length (bounds_at times.bounds b) ≡ suc (length t.cuts)
subs_are mode t i times b is below = is.bounds.subs b below ∙ ap length is.analysis.has_cuts.firsts_are

-- none of them above 10^18
pub rows_are : (mode : Mode) (t : Task) (i : Image) (times : Times) (b : ℕ) → KeepsLimits t → IsAdmitted mode t i times → b < length t.points
    → AreBounds (bounds_at times.bounds b)
rows_are mode t i times b limits is below =
    let long = subs_are mode t i times b is below in
    record {
      few = omega (arith, long, limits.few_cuts);
      each = λ k d less.
          let bound = is.bounds.are b k below (omega (arith, less, is.bounds.subs b below)) in
          omega (arith, bound.bound_is, get_or_default (bounds_at times.bounds b) k d 0 less);
    }
