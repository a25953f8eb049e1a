-- An admitted task on a memory that is ready makes a run.
use Rattle.std.proofs.Common.{◌≡◌, refl, sym, subst, ℕ}
use Rattle.visa_io.specs.ImageCode.{code_of_image}
use Rattle.visa_io.specs.declared.records.Image.{Image}
use Rattle.mips_ref.specs.Memory.{Flat}
use Rattle.mips_ref.specs.Mips.{blank}
use Rattle.task_text.specs.Limits.{KeepsLimits}
use Rattle.task_text.specs.declared.task.Task.{Task}
use Rattle.admission.specs.Admitted.{IsAdmitted, Times}
use Rattle.admission.specs.Found.{entry_of}
use Rattle.admission.specs.declared.mode.Mode.{Mode}
use Rattle.admitted_jobs.specs.Ready.{IsReady}
use Rattle.mode_states.specs.Kept.{IsKept, kept_of}
use Rattle.mode_states.specs.declared.kept.Kept.{Kept}
use Rattle.job_runner.specs.Job.{Setting}
use Rattle.job_runner.specs.Opens.{IsRunnable}

-- a job can open, by an admission in this mode
record OpensBy (mode : Mode) (k : Kept) (m : Flat) (out : ℕ) : Type 0 where
  opens : IsKept k (record { mips = blank m out; computed = 0 })
  mode_is : opens.made.mode ≡ mode

opens_by : (mode : Mode) (t : Task) (i : Image) (times : Times) (m : Flat) (out : ℕ) → KeepsLimits t
    → IsAdmitted mode t i times → IsReady t (code_of_image i) m → out ≡ t.out_max
    → OpensBy mode (kept_of t (entry_of t i) times) m out
unfolding blank
opens_by mode t i times m out limits admitted ready room =
    record {
      opens = record {
        task = t;
        is = refl;
        made = record {
          mode = mode;
          image = i;
          limits = limits;
          admitted = admitted;
          entry_is = refl;
          ready = ready;
        };
        room = room;
      };
      mode_is = refl;
    }

pub admitted_runs : (mode : Mode) (t : Task) (i : Image) (times : Times) (s : Setting) → KeepsLimits t
    → IsAdmitted mode t i times → IsReady t (code_of_image i) s.memory → s.kept ≡ kept_of t (entry_of t i) times
    → s.output_max ≡ t.out_max → IsRunnable mode s
admitted_runs mode t i times s limits admitted ready kept room =
    let there : OpensBy mode (kept_of t (entry_of t i) times) s.memory s.output_max =
    opens_by mode t i times s.memory s.output_max limits admitted ready room in
    let here = subst (λ (k : Kept). OpensBy mode k s.memory s.output_max) (sym kept) there in
    record { opens = here.opens; mode_is = here.mode_is }
