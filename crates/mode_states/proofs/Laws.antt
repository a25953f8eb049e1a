-- The laws of jobs, as the modes use them.
use Rattle.std.proofs.Common.{◌≡◌, ◌∙◌, sym, ap, ℕ, suc, ◌+◌, ◌<◌, ◌≤◌, List, length, drop, get_or, sum, arith}
use Rattle.std.specs.Prelude.{Some, slice_get}
use Rattle.visa_io.specs.ImageCode.{code_of_image}
use Rattle.visa_io.specs.declared.records.Image.{Image}
use Rattle.mips_ref.specs.Job.{after}
use Rattle.mips_ref.specs.Memory.{Flat}
use Rattle.mips_ref.specs.Mips.{Mips}
use Rattle.task_text.specs.Limits.{KeepsLimits}
use Rattle.task_text.specs.declared.task.Task.{Task}
use Rattle.admission.specs.Admitted.{IsAdmitted, Times}
use Rattle.admission.specs.Found.{bounds_at, entry_of}
use Rattle.admission.specs.declared.mode.Mode.{Mode}
use Rattle.admitted_jobs.specs.Jobs.{AllWent, EndsBy, IsJob, StoodAt, inside, job_of, pace_at}
use Rattle.admitted_jobs.specs.Ready.{IsReady}
use Rattle.admitted_jobs.proofs.InOrder.{cuts_in_order}
use Rattle.admitted_jobs.proofs.Jobs.{cuts_in, job_ends, suffix_ends}
use Rattle.admitted_jobs.proofs.Ready.{leaves_ready}

pub suffix_law : (mode : Mode) (t : Task) (i : Image) (times : Times) (x : Mips) (point n : ℕ) → KeepsLimits t
    → IsAdmitted mode t i times
    → IsJob t i x → point < length t.points → AllWent n x
    → EndsBy t point (after n x) (pace_at t point).miss (sum (drop (inside t.cuts x n) (bounds_at times.bounds point)))
suffix_law mode t i times x point n limits admitted job below went =
    suffix_ends mode t i times x point n limits admitted (cuts_in mode t i times admitted) job below went

pub job_law : (mode : Mode) (t : Task) (i : Image) (times : Times) (x : Mips) (point : ℕ) → KeepsLimits t
    → IsAdmitted mode t i times
    → IsJob t i x → point < length t.points → EndsBy t point x 0 (sum (bounds_at times.bounds point))
job_law mode t i times x point limits admitted job below = job_ends mode t i times x point limits admitted
    (cuts_in mode t i times admitted) job below

pub ready_law : (t : Task) (i : Image) (m : Flat) (input : List ℕ) (n : ℕ) → IsReady t (code_of_image i) m
    → length input ≤ t.input_len
    → IsReady t (code_of_image i) (after n (job_of t i m input)).memory
ready_law t i m input n ready fits = leaves_ready t i m input n ready fits

-- a bound for each sub-task
pub bounds_long : (mode : Mode) (t : Task) (i : Image) (times : Times) (point : ℕ) → IsAdmitted mode t i times
    → point < length t.points
    → length (bounds_at times.bounds point) ≡ length t.cuts + 1
bounds_long mode t i times point admitted below =
    let long = admitted.bounds.subs point below in
    let firsts = ap (λ (l : List ℕ). length l) admitted.analysis.has_cuts.firsts_are in
    omega (arith, long, firsts)

-- a job comes to a cut only after the cut before it
pub order_law : (mode : Mode) (t : Task) (i : Image) (times : Times) (x : Mips) (n j c d : ℕ) → KeepsLimits t
    → IsAdmitted mode t i times → IsJob t i x
    → AllWent n x → slice_get t.cuts j ≡ Some c → slice_get t.cuts (suc j) ≡ Some d → (after n x).pc ≡ d → StoodAt x n c
order_law mode t i times x n j c d limits admitted job went one two here =
    cuts_in_order mode t i times x n j c d limits admitted (cuts_in mode t i times admitted) job went one two here

-- and no cut is the entry
pub entry_law : (mode : Mode) (t : Task) (i : Image) (times : Times) (j : ℕ) → IsAdmitted mode t i times
    → j < length t.cuts
    → get_or t.cuts j 0 ≡ entry_of t i → ⊥
entry_law mode t i times j admitted below at =
    let a = admitted.analysis in
    let cuts = cuts_in mode t i times admitted in
    let firsts = a.has_cuts.firsts_are in
    let long = ap (λ (l : List ℕ). length l) firsts in
    let one : get_or a.subs.firsts (suc j) 0 ≡ get_or t.cuts j 0 = ap (λ (l : List ℕ). get_or l (suc j) 0) firsts in
    let zero_is : get_or a.subs.firsts 0 0 ≡ a.graph.entry = ap (λ (l : List ℕ). get_or l 0 0) firsts in
    let clash = cuts.different (suc j) 0 (get_or t.cuts j 0) (omega (arith, below, long), one)
    (cuts.some, zero_is ∙ a.has_graph.graph.entry_is ∙ sym at) in
    omega (arith, clash)
