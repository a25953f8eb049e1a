-- Memories on which jobs can be released: that of a layout, and what jobs leave.
use Rattle.std.proofs.Common.{◌≡◌, ◌∙◌, refl, sym, ap, subst, ℕ, ◌+◌, ◌<◌, ◌≤◌, ◌^◌, List, get_or, length}
use Rattle.visa_io.specs.ImageCode.{IsFilled, code_of_image}
use Rattle.visa_io.specs.declared.records.Code.{Code}
use Rattle.visa_io.specs.declared.records.Image.{Image}
use Rattle.visa_io.specs.declared.records.Span.{Span}
use Rattle.task_text.specs.declared.task.Task.{Task}
use Rattle.mips_ref.specs.Job.{after, opening}
use Rattle.mips_ref.specs.Memory.{AllStorable, Flat, declared_at, input_buffer, put_bytes}
use Rattle.mips_ref.specs.Mips.{Mips}
use Rattle.mips_ref.specs.SameCode.{SameCode}
use Rattle.mips_ref.proofs.CodeKept.{same_code_again, storable_same}
use Rattle.mips_ref.proofs.CodeOpened.{buffer_len, put_keeps_code}
use Rattle.mips_ref.proofs.Frame.{run_keeps}
use Rattle.laid_code.specs.Bytes.{AreBytes}
use Rattle.laid_code.proofs.Holding.{has_code_of}
use Rattle.run_law.proofs.Opening.{has_code_same}
use Rattle.task_layout.specs.Layout.{IsDeclared, IsLaidOut}
use Rattle.admission.specs.Found.{entry_of}
use Rattle.admitted_jobs.specs.Ready.{IsReady}
use Rattle.admitted_jobs.specs.Jobs.{job_of}

pub layout_ready : (t : Task) (i : Image) (m : Flat) → IsLaidOut t i m → IsFilled i → AreBytes i.bytes
    → t.input_at < 2 ^ 32
    → IsReady t (code_of_image i) m
layout_ready t i m laid filled bytes word = record {
  has_code = has_code_of t i m laid filled bytes;
  input_at = word;
  input = laid.input;
  shows = laid.shows;
}

-- what is declared depends on the ranges alone
same_ready : (t : Task) (code : Code) (m n : Flat) → SameCode m n → IsReady t code m → IsReady t code n
same_ready t code m n same ready = record {
  has_code = has_code_same code m n same ready.has_code;
  input_at = ready.input_at;
  input = λ k below. storable_same m n (t.input_at + k) same ∙ ready.input k below;
  shows = λ k d below. shown (get_or t.show k d) (ready.shows k d below);
}
  where
    shown : (s : Span) → IsDeclared m s → IsDeclared n s
    shown s all = λ j less.
        ap (λ spans. declared_at (record m { spans = spans }) (s.start + j)) same.spans_are ∙ all j less

opening_memory : (entry stack input_at input_len : ℕ) (input : List ℕ) (m : Flat) (out : ℕ)
    → (opening entry stack input_at input_len input m out).memory
    ≡ put_bytes m input_at (input_buffer input_len input)
unfolding opening
opening_memory entry stack input_at input_len input m out = refl

pub leaves_ready : (t : Task) (i : Image) (m : Flat) (input : List ℕ) (n : ℕ) → IsReady t (code_of_image i) m
    → length input ≤ t.input_len
    → IsReady t (code_of_image i) (after n (job_of t i m input)).memory
leaves_ready t i m input n ready fits =
    let x : Mips = job_of t i m input in
    let put : Flat = put_bytes m t.input_at (input_buffer t.input_len input) in
    let stores = subst (λ len. AllStorable m t.input_at len) (sym (buffer_len t.input_len input fits)) ready.input in
    let first = put_keeps_code m t.input_at (input_buffer t.input_len input) stores in
    let opens = subst (λ o. SameCode m o) (sym (opening_memory (entry_of t i) t.stack t.input_at t.input_len input m
    t.out_max)) first in
    same_ready t (code_of_image i) m (after n x).memory
    (same_code_again m x.memory (after n x).memory opens (run_keeps n x)) ready
