-- The inputs of the jobs of a text.
use Rattle.std.proofs.Common.{◌≡◌, ℕ, zero, suc, true, nat_le, nat_lt, List, [], ◌∷◌, ◌++◌, length, drop, get_or, ◌+◌, ◌<◌, ◌≤◌, Result, Ok, Err, IfOk, sym, subst, arith, leb-true, ltb-true, length-append}
use Rattle.std.specs.Prelude.{All}
use Rattle.std.specs.List.{list_all, AllByRecursion}
use Rattle.std.proofs.lemmas.List.{length-take, length-take-le, length-drop}
use Rattle.std.proofs.lemmas.List.Elements.{All-nil, All-push, All-append, All-weaker, All-get_or, recursion_from_All}
use Rattle.text_fields.specs.Lines.{lines_of}
use Rattle.text_fields.proofs.Digits.{and_parts}
use Rattle.task_text.specs.declared.fault.JobsFault.{JobsFault}
use Rattle.task_text.specs.declared.jobs.Jobs.{Jobs}
use Rattle.task_text.specs.declared.jobs.Piece.{Piece}
use Rattle.task_text.specs.declared.task.Task.{Task}
use Rattle.task_text.specs.JobsTexts.{JobsRow, version, past, job, is_byte, in_limits, jobs_in, is_opened, may_stand, IsStart, jobs_of, IsJobs}
use Rattle.task_text.specs.JobsReading.{opening, walk_state, Reads}
use Rattle.task_text.specs.JobInputs.{piece_at, input_of, AreInside, AreInputsOf}
use Rattle.task_text.proofs.JobsWalks as walks
use Rattle.task_text.proofs.KeepsLimits.{all_of}

-- what rows so far give
record AreKept (t : Task) (j : Jobs) : Type 0 where
  inside : AreInside j
  short : All (λ p. p.len ≤ t.input_len) j.inputs
  bytes : All (λ b. b < 256) j.bytes

job_kept : (t : Task) (bs : List ℕ) (j : Jobs) → in_limits t (job bs) ≡ true → AreKept t j → AreKept t (record j { inputs = j.inputs ++ record { from = length j.bytes; len = length bs } ∷ []; bytes = j.bytes ++ bs })
unfolding in_limits
job_kept t bs j e h =
    let p = and_parts (list_all is_byte bs) (nat_le (length bs) t.input_len) e in
    let n = length-append j.bytes bs in
    record {
      inside = All-push (λ q. q.from + q.len ≤ length (j.bytes ++ bs)) j.inputs (record { from = length j.bytes; len = length bs })
          (All-weaker (λ q. q.from + q.len ≤ length j.bytes) (λ q. q.from + q.len ≤ length (j.bytes ++ bs)) (λ q l. omega (arith, n, l)) j.inputs h.inside)
          (omega (arith, n));
      short = All-push (λ q. q.len ≤ t.input_len) j.inputs (record { from = length j.bytes; len = length bs }) h.short (leb-true (length bs) t.input_len p.1);
      bytes = All-append (λ b. b < 256) j.bytes bs h.bytes (all_of is_byte (λ b. b < 256) (λ b l. ltb-true b 256 l) bs p.0);
    }

kept : (t : Task) (xs : List JobsRow) → IsStart t xs → AreKept t (jobs_of xs)
kept t [] s = record { inside = All-nil (λ p. p.from + p.len ≤ 0); short = All-nil (λ p. p.len ≤ t.input_len); bytes = All-nil (λ b. b < 256) }
kept t (version ∷ xs) s = kept t xs s.2
kept t (past p ∷ xs) s = let h = kept t xs s.2 in record { inside = h.inside; short = h.short; bytes = h.bytes }
kept t (job bs ∷ xs) s = job_kept t bs (jobs_of xs) s.1 (kept t xs s.2)

few_jobs : (t : Task) (xs : List JobsRow) → IsStart t xs → jobs_in xs ≤ 10000
unfolding may_stand
few_jobs t [] s = omega arith
few_jobs t (version ∷ xs) s = few_jobs t xs s.2
few_jobs t (past p ∷ xs) s = few_jobs t xs s.2
few_jobs t (job bs ∷ xs) s = let l = ltb-true (jobs_in xs) 10000 (and_parts (is_opened xs) (nat_lt (jobs_in xs) 10000) s.0).1 in omega (arith, l)

whole_inputs : (t : Task) (xs : List JobsRow) → IsStart t xs → AreInputsOf t (jobs_of xs)
whole_inputs t xs s =
    let h = kept t xs s in
    record {
      few = let n = walks.job_count t xs in let l = few_jobs t xs s in omega (arith, n, l);
      inside = h.inside;
      short = h.short;
      bytes = h.bytes;
    }

pub are_inputs : (bytes : List ℕ) (t : Task) (j : Jobs) → IsJobs bytes t j → AreInputsOf t j
are_inputs bytes t j is = subst (AreInputsOf t) (sym is.jobs) (whole_inputs t is.rows is.whole.0)

pub read_inputs : (t : Task) (bytes : List ℕ) (r : Result Jobs JobsFault) → Reads r (walk_state t (lines_of bytes) opening 1) → IfOk r (AreInputsOf t)
read_inputs t bytes (Ok j) g = are_inputs bytes t j (walks.given_jobs t bytes j g)
read_inputs t bytes (Err f) g = tt

-- an input fits the buffer, whether the job is there or not
piece_short : (n : ℕ) (ps : List Piece) (k : ℕ) → AllByRecursion (λ p. p.len ≤ n) ps → (get_or ps k (record { from = 0; len = 0 })).len ≤ n
piece_short n [] k a = omega arith
piece_short n (p ∷ ps) zero a = a.0
piece_short n (p ∷ ps) (suc k) a = piece_short n ps k a.1

pub input_short : (t : Task) (j : Jobs) → AreInputsOf t j → (k : ℕ) → length (input_of j k) ≤ t.input_len
input_short t j a k =
    let s = piece_short t.input_len j.inputs k (recursion_from_All (λ p. p.len ≤ t.input_len) j.inputs a.short) in
    let n = length-take (piece_at j k).len (drop (piece_at j k).from j.bytes) in
    omega (arith, s, n)

-- and has the length of its piece
pub input_length : (j : Jobs) → AreInside j → (k : ℕ) → k < length j.inputs → length (input_of j k) ≡ (piece_at j k).len
input_length j a k l =
    let p : Piece = piece_at j k in
    let h = All-get_or (λ q. q.from + q.len ≤ length j.bytes) j.inputs k (record { from = 0; len = 0 }) l a in
    let d = length-drop p.from j.bytes in
    length-take-le p.len (drop p.from j.bytes) (omega (arith, h, d))
