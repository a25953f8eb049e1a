-- The jobs of the demonstration.
use Rattle.std.proofs.Common.{◌≡◌, ℕ, zero, suc, true, List, [], ◌∷◌, ◌++◌, length, take, drop, get_or, ◌+◌, ◌*◌, ◌<◌, ◌≤◌, refl, sym, ap, ◌∙◌, subst, inl, inr, ◌⊎◌, arith, length-append, Result, Ok, Err, IfOk}
use Rattle.std.specs.declared.alloc.AllocError.{AllocError}
use Rattle.std.specs.Prelude.{All}
use Rattle.std.proofs.Math.Seq.{get_or-append_seam, drop-append_seam, take-length}
use Rattle.std.proofs.lemmas.Bool.{cases_lt}
use Rattle.std.proofs.lemmas.List.{get_or_append_left, take-append-le, drop-append-le, length-drop}
use Rattle.std.proofs.lemmas.List.Elements.{All-nil, All-push, All-append, All-weaker, All-get_or}
use Rattle.task_text.specs.declared.jobs.Jobs.{Jobs}
use Rattle.task_text.specs.declared.jobs.Piece.{Piece}
use Rattle.task_text.specs.JobInputs.{piece_at, input_of, AreInside, AreInputsOf}
use Rattle.task_text.specs.JobsTexts.{job, add}
use Rattle.task_text.specs.WordsImage.{words_bytes}
use Rattle.demonstration.specs.Demonstration.{demo_input, demo_jobs, demo_task, first_jobs, input_from, number_after, word_count, words, words_end, words_start}
use Rattle.demonstration.proofs.Drawn.{few_words, input_length, input_low}

-- a job is pushed
pub job_pushed : (j : Jobs) (k x count start from : ℕ) (inputs : List Piece) (bytes : List ℕ) → count ≡ word_count k x → start ≡ words_start k x → from ≡ length j.bytes
    → bytes ≡ j.bytes ++ words_bytes true (words count start)
    → inputs ≡ j.inputs ++ record { from = from; len = 4 * count } ∷ []
    → record { past = j.past; inputs = inputs; bytes = bytes } ≡ add (job (input_from k x)) j
unfolding input_from
job_pushed j k x count start from inputs bytes counted started placed put pushed =
    let size : 4 * count ≡ length (input_from k x) = omega (arith, counted, input_length k x) in
    let of_words : bytes ≡ j.bytes ++ input_from k x = put ∙ ap (λ (y : ℕ). j.bytes ++ words_bytes true (words count y)) started ∙ ap (λ (n : ℕ). j.bytes ++ words_bytes true (words n (words_start k x))) counted in
    let piece = pushed ∙ ap (λ (n : ℕ). j.inputs ++ record { from = n; len = 4 * count } ∷ []) placed ∙ ap (λ (n : ℕ). j.inputs ++ record { from = length j.bytes; len = n } ∷ []) size in
    ap (λ (l : List Piece). record { past = j.past; inputs = l; bytes = bytes }) piece
    ∙ ap (λ (l : List ℕ). record { past = j.past; inputs = j.inputs ++ record { from = length j.bytes; len = length (input_from k x) } ∷ []; bytes = l }) of_words

-- and so are the first ones
pub next_job : (seed k x : ℕ) (j more : Jobs) → j ≡ first_jobs seed k → x ≡ number_after seed k
    → more ≡ add (job (input_from (k + 1) x)) j → more ≡ first_jobs seed (k + 1)
unfolding demo_input
next_job seed k x j more before is push =
    let one : suc k ≡ k + 1 = omega arith in
    push
    ∙ ap (λ (i : Jobs). add (job (input_from (k + 1) x)) i) before
    ∙ ap (λ (y : ℕ). add (job (input_from (k + 1) y)) (first_jobs seed k)) is
    ∙ ap (λ (n : ℕ). add (job (input_from n (number_after seed k))) (first_jobs seed k)) (sym one)
    ∙ ap (first_jobs seed) one

pub next_start : (seed k x y : ℕ) → x ≡ number_after seed k → y ≡ words_end (k + 1) x → y ≡ number_after seed (k + 1)
next_start seed k x y is left =
    let one : suc k ≡ k + 1 = omega arith in
    left ∙ ap (λ (z : ℕ). words_end (k + 1) z) is ∙ ap (λ (n : ℕ). words_end n (number_after seed k)) (sym one) ∙ ap (number_after seed) one

input_short : (seed k : ℕ) → length (demo_input seed k) ≤ 256
unfolding demo_input
input_short seed k =
    let n = input_length (suc k) (number_after seed k) in
    let l = few_words (suc k) (number_after seed k) in
    omega (arith, n, l)

input_bytes : (seed k : ℕ) → All (λ b. b < 256) (demo_input seed k)
unfolding demo_input
input_bytes seed k = input_low (suc k) (number_after seed k)

first_count : (seed k : ℕ) → length (first_jobs seed k).inputs ≡ k
first_count seed zero = refl
first_count seed (suc k) =
    let n = length-append (first_jobs seed k).inputs (record { from = length (first_jobs seed k).bytes; len = length (demo_input seed k) } ∷ []) in
    let h = first_count seed k in
    omega (arith, n, h)

first_past : (seed k : ℕ) → (first_jobs seed k).past ≡ []
first_past seed zero = refl
first_past seed (suc k) = first_past seed k

first_inside : (seed k : ℕ) → AreInside (first_jobs seed k)
first_inside seed zero = All-nil (λ p. p.from + p.len ≤ 0)
first_inside seed (suc k) =
    let j : Jobs = first_jobs seed k in
    let bs : List ℕ = demo_input seed k in
    let n = length-append j.bytes bs in
    All-push (λ q. q.from + q.len ≤ length (j.bytes ++ bs)) j.inputs (record { from = length j.bytes; len = length bs })
    (All-weaker (λ q. q.from + q.len ≤ length j.bytes) (λ q. q.from + q.len ≤ length (j.bytes ++ bs)) (λ q l. omega (arith, n, l)) j.inputs (first_inside seed k))
    (omega (arith, n))

first_short : (seed k : ℕ) → All (λ p. p.len ≤ 256) (first_jobs seed k).inputs
first_short seed zero = All-nil (λ p. p.len ≤ 256)
first_short seed (suc k) =
    let j : Jobs = first_jobs seed k in
    All-push (λ p. p.len ≤ 256) j.inputs (record { from = length j.bytes; len = length (demo_input seed k) }) (first_short seed k) (input_short seed k)

first_bytes : (seed k : ℕ) → All (λ b. b < 256) (first_jobs seed k).bytes
first_bytes seed zero = All-nil (λ b. b < 256)
first_bytes seed (suc k) = All-append (λ b. b < 256) (first_jobs seed k).bytes (demo_input seed k) (first_bytes seed k) (input_bytes seed k)

pub count : (seed : ℕ) → length (demo_jobs seed).inputs ≡ 200
unfolding demo_jobs
count seed = first_count seed 200

pub past : (seed : ℕ) → (demo_jobs seed).past ≡ []
unfolding demo_jobs
past seed = first_past seed 200

pub fits : (seed : ℕ) → AreInputsOf demo_task (demo_jobs seed)
unfolding demo_jobs demo_task
fits seed =
    record {
      few = let n = first_count seed 200 in omega (arith, n);
      inside = first_inside seed 200;
      short = first_short seed 200;
      bytes = first_bytes seed 200;
    }

pub made_fit : (seed : ℕ) (r : Result Jobs AllocError) → IfOk r (λ j. j ≡ demo_jobs seed) → IfOk r (AreInputsOf demo_task)
made_fit seed (Ok j) e = subst (AreInputsOf demo_task) (sym e) (fits seed)
made_fit seed (Err x) e = tt

pub all_jobs : (seed k : ℕ) (j : Jobs) → k ≡ 200 → j ≡ first_jobs seed k → j ≡ demo_jobs seed
unfolding demo_jobs
all_jobs seed k j last is = is ∙ ap (first_jobs seed) last

-- a job more: those before it have their inputs, and it has its own
earlier : (j : Jobs) (bs : List ℕ) (k : ℕ) → AreInside j → k < length j.inputs → input_of (add (job bs) j) k ≡ input_of j k
earlier j bs k a l =
    let more : Piece = record { from = length j.bytes; len = length bs } in
    let p : Piece = piece_at j k in
    let same : get_or (j.inputs ++ more ∷ []) k (record { from = 0; len = 0 }) ≡ p = get_or_append_left j.inputs (more ∷ []) (record { from = 0; len = 0 }) k l in
    let h = All-get_or (λ q. q.from + q.len ≤ length j.bytes) j.inputs k (record { from = 0; len = 0 }) l a in
    let d = length-drop p.from j.bytes in
    ap (λ (q : Piece). take q.len (drop q.from (j.bytes ++ bs))) same
    ∙ ap (take p.len) (drop-append-le p.from j.bytes bs (omega (arith, h)))
    ∙ take-append-le p.len (drop p.from j.bytes) bs (omega (arith, h, d))

own : (j : Jobs) (bs : List ℕ) → input_of (add (job bs) j) (length j.inputs) ≡ bs
own j bs =
    let more : Piece = record { from = length j.bytes; len = length bs } in
    let same : get_or (j.inputs ++ more ∷ []) (length j.inputs) (record { from = 0; len = 0 }) ≡ more = get_or-append_seam j.inputs more [] (record { from = 0; len = 0 }) in
    ap (λ (q : Piece). take q.len (drop q.from (j.bytes ++ bs))) same
    ∙ ap (take (length bs)) (drop-append_seam j.bytes bs)
    ∙ take-length bs

last_or_earlier : (seed n k : ℕ) → (k < n → input_of (first_jobs seed n) k ≡ demo_input seed k) → k < suc n
    → (k < n) ⊎ (n ≤ k) → input_of (first_jobs seed (suc n)) k ≡ demo_input seed k
last_or_earlier seed n k before l (inl b) =
    let c = first_count seed n in
    earlier (first_jobs seed n) (demo_input seed n) k (first_inside seed n) (omega (arith, b, c)) ∙ before b
last_or_earlier seed n k before l (inr b) =
    let last : length (first_jobs seed n).inputs ≡ k = omega (arith, b, l, first_count seed n) in
    let same : n ≡ k = omega (arith, b, l) in
    ap (input_of (first_jobs seed (suc n))) (sym last) ∙ own (first_jobs seed n) (demo_input seed n) ∙ ap (demo_input seed) same

first_input : (seed n k : ℕ) → k < n → input_of (first_jobs seed n) k ≡ demo_input seed k
first_input seed zero k l = absurd (omega (arith, l))
first_input seed (suc n) k l = last_or_earlier seed n k (first_input seed n k) l (cases_lt k n)

pub input : (seed k : ℕ) → k < 200 → input_of (demo_jobs seed) k ≡ demo_input seed k
unfolding demo_jobs
input seed k l = first_input seed 200 k l
