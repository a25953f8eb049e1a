-- Ranges are filled, and their code is counted.
use Rattle.std.proofs.Common.{◌≡◌, ℕ, suc, ◌+◌, ◌<◌, ◌≤◌, Bool, true, false, cond, List, [], ◌∷◌, ◌++◌, length, length-drop, get_or, take, drop, drop-cons, add-one, Option, Some, None, refl, sym, ap, ap₂, ◌∙◌, arith}
use Rattle.std.proofs.lemmas.List.{drop_all}
use Rattle.std.specs.Prelude.{filter}
use Rattle.visa_io.specs.declared.records.Span.{Span}
use Rattle.visa_io.specs.ImageCode.{total_len as len_of}
use Rattle.mips_ref.specs.Layout.{MadeOf}
use Rattle.mips_ref.specs.Memory.{Flat, greatest_memory, place_of, put_at, put_byte, put_bytes, total_len}
use Rattle.mips_ref.specs.declared.place.Place.{Place}
use Rattle.mips_ref.proofs.Filled.{put-spans}
use Rattle.task_layout.specs.Layout.{code_len, filled}

put_at-big : (m : Flat) (b : ℕ) (o : Option Place) → (put_at m b o).big ≡ m.big
put_at-big m b None = refl
put_at-big m b (Some p) = refl

put_byte-big : (m : Flat) (at b : ℕ) → (put_byte m at b).big ≡ m.big
unfolding put_byte
put_byte-big m at b = put_at-big m b (place_of m at)

put-big : (m : Flat) (at : ℕ) (bs : List ℕ) → (put_bytes m at bs).big ≡ m.big
unfolding put_bytes
put-big m at [] = refl
put-big m at (b ∷ bs) = put-big (put_byte m at b) (at + 1) bs ∙ put_byte-big m at b

-- bytes leave the ranges and the byte order
pub filled-spans : (spans : List Span) (bytes : List ℕ) (m : Flat) → (filled spans bytes m).spans ≡ m.spans
unfolding filled
filled-spans [] bytes m = refl
filled-spans (s ∷ rest) bytes m =
    filled-spans rest (drop s.len bytes) (put_bytes m s.start (take s.len bytes)) ∙ put-spans m s.start (take s.len bytes)

pub filled-big : (spans : List Span) (bytes : List ℕ) (m : Flat) → (filled spans bytes m).big ≡ m.big
unfolding filled
filled-big [] bytes m = refl
filled-big (s ∷ rest) bytes m =
    filled-big rest (drop s.len bytes) (put_bytes m s.start (take s.len bytes)) ∙ put-big m s.start (take s.len bytes)

-- a turn of the loop over the ranges, and its end
fill-next : (spans : List Span) (i : ℕ) (d : Span) (rest : List ℕ) (m : Flat) → i < length spans
    → filled (drop i spans) rest m
    ≡ filled (drop (i + 1) spans) (drop (get_or spans i d).len rest) (put_bytes m (get_or spans i d).start (take (get_or spans i d).len rest))
unfolding filled
fill-next spans i d rest m below = rw (add-one, drop-cons spans i d below) refl

pub fill-end : (spans : List Span) (i : ℕ) (rest : List ℕ) (m : Flat) → length spans ≤ i → filled (drop i spans) rest m ≡ m
unfolding filled
fill-end spans i rest m past = ap (λ ss. filled ss rest m) (drop_all i spans past)

len-next : (spans : List Span) (i : ℕ) (d : Span) → i < length spans → len_of (drop i spans) ≡ (get_or spans i d).len + len_of (drop (i + 1) spans)
len-next spans i d below = rw (add-one, drop-cons spans i d below) refl

pub len-kept : (spans : List Span) (i : ℕ) (d : Span) (rest left : List ℕ) → i < length spans → length rest ≡ len_of (drop i spans)
    → left ≡ drop (get_or spans i d).len rest → length left ≡ len_of (drop (i + 1) spans)
len-kept spans i d rest left below len is =
    ap length is ∙ length-drop (get_or spans i d).len rest ∙ omega (arith, len, len-next spans i d below)

pub fill-kept : (spans : List Span) (i : ℕ) (d : Span) (rest left : List ℕ) (m n : Flat) → i < length spans → left ≡ drop (get_or spans i d).len rest
    → n ≡ put_bytes m (get_or spans i d).start (take (get_or spans i d).len rest) → filled (drop (i + 1) spans) left n ≡ filled (drop i spans) rest m
fill-kept spans i d rest left m n below left_is is =
    ap₂ (filled (drop (i + 1) spans)) left_is is ∙ sym (fill-next spans i d rest m below)

pub spans-kept : (m n : Flat) (at : ℕ) (bs : List ℕ) → n ≡ put_bytes m at bs → n.spans ≡ m.spans
spans-kept m n at bs is = ap (λ (f : Flat). f.spans) is ∙ put-spans m at bs

code-case : (s : Span) (rest : List Span) (b : Bool) → s.x ≡ b → total_len (cond b (s ∷ filter (λ t. t.x) rest) (filter (λ t. t.x) rest)) ≡ cond b s.len 0 + total_len (filter (λ t. t.x) rest)
unfolding total_len
code-case s rest true is = refl
code-case s rest false is = omega arith

code-cons : (s : Span) (rest : List Span) → code_len (s ∷ rest) ≡ cond s.x s.len 0 + code_len rest
unfolding code_len
code-cons s rest = code-case s rest s.x refl

code-next : (spans : List Span) (i : ℕ) (d : Span) → i < length spans
    → code_len (drop i spans) ≡ cond (get_or spans i d).x (get_or spans i d).len 0 + code_len (drop (i + 1) spans)
code-next spans i d below = rw (add-one, drop-cons spans i d below) (code-cons (get_or spans i d) (drop (suc i) spans))

cond-le : (b : Bool) (n : ℕ) → cond b n 0 ≤ n
cond-le true n = omega arith
cond-le false n = omega arith

code-small : (spans : List Span) → code_len spans ≤ len_of spans
unfolding code_len total_len
code-small [] = omega arith
code-small (s ∷ rest) = omega (arith, code-cons s rest, code-small rest, cond-le s.x s.len)

-- a turn of the count
pub code-kept : (spans : List Span) (i : ℕ) (d : Span) (total part : ℕ) → i < length spans → total + code_len (drop i spans) ≡ code_len spans
    → part ≡ cond (get_or spans i d).x (get_or spans i d).len 0 → (total + part + code_len (drop (i + 1) spans) ≡ code_len spans) × (total + part ≤ len_of spans)
code-kept spans i d total part below so_far is =
    let next = code-next spans i d below in
    (omega (arith, so_far, is, next), omega (arith, so_far, is, next, code-small spans))

pub code-end : (spans : List Span) (i : ℕ) → length spans ≤ i → code_len (drop i spans) ≡ 0
unfolding code_len total_len
code-end spans i past = ap code_len (drop_all i spans past)

-- an image has no more bytes than its memory
len-within : (spans ram : List Span) → len_of spans ≤ total_len (spans ++ ram)
unfolding total_len
len-within [] ram = omega arith
len-within (s ∷ rest) ram = omega (arith, len-within rest ram)

pub made-small : (spans ram : List Span) (big : Bool) (m : Flat) → MadeOf (spans ++ ram) big m → len_of spans ≤ greatest_memory
made-small spans ram big m made = omega (arith, len-within spans ram, made.fits)
