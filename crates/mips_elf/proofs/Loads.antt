-- Segments that are sound, and the answer that a file has.
use Rattle.std.proofs.Common.{◌≡◌, ℕ, zero, suc, ◌+◌, ◌*◌, ◌<◌, ◌≤◌, ◌⊎◌, inl, inr, Bool, true, false, cond, not, nat_lt, List, [], ◌∷◌, ◌++◌, length, get_or, take, refl, sym, ap, ◌∙◌, subst, arith, append_assoc, append-nil, length-append}
use Rattle.std.proofs.lemmas.Bool.Decides.{nat_tests}
use Rattle.std.proofs.lemmas.List.{take_more}
use Rattle.std.specs.Prelude.{Option, Some, None, Result, Ok, Err, MatchOption, IsErrAnd}
use Rattle.std.specs.List.{AllByRecursion, list_any}
use Rattle.visa_io.specs.declared.records.Image.{Image}
use Rattle.mips_elf.specs.declared.error.ElfError.{ElfError}
use Rattle.mips_elf.specs.declared.error.ElfError.TheVariants.{Truncated, Dynamic, SegmentSize, Memory}
use Rattle.mips_elf.specs.declared.header.Header.{Header}
use Rattle.mips_elf.specs.declared.segment.Segment.{Segment}
use Rattle.mips_elf.specs.Header.{header_fault, header_of, lies_in}
use Rattle.mips_elf.specs.Segments.{segment_at, segments_from, segments_in, segments_of, first_of, is_load, is_dynamic, takes_memory, segment_fault, loads_fault, segments_fault, loads_of}
use Rattle.mips_elf.specs.Images.{IsSound, content_of, contents_of, image_from, MayLoad, MayNotLoad, early_fault, IsLateAnswer, IsAnswer}

pub sound_at : (P : Segment → Type 0) (loads : List Segment) → AllByRecursion P loads → (k : ℕ) (d : Segment) → k < length loads → P (get_or loads k d)
sound_at P [] all k d lt = absurd (omega arith)
sound_at P (s ∷ rest) all zero d lt = all.0
sound_at P (s ∷ rest) all (suc k) d lt = sound_at P rest all.1 k d (omega arith)

contents_of-append : (bytes : List ℕ) (xs ys : List Segment) → contents_of bytes (xs ++ ys) ≡ contents_of bytes xs ++ contents_of bytes ys
contents_of-append bytes [] ys = refl
contents_of-append bytes (x ∷ xs) ys =
    ap (λ rest. content_of bytes x ++ rest) (contents_of-append bytes xs ys)
    ∙ sym (append_assoc (content_of bytes x) (contents_of bytes xs) (contents_of bytes ys))

pub contents_more : (bytes : List ℕ) (loads : List Segment) (i : ℕ) (d : Segment) → i < length loads
    → contents_of bytes (take (i + 1) loads) ≡ contents_of bytes (take i loads) ++ content_of bytes (get_or loads i d)
contents_more bytes loads i d lt =
    ap (contents_of bytes) (take_more loads i d lt) ∙ contents_of-append bytes (take i loads) (get_or loads i d ∷ [])
    ∙ ap (λ rest. contents_of bytes (take i loads) ++ rest) (append-nil (content_of bytes (get_or loads i d)))

-- what no fault of a load header says
held-at : (a b c : Bool) (e f : ElfError) → cond (not a) None (cond (not b) (Some e) (cond c (Some f) None)) ≡ None → a ≡ true → (b ≡ true) × (c ≡ false)
held-at true true true e f h a = cc
held-at true true false e f h a = (refl, refl)
held-at true false c e f h a = cc
held-at false b c e f h a = cc

loaded : (s : Segment) → takes_memory s ≡ true → is_load s ≡ true
loaded s h = grind (arith, nat_tests)

no_first : {A : Type 0} (a b : Option A) → first_of a b ≡ None → (a ≡ None) × (b ≡ None)
no_first None b h = (refl, h)
no_first (Some a) b h = cc

sound-at : (len n : ℕ) (s : Segment) (rest : List Segment) (b : Bool) → takes_memory s ≡ b → segment_fault len n s ≡ None
    → AllByRecursion (IsSound len) rest → AllByRecursion (IsSound len) (cond b (s ∷ rest) rest)
sound-at len n s rest true takes none more =
    let held = held-at (is_load s) (lies_in len s.offset s.file_len) (nat_lt s.memory_len s.file_len) (Truncated len) (SegmentSize n) none (loaded s takes) in
    let small : nat_lt s.memory_len s.file_len ≡ false = held.1 in
    (record { some = grind (arith, nat_tests); lies = held.0; room = grind (arith, nat_tests) }, more)
sound-at len n s rest false takes none more = more

sound_loads : (len n : ℕ) (segments : List Segment) → loads_fault len n segments ≡ None → AllByRecursion (IsSound len) (loads_of segments)
sound_loads len n [] none = tt
sound_loads len n (s ∷ rest) none =
    let both = no_first (segment_fault len n s) (loads_fault len (n + 1) rest) none in
    sound-at len n s (loads_of rest) (takes_memory s) refl both.0 (sound_loads len (n + 1) rest both.1)

no_dynamic : (b : Bool) (o : Option ElfError) → cond b (Some Dynamic) o ≡ None → o ≡ None
no_dynamic true o h = cc
no_dynamic false o h = h

-- where no rule on the headers fails, the segments are sound
pub all_sound : (len : ℕ) (segments loads : List Segment) → segments_fault len segments ≡ None → loads ≡ loads_of segments → AllByRecursion (IsSound len) loads
all_sound len segments loads none is =
    let P : List Segment → Type 0 = λ xs. AllByRecursion (IsSound len) xs in
    subst P (sym is) (sound_loads len 0 segments (no_dynamic (list_any is_dynamic segments) (loads_fault len 0 segments) none))

pub length-segments_from : (big : Bool) (bytes : List ℕ) (at n : ℕ) → length (segments_from big bytes at n) ≡ n
length-segments_from big bytes at zero = refl
length-segments_from big bytes at (suc n) =
    length-append (segments_from big bytes at n) (segment_at big bytes (at + 32 * n) ∷ []) ∙ omega (arith, length-segments_from big bytes at n)

fewer-at : (b : Bool) (s : Segment) (rest : List Segment) (n : ℕ) → length rest ≤ n → length (cond b (s ∷ rest) rest) ≤ suc n
fewer-at true s rest n le = omega arith
fewer-at false s rest n le = omega arith

pub fewer_loads : (segments : List Segment) → length (loads_of segments) ≤ length segments
fewer_loads [] = omega arith
fewer_loads (s ∷ rest) = fewer-at (takes_memory s) s (loads_of rest) (length rest) (fewer_loads rest)

-- the answer of a file, by where it is found
pub want_answer : (bytes : List ℕ) → IsAnswer bytes (Err Memory)
unfolding IsAnswer
want_answer bytes = by (early_fault bytes)
  where
    by : (o : Option ElfError) → MatchOption o (IsLateAnswer bytes (loads_of (segments_of bytes)) (Err Memory)) (λ fault. IsErrAnd {T = Image} (Err Memory) (λ e. (e ≡ fault) ⊎ (e ≡ Memory)))
    by None = tt
    by (Some fault) = inr refl

early_answer : (bytes : List ℕ) (o : Option ElfError) (r : Result Image ElfError) → early_fault bytes ≡ o
    → MatchOption o (IsLateAnswer bytes (loads_of (segments_of bytes)) r) (λ fault. IsErrAnd r (λ e. (e ≡ fault) ⊎ (e ≡ Memory))) → IsAnswer bytes r
unfolding IsAnswer
early_answer bytes o r is h =
    let P : Option ElfError → Type 0 = λ x. MatchOption x (IsLateAnswer bytes (loads_of (segments_of bytes)) r) (λ fault. IsErrAnd r (λ e. (e ≡ fault) ⊎ (e ≡ Memory))) in
    subst P (sym is) h

early_is : (bytes : List ℕ) (o : Option ElfError) → header_fault bytes ≡ o → early_fault bytes ≡ first_of o (segments_fault (length bytes) (segments_of bytes))
unfolding early_fault
early_is bytes o h = ap (λ x. first_of x (segments_fault (length bytes) (segments_of bytes))) h

pub header_answer : (bytes : List ℕ) (e : ElfError) → header_fault bytes ≡ Some e → IsAnswer bytes (Err e)
header_answer bytes e h = early_answer bytes (Some e) (Err e) (early_is bytes (Some e) h) (inl refl)

segments_are : (bytes : List ℕ) (h : Header) (o : Option ElfError) → header_fault bytes ≡ None → h ≡ header_of bytes
    → segments_fault (length bytes) (segments_in h bytes) ≡ o → early_fault bytes ≡ o
segments_are bytes h o none is fault =
    early_is bytes None none ∙ ap (λ x. segments_fault (length bytes) (segments_in x bytes)) (sym is) ∙ fault

pub segments_answer : (bytes : List ℕ) (h : Header) (e : ElfError) → header_fault bytes ≡ None → h ≡ header_of bytes
    → (segments_fault (length bytes) (segments_in h bytes) ≡ Some e) ⊎ (e ≡ Memory) → IsAnswer bytes (Err e)
segments_answer bytes h e none is (inl fault) = early_answer bytes (Some e) (Err e) (segments_are bytes h (Some e) none is fault) (inl refl)
segments_answer bytes h e none is (inr want) = let P : ElfError → Type 0 = λ x. IsAnswer bytes (Err x) in subst P (sym want) (want_answer bytes)

pub load_answer : (bytes : List ℕ) (h : Header) (loads : List Segment) (e : ElfError) → header_fault bytes ≡ None → h ≡ header_of bytes
    → segments_fault (length bytes) (segments_in h bytes) ≡ None → loads ≡ loads_of (segments_in h bytes) → MayNotLoad loads e → IsAnswer bytes (Err e)
load_answer bytes h loads e none is fault these why =
    let P : List Segment → Type 0 = λ xs. MayNotLoad xs e in
    let Q : Header → Type 0 = λ x. MayNotLoad (loads_of (segments_in x bytes)) e in
    early_answer bytes None (Err e) (segments_are bytes h None none is fault) (subst Q is (subst P these why))

pub image_answer : (bytes : List ℕ) (h : Header) (loads : List Segment) (image : Image) → header_fault bytes ≡ None → h ≡ header_of bytes
    → segments_fault (length bytes) (segments_in h bytes) ≡ None → loads ≡ loads_of (segments_in h bytes) → MayLoad loads → image ≡ image_from h bytes loads
    → IsAnswer bytes (Ok image)
image_answer bytes h loads image none is fault these may built =
    let P : List Segment → Type 0 = λ xs. MayLoad xs × (image ≡ image_from h bytes xs) in
    let Q : Header → Type 0 = λ x. MayLoad (loads_of (segments_in x bytes)) × (image ≡ image_from x bytes (loads_of (segments_in x bytes))) in
    early_answer bytes None (Ok image) (segments_are bytes h None none is fault) (subst Q is (subst P these (may, built)))
