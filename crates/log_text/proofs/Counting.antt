-- Pieces for each number of a range, put one after the other.
use Rattle.std.proofs.Common.{◌≡◌, ◌∙◌, refl, sym, ap, subst, ℕ, zero, suc, ◌+◌, ◌<◌, List, [], ◌∷◌, ◌++◌, length, take, drop, get_or, append-nil, arith}
use Rattle.std.specs.Prelude.{map}
use Rattle.std.specs.List.{flat_map, range_with_len}
use Rattle.std.proofs.lemmas.List.{take_more, take-append-drop}
use Rattle.std.proofs.lemmas.List.Concat.{flat_map-append}
use Rattle.std.proofs.lemmas.List.FromFn.{get_or-range_with_len, length-range_with_len}
use Rattle.visa_io.specs.Puts.{PutAll, PutSome, Taken}
use Rattle.visa_io.proofs.PutLaws.{each_more, each_stops, puts_both, puts_then_some, some_of_longer}

range-at : (n k d : ℕ) → k < n → get_or (range_with_len 0 n) k d ≡ k
range-at n k d below = omega (arith, get_or-range_with_len 0 n k d below)

range-whole : (a n : ℕ) → take n (range_with_len a n) ≡ range_with_len a n
range-whole a zero = refl
range-whole a (suc n) = ap (λ rest. a ∷ rest) (range-whole (a + 1) n)

-- a piece for each of the first n numbers: those before i were put, and its own is
pub counted_more : {s t u : Taken} (f : ℕ → List ℕ) (n i : ℕ) → i < n → PutAll s t (map f (take i (range_with_len 0 n)))
    → PutAll t u (f i ∷ []) → PutAll s u (map f (take (i + 1) (range_with_len 0 n)))
counted_more {s} {t} {u} f n i within before it =
    let It : ℕ → Type 0 = λ k. PutAll t u (f k ∷ []) in
    each_more f (range_with_len 0 n) i 0 (omega (arith, within, length-range_with_len 0 n)) before (subst It (sym (range-at n i 0 within)) it)

-- and its own isn't put whole
pub counted_stops : {s t u : Taken} (f : ℕ → List ℕ) (n i : ℕ) → i < n → PutAll s t (map f (take i (range_with_len 0 n)))
    → PutSome t u (f i ∷ []) → PutSome s u (map f (range_with_len 0 n))
counted_stops {s} {t} {u} f n i within before it =
    let It : ℕ → Type 0 = λ k. PutSome t u (f k ∷ []) in
    each_stops f (range_with_len 0 n) i 0 (omega (arith, within, length-range_with_len 0 n)) before (subst It (sym (range-at n i 0 within)) it)

-- all were put
pub counted_whole : {s t : Taken} (f : ℕ → List ℕ) (n i : ℕ) → i ≡ n → PutAll s t (map f (take i (range_with_len 0 n))) → PutAll s t (map f (range_with_len 0 n))
counted_whole {s} {t} f n i is all =
    let All : List ℕ → Type 0 = λ ks. PutAll s t (map f ks) in
    subst All (ap (λ k. take k (range_with_len 0 n)) is ∙ range-whole 0 n) all

-- pieces for each of the first n numbers
pieces_through : {X : Type 0} (f : X → List (List ℕ)) (xs : List X) (i : ℕ) (d : X) → i < length xs
    → flat_map f (take (i + 1) xs) ≡ flat_map f (take i xs) ++ f (get_or xs i d)
pieces_through f xs i d within =
    ap (flat_map f) (take_more xs i d within) ∙ flat_map-append f (take i xs) (get_or xs i d ∷ []) ∙ ap (λ last. flat_map f (take i xs) ++ last) (append-nil (f (get_or xs i d)))

pub groups_more : {s t u : Taken} (f : ℕ → List (List ℕ)) (n i : ℕ) → i < n → PutAll s t (flat_map f (take i (range_with_len 0 n)))
    → PutAll t u (f i) → PutAll s u (flat_map f (take (i + 1) (range_with_len 0 n)))
groups_more {s} {t} {u} f n i within before it =
    let It : ℕ → Type 0 = λ k. PutAll t u (f k) in
    let All : List (List ℕ) → Type 0 = λ pieces. PutAll s u pieces in
    subst All (sym (pieces_through f (range_with_len 0 n) i 0 (omega (arith, within, length-range_with_len 0 n))))
    (puts_both before (subst It (sym (range-at n i 0 within)) it))

pub groups_stop : {s t u : Taken} (f : ℕ → List (List ℕ)) (n i : ℕ) → i < n → PutAll s t (flat_map f (take i (range_with_len 0 n)))
    → PutSome t u (f i) → PutSome s u (flat_map f (range_with_len 0 n))
groups_stop {s} {t} {u} f n i within before it =
    let It : ℕ → Type 0 = λ k. PutSome t u (f k) in
    let Some : List (List ℕ) → Type 0 = λ pieces. PutSome s u pieces in
    let all = range_with_len 0 n in
    let parts : flat_map f all ≡ (flat_map f (take i all) ++ f (get_or all i 0)) ++ flat_map f (drop (i + 1) all) =
    ap (flat_map f) (sym (take-append-drop (i + 1) all)) ∙ flat_map-append f (take (i + 1) all) (drop (i + 1) all)
    ∙ ap (λ first. first ++ flat_map f (drop (i + 1) all)) (pieces_through f all i 0 (omega (arith, within, length-range_with_len 0 n))) in
    subst Some (sym parts) (some_of_longer (flat_map f (drop (i + 1) all)) (puts_then_some before (subst It (sym (range-at n i 0 within)) it)))

-- all were put
pub groups_whole : {s t : Taken} (f : ℕ → List (List ℕ)) (n i : ℕ) → i ≡ n → PutAll s t (flat_map f (take i (range_with_len 0 n))) → PutAll s t (flat_map f (range_with_len 0 n))
groups_whole {s} {t} f n i is all =
    let All : List ℕ → Type 0 = λ ks. PutAll s t (flat_map f ks) in
    subst All (ap (λ k. take k (range_with_len 0 n)) is ∙ range-whole 0 n) all
