-- Bytes that are put into a memory, range by range.
use Rattle.std.proofs.Common.{◌≡◌, ℕ, zero, suc, ◌+◌, ◌<◌, ◌≤◌, true, List, [], ◌∷◌, length, length-set, set, take, drop, drop-drop, Option, Some, None, refl, sym, ap, ap₂, ◌∙◌, arith}
use Rattle.std.proofs.lemmas.List.{drop_all}
use Rattle.std.proofs.lemmas.List.Edits.{paste_none, paste_more, paste_all, paste-paste}
use Rattle.std.proofs.Math.Seq.{paste}
use Rattle.mips_ref.specs.Layout.{overwritten}
use Rattle.mips_ref.specs.Memory.{Flat, IsMemory, LaidOut, at_place, declared_at, place_from, place_of, put_at, put_byte, put_bytes}
use Rattle.mips_ref.specs.declared.place.Place.{Place}
use Rattle.mips_ref.proofs.Places.{place_from-next}

paste-first : (xs : List ℕ) (i b : ℕ) → i < length xs → set xs i b ≡ paste xs i (b ∷ []) 1
paste-first xs i b below =
    let start : set (paste xs i (b ∷ []) 0) (i + 0) b ≡ paste xs i (b ∷ []) 1 = paste_more xs i (b ∷ []) 0 0 (omega arith) (omega arith) in
    let same : i + 0 ≡ i = omega arith in
    ap₂ (λ ys j. set ys j b) (paste_none xs i (b ∷ [])) (sym same) ∙ start

paste-next : (xs : List ℕ) (i b : ℕ) (bs : List ℕ) → i < length xs → paste (set xs i b) (i + 1) bs (length bs) ≡ paste xs i (b ∷ bs) (1 + length bs)
paste-next xs i b bs below =
    ap (λ ys. paste ys (i + 1) bs (length bs)) (paste-first xs i b below) ∙ paste-paste xs i (b ∷ []) bs 1 (length bs) refl refl (omega arith)

put-first : (m : Flat) (at b : ℕ) (p : Place) → place_of m at ≡ Some p → put_byte m at b ≡ record m { bytes = set m.bytes p.index b }
unfolding put_byte
put-first m at b p found = ap (put_at m b) found

pub put-pasted : (m : Flat) (at : ℕ) (p : Place) (bs : List ℕ) → LaidOut 0 m.spans → place_of m at ≡ Some p → at + length bs ≤ p.span.start + p.span.len
    → p.index + length bs ≤ length m.bytes → put_bytes m at bs ≡ record m { bytes = paste m.bytes p.index bs (length bs) }
unfolding put_bytes
put-pasted m at p [] laid found fits room = ap (λ x. let f : Flat = record m { bytes = x } in f) (paste_none m.bytes p.index [])
put-pasted m at p (b ∷ []) laid found fits room =
    put-first m at b p found ∙ ap (λ x. let f : Flat = record m { bytes = x } in f) (paste-first m.bytes p.index b (omega arith))
put-pasted m at p (b ∷ c ∷ rest) laid found fits room =
    let n : Flat = record m { bytes = set m.bytes p.index b } in
    let q : Place = record { span = p.span; index = p.index + 1 } in
    let there : place_of n (at + 1) ≡ Some q = place_from-next 0 0 m.spans at 1 p laid found (omega arith) in
    let more : 1 + length (c ∷ rest) ≡ length (b ∷ c ∷ rest) = omega arith in
    let next = put-pasted n (at + 1) q (c ∷ rest) laid there (omega arith) (omega (arith, length-set m.bytes p.index b)) in
    ap (λ x. put_bytes x (at + 1) (c ∷ rest)) (put-first m at b p found) ∙ next
    ∙ ap (λ x. let f : Flat = record m { bytes = x } in f) (paste-next m.bytes p.index b (c ∷ rest) (omega arith) ∙ ap (paste m.bytes p.index (b ∷ c ∷ rest)) more)

pub over-pasted : (xs : List ℕ) (i : ℕ) (bs : List ℕ) → paste xs i bs (length bs) ≡ overwritten i bs xs
over-pasted xs i bs = paste_all xs i bs (length bs) refl

-- bytes within one range stand side by side
pub put-run : (m : Flat) (at : ℕ) (p : Place) (bs : List ℕ) → IsMemory m → place_of m at ≡ Some p → at + length bs ≤ p.span.start + p.span.len
    → p.index + length bs ≤ length m.bytes → put_bytes m at bs ≡ record m { bytes = overwritten p.index bs m.bytes }
put-run m at p bs kept found fits room =
    put-pasted m at p bs kept.laid_out found fits room ∙ ap (λ x. let f : Flat = record m { bytes = x } in f) (over-pasted m.bytes p.index bs)

-- bytes may be put in one part after the other
pub put-split : (m : Flat) (at n : ℕ) (bs : List ℕ) → n ≤ length bs → put_bytes (put_bytes m at (take n bs)) (at + n) (drop n bs) ≡ put_bytes m at bs
unfolding put_bytes
put-split m at zero bs le = ap (λ a. put_bytes m a bs) (omega arith)
put-split m at (suc n) [] le = absurd (omega arith)
put-split m at (suc n) (b ∷ bs) le =
    ap (λ a. put_bytes (put_bytes (put_byte m at b) (at + 1) (take n bs)) a (drop n bs)) (omega arith) ∙ put-split (put_byte m at b) (at + 1) n bs (omega arith)

put_at-spans : (m : Flat) (b : ℕ) (o : Option Place) → (put_at m b o).spans ≡ m.spans
put_at-spans m b None = refl
put_at-spans m b (Some p) = refl

put_byte-spans : (m : Flat) (at b : ℕ) → (put_byte m at b).spans ≡ m.spans
unfolding put_byte
put_byte-spans m at b = put_at-spans m b (place_of m at)

pub put-spans : (m : Flat) (at : ℕ) (bs : List ℕ) → (put_bytes m at bs).spans ≡ m.spans
unfolding put_bytes
put-spans m at [] = refl
put-spans m at (b ∷ bs) = put-spans (put_byte m at b) (at + 1) bs ∙ put_byte-spans m at b

-- a turn of a loop that puts bytes in, and its end
pub put-next : (m n : Flat) (next count done : ℕ) (bytes : List ℕ) → n ≡ put_bytes m next (take count (drop done bytes)) → count ≤ length (drop done bytes)
    → put_bytes n (next + count) (drop (done + count) bytes) ≡ put_bytes m next (drop done bytes)
put-next m n next count done bytes is within =
    ap₂ (λ x ys. put_bytes x (next + count) ys) is (sym (drop-drop count done bytes)) ∙ put-split m next count (drop done bytes) within

pub put-none : (m : Flat) (at done : ℕ) (bytes : List ℕ) → length bytes ≤ done → put_bytes m at (drop done bytes) ≡ m
unfolding put_bytes
put-none m at done bytes past = ap (put_bytes m at) (drop_all done bytes past)

-- declared addresses stay so
pub declared-same : (m n : Flat) (a : ℕ) → n.spans ≡ m.spans → declared_at m a ≡ true → declared_at n a ≡ true
declared-same m n a same there = ap (λ ss. at_place (place_from 0 ss a) (λ p. true)) same ∙ there
