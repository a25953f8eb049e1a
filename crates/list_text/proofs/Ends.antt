-- The spans of an image's code end by 2^32.
use Rattle.std.proofs.Common.{ℕ, suc, zero, ◌+◌, ◌^◌, ◌≤◌, ◌<◌, List, [], ◌∷◌, length, get_or, map, All, arith}
use Rattle.visa_io.specs.ImageCode.{Fits, IsFilled, code_of_image, code_pieces, cut}
use Rattle.visa_io.specs.declared.records.Image.{Image}
use Rattle.visa_io.specs.declared.records.Span.{Span}
use Rattle.visa_io.proofs.ImageLaws.{all_fit}

each_ends : {X : Type 0} (xs : List X) (span : X → Span) (Good : X → Type 0) → ((x : X) → Good x → (span x).start + (span x).len ≤ 2 ^ 32) → All Good xs → (k : ℕ) (d : Span) → k < length (map span xs) → (get_or (map span xs) k d).start + (get_or (map span xs) k d).len ≤ 2 ^ 32
each_ends [] span Good ends all k d lt = absurd (omega arith)
each_ends (x ∷ xs) span Good ends all zero d lt = ends x (all 0 x (omega arith))
each_ends (x ∷ xs) span Good ends all (suc k) d lt = each_ends xs span Good ends (λ j e h. all (suc j) e (omega arith)) k d (omega arith)

pub code_ends : (image : Image) → IsFilled image → All (λ span. span.start + span.len ≤ 2 ^ 32) (code_of_image image).spans
unfolding code_of_image
code_ends image filled =
    each_ends (code_pieces image.spans) (λ p. cut p.span) (Fits (length image.bytes)) (λ p f. let e = f.ends in let w = f.words in omega arith)
    (all_fit image.spans (length image.bytes) filled.bytes filled.ends)
