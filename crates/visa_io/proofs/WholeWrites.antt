-- One write more of what is left of a piece.
use Rattle.std.proofs.Common.{◌≡◌, ℕ, ◌+◌, ◌-◌, List, ◌++◌, take, drop, length, ap, ◌∙◌, append_assoc, take-add}
use Rattle.std.proofs.lemmas.List.{take_rest}
use Rattle.std.specs.Prelude.{Option, Some, None}
use Rattle.std.specs.Io.KnownBytes.{Appends}

joined : (a b c : Option (List ℕ)) (xs ys : List ℕ) → Appends a b xs → Appends b c ys → Appends a c (xs ++ ys)
joined None b c xs ys first second = tt
joined (Some x) None c xs ys first second = absurd first
joined (Some x) (Some y) None xs ys first second = absurd second
joined (Some x) (Some y) (Some z) xs ys first second = second ∙ ap (λ l. l ++ ys) first ∙ append_assoc x xs ys

pub one_more : (a b c : Option (List ℕ)) (piece : List ℕ) (done n : ℕ)
    → Appends a b (take done piece) → Appends b c (take n (take (length piece - done) (drop done piece)))
    → Appends a c (take (done + n) piece)
one_more a b c piece done n first second =
    let whole : take n (take (length piece - done) (drop done piece)) ≡ take n (drop done piece) = ap (take n) (take_rest piece done) in
    rw (take-add done n piece) (joined a b c (take done piece) (take n (drop done piece)) first (rw whole at second))
