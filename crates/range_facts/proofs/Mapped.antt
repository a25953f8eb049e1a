-- A list that is changed in place as far as some index.
use Rattle.std.proofs.Common.{◌≡◌, ◌∙◌, ap, ℕ, List, ◌++◌, length, map, take, drop, arith}
use Rattle.std.proofs.lemmas.List.{length-append, length-drop, length-map, length-take}

pub mapped_length : {X : Type 0} (f : X → X) (xs ys : List X) (k : ℕ) → ys ≡ map f (take k xs) ++ drop k xs → length ys ≡ length xs
mapped_length f xs ys k is =
    ap length is ∙ simp (length-append, length-map, length-take, length-drop) (omega arith)
