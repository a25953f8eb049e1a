-- Lists that grow by one.
use Rattle.std.proofs.Common.{◌≡◌, ◌∙◌, sym, ap, subst, ℕ, ◌+◌, ◌<◌, List, [], ◌∷◌, ◌++◌, length, get_or, arith, inl, inr}
use Rattle.std.proofs.Math.Seq.{get_or-append_seam}
use Rattle.std.proofs.lemmas.Bool.{cases_eq}
use Rattle.std.proofs.lemmas.List.{get_or_append_left, length-append}

pub one_longer : {X : Type 0} (xs new : List X) (x : X) (k : ℕ) → length xs ≡ k → new ≡ xs ++ x ∷ [] → length new ≡ k + 1
one_longer xs new x k long is = omega (arith, ap length is, length-append xs (x ∷ []), long)

-- what holds of each item by its place, and of one more
pub one_more : {X : Type 0} (P : ℕ → X → Type 0) (xs new : List X) (x : X) (k : ℕ) → length xs ≡ k
    → ((j : ℕ) → j < k → (d : X) → P j (get_or xs j d)) → P k x → new ≡ xs ++ x ∷ [] → (j : ℕ) → j < k + 1 → (d : X) → P j (get_or new j d)
one_more {X} P xs new x k long all here is j below d = elim (cases_eq j k) [
  | inl same ↦ subst (P j) (sym (at_end same)) (subst (λ n. P n x) (sym same) here)
  | inr other ↦ subst (P j) (sym (ap (λ (l : List X). get_or l j d) is ∙ get_or_append_left xs (x ∷ []) d j (omega (arith, long, below, other)))) (all j (omega (arith, below, other)) d)
]
  where
    at_end : j ≡ k → get_or new j d ≡ x
    at_end same = ap (λ (l : List X). get_or l j d) is ∙ ap (λ n. get_or (xs ++ x ∷ []) n d) (same ∙ sym long) ∙ get_or-append_seam xs x [] d
