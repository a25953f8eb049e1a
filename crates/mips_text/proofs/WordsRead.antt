-- Given bytes, read off the front of a text.
use Rattle.std.proofs.Common.{◌≡◌, refl, sym, ap, ◌∙◌, subst, ℕ, ◌≤◌, ◌<◌, List, [], ◌∷◌, ◌++◌, length, get_or, append-nil, arith}
use Rattle.mips_text.specs.Faults.{IsFault, IsWord, OpensWord}
use Rattle.mips_text.proofs.FaultLaws.{behind}
use Rattle.mips_text.proofs.NumbersRead.{behind_first, behind_is}

pub word_none : (letters text : List ℕ) → length letters < 1 → text ≡ letters ++ text
word_none [] text h = refl
word_none (c ∷ w) text h = absurd (omega arith)

pub word_more : (letters text rest : List ℕ) → 1 ≤ length letters → 1 ≤ length text → get_or text 0 0 ≡ get_or letters 0 0 → behind_first text ≡ behind_first letters ++ rest → text ≡ letters ++ rest
word_more [] text rest l h e is = absurd (omega arith)
word_more (c ∷ w) [] rest l h e is = absurd (omega arith)
word_more (c ∷ w) (d ∷ t) rest l h e is = λ i. e i ∷ (sym (behind_is d t) ∙ is ∙ ap (λ q. q ++ rest) (behind_is c w)) i

pub word_fault : (letters text rest : List ℕ) → 1 ≤ length letters → 1 ≤ length text → get_or text 0 0 ≡ get_or letters 0 0 → IsFault (IsWord (behind_first letters)) (OpensWord (behind_first letters)) (behind_first text) rest
    → IsFault (IsWord letters) (OpensWord letters) text rest
word_fault [] text rest l h e f = absurd (omega arith)
word_fault (c ∷ w) [] rest l h e f = absurd (omega arith)
word_fault (c ∷ w) (d ∷ t) rest l h e f =
    behind (IsWord w) (OpensWord w) (IsWord (c ∷ w)) (OpensWord (c ∷ w)) (d ∷ t) (c ∷ []) t rest (ap (λ q. q ∷ t) e)
    (λ ds m. record { more = []; whole = ap (λ q. c ∷ q) (append-nil ds ∙ m) })
    (λ ds o. let tail : ds ≡ w ++ o.rest = cc (o.is) in record { rest = o.rest; is = tail })
    (subst (λ q. IsFault (IsWord w) (OpensWord w) q rest) (behind_is d t) (subst (λ q. IsFault (IsWord q) (OpensWord q) (behind_first (d ∷ t)) rest) (behind_is c w) f))
