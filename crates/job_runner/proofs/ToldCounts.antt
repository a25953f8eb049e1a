-- Telling the counts of sub-tasks, in order.
use Rattle.std.proofs.Common.{◌≡◌, ap, ◌∙◌, ℕ, zero, suc, ◌+◌, ◌≤◌, ◌<◌, List, [], ◌∷◌, length, get_or, take, arith}
use Rattle.std.proofs.lemmas.List.{take_all}
use Rattle.frequency_pick.specs.Counts.{Count, count}
use Rattle.job_runner.specs.Run.{with_subs}

told_next : (i : ℕ) (ns : List ℕ) (k n : ℕ) (cs : List Count) → k < length ns → n ≡ get_or ns k 0
    → with_subs i (take (suc k) ns) cs ≡ count (i + k) n ∷ with_subs i (take k ns) cs
told_next i [] k n cs below is = absurd (omega (arith, below))
told_next i (m ∷ ms) zero n cs below is =
    let same : i ≡ i + 0 = omega arith in
    let last : m ≡ n = omega (arith, is) in
    λ j. count (same j) (last j) ∷ cs
told_next i (m ∷ ms) (suc k) n cs below is =
    let same : suc i + k ≡ i + suc k = omega arith in
    told_next (suc i) ms k n (count i m ∷ cs) (omega (arith, below)) is
    ∙ ap (λ p. count p n ∷ with_subs (suc i) (take k ms) (count i m ∷ cs)) same

-- one count more is told
pub told_more : (ns : List ℕ) (k n : ℕ) (cs : List Count) → k < length ns → n ≡ get_or ns k 0
    → with_subs 1 (take (k + 1) ns) cs ≡ count (k + 1) n ∷ with_subs 1 (take k ns) cs
told_more ns k n cs below is =
    let one : k + 1 ≡ suc k = omega arith in
    let same : 1 + k ≡ k + 1 = omega arith in
    ap (λ m. with_subs 1 (take m ns) cs) one ∙ told_next 1 ns k n cs below is
    ∙ ap (λ p. count p n ∷ with_subs 1 (take k ns) cs) same

-- all are told
pub told_all : (ns : List ℕ) (k : ℕ) (cs : List Count) → length ns ≤ k → with_subs 1 (take k ns) cs ≡ with_subs 1 ns cs
told_all ns k cs all = ap (λ (l : List ℕ). with_subs 1 l cs) (take_all k ns all)
