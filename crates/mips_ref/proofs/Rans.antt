-- What follows on a run: the steps from n on are the newest.
use Rattle.std.proofs.Common.{◌≡◌, ap, ◌∙◌, ℕ, zero, suc, ◌+◌, ◌∷◌, ◌++◌, arith}
use Rattle.mips_ref.specs.Job.{after}
use Rattle.mips_ref.specs.Mips.{Mips}
use Rattle.mips_ref.specs.Ran.{ran, ran_at, ran_by, ran_ending}
use Rattle.mips_ref.specs.Step.{step_of}
use Rattle.mips_ref.specs.declared.records.Step.{Step}
use Rattle.mips_ref.specs.declared.records.Step.TheVariants.{Went, Exit, Trap}

pub after_add : (k n : ℕ) (x : Mips) → after (k + n) x ≡ after k (after n x)
unfolding after
after_add zero n x = let e : 0 + n ≡ n = omega arith in ap (λ m. after m x) e
after_add (suc k) n x =
    let e : suc k + n ≡ suc (k + n) = omega arith in
    ap (λ m. after m x) e ∙ ap (λ y. (step_of y).state) (after_add k n x)

pub ran_by_add : (k n : ℕ) (x : Mips) → ran_by (k + n) x ≡ ran_by k (after n x) ++ ran_by n x
unfolding ran_by
ran_by_add zero n x = let e : 0 + n ≡ n = omega arith in ap (λ m. ran_by m x) e
ran_by_add (suc k) n x =
    let e : suc k + n ≡ suc (k + n) = omega arith in
    ap (λ m. ran_by m x) e ∙ (λ i. ran_at (after_add k n x i) ∷ ran_by_add k n x i)

ending_add : (k n : ℕ) (x : Mips) (answer : Step) → ran_ending (k + n) x answer ≡ ran_ending k (after n x) answer ++ ran_by n x
ending_add k n x (Trap kind pc) = λ i. ran_at (after_add k n x i) ∷ ran_by_add k n x i
ending_add k n x Went = ran_by_add k n x
ending_add k n x Exit = ran_by_add k n x

pub ran_add : (k n : ℕ) (x : Mips) → ran (k + n) x ≡ ran k (after n x) ++ ran_by n x
unfolding ran
ran_add k n x = ap (λ y. ran_ending (k + n) x (step_of y).answer) (after_add k n x) ∙ ending_add k n x (step_of (after k (after n x))).answer
