-- Whether the sub-tasks of a plan are predicted to end in time.
use Rattle.std.proofs.Common.{◌≡◌, refl, sym, ap, ◌∙◌, inl, inr, ℕ, suc, ◌+◌, ◌*◌, ◌/◌, ◌≤◌, ◌<◌, Bool, true, false, ◌&&◌, List, length, drop, get_or, nat_le, arith}
use Rattle.std.proofs.Math.Seq.{drop-cons}
use Rattle.std.proofs.Math.Nat.{le-div_iff_mul-le}
use Rattle.std.proofs.lemmas.Bool.{cases_lt, le-leb, lt-leb}
use Rattle.std.proofs.lemmas.List.{drop_all}
use Rattle.std.specs.Prelude.{Option, Some, None}
use Rattle.frequency_pick.specs.Choice.{all_in_time, is_in_time}

-- the next sub-task, and the rest
next_one : (predicted : ℕ → Option ℕ) (period i sum : ℕ) (checkpoints : List ℕ) (k c : ℕ) (p : Option ℕ) → k < length checkpoints
    → c ≡ get_or checkpoints k 0 → predicted i ≡ p
    → all_in_time predicted period i sum (drop k checkpoints)
    ≡ is_in_time period sum c p (λ s. all_in_time predicted period (i + 1) s (drop (k + 1) checkpoints))
next_one predicted period i sum checkpoints k c p below at is =
    let one : suc k ≡ k + 1 = omega arith in
    ap (λ (l : List ℕ). all_in_time predicted period i sum l) (drop-cons checkpoints k 0 below)
    ∙ (λ j. is_in_time period sum (sym at j) (is j) (λ s. all_in_time predicted period (i + 1) s (drop (one j) checkpoints)))

by_test : (b r : Bool) → b ≡ false → (b && r) ≡ false
by_test true r is = cc
by_test false r is = refl

by_rest : (b r : Bool) → b ≡ true → (b && r) ≡ r
by_rest true r is = refl
by_rest false r is = cc

too_much : (n period c : ℕ) → 0 < period → c / period < n → nat_le (n * period) c ≡ false
too_much n period c some is_late = elim (cases_lt c (n * period)) [
  | inl more ↦ lt-leb (n * period) c more
  | inr less ↦ (let fits = (le-div_iff_mul-le {k = period} {x = n} {y = c} some).1 less in absurd (omega (arith, fits, is_late)))
]

enough : (n period c : ℕ) → 0 < period → n ≤ c / period → nat_le (n * period) c ≡ true
enough n period c some fits = le-leb (n * period) c ((le-div_iff_mul-le {k = period} {x = n} {y = c} some).0 fits)

-- a sub-task without a prediction
pub never : (predicted : ℕ → Option ℕ) (period i sum : ℕ) (checkpoints : List ℕ) (k : ℕ) (whole : Bool) → k < length checkpoints
    → None ≡ predicted i → all_in_time predicted period i sum (drop k checkpoints) ≡ whole → false ≡ whole
never predicted period i sum checkpoints k whole below is kept =
    sym (next_one predicted period i sum checkpoints k (get_or checkpoints k 0) None below refl (sym is)) ∙ kept

-- one that is late
pub late : (predicted : ℕ → Option ℕ) (period i sum : ℕ) (checkpoints : List ℕ) (k c n : ℕ) (whole : Bool) → 0 < period
    → k < length checkpoints → c ≡ get_or checkpoints k 0 → Some n ≡ predicted i → c / period < sum + n
    → all_in_time predicted period i sum (drop k checkpoints) ≡ whole → false ≡ whole
late predicted period i sum checkpoints k c n whole some below at is is_late kept =
    let test : nat_le ((sum + n) * period) c ≡ false = too_much (sum + n) period c some is_late in
    sym (next_one predicted period i sum checkpoints k c (Some n) below at (sym is)
    ∙ by_test (nat_le ((sum + n) * period) c) (all_in_time predicted period (i + 1) (sum + n) (drop (k + 1) checkpoints)) test) ∙ kept

-- one that is in time
pub on_time : (predicted : ℕ → Option ℕ) (period i sum : ℕ) (checkpoints : List ℕ) (k c n : ℕ) (whole : Bool) → 0 < period
    → k < length checkpoints → c ≡ get_or checkpoints k 0 → Some n ≡ predicted i → sum + n ≤ c / period
    → all_in_time predicted period i sum (drop k checkpoints) ≡ whole
    → all_in_time predicted period (i + 1) (sum + n) (drop (k + 1) checkpoints) ≡ whole
on_time predicted period i sum checkpoints k c n whole some below at is fits kept =
    let test : nat_le ((sum + n) * period) c ≡ true = enough (sum + n) period c some fits in
    sym (next_one predicted period i sum checkpoints k c (Some n) below at (sym is)
    ∙ by_rest (nat_le ((sum + n) * period) c) (all_in_time predicted period (i + 1) (sum + n) (drop (k + 1) checkpoints)) test) ∙ kept

-- none is left
pub all_passed : (predicted : ℕ → Option ℕ) (period i sum : ℕ) (checkpoints : List ℕ) (k : ℕ) (whole : Bool) → length checkpoints ≤ k
    → all_in_time predicted period i sum (drop k checkpoints) ≡ whole → true ≡ whole
all_passed predicted period i sum checkpoints k whole past kept =
    ap (λ (l : List ℕ). all_in_time predicted period i sum l) (sym (drop_all k checkpoints past)) ∙ kept
