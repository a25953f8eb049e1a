-- What remains, sub-task by sub-task.
use Rattle.std.proofs.Common.{◌≡◌, sym, ap, subst, ◌∙◌, ℕ, suc, ◌+◌, ◌-◌, ◌*◌, ◌≤◌, ◌<◌, List, [], ◌∷◌, ◌++◌, append_assoc, append-nil, length, drop, get_or, sum, All, mul-le-mul_right, arith}
use Rattle.std.proofs.Math.Seq.{drop-cons}
use Rattle.std.proofs.lemmas.List.Elements.{All-cons, All-nil}
use Rattle.std.proofs.lemmas.List.Sums.{sum_by-cons, sum_by-drop_more, sum_by-take-drop}
use Rattle.std.proofs.lemmas.List.{drop_all}
use Rattle.visa_io.specs.declared.records.Machine.{Machine}
use Rattle.checkpoint_plan.specs.Plan.{overhead_of, owed_of, rem_of, rems_of}

-- the next time that is put, and those that are left
pub next_rem : (bounds : List ℕ) (pb i : ℕ) → i < length bounds
    → rems_of (drop i bounds) pb ≡ rem_of (drop i bounds) pb ∷ rems_of (drop (suc i) bounds) pb
unfolding rems_of
next_rem bounds pb i below =
    let e = drop-cons bounds i 0 below in
    ap (λ l. rems_of l pb) e ∙ (λ k. rem_of (sym e k) pb ∷ rems_of (drop (suc i) bounds) pb)

-- the next bound, and the sum of those that are left
pub next_sum : (bounds : List ℕ) (i : ℕ) → i < length bounds → sum (drop i bounds) ≡ get_or bounds i 0 + sum (drop (i + 1) bounds)
next_sum bounds i below = sum_by-drop_more (λ n. n) bounds i 0 below

-- a time is put
pub rem_put : (bounds list more : List ℕ) (pb period i left x : ℕ) → i < length bounds → left ≡ sum (drop i bounds) → period ≡ pb
    → x ≡ (5 + left) * period → more ≡ list ++ x ∷ [] → list ++ rems_of (drop i bounds) pb ≡ rems_of bounds pb
    → more ++ rems_of (drop (i + 1) bounds) pb ≡ rems_of bounds pb
unfolding rem_of
rem_put bounds list more pb period i left x below is same at put so_far =
    let one : i + 1 ≡ suc i = omega arith in
    let first : x ≡ rem_of (drop i bounds) pb = at ∙ (λ k. (5 + is k) * same k) in
    (λ k. put k ++ rems_of (drop (one k) bounds) pb)
    ∙ append_assoc list (x ∷ []) (rems_of (drop (suc i) bounds) pb)
    ∙ (λ k. list ++ (first k ∷ rems_of (drop (suc i) bounds) pb))
    ∙ ap (λ l. list ++ l) (sym (next_rem bounds pb i below))
    ∙ so_far

-- all are put
pub rems_put : (bounds list : List ℕ) (pb i : ℕ) → length bounds ≤ i → list ++ rems_of (drop i bounds) pb ≡ rems_of bounds pb
    → list ≡ rems_of bounds pb
unfolding rems_of
rems_put bounds list pb i past so_far =
    sym (append-nil list) ∙ (λ k. list ++ rems_of (sym (drop_all i bounds past) k) pb) ∙ so_far

-- the sum of what is left falls by a bound
pub left_falls : (bounds : List ℕ) (i left n : ℕ) → i < length bounds → left ≡ sum (drop i bounds) → n ≡ get_or bounds i 0
    → left - n ≡ sum (drop (i + 1) bounds)
left_falls bounds i left n below is at = let next = next_sum bounds i below in omega (arith, is, at, next)

pub left_small : (bounds : List ℕ) (i left most : ℕ) → left ≡ sum (drop i bounds) → sum bounds < most → left < most
left_small bounds i left most is small =
    let parts = sum_by-take-drop (λ (n : ℕ). n) bounds i in omega (arith, is, small, parts)

-- no sub-task needs more than the first and those after it
pub rems_fall : (bounds : List ℕ) (pb limit : ℕ) → rem_of bounds pb ≤ limit → All (λ r. r ≤ limit) (rems_of bounds pb)
unfolding rem_of rems_of
rems_fall [] pb limit h = All-nil (λ r. r ≤ limit)
rems_fall (n ∷ ns) pb limit h =
    let cons = sum_by-cons (λ (m : ℕ). m) n ns in
    let less : 5 + sum ns ≤ 5 + sum (n ∷ ns) = omega (arith, cons) in
    let product = mul-le-mul_right pb less in
    All-cons (λ r. r ≤ limit) (rem_of (n ∷ ns) pb) (rems_of ns pb) h (rems_fall ns pb limit (omega (arith, h, product)))

-- what is owed without the rest, and the rest
pub owed_parts : (m : Machine) (pa pb : ℕ) (bounds : List ℕ) (start overhead left : ℕ) → start ≡ m.start_ps → overhead ≡ overhead_of m pa pb
    → left ≡ rem_of bounds pb → start + overhead + left ≡ owed_of m pa pb bounds
unfolding owed_of
owed_parts m pa pb bounds start overhead left s o l = λ i. s i + o i + l i

-- the time that is left for the rest is enough for it
pub owed_left : (m : Machine) (pa pb : ℕ) (bounds : List ℕ) (start overhead deadline : ℕ) → start ≡ m.start_ps → overhead ≡ overhead_of m pa pb
    → owed_of m pa pb bounds ≤ deadline → (start + overhead ≤ deadline) × (rem_of bounds pb ≤ deadline - (start + overhead))
unfolding owed_of
owed_left m pa pb bounds start overhead deadline s o fits = (omega (arith, s, o, fits), omega (arith, s, o, fits))

-- each time that is put leaves enough before the deadline
pub rems_fit : (m : Machine) (pa pb : ℕ) (bounds rems : List ℕ) (start overhead deadline limit : ℕ) → start ≡ m.start_ps
    → overhead ≡ overhead_of m pa pb → owed_of m pa pb bounds ≤ deadline → limit ≡ deadline → rems ≡ rems_of bounds pb
    → All (λ r. r ≤ limit - (start + overhead)) rems
rems_fit m pa pb bounds rems start overhead deadline limit s o fits at is =
    let left = owed_left m pa pb bounds start overhead deadline s o fits in
    subst (All (λ r. r ≤ limit - (start + overhead))) (sym is) (rems_fall bounds pb (limit - (start + overhead)) (omega (arith, left.1, at)))
