-- Watchdogs never fall, and a switch that one lets happen leaves time for the rest.
use Rattle.std.proofs.Common.{◌≡◌, ap, subst, ◌∙◌, ℕ, zero, suc, ◌+◌, ◌-◌, ◌*◌, ◌/◌, ◌≤◌, ◌<◌, List, [], ◌∷◌, length, drop, get_or, sum, map, mul-le-mul_right, arith}
use Rattle.std.proofs.Math.Nat.{div-mul-le_self}
use Rattle.std.proofs.lemmas.Nat.{le-div}
use Rattle.std.proofs.lemmas.List.{get_or-map, length-map, drop-drop}
use Rattle.std.proofs.lemmas.List.Sums.{sum_by-take-drop}
use Rattle.std.specs.Int.{div_ceil}
use Rattle.task_text.specs.declared.task.Task.{Task}
use Rattle.checkpoint_plan.specs.declared.plan.Plan.{Plan}
use Rattle.checkpoint_plan.specs.Plan.{IsPlan, checkpoint_of, overhead_of, owed_of, rem_of, rems_of, switch_of, wait_of, watchdog_of}

rems_long : (bounds : List ℕ) (pb : ℕ) → length (rems_of bounds pb) ≡ length bounds
unfolding rems_of
rems_long [] pb = omega arith
rems_long (n ∷ ns) pb = omega (arith, rems_long ns pb)

rem_is : (bounds : List ℕ) (pb i : ℕ) → i < length bounds → get_or (rems_of bounds pb) i 0 ≡ rem_of (drop i bounds) pb
unfolding rems_of
rem_is [] pb i below = absurd (omega (arith, below))
rem_is (n ∷ ns) pb zero below = λ i. rem_of (n ∷ ns) pb
rem_is (n ∷ ns) pb (suc i) below = rem_is ns pb i (omega (arith, below))

-- the watchdog of a sub-task
pub watchdog_is : (t : Task) (bounds : List ℕ) (a b pa pb : ℕ) (p : Plan) (i : ℕ) → IsPlan t bounds a b pa pb p → i < length bounds
    → get_or p.watchdog i 0 ≡ checkpoint_of t pa pb (rem_of (drop i bounds) pb) / pa
watchdog_is t bounds a b pa pb p i is below =
    let rems = rems_of bounds pb in
    let in_rems : i < length rems = omega (arith, below, rems_long bounds pb) in
    let in_times : i < length (map (checkpoint_of t pa pb) rems) = omega (arith, in_rems, length-map rems (checkpoint_of t pa pb)) in
    ap (λ (l : List ℕ). get_or l i 0) (is.watchdogs_are ∙ ap (map (watchdog_of pa)) is.checkpoints_are)
    ∙ get_or-map (watchdog_of pa) (map (checkpoint_of t pa pb) rems) i 0 0 in_times
    ∙ ap (watchdog_of pa) (get_or-map (checkpoint_of t pa pb) rems i 0 0 in_rems ∙ ap (checkpoint_of t pa pb) (rem_is bounds pb i below))

-- later sub-tasks need less
rem_less : (bounds : List ℕ) (pb i : ℕ) → rem_of (drop i bounds) pb ≤ rem_of bounds pb
unfolding rem_of
rem_less bounds pb i =
    let parts = sum_by-take-drop (λ (n : ℕ). n) bounds i in
    mul-le-mul_right pb (omega (arith, parts))

rem_falls : (bounds : List ℕ) (pb i j : ℕ) → i ≤ j → rem_of (drop j bounds) pb ≤ rem_of (drop i bounds) pb
rem_falls bounds pb i j later =
    let n : ℕ = j - i in
    let whole : i + n ≡ j = omega (arith, later) in
    let same : drop n (drop i bounds) ≡ drop j bounds = drop-drop n i bounds ∙ ap (λ k. drop k bounds) whole in
    subst (λ l. rem_of l pb ≤ rem_of (drop i bounds) pb) same (rem_less (drop i bounds) pb n)

quotient_grows : (m n k : ℕ) → 0 < k → m ≤ n → m / k ≤ n / k
quotient_grows m n k some less = le-div (m / k) n k some (omega (arith, div-mul-le_self m k, less))

-- watchdogs never fall
pub watchdogs_grow : (t : Task) (bounds : List ℕ) (a b pa pb : ℕ) (p : Plan) (i j : ℕ) → IsPlan t bounds a b pa pb p → 0 < pa
    → i ≤ j → j < length bounds → get_or p.watchdog i 0 ≤ get_or p.watchdog j 0
watchdogs_grow t bounds a b pa pb p i j is some later below =
    let early = watchdog_is t bounds a b pa pb p i is (omega (arith, later, below)) in
    let late = watchdog_is t bounds a b pa pb p j is below in
    let grows = quotient_grows (checkpoint_of t pa pb (rem_of (drop i bounds) pb)) (checkpoint_of t pa pb (rem_of (drop j bounds) pb)) pa some
    (omega (arith, rem_falls bounds pb i j later)) in
    omega (arith, early, late, grows)

fits_by : (t : Task) (rest : List ℕ) (pa pb at flight : ℕ)
    → at * pa ≤ checkpoint_of t pa pb (rem_of rest pb) → t.machine.start_ps + overhead_of t.machine pa pb + rem_of rest pb ≤ t.deadline_ps
    → flight * pa ≤ wait_of t.machine pa * pa
    → t.machine.start_ps + at * pa + switch_of t.machine flight pa pb + (5 + div_ceil t.machine.mem_ps pb + sum rest) * pb ≤ t.deadline_ps
unfolding overhead_of rem_of switch_of
fits_by t rest pa pb at flight checked owed waits = omega (arith, checked, owed, waits)

-- a switch at or before the watchdog of a sub-task leaves time for five cycles, a missed fetch and the bounds that remain
pub switch_fits : (t : Task) (bounds : List ℕ) (a b pa pb : ℕ) (p : Plan) (i at flight : ℕ) → IsPlan t bounds a b pa pb p
    → i < length bounds → at ≤ get_or p.watchdog i 0 → flight ≤ wait_of t.machine pa
    → t.machine.start_ps + at * pa + switch_of t.machine flight pa pb + (5 + div_ceil t.machine.mem_ps pb + sum (drop i bounds)) * pb
    ≤ t.deadline_ps
unfolding owed_of
switch_fits t bounds a b pa pb p i at flight is below early short =
    let checkpoint = checkpoint_of t pa pb (rem_of (drop i bounds) pb) in
    let watchdog = watchdog_is t bounds a b pa pb p i is below in
    let product = mul-le-mul_right {m = at} {n = checkpoint / pa} pa (omega (arith, early, watchdog)) in
    fits_by t (drop i bounds) pa pb at flight (omega (arith, product, div-mul-le_self checkpoint pa))
    (omega (arith, is.owed, rem_less bounds pb i)) (mul-le-mul_right pa short)
