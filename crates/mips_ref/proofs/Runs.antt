-- Runs of addresses, and of bytes.
use Rattle.std.proofs.Common.{◌≡◌, ℕ, zero, suc, ◌+◌, ◌-◌, ◌<◌, ◌≤◌, Bool, true, false, cond, List, [], ◌∷◌, ◌++◌, length, get_or, set, take, replicate, Option, Some, None, refl, sym, ap, ◌∙◌, subst, arith, length-take-le}
use Rattle.std.proofs.lemmas.List.{length-append, length-replicate, replicate-append-replicate, take_more}
use Rattle.std.specs.Prelude.{slice_set}
use Rattle.std.proofs.lemmas.Grind.{common_steps}
use Rattle.visa_io.specs.declared.records.Span.{Span}
use Rattle.mips_ref.proofs.Places.{place_from-holds}
use Rattle.mips_ref.specs.Held.{set_run}
use Rattle.mips_ref.specs.Memory.{AllDeclared, Flat, IsMemory, LaidOut, input_buffer, at_place, declared_at, has, place_from, place_of, put_at, put_byte, put_bytes}
use Rattle.mips_ref.specs.declared.place.Place.{Place}

-- one more at the end of a run
pub set_run-push : (bytes : List ℕ) (i : ℕ) (run : List ℕ) (b : ℕ) → set_run bytes i (run ++ b ∷ []) ≡ slice_set (set_run bytes i run) (i + length run) b
unfolding set_run
set_run-push bytes i [] b = ap (λ j. set bytes j b) (omega arith)
set_run-push bytes i (a ∷ run) b = set_run-push (slice_set bytes i a) (i + 1) run b ∙ ap (λ j. slice_set (set_run (slice_set bytes i a) (i + 1) run) j b) (omega arith)

pub set_run_more : (bytes : List ℕ) (i : ℕ) (run : List ℕ) (k : ℕ) → k < length run
    → set_run bytes i (take (k + 1) run) ≡ slice_set (set_run bytes i (take k run)) (i + k) (get_or run k 0)
set_run_more bytes i run k below =
    ap (set_run bytes i) (take_more run k 0 below) ∙ set_run-push bytes i (take k run) (get_or run k 0)
    ∙ ap (λ j. slice_set (set_run bytes i (take k run)) (i + j) (get_or run k 0)) (length-take-le k run (omega arith))

zeros-push : (k : ℕ) → replicate {A = ℕ} (k + 1) 0 ≡ replicate {A = ℕ} k 0 ++ 0 ∷ []
zeros-push k = sym (replicate-append-replicate {A = ℕ} k 1 0)

pub set_zeros_more : (bytes : List ℕ) (i k : ℕ) → set_run bytes i (replicate (k + 1) 0) ≡ slice_set (set_run bytes i (replicate k 0)) (i + k) 0
set_zeros_more bytes i k =
    ap (set_run bytes i) (zeros-push k) ∙ set_run-push bytes i (replicate k 0) 0
    ∙ ap (λ j. slice_set (set_run bytes i (replicate k 0)) (i + j) 0) (length-replicate {A = ℕ} k 0)

first_step : (before from : ℕ) (s : Span) (rest : List Span) (q : Place) (b : Bool) → LaidOut from (s ∷ rest) → has s from ≡ b
    → cond b (Some (record { span = s; index = before + (from - s.start) })) (place_from (before + s.len) rest from) ≡ Some q → q.index ≡ before
unfolding LaidOut
first_step before from s rest q true laid inside found =
    let here : ◌≡◌ {A = Place} (record { span = s; index = before + (from - s.start) }) q = cc in
    omega (arith, ap (λ (t : Place). t.index) here, laid.0)
first_step before from s rest q false laid outside found =
    let h = place_from-holds (before + s.len) (s.start + s.len) rest from q laid.3 found in
    absurd (omega (arith, h.above, h.low, laid.0, laid.1))

-- the first address of all is the first range's
first_in : (before from : ℕ) (spans : List Span) (q : Place) → LaidOut from spans → place_from before spans from ≡ Some q → q.index ≡ before
unfolding place_from
first_in before from [] q laid found = cc
first_in before from (s ∷ rest) q laid found = first_step before from s rest q (has s from) laid refl found

-- declared addresses that follow one another have bytes that do
next_step : (before from : ℕ) (s : Span) (rest : List Span) (a : ℕ) (p q : Place) (d e : Bool) → LaidOut from (s ∷ rest) → has s a ≡ d → has s (a + 1) ≡ e
    → cond d (Some (record { span = s; index = before + (a - s.start) })) (place_from (before + s.len) rest a) ≡ Some p
    → cond e (Some (record { span = s; index = before + (a + 1 - s.start) })) (place_from (before + s.len) rest (a + 1)) ≡ Some q
    → (place_from (before + s.len) rest a ≡ Some p → place_from (before + s.len) rest (a + 1) ≡ Some q → q.index ≡ p.index + 1)
    → q.index ≡ p.index + 1
unfolding LaidOut
next_step before from s rest a p q true true laid h k found other next =
    let here : ◌≡◌ {A = Place} (record { span = s; index = before + (a - s.start) }) p = cc in
    let there : ◌≡◌ {A = Place} (record { span = s; index = before + (a + 1 - s.start) }) q = cc in
    let low : s.start ≤ a = grind (arith, common_steps, h) in
    omega (arith, ap (λ (t : Place). t.index) here, ap (λ (t : Place). t.index) there)
next_step before from s rest a p q true false laid h k found other next =
    let here : ◌≡◌ {A = Place} (record { span = s; index = before + (a - s.start) }) p = cc in
    let low : s.start ≤ a = grind (arith, common_steps, h) in
    let edge : a + 1 ≡ s.start + s.len = grind (arith, common_steps, h, k) in
    let first = first_in (before + s.len) (s.start + s.len) rest q laid.3 (subst (λ c. place_from (before + s.len) rest c ≡ Some q) edge other) in
    omega (arith, ap (λ (t : Place). t.index) here, first)
next_step before from s rest a p q false true laid h k found other next =
    let holds = place_from-holds (before + s.len) (s.start + s.len) rest a p laid.3 found in
    let below : a + 1 < s.start + s.len = grind (arith, common_steps, k) in
    absurd (omega (arith, holds.above, holds.low))
next_step before from s rest a p q false false laid h k found other next = next found other

pub next_index : (before from : ℕ) (spans : List Span) (a : ℕ) (p q : Place) → LaidOut from spans → place_from before spans a ≡ Some p
    → place_from before spans (a + 1) ≡ Some q → q.index ≡ p.index + 1
unfolding LaidOut place_from
next_index before from [] a p q laid found other = cc
next_index before from (s ∷ rest) a p q laid found other =
    next_step before from s rest a p q (has s a) (has s (a + 1)) laid refl refl found other (λ f g. next_index (before + s.len) (s.start + s.len) rest a p q laid.3 f g)

-- the place of a declared address
pub place_declared : (m : Flat) (a : ℕ) → declared_at m a ≡ true → (p : Place) × (place_of m a ≡ Some p)
place_declared m a there = of (place_of m a) refl there
  where
    of : (o : Option Place) → place_of m a ≡ o → at_place o (λ p. true) ≡ true → (p : Place) × (place_of m a ≡ Some p)
    of None e t = cc
    of (Some p) e t = (p, e)

-- bytes put in one after the other are a run
pub put_run : (m : Flat) (a : ℕ) (bs : List ℕ) (p : Place) → LaidOut 0 m.spans → place_of m a ≡ Some p → AllDeclared m a (length bs)
    → put_bytes m a bs ≡ record m { bytes = set_run m.bytes p.index bs }
unfolding put_bytes put_byte set_run
put_run m a [] p laid found all = refl
put_run m a (b ∷ []) p laid found all = ap (put_at m b) found
put_run m a (b ∷ (c ∷ bs)) p laid found all =
    let n : Flat = record m { bytes = slice_set m.bytes p.index b } in
    let next = place_declared m (a + 1) (all 1 (omega arith)) in
    let index = next_index 0 0 m.spans a p next.0 laid found next.1 in
    let rest = put_run n (a + 1) (c ∷ bs) next.0 laid next.1 (λ k below. subst (λ d. declared_at m d ≡ true) (omega arith) (all (k + 1) (omega arith))) in
    ap (λ x. put_bytes x (a + 1) (c ∷ bs)) (ap (put_at m b) found) ∙ rest ∙ ap (λ i. let x : Flat = record n { bytes = set_run n.bytes i (c ∷ bs) } in x) index

pub set_run-append : (bytes : List ℕ) (i : ℕ) (xs ys : List ℕ) → set_run bytes i (xs ++ ys) ≡ set_run (set_run bytes i xs) (i + length xs) ys
unfolding set_run
set_run-append bytes i [] ys = ap (λ j. set_run bytes j ys) (omega arith)
set_run-append bytes i (x ∷ xs) ys =
    set_run-append (slice_set bytes i x) (i + 1) xs ys ∙ ap (λ j. set_run (set_run (slice_set bytes i x) (i + 1) xs) j ys) (omega arith)

pub length-input_buffer : (len : ℕ) (input : List ℕ) → length input ≤ len → length (input_buffer len input) ≡ len
length-input_buffer len input fits = simp (length-append, length-replicate) (omega arith)

run_index : (m : Flat) (a n : ℕ) (p : Place) → LaidOut 0 m.spans → place_of m a ≡ Some p → AllDeclared m a n
    → (k : ℕ) → k < n → (q : Place) × (place_of m (a + k) ≡ Some q) × (q.index ≡ p.index + k)
run_index m a n p laid found all zero below = (p, ap (λ c. place_of m c) (omega arith) ∙ found, omega arith)
run_index m a n p laid found all (suc k) below =
    let q = run_index m a n p laid found all k (omega arith) in
    let r = place_declared m (a + suc k) (all (suc k) below) in
    let next : place_of m (a + k + 1) ≡ Some r.0 = ap (λ c. place_of m c) (omega arith) ∙ r.1 in
    (r.0, r.1, omega (arith, next_index 0 0 m.spans (a + k) q.0 r.0 laid q.1 next, q.2))

-- the bytes of declared addresses are there
pub run_room : (m : Flat) (a n : ℕ) (p : Place) → IsMemory m → place_of m a ≡ Some p → AllDeclared m a n → 0 < n → p.index + n ≤ length m.bytes
run_room m a n p kept found all some =
    let last = run_index m a n p kept.laid_out found all (n - 1) (omega arith) in
    let stands = place_from-holds 0 0 m.spans (a + (n - 1)) last.0 kept.laid_out last.1 in
    omega (arith, last.2, stands.room, stands.high, kept.full)

pub put_none : (m : Flat) (a : ℕ) (bs : List ℕ) → length bs ≡ 0 → put_bytes m a bs ≡ m
unfolding put_bytes
put_none m a [] e = refl
put_none m a (b ∷ bs) e = absurd (omega arith)
