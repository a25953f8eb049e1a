-- What is kept of counts.
use Rattle.std.proofs.Common.{◌≡◌, refl, sym, ap, ◌∙◌, inl, inr, ℕ, ◌+◌, ◌-◌, ◌≤◌, ◌<◌, max, Bool, true, false, List, [], ◌∷◌, ◌++◌, fold, length, get_or, set, eq-eqb, eqb-true, arith, get_or-set_same, get_or-set_other}
use Rattle.std.proofs.lemmas.Bool.{cases_eq}
use Rattle.std.proofs.lemmas.List.{get_or-map, length-map, length-set, map-set}
use Rattle.std.proofs.lemmas.Grind.{common_steps}
use Rattle.std.specs.Prelude.{Some, ◌==◌, if◌then◌else◌}
use Rattle.circular_buffer.specs.Buffer.{Buffer, keep_last}
use Rattle.frequency_pick.specs.Counts.{Count, StandsFor, count, counts_of, greatest}
use Rattle.frequency_pick.specs.Held.{kept_in}

pub greatest_some : (ns : List ℕ) (most : ℕ) → (length ns == 0) ≡ false → most ≡ fold max 0 ns → Some most ≡ greatest ns
greatest_some [] most some is = let clash : true ≡ false = some in cc
greatest_some (n ∷ ns) most some is = ap (λ (m : ℕ). Some m) is

-- a ring is changed at its place
pub kept_changed : (rings : List (Buffer ℕ)) (kept : List (List ℕ)) (k : ℕ) (ring now : Buffer ℕ) (cycles : ℕ) → kept_in rings ≡ kept
    → k < length kept → now ≡ get_or rings k now → ring.items ≡ keep_last 8 (now.items ++ cycles ∷ [])
    → kept_in (set rings k ring) ≡ set kept k (keep_last 8 (get_or kept k [] ++ cycles ∷ []))
kept_changed rings kept k ring now cycles is below at put =
    let in_rings : k < length rings = omega (arith, below, ap (λ (l : List (List ℕ)). length l) is, length-map rings (λ (b : Buffer ℕ). b.items)) in
    let old : get_or kept k [] ≡ now.items =
    ap (λ (l : List (List ℕ)). get_or l k []) (sym is) ∙ get_or-map (λ (b : Buffer ℕ). b.items) rings k now [] in_rings
    ∙ ap (λ (b : Buffer ℕ). b.items) (sym at) in
    map-set (λ (b : Buffer ℕ). b.items) rings k ring
    ∙ (λ i. set (is i) k (put i))
    ∙ ap (λ (l : List ℕ). set kept k (keep_last 8 (l ++ cycles ∷ []))) (sym old)

set_there : (xs : List (List ℕ)) (k : ℕ) (x : List ℕ) → k < length xs → get_or (set xs k x) k [] ≡ x
set_there xs k x below = get_or-set_same xs k x [] below

set_aside : (xs : List (List ℕ)) (k j : ℕ) (x : List ℕ) → (j ≡ k → ⊥) → get_or (set xs k x) j [] ≡ get_or xs j []
set_aside xs k j x other = get_or-set_other xs k j x [] other

last_again : (xs : List ℕ) (c : ℕ) → keep_last 8 (keep_last 8 xs ++ c ∷ []) ≡ keep_last 8 (xs ++ c ∷ [])
last_again xs c = grind (arith, common_steps)

counted_if : (b : Bool) (xs : List ℕ) (c : ℕ) → b ≡ true → keep_last 8 (xs ++ c ∷ []) ≡ keep_last 8 (if b then xs ++ c ∷ [] else xs)
counted_if true xs c is = refl
counted_if false xs c is = cc

not_counted : (b : Bool) (xs : List ℕ) (c : ℕ) → (b ≡ true → ⊥) → keep_last 8 xs ≡ keep_last 8 (if b then xs ++ c ∷ [] else xs)
not_counted true xs c other = absurd (other refl)
not_counted false xs c other = refl

-- the counts of the sub-task that was counted
stands_here : (kept more : List (List ℕ)) (sub cycles : ℕ) (cs : List Count) → 1 ≤ sub → sub ≤ length kept
    → more ≡ set kept (sub - 1) (keep_last 8 (get_or kept (sub - 1) [] ++ cycles ∷ [])) → StandsFor kept cs
    → (k : ℕ) → k ≡ sub - 1 → get_or more k [] ≡ keep_last 8 (counts_of (k + 1) (count sub cycles ∷ cs))
stands_here kept more sub cycles cs some few is stands k same =
    let below : sub - 1 < length kept = omega (arith, some, few) in
    let at = set_there kept (sub - 1) (keep_last 8 (get_or kept (sub - 1) [] ++ cycles ∷ [])) below in
    let number : sub ≡ k + 1 = omega (arith, same, some) in
    let one : sub - 1 + 1 ≡ k + 1 = omega (arith, same) in
    let old : get_or kept (sub - 1) [] ≡ keep_last 8 (counts_of (k + 1) cs) =
    stands (sub - 1) below ∙ ap (λ (n : ℕ). keep_last 8 (counts_of n cs)) one in
    (λ i. get_or (is i) (same i) []) ∙ at ∙ ap (λ (l : List ℕ). keep_last 8 (l ++ cycles ∷ [])) old
    ∙ last_again (counts_of (k + 1) cs) cycles
    ∙ counted_if (sub == (k + 1)) (counts_of (k + 1) cs) cycles (eq-eqb sub (k + 1) number)

-- those of another
stands_elsewhere : (kept more : List (List ℕ)) (sub cycles : ℕ) (cs : List Count) → 1 ≤ sub
    → more ≡ set kept (sub - 1) (keep_last 8 (get_or kept (sub - 1) [] ++ cycles ∷ [])) → StandsFor kept cs
    → (k : ℕ) → k < length more → (k ≡ sub - 1 → ⊥) → get_or more k [] ≡ keep_last 8 (counts_of (k + 1) (count sub cycles ∷ cs))
stands_elsewhere kept more sub cycles cs some is stands k below other =
    let last = keep_last 8 (get_or kept (sub - 1) [] ++ cycles ∷ []) in
    let long : length more ≡ length kept = ap (λ (l : List (List ℕ)). length l) is ∙ length-set kept (sub - 1) last in
    ap (λ (l : List (List ℕ)). get_or l k []) is ∙ set_aside kept (sub - 1) k last other ∙ stands k (omega (arith, below, long))
    ∙ not_counted (sub == (k + 1)) (counts_of (k + 1) cs) cycles (λ e. let same = eqb-true sub (k + 1) e in other (omega (arith, same)))

-- it stands for one count more
pub stands_more : (kept more : List (List ℕ)) (sub cycles : ℕ) (cs : List Count) → 1 ≤ sub → sub ≤ length kept
    → more ≡ set kept (sub - 1) (keep_last 8 (get_or kept (sub - 1) [] ++ cycles ∷ [])) → StandsFor kept cs
    → StandsFor more (count sub cycles ∷ cs)
stands_more kept more sub cycles cs some few is stands = λ k below. elim (cases_eq k (sub - 1)) [
  | inl same ↦ stands_here kept more sub cycles cs some few is stands k same
  | inr other ↦ stands_elsewhere kept more sub cycles cs some is stands k below other
]
