-- What executed instructions cost, beside the places that spell them.
use Rattle.std.proofs.Common.{◌≡◌, refl, sym, ap, subst, ◌∙◌, ℕ, ◌+◌, ◌*◌, ◌≤◌, Bool, true, false, List, [], ◌∷◌, ◌++◌, append-nil, arith}
use Rattle.std.specs.Prelude.{if◌then◌else◌}
use Rattle.loop_regions.specs.Places.{Place, ats}
use Rattle.loop_regions.specs.Costs.{Prices, entering, spent, young, charges}
use Rattle.loop_regions.proofs.Sums.{ats_append}
use Rattle.remaining_wcet.specs.Executed.{Executed, Clock, executed_ats, wait_after, missed, total_cost, misses, Spells}

pub spelt_ats : (c : Clock) (p : Prices) (os : List Executed) (xs : List Place) → Spells c p os xs
    → executed_ats os ≡ ats xs
spelt_ats c p [] [] s = refl
spelt_ats c p [] (x ∷ xs) s = absurd s
spelt_ats c p (o ∷ os) [] s = absurd s
spelt_ats c p (o ∷ os) (x ∷ xs) s = λ i. s.0 i ∷ spelt_ats c p os xs s.3 i

-- one place, by whether it is charged and whether it misses
one_cost : (charged hit : Bool) (m rest base wait edge : ℕ) → rest ≤ base → wait ≤ edge
    → rest + (if hit then 0 else m) + wait + m * (if charged then 1 else 0) ≤ edge + base + (if charged then m else 0) + m * (if hit then 0 else 1)
one_cost true true m rest base wait edge r w = omega (arith, r, w)
one_cost true false m rest base wait edge r w = omega (arith, r, w)
one_cost false true m rest base wait edge r w = omega (arith, r, w)
one_cost false false m rest base wait edge r w = omega (arith, r, w)

missed_as : (c : Clock) (p : Prices) (l k : List ℕ) → l ≡ k → missed c p l ≡ (if c.hits k then 0 else p.miss)
missed_as c p l k e = ap (missed c p) e

base_as : (p : Prices) (a b n : ℕ) → a ≡ b → n ≤ p.base a → n ≤ p.base b
base_as p a b n e h = subst (λ q. n ≤ p.base q) e h

-- the first part of a run's newest instructions, and the rest of them
pub record IsSpread (c : Clock) (p : Prices) (charged : ℕ → Bool) (part rest : List Place) (os : List Executed) : Type 0 where
  pub older : List Executed
  pub spells : Spells c p older rest
  pub cost : total_cost c p os + p.miss * charges charged part ≤ spent p charged part + p.miss * misses c.hits (ats part) (ats rest) + total_cost c p older

pub spread : (c : Clock) (p : Prices) (charged : ℕ → Bool) (part rest : List Place) (os : List Executed)
    → Spells c p os (part ++ rest) → IsSpread c p charged part rest os
spread c p charged [] rest os s = record { older = os; spells = s; cost = omega arith }
spread c p charged (x ∷ part) rest [] s = absurd s
spread c p charged (x ∷ part) rest (o ∷ os) s =
    let i = spread c p charged part rest os s.3 in
    let fetched : executed_ats (o ∷ os) ≡ x.at ∷
    (ats part ++ ats rest) = (λ j. s.0 j ∷ (spelt_ats c p os (part ++ rest) s.3 ∙ ats_append part rest) j) in
    let m = missed_as c p (executed_ats (o ∷ os)) (x.at ∷ (ats part ++ ats rest)) fetched in
    let one = one_cost (charged x.at) (c.hits (x.at ∷ (ats part ++ ats rest))) p.miss (c.rest (o ∷ os)) (p.base x.at)
    (wait_after os) (entering p x.by) (base_as p o.at x.at (c.rest (o ∷ os)) s.0 (s.1 os)) s.2 in
    record { older = i.older; spells = i.spells; cost = omega (arith, i.cost, one, m) }

-- the oldest instruction waits for nothing
pub begun : (c : Clock) (p : Prices) (charged : ℕ → Bool) (part : List Place) (os : List Executed) → Spells c p os part
    → total_cost c p os + p.miss * charges charged part ≤ young p charged part + p.miss * misses c.hits (ats part) []
begun c p charged [] [] s = omega arith
begun c p charged [] (o ∷ os) s = absurd s
begun c p charged (x ∷ part) [] s = absurd s
begun c p charged (x ∷ []) (o ∷ []) s =
    let m = missed_as c p (o.at ∷ []) (x.at ∷ []) (ap (λ a. a ∷ []) s.0) in
    let one = one_cost (charged x.at) (c.hits (x.at ∷ [])) p.miss (c.rest (o ∷ [])) (p.base x.at) 0 0
    (base_as p o.at x.at (c.rest (o ∷ [])) s.0 (s.1 [])) (omega arith) in
    omega (arith, one, m)
begun c p charged (x ∷ []) (o ∷ q ∷ os) s = absurd s.3
begun c p charged (x ∷ y ∷ part) (o ∷ os) s =
    let i = begun c p charged (y ∷ part) os s.3 in
    let fetched : executed_ats (o ∷ os) ≡ x.at ∷
    (ats (y ∷ part) ++ []) = (λ j. s.0 j ∷ (spelt_ats c p os (y ∷ part) s.3 ∙ sym (append-nil (ats (y ∷ part)))) j) in
    let m = missed_as c p (executed_ats (o ∷ os)) (x.at ∷ (ats (y ∷ part) ++ [])) fetched in
    let one = one_cost (charged x.at) (c.hits (x.at ∷ (ats (y ∷ part) ++ []))) p.miss (c.rest (o ∷ os)) (p.base x.at)
    (wait_after os) (entering p x.by) (base_as p o.at x.at (c.rest (o ∷ os)) s.0 (s.1 os)) s.2 in
    omega (arith, i, one, m)
