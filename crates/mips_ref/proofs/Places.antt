-- Where an address stands among ranges that rise.
use Rattle.std.proofs.Common.{◌≡◌, ℕ, zero, suc, ◌+◌, ◌-◌, ◌<◌, ◌≤◌, Bool, true, false, cond, ltb, leb, List, [], ◌∷◌, length, get_or, Option, Some, None, refl, ap, ap₂, subst, arith}
use Rattle.std.proofs.lemmas.Grind.{common_steps}
use Rattle.std.specs.List.Sorted.{IsNonDecreasingBy}
use Rattle.visa_io.specs.declared.records.Span.{Span}
use Rattle.mips_ref.specs.Held.{firsts_from}
use Rattle.mips_ref.specs.Memory.{LaidOut, has, place_from, port, total_len}
use Rattle.mips_ref.specs.declared.place.Place.{Place}

-- each range begins at the first address or above
pub start_above : (from : ℕ) (spans : List Span) (k : ℕ) (d : Span) → LaidOut from spans → k < length spans → from ≤ (get_or spans k d).start
unfolding LaidOut
start_above from [] k d laid below = absurd (omega arith)
start_above from (s ∷ rest) zero d laid below = laid.0
start_above from (s ∷ rest) (suc k) d laid below =
    omega (arith, start_above (s.start + s.len) rest k d laid.3 (omega arith), laid.0)

-- the first addresses rise
pub starts_rise : (from : ℕ) (spans : List Span) → LaidOut from spans → IsNonDecreasingBy (λ s. s.start) spans
unfolding LaidOut
starts_rise from [] laid i j d le below = absurd (omega arith)
starts_rise from (s ∷ rest) laid zero zero d le below = omega arith
starts_rise from (s ∷ rest) laid zero (suc j) d le below =
    omega (arith, start_above (s.start + s.len) rest j d laid.3 (omega arith))
starts_rise from (s ∷ rest) laid (suc i) zero d le below = absurd (omega arith)
starts_rise from (s ∷ rest) laid (suc i) (suc j) d le below =
    starts_rise (s.start + s.len) rest laid.3 i j d (omega arith) (omega arith)

-- no range has an address below all of them
pub none_below : (before from : ℕ) (spans : List Span) (at : ℕ) → LaidOut from spans → at < from → place_from before spans at ≡ None
unfolding LaidOut place_from
none_below before from [] at laid below = refl
none_below before from (s ∷ rest) at laid below =
    let outside : leb s.start at ≡ false = grind (arith, common_steps, laid.0) in
    rw outside (none_below (before + s.len) (s.start + s.len) rest at laid.3 (omega (arith, laid.0)))

-- what a look-up finds in the last range that doesn't begin past the address
abbrev pub place_in : Span → ℕ → ℕ → Option Place
place_in s first at = cond (ltb (at - s.start) s.len) (Some (record { span = s; index = first + (at - s.start) })) None

pub none_past : (before from : ℕ) (spans : List Span) (at : ℕ) → LaidOut from spans → ((k : ℕ) (d : Span) → k < length spans → at < (get_or spans k d).start) → place_from before spans at ≡ None
unfolding LaidOut place_from
none_past before from [] at laid past = refl
none_past before from (s ∷ rest) at laid past =
    let outside : leb s.start at ≡ false = grind (arith, common_steps, past 0 s (omega arith)) in
    rw outside (none_past (before + s.len) (s.start + s.len) rest at laid.3 (λ k d below. past (suc k) d (omega arith)))

-- the address is in the range at i, or in none, where the ranges up to i begin at most there and the others past it
pub place_from-at : (before from : ℕ) (spans : List Span) (at i : ℕ) (d : Span) → LaidOut from spans → i < length spans
    → ((k : ℕ) (d : Span) → k ≤ i → (get_or spans k d).start ≤ at) → ((k : ℕ) (d : Span) → i < k → k < length spans → at < (get_or spans k d).start)
    → place_from before spans at ≡ place_in (get_or spans i d) (get_or (firsts_from before spans) i 0) at
unfolding LaidOut place_from firsts_from
place_from-at before from [] at i d laid below low high = absurd (omega arith)
place_from-at before from (s ∷ rest) at zero d laid below low high =
    let inside : leb s.start at ≡ true = grind (arith, common_steps, low 0 s (omega arith)) in
    let same : ltb at (s.start + s.len) ≡ ltb (at - s.start) s.len = grind (arith, common_steps, low 0 s (omega arith)) in
    let rest_none = none_past (before + s.len) (s.start + s.len) rest at laid.3 (λ k e h. high (suc k) e (omega arith) (omega arith)) in
    rw (inside, same, rest_none) refl
place_from-at before from (s ∷ rest) at (suc i) d laid below low high =
    let above = start_above (s.start + s.len) rest i d laid.3 (omega arith) in
    let past : ltb at (s.start + s.len) ≡ false = grind (arith, common_steps, low (suc i) d (omega arith)) in
    let step = place_from-at (before + s.len) (s.start + s.len) rest at i d laid.3 (omega arith) (λ k e h. low (suc k) e (omega arith)) (λ k e h g. high (suc k) e (omega arith) (omega arith)) in
    grind (arith, common_steps, step, past)

pub length-firsts_from : (before : ℕ) (spans : List Span) → length (firsts_from before spans) ≡ length spans
unfolding firsts_from
length-firsts_from before [] = refl
length-firsts_from before (s ∷ rest) = ap suc (length-firsts_from (before + s.len) rest)

-- the place that a look-up finds: the address is in its range, and its bytes are there up to the range's end
pub record Holds (before from total at : ℕ) (p : Place) : Type 0 where
  pub above : from ≤ p.span.start
  pub low : p.span.start ≤ at
  pub high : at < p.span.start + p.span.len
  pub below_port : p.span.start + p.span.len ≤ port
  pub first : before ≤ p.index
  pub room : p.index + (p.span.start + p.span.len - at) ≤ before + total

holds-weaker : (before from before' from' total total' at : ℕ) (p : Place) → Holds before' from' total' at p → from ≤ from' → before ≤ before'
    → before' + total' ≤ before + total → Holds before from total at p
holds-weaker before from before' from' total total' at p h low less more = record {
  above = omega (arith, h.above);
  low = h.low;
  high = h.high;
  below_port = h.below_port;
  first = omega (arith, h.first);
  room = omega (arith, h.room);
}

has-true : (s : Span) (at : ℕ) → has s at ≡ true → (s.start ≤ at) × (at < s.start + s.len)
has-true s at e = (grind (arith, common_steps, e), grind (arith, common_steps, e))

pub has-inside : (s : Span) (at : ℕ) → s.start ≤ at → at < s.start + s.len → has s at ≡ true
has-inside s at low high = grind (arith, common_steps)

pub has-outside : (s : Span) (at : ℕ) → s.start + s.len ≤ at → has s at ≡ false
has-outside s at past = grind (arith, common_steps)

holds-step : (before from : ℕ) (s : Span) (rest : List Span) (at : ℕ) (p : Place) (b : Bool) → LaidOut from (s ∷ rest) → has s at ≡ b
    → cond b (Some (record { span = s; index = before + (at - s.start) })) (place_from (before + s.len) rest at) ≡ Some p
    → (place_from (before + s.len) rest at ≡ Some p → Holds (before + s.len) (s.start + s.len) (total_len rest) at p)
    → Holds before from (total_len (s ∷ rest)) at p
unfolding LaidOut total_len
holds-step before from s rest at p true laid inside found next =
    let here : ◌≡◌ {A = Place} (record { span = s; index = before + (at - s.start) }) p = cc in
    let within = has-true s at inside in
    subst (λ q. Holds before from (s.len + total_len rest) at q) here (record {
      above = laid.0;
      low = within.0;
      high = within.1;
      below_port = laid.2;
      first = omega arith;
      room = omega (arith, within.0, within.1);
    })
holds-step before from s rest at p false laid outside found next =
    holds-weaker before from (before + s.len) (s.start + s.len) (s.len + total_len rest) (total_len rest) at p (next found) (omega (arith, laid.0)) (omega arith) (omega arith)

pub place_from-holds : (before from : ℕ) (spans : List Span) (at : ℕ) (p : Place) → LaidOut from spans → place_from before spans at ≡ Some p
    → Holds before from (total_len spans) at p
unfolding LaidOut place_from
place_from-holds before from [] at p laid found = cc
place_from-holds before from (s ∷ rest) at p laid found =
    holds-step before from s rest at p (has s at) laid refl found (place_from-holds (before + s.len) (s.start + s.len) rest at p laid.3)

next-step : (before from : ℕ) (s : Span) (rest : List Span) (at j : ℕ) (p : Place) (b : Bool) → LaidOut from (s ∷ rest) → has s at ≡ b
    → cond b (Some (record { span = s; index = before + (at - s.start) })) (place_from (before + s.len) rest at) ≡ Some p
    → at + j < p.span.start + p.span.len
    → (place_from (before + s.len) rest at ≡ Some p → place_from (before + s.len) rest (at + j) ≡ Some (record { span = p.span; index = p.index + j }))
    → place_from before (s ∷ rest) (at + j) ≡ Some (record { span = p.span; index = p.index + j })
unfolding LaidOut place_from
next-step before from s rest at j p true laid inside found below next =
    let here : ◌≡◌ {A = Place} (record { span = s; index = before + (at - s.start) }) p = cc in
    let within = has-true s at inside in
    let len : s.start + s.len ≡ p.span.start + p.span.len = ap (λ (q : Place). q.span.start + q.span.len) here in
    let still = has-inside s (at + j) (omega (arith, within.0)) (omega arith) in
    let index : before + (at + j - s.start) ≡ p.index + j = omega (arith, ap (λ (q : Place). q.index) here, within.0) in
    rw still (ap Some (ap₂ (λ (t : Span) (i : ℕ). let q : Place = record { span = t; index = i } in q) (ap (λ (q : Place). q.span) here) index))
next-step before from s rest at j p false laid outside found below next =
    let holds = place_from-holds (before + s.len) (s.start + s.len) rest at p laid.3 found in
    let past = has-outside s (at + j) (omega (arith, holds.above, holds.low)) in
    rw past (next found)

-- the addresses after one in its range stand after it
pub place_from-next : (before from : ℕ) (spans : List Span) (at j : ℕ) (p : Place) → LaidOut from spans → place_from before spans at ≡ Some p
    → at + j < p.span.start + p.span.len → place_from before spans (at + j) ≡ Some (record { span = p.span; index = p.index + j })
unfolding LaidOut place_from
place_from-next before from [] at j p laid found below = cc
place_from-next before from (s ∷ rest) at j p laid found below =
    next-step before from s rest at j p (has s at) laid refl found below (λ e. place_from-next (before + s.len) (s.start + s.len) rest at j p laid.3 e below)
