-- The search of a unit by its address.
use Rattle.std.proofs.Common.{◌≡◌, refl, sym, ap, ◌∙◌, inl, inr, ℕ, suc, zero, ◌+◌, ◌≤◌, ◌<◌, Bool, true, false, ◌||◌, List, [], ◌∷◌, length, get_or, eq-eqb, ne_eqb, arith}
use Rattle.std.specs.Prelude.{◌==◌, ◌≢◌, ◌&&◌, map}
use Rattle.std.specs.List.Sorted.{IsStrictlyIncreasing}
use Rattle.std.proofs.Math.ListN.{get_or-map}
use Rattle.std.proofs.lemmas.Bool.{cases_eq, cases_lt}
use Rattle.std.proofs.lemmas.List.{length-map, get_or_default}
use Rattle.std.proofs.lemmas.List.Kept.{AllPairs-from_increasing}
use Rattle.flow_graph.specs.declared.parts.Unit.{Unit as FlowUnit}
use Rattle.persistence.specs.Charges.{is_long_in}
use Rattle.persistence.specs.Counts.{IsNarrowed}

abbrev pub ats_of : List FlowUnit → List ℕ
ats_of units = map (λ unit. unit.at) units

at_is : (units : List FlowUnit) (k : ℕ) (d : FlowUnit) → k < length units → get_or (ats_of units) k 0 ≡ (get_or units k d).at
at_is units k d h = get_or_default (ats_of units) k 0 d.at (omega (arith, h, length-map units (λ (unit : FlowUnit). unit.at))) ∙ get_or-map (λ (unit : FlowUnit). unit.at) units k d

rises : (ats : List ℕ) (i j : ℕ) → IsStrictlyIncreasing ats → i ≤ j → j < length ats → get_or ats i 0 ≤ get_or ats j 0
rises ats i j rising h l = elim (cases_lt i j) [
  | inl less ↦ omega (arith, AllPairs-from_increasing ats rising i j 0 less l)
  | inr no_less ↦ (let same : i ≡ j = omega arith in omega (arith, ap (λ q. get_or ats q 0) same))
]

pub narrow_all : (units : List FlowUnit) (u : ℕ) → IsNarrowed (ats_of units) u 0 (length units)
narrow_all units u = record {
  ordered = omega arith;
  within = omega (arith, length-map units (λ (unit : FlowUnit). unit.at));
  below = λ k h. absurd (omega arith);
  above = λ k h l. absurd (omega (arith, length-map units (λ (unit : FlowUnit). unit.at)));
}

pub narrow_up : (units : List FlowUnit) (u low high m : ℕ) (d : FlowUnit) → IsStrictlyIncreasing (ats_of units) → IsNarrowed (ats_of units) u low high → low ≤ m → m < high → (get_or units m d).at < u → IsNarrowed (ats_of units) u (m + 1) high
narrow_up units u low high m d rising n lm mh less =
    let long = length-map units (λ (unit : FlowUnit). unit.at) in
    record {
      ordered = omega arith;
      within = n.within;
      below = λ k h. omega (arith, rises (ats_of units) k m rising (omega arith) (omega (arith, n.within)), at_is units m d (omega (arith, n.within, long)), less);
      above = n.above;
    }

pub narrow_down : (units : List FlowUnit) (u low high m : ℕ) (d : FlowUnit) → IsStrictlyIncreasing (ats_of units) → IsNarrowed (ats_of units) u low high → low ≤ m → m < high → u ≤ (get_or units m d).at → IsNarrowed (ats_of units) u low m
narrow_down units u low high m d rising n lm mh more =
    let long = length-map units (λ (unit : FlowUnit). unit.at) in
    record {
      ordered = lm;
      within = omega (arith, n.within);
      below = n.below;
      above = λ k h l. omega (arith, rises (ats_of units) m k rising h l, at_is units m d (omega (arith, n.within, long)), more);
    }

long_case : (a b c : Bool) → a ≡ false → ((a && b) || c) ≡ c
long_case true b c e = cc
long_case false b c e = refl

here_case : (a b c : Bool) → a ≡ true → c ≡ false → ((a && b) || c) ≡ b
here_case true true c e f = refl
here_case true false c e f = f
here_case false b c e f = cc

long_none : (units : List FlowUnit) (u : ℕ) → ((k : ℕ) → k < length units → get_or (ats_of units) k 0 ≡ u → ⊥) → is_long_in units u ≡ false
long_none [] u h = refl
long_none (x ∷ units) u h =
    long_case (x.at == u) (x.length == 8) (is_long_in units u) (ne_eqb x.at u (h 0 (omega arith))) ∙ long_none units u (λ k l. h (suc k) (omega (arith, l)))

long_at : (units : List FlowUnit) (u i : ℕ) (d : FlowUnit) → i < length units → get_or (ats_of units) i 0 ≡ u → ((k : ℕ) → k < length units → k ≢ i → get_or (ats_of units) k 0 ≡ u → ⊥) → is_long_in units u ≡ ((get_or units i d).length == 8)
long_at [] u i d h e others = absurd (omega (arith, h))
long_at (x ∷ units) u zero d h e others =
    here_case (x.at == u) (x.length == 8) (is_long_in units u) (eq-eqb x.at u e) (long_none units u (λ k l. others (suc k) (omega (arith, l)) (omega arith)))
long_at (x ∷ units) u (suc i) d h e others =
    long_case (x.at == u) (x.length == 8) (is_long_in units u) (ne_eqb x.at u (others 0 (omega arith) (omega arith)))
    ∙ long_at units u i d (omega arith) e (λ k l ne. others (suc k) (omega (arith, l)) (omega (arith, ne)))

apart : (ats : List ℕ) (u i k : ℕ) → IsStrictlyIncreasing ats → i < length ats → get_or ats i 0 ≡ u → k < length ats → k ≢ i → get_or ats k 0 ≡ u → ⊥
apart ats u i k rising h e l ne f = elim (cases_lt k i) [
  | inl less ↦ omega (arith, AllPairs-from_increasing ats rising k i 0 less h, e, f)
  | inr more ↦ omega (arith, AllPairs-from_increasing ats rising i k 0 (omega arith) l, e, f)
]

-- the unit at an address is found, if there is one
pub long_found : (units : List FlowUnit) (u i : ℕ) (d : FlowUnit) → IsStrictlyIncreasing (ats_of units) → i < length units → (get_or units i d).at ≡ u → ((get_or units i d).length == 8) ≡ is_long_in units u
long_found units u i d rising h e =
    let long = length-map units (λ (unit : FlowUnit). unit.at) in
    let here = at_is units i d h ∙ e in
    sym (long_at units u i d h here (λ k l. apart (ats_of units) u i k rising (omega (arith, long)) here (omega (arith, long))))

pub long_not_found : (units : List FlowUnit) (u i : ℕ) (d : FlowUnit) → IsNarrowed (ats_of units) u i i → (i < length units → (get_or units i d).at ≡ u → ⊥) → IsStrictlyIncreasing (ats_of units) → false ≡ is_long_in units u
long_not_found units u i d n none rising = sym (long_none units u (λ k l e.
    let long = length-map units (λ (unit : FlowUnit). unit.at) in
    elim (cases_lt k i) [
      | inl less ↦ omega (arith, n.below k less, e)
      | inr more ↦ elim (cases_eq k i) [
        | inl same ↦ not_here k l e same
        | inr other ↦ omega (arith, AllPairs-from_increasing (ats_of units) rising i k 0 (omega arith) (omega (arith, long)), n.above i (omega arith) (omega (arith, long)), e)
      ]
    ]))
  where
    not_here : (k : ℕ) → k < length units → get_or (ats_of units) k 0 ≡ u → k ≡ i → ⊥
    not_here k l e same = none (omega arith) (sym (at_is units i d (omega arith)) ∙ ap (λ q. get_or (ats_of units) q 0) (sym same) ∙ e)

-- past the end there is none
pub long_past : (units : List FlowUnit) (u i : ℕ) → IsNarrowed (ats_of units) u i i → length units ≤ i → false ≡ is_long_in units u
long_past units u i n past = sym (long_none units u (λ k l e. omega (arith, n.below k (omega arith), e)))
