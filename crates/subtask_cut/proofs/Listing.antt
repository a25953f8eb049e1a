-- The marked units, as they are listed.
use Rattle.std.proofs.Common.{◌≡◌, sym, ap, subst, ◌∙◌, ℕ, ◌+◌, ◌<◌, ◌≤◌, Bool, true, false, List, [], ◌∷◌, ◌++◌, length, get_or, arith, inl, inr}
use Rattle.std.specs.List.{Contains}
use Rattle.std.specs.List.Sorted.{IsStrictlyIncreasing}
use Rattle.std.proofs.lemmas.Bool.{cases_order, cases_lt}
use Rattle.std.proofs.lemmas.Grind.{get_or_default_zero}
use Rattle.std.proofs.lemmas.List.{get_or_append_left, length-append}
use Rattle.std.proofs.lemmas.List.Elements.{Contains-append_left, Contains-push, Contains-push_cases}
use Rattle.std.proofs.lemmas.List.Kept.{AllPairs-from_increasing}
use Rattle.std.proofs.Math.Seq.{get_or-append_seam}
use Rattle.loop_regions.specs.Cycles.{mark}
use Rattle.subtask_cut.specs.Search.{AreListed, IsOn}

-- a number above all of a rising list
rise_more : (xs : List ℕ) (x : ℕ) → IsStrictlyIncreasing xs → ((a : ℕ) → Contains xs a → a < x)
    → IsStrictlyIncreasing (xs ++ x ∷ [])
rise_more xs x rise above k inside = elim (cases_lt (k + 1) (length xs)) [
  | inl less ↦
      let h = rise k less in
      let first = get_or_append_left xs (x ∷ []) 0 k (omega arith) in
      let next = get_or_append_left xs (x ∷ []) 0 (k + 1) less in
      omega (arith, h, first, next)
  | inr more ↦
      let l = length-append xs (x ∷ []) in
      let at : k + 1 ≡ length xs = omega (arith, inside, l, more) in
      let first = get_or_append_left xs (x ∷ []) 0 k (omega (arith, at)) in
      let last = ap (λ n. get_or (xs ++ x ∷ []) n 0) at ∙ get_or-append_seam xs x [] 0 in
      let there : Contains xs (get_or xs k 0) = (
        k,
        omega (arith, at),
        get_or_default_zero xs k (get_or xs k 0)
            (omega (arith, at)),
      ) in
      let h = above (get_or xs k 0) there in
      omega (arith, first, last, h)
]

-- the marked units with lower numbers
pub record IsListing (addresses : List ℕ) (marks : List Bool) (n : ℕ) (us : List ℕ) : Type 0 where
  pub sound : (a : ℕ) → Contains us a → (o : IsOn addresses marks a) × (o.number < n)
  pub whole : (a : ℕ) → (o : IsOn addresses marks a) → o.number < n → Contains us a
  pub rise : IsStrictlyIncreasing us

pub listing_none : (addresses : List ℕ) (marks : List Bool) → IsListing addresses marks 0 []
listing_none addresses marks = record {
  sound = λ a h. absurd (let i = h.1 in omega (arith, i));
  whole = λ a o less. absurd (omega (arith, less));
  rise = λ k inside. absurd (omega (arith, inside));
}

pub listing_off : (addresses : List ℕ) (marks : List Bool) (n : ℕ) (us : List ℕ) → mark marks n ≡ false
    → IsListing addresses marks n us → IsListing addresses marks (n + 1) us
listing_off addresses marks n us off l = record {
  sound = λ a h. let s = l.sound a h in (s.0, (let i = s.1 in omega (arith, i)));
  whole = λ a o less. elim (cases_order o.number n) [
    | inl same ↦ absurd (let bad : true ≡ false = sym o.on ∙ ap (mark marks) same ∙ off in let b : ⊥ = cc in b)
    | inr (inl lower) ↦ l.whole a o lower
    | inr (inr higher) ↦ absurd (omega (arith, less, higher))
  ];
  rise = l.rise;
}

pub listing_on : (addresses : List ℕ) (marks : List Bool) (n : ℕ) (us more : List ℕ) (a : ℕ)
    → IsStrictlyIncreasing addresses
    → n < length addresses → mark marks n ≡ true → a ≡ get_or addresses n 0 → more ≡ us ++ a ∷ []
    → IsListing addresses marks n us → IsListing addresses marks (n + 1) more
listing_on addresses marks n us more a rise inside on is pushed l = rw pushed (record {
  sound = λ b h. elim (Contains-push_cases us a b h) [
    | inl before ↦ let s = l.sound b before in (s.0, (let i = s.1 in omega (arith, i)))
    | inr same ↦ (record { number = n; below = inside; at = sym is ∙ same; on = on }, omega arith)
  ];
  whole = λ b o less. elim (cases_order o.number n) [
    | inl same ↦ subst (Contains (us ++ a ∷ [])) (is ∙ ap (λ k. get_or addresses k 0) (sym same) ∙ o.at)
        (Contains-push us a)
    | inr (inl lower) ↦ Contains-append_left us (a ∷ []) b (l.whole b o lower)
    | inr (inr higher) ↦ absurd (omega (arith, less, higher))
  ];
  rise = rise_more us a l.rise (λ b h.
      let s = l.sound b h in
      let lower = s.1 in
      let at = s.0.at in
      let i = AllPairs-from_increasing addresses rise s.0.number n 0 lower inside in
      omega (arith, is, at, i));
})

pub listing_all : (addresses : List ℕ) (marks : List Bool) (n : ℕ) (us : List ℕ) → length addresses ≤ n
    → IsListing addresses marks n us → AreListed addresses marks us
listing_all addresses marks n us past l = record {
  are = λ a. (λ h. (l.sound a h).0, λ o. l.whole a o (let b = o.below in omega (arith, b, past)));
  rise = l.rise;
}
