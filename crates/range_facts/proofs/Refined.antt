-- Refined facts are facts.
use Rattle.std.proofs.Common.{◌≡◌, ◌∙◌, refl, sym, ap, ap₂, subst, ℕ, ◌<◌, ◌≤◌, arith, ◌⊎◌, inl, inr, pos, ℤ, Some}
use Rattle.std.specs.Prelude.{slice_set, slice_index_or}
use Rattle.std.proofs.lemmas.Bool.{cases_eq, cases_lt}
use Rattle.std.proofs.lemmas.Int.{ints}
use Rattle.std.proofs.lemmas.List.{get_or-set_other, get_or-set_same, length-set, set_past}
use Rattle.range_facts.specs.Along.{with_left}
use Rattle.range_facts.specs.Ranges.{IsFact, constant, unknown}
use Rattle.range_facts.specs.Refining.{IsLeft, Stays}
use Rattle.range_facts.specs.Transfer.{AreFacts, fact_of}
use Rattle.range_facts.specs.declared.strided.Strided.{Strided}
use Rattle.range_facts.specs.declared.strided.Cond.{Cond}
use Rattle.range_facts.specs.declared.facts.Facts.{Facts}
use Rattle.range_facts.specs.declared.along.Along.{Along}
use Rattle.range_facts.proofs.Sets.{bare, holds_hi, holds_lo, only_value}

-- a fact whose values are those of a constant is that constant
constant_is : (s : Strided) (z : ℤ) → IsFact s → s.lo ≡ z → s.hi ≡ z → s ≡ constant z
constant_is s z f lo hi =
    let none : f.span ≡ 0 = omega (arith, ints, lo, hi, f.ends) in
    ap₂ (λ a b. bare a b s.stride) lo hi ∙ ap (λ n. bare z z n) (f.single none)

pub left_of_constant : (s : Strided) (z : ℤ) (P : ℤ → Type 0) → IsLeft (constant z) P s → s ≡ constant z
left_of_constant s z P left =
    let lo = only_value (constant z) s.lo refl (left.inside s.lo (holds_lo s left.fact)) in
    let hi = only_value (constant z) s.hi refl (left.inside s.hi (holds_hi s left.fact)) in
    constant_is s z left.fact lo hi

-- a fact that has only values of the one before it
pub put_left : (f : Facts) (r : ℕ) (s : Strided) (P : ℤ → Type 0) → AreFacts f → IsLeft (fact_of f r) P s → AreFacts (record { ranges = slice_set f.ranges r s })
put_left f r s P are left =
    record {
      long = length-set f.ranges r s ∙ are.long;
      each = λ q. elim (cases_eq q r) [
        | inl same ↦ subst (λ k. IsFact (slice_index_or (slice_set f.ranges r s) k unknown)) (sym same) (at_place (cases_lt r 32))
        | inr other ↦ subst (λ t. IsFact t) (sym (get_or-set_other f.ranges r q s unknown other)) (are.each q)
      ];
      zero_is = elim (cases_eq 0 r) [
        | inl same ↦ subst (λ k. slice_index_or (slice_set f.ranges k s) 0 unknown ≡ constant (pos 0)) same
            (get_or-set_same f.ranges 0 s unknown (omega (arith, are.long)) ∙ left_of_constant s (pos 0) P (subst (λ t. IsLeft t P s) are.zero_is (subst (λ k. IsLeft (fact_of f k) P s) (sym same) left)))
        | inr other ↦ get_or-set_other f.ranges r 0 s unknown other ∙ are.zero_is
      ];
    }
  where
    at_place : (r < 32) ⊎ (32 ≤ r) → IsFact (slice_index_or (slice_set f.ranges r s) r unknown)
    at_place (inl below) = subst (λ t. IsFact t) (sym (get_or-set_same f.ranges r s unknown (omega (arith, are.long, below)))) left.fact
    at_place (inr above) = subst (λ t. IsFact (slice_index_or t r unknown)) (sym (set_past f.ranges r s (omega (arith, are.long, above)))) (are.each r)

pub replaced_keeps : (a : Along) (r : ℕ) (s t : Strided) (c : Cond) (b : Along) → AreFacts a.facts → t ≡ fact_of a.facts r → IsLeft t (Stays t c) s → Some b ≡ with_left a r (Some s) → AreFacts b.facts
replaced_keeps a r s t c b are same left is =
    let to : record { facts = record { ranges = slice_set a.facts.ranges r s }; tests = a.tests } ≡ b = cc in
    subst (λ x. AreFacts x.facts) to (put_left a.facts r s (Stays (fact_of a.facts r) c) are (subst (λ x. IsLeft x (Stays x c) s) same left))
