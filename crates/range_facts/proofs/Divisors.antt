-- The greatest common divisor is the greatest number that divides both.
use Rattle.std.proofs.Common.{◌≡◌, ◌∙◌, refl, sym, subst, ℕ, zero, suc, ◌%◌, ◌<◌, ◌≤◌, Bool, true, false, cond, eqb, arith, inl, inr}
use Rattle.std.specs.Prelude.{◌&&◌}
use Rattle.std.specs.Int.{IsGcd}
use Prim.Native.Nat.{◌∣◌}
use Rattle.std.proofs.lemmas.Bool.{and_from, cases_eq, eq-eqb}
use Rattle.std.proofs.lemmas.Nat.Gcd.{le_of_dvd, mod-eq-zero_of_dvd}
use Rattle.std.proofs.Math.Nat.{pos_of_dvd_of_pos}
use Rattle.range_facts.specs.Transfer.{divisor_up_to}
use Rattle.range_facts.proofs.Values.{divides_both}

greatest : (n a b d : ℕ) → 0 < d → d ∣ a → d ∣ b → d ≤ n → d ≤ divisor_up_to n a b
unfolding divisor_up_to
greatest zero a b d some da db le = absurd (omega (arith, some, le))
greatest (suc n) a b d some da db le = by_test (λ less. greatest n a b d some da db less) (eqb (a % suc n) 0 && eqb (b % suc n) 0) refl
  where
    by_test : (d ≤ n → d ≤ divisor_up_to n a b) → (t : Bool) → (eqb (a % suc n) 0 && eqb (b % suc n) 0) ≡ t → d ≤ cond t (suc n) (divisor_up_to n a b)
    by_test rest true is = le
    by_test rest false is = elim (cases_eq d (suc n)) [
      | inl same ↦ let passes : (eqb (a % suc n) 0 && eqb (b % suc n) 0) ≡ true = both same in let never : true ≡ false = sym passes ∙ is in absurd (cc)
      | inr other ↦ rest (omega (arith, le, other))
    ]
      where
        both : d ≡ suc n → (eqb (a % suc n) 0 && eqb (b % suc n) 0) ≡ true
        both same =
            and_from (eqb (a % suc n) 0) (eqb (b % suc n) 0)
            (eq-eqb (a % suc n) 0 (mod-eq-zero_of_dvd (suc n) (subst (λ k. k ∣ a) same da)))
            (eq-eqb (b % suc n) 0 (mod-eq-zero_of_dvd (suc n) (subst (λ k. k ∣ b) same db)))

pub divisor_is : (a b g : ℕ) → 0 < a → IsGcd a b g → g ≡ divisor_up_to a a b
divisor_is a b g some is =
    let both = divides_both a a b in
    let g_some : 0 < g = pos_of_dvd_of_pos is.0 some in
    let less : divisor_up_to a a b ≤ g = le_of_dvd g_some (is.2 (divisor_up_to a a b) both.0 both.1) in
    let more : g ≤ divisor_up_to a a b = greatest a a b g g_some is.0 is.1 (le_of_dvd some is.0) in
    omega (arith, less, more)
