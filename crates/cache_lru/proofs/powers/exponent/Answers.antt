use Rattle.std.proofs.Common.{◌≡◌, ◌<◌, ◌^◌, ℕ, sym, ap, subst, ◌∙◌, arith, w32, inl, inr}
use Rattle.std.specs.Int.{bit_at, trailing_zeros}
use Rattle.std.proofs.lemmas.Bool.{cases_eq}
use Rattle.std.proofs.lemmas.Nat.Bits.{bit_at-pow_other, bit_at-trailing_zeros}
use Rattle.std.proofs.Math.Pow.{pow_pos}
use Rattle.cache_lru.proofs.powers.exponent.Goals as goal

-- the zeros behind the one 1 of a power of two
zeros-pow : (n k : ℕ) → n ≡ 2 ^ k → n < 2 ^ 32 → n ≡ 2 ^ trailing_zeros w32 n
zeros-pow n k e small =
    let some : 0 < n = subst (λ q. 0 < q) (sym e) (pow_pos k) in
    let lowest = bit_at-trailing_zeros w32 n some small in
    elim (cases_eq (trailing_zeros w32 n) k) [
      | inl same ↦ e ∙ ap (λ q. 2 ^ q) (sym same)
      | inr other ↦ (
          let none : bit_at n (trailing_zeros w32 n) ≡ 0 = ap (λ q. bit_at q (trailing_zeros w32 n)) e ∙ bit_at-pow_other k (trailing_zeros w32 n) other in
          absurd (omega (arith, lowest.1, none)))
    ]

pub returns-clause-is : goal.returns-clause-is
returns-clause-is c = zeros-pow c.args.n c.requires.0 c.requires.1 (omega arith)
