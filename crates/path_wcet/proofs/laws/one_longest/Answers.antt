use Rattle.std.proofs.Common.{false, ℕ}
use Rattle.persistence.specs.Charges.{has_slot}
use Rattle.path_wcet.proofs.Attained.{one_longest}
use Rattle.path_wcet.proofs.ExactPrices.{exact_prices, prices_of}
use Rattle.path_wcet.proofs.laws.one_longest.Goals as goal

pub returns : goal.returns
returns c = record {
  exact = λ code entry g costs is. (prices_of code g costs, (λ (a : ℕ). false), (λ (u : ℕ). has_slot g u), exact_prices code entry g costs is);
  same = one_longest;
  one = λ code entry g n costs from to a b is. one_longest g n costs from to a b (prices_of code g costs) (λ u. false) (λ u. has_slot g u) (exact_prices code entry g costs is);
}
