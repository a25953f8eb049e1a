-- Sums and differences of words as the code passes them on.
use Rattle.std.proofs.Common.{◌≡◌, ℤ, to_z, of_z, arith}
use Rattle.std.specs.Prelude.{◌+ℤ◌, ◌-ℤ◌}
use Rattle.std.specs.Int.{w64}
use Rattle.std.proofs.lemmas.Int.{ints}
use Rattle.range_facts.specs.Ranges.{IsFact}
use Rattle.range_facts.specs.declared.strided.Strided.{Strided}
use Rattle.range_facts.proofs.Words.{IsWord}

abbrev pub again : ℤ → ℤ
again z = to_z w64 (of_z w64 z)

pub lo_word : (s : Strided) → IsFact s → IsWord s.lo
lo_word s f = record { low = f.low; high = omega (arith, ints, f.ends, f.high) }

pub hi_word : (s : Strided) → IsFact s → IsWord s.hi
hi_word s f = record { low = omega (arith, ints, f.ends, f.low); high = f.high }

pub again_sum : (x y : ℤ) → IsWord x → IsWord y → again (again x +ℤ again y) ≡ x +ℤ y
again_sum x y p q = omega (arith, ints, p.low, p.high, q.low, q.high)

pub again_difference : (x y : ℤ) → IsWord x → IsWord y → again (again x -ℤ again y) ≡ x -ℤ y
again_difference x y p q = omega (arith, ints, p.low, p.high, q.low, q.high)
