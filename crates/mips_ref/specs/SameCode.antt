-- Memories with the same code. Source: this project's own.
use Rattle.std.specs.Prelude.{◌≡◌, ℕ, true, Some}
use Rattle.mips_ref.specs.declared.place.Place.{Place}
use Rattle.mips_ref.specs.Memory.{Flat, byte_at, place_of}

-- n has the ranges and the byte order of m, and its bytes where they run
pub record SameCode (m n : Flat) : Type 0 where
  pub spans_are : n.spans ≡ m.spans
  pub big_is : n.big ≡ m.big
  pub bytes_are : (c : ℕ) (p : Place) → place_of m c ≡ Some p → p.span.x ≡ true → byte_at n c ≡ byte_at m c
