-- How counts are kept: a ring of eight for each sub-task.
use Rattle.std.specs.Prelude.{◌≡◌, ℕ, List, All, map}
use Rattle.circular_buffer.specs.Buffer.{Buffer}

abbrev pub kept_in : List (Buffer ℕ) → List (List ℕ)
kept_in rings = map (λ ring. ring.items) rings

abbrev pub AreRings : List (Buffer ℕ) → Type 0
AreRings rings = All (λ ring. ring.capacity ≡ 8) rings
