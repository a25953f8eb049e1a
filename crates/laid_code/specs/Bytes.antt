-- Lists of bytes. This project's own.
use Rattle.std.specs.Prelude.{◌<◌, ◌^◌, ℕ, List, slice_index}

abbrev pub AreBytes : List ℕ → Type 0
AreBytes bytes = (k : ℕ) → slice_index bytes k < 2 ^ 8
