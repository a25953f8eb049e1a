-- The lines of a list of code. This project's own.
use Rattle.std.specs.Prelude.{◌≡◌, ℕ, List}
use Rattle.visa_io.specs.declared.records.Image.{Image}
use Rattle.list_text.specs.Lists.{list_lines}

abbrev pub IsListing : Image → List (List ℕ) → Type 0
IsListing image lines = lines ≡ list_lines image
