-- Ranks of units by their numbers. This project's own.
use Rattle.std.specs.Prelude.{ℕ, Bool, ◌||◌, nat_lt, List, slice_index}
use Rattle.loop_regions.specs.declared.ways.Way.{Way}

-- a way leads back, or to a unit of a lower rank
abbrev pub falls : List ℕ → Way → Bool
falls ranks w = w.back || nat_lt (slice_index ranks w.to) (slice_index ranks w.from)
