-- How a memory is kept: beside each range stands how many bytes come before it.
use Rattle.std.specs.Prelude.{ℕ, ◌+◌, ◌-◌, ◌<◌, ◌≤◌, ◌≡◌, List, [], ◌∷◌, length, slice_set, if◌then◌else◌}
use Rattle.visa_io.specs.declared.records.Span.{Span}
use Rattle.mips_ref.specs.Memory.{Flat, IsMemory, lane, masks, port}
use Rattle.mips_ref.specs.declared.place.Place.{Place}

unfoldable pub firsts_from : ℕ → List Span → List ℕ
firsts_from before [] = []
firsts_from before (s ∷ rest) = before ∷ firsts_from (before + s.len) rest

pub record IsKept (m : Flat) (firsts : List ℕ) : Type 0 where
  pub memory : IsMemory m
  pub firsts_are : firsts ≡ firsts_from 0 m.spans

-- an address is in the range of its place, whose bytes from there on are among the memory's
pub record Stands (m : Flat) (at : ℕ) (p : Place) : Type 0 where
  pub low : p.span.start ≤ at
  pub high : at < p.span.start + p.span.len
  pub below_port : p.span.start + p.span.len ≤ port
  pub room : p.index + (p.span.start + p.span.len - at) ≤ length m.bytes

-- four bytes from an index on, those of a mask changed
unfoldable pub set_lane : ℕ → ℕ → ℕ → ℕ → List ℕ → List ℕ
set_lane j index mask word bytes = if masks mask j then slice_set bytes (index + j) (lane j word) else bytes

unfoldable pub set_lanes : ℕ → ℕ → ℕ → List ℕ → List ℕ
set_lanes index mask word bytes =
    set_lane 3 index mask word (set_lane 2 index mask word (set_lane 1 index mask word (set_lane 0 index mask word bytes)))

-- a run of bytes from an index on becomes these
unfoldable pub set_run : List ℕ → ℕ → List ℕ → List ℕ
set_run bytes i [] = bytes
set_run bytes i (b ∷ run) = set_run (slice_set bytes i b) (i + 1) run
