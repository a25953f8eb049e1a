-- The fields of a cache, and what it keeps.
use Rattle.std.specs.Prelude.{◌≡◌, ◌<◌, ◌≤◌, ◌^◌, length}
use Rattle.cache_lru.specs.Contents.{Contents}
use Rattle.cache_lru.specs.declared.table.Table.TheInside.{Inside}

abbrev pub contents : Inside → Contents
contents t = record { shape = t.shape; rows = t.rows.items }

-- one row for each set; sets and bytes of a line by their exponents
pub record IsTable (t : Inside) : Type 0 where
  pub sets_are : t.shape.sets ≡ 2 ^ t.set_bits
  pub set_bits_few : t.set_bits < 32
  pub line_is : t.shape.line ≡ 2 ^ t.line_bits
  pub line_bits_few : t.line_bits < 32
  pub few_ways : t.shape.ways ≤ 8
  pub all_rows : length t.rows.items ≡ t.shape.sets
