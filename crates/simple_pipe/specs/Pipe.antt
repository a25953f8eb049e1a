-- A pipe as contracts see it. This project's own.
use Rattle.std.specs.Prelude.{ℕ, ◌≤◌, Option}
use Rattle.visa_io.specs.declared.records.Shape.{Shape}
use Rattle.simple_pipe.specs.declared.pace.Pace.{Pace}
use Rattle.simple_pipe.specs.Simple.{Caches, caches_of}

-- what its machine says of times, ps, of slow instructions, cycles, and of caches; and the pace at which it stands started,
-- pipeline and caches empty
pub record Piped : Type 0 where
  pub mem_ps : ℕ
  pub store_ps : ℕ
  pub mul : ℕ
  pub div : ℕ
  pub icache : Option Shape
  pub dcache : Option Shape
  pub started : Option Pace

abbrev pub pipe_caches : Piped → Caches
pipe_caches p = caches_of p.icache p.dcache

-- the greatest extra cycles and cycles
pub record IsSteady (p : Pace) : Type 0 where
  pub miss : p.miss ≤ 100000
  pub store : p.store ≤ 100000
  pub mul : p.mul ≤ 32
  pub div : p.div ≤ 64
