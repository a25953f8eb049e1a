-- What the pipeline keeps, and how it stands for all that was executed since it was started. Working definitions.
use Rattle.std.specs.Prelude.{◌≡◌, ◌<◌, ◌^◌, ℕ, List, [], ◌∷◌, Option, Some, None, if◌then◌else◌}
use Rattle.mips_isa.specs.Kinds.{kind_of}
use Rattle.mips_isa.specs.Names.{reads_of, writes_of}
use Rattle.mips_isa.specs.declared.instr.Instr.{Instr}
use Rattle.mips_ref.specs.declared.records.Ran.{Ran}
use Rattle.mips_ref.specs.declared.records.Step.{Step}
use Rattle.mips_ref.specs.declared.records.Step.TheVariants.{Exit}
use Rattle.visa_io.specs.declared.records.Shape.{Shape}
use Rattle.cache_lru.specs.Contents.{StandsForAddresses, shape_of}
use Rattle.simple_pipe.specs.declared.executed.Executed.{Executed}
use Rattle.simple_pipe.specs.declared.pace.Pace.{Pace}
use Rattle.simple_pipe.specs.declared.parts.Parts.{Parts}
use Rattle.simple_pipe.specs.declared.stages.Stages.{Stages}
use Rattle.simple_pipe.specs.Pace.{is_load_kind}
use Rattle.simple_pipe.specs.Simple.{caches_of, executed_of, fetches, loads}
use Rattle.simple_pipe.specs.Times.{times_of, redirect_of}

-- the cycle before which the instruction after the next one isn't fetched
abbrev pub redirect_after : List Executed → ℕ
redirect_after [] = 0
redirect_after (e ∷ older) = if e.redirects then (times_of (e ∷ older)).memory else 0

-- the name that an instruction loads
abbrev pub load_name : Executed → Option ℕ
load_name e = if e.is_load then e.writes else None

-- the names that an instruction reads, where there is one
abbrev pub reads_in : Option Instr → List (Option ℕ)
reads_in None = None ∷ None ∷ None ∷ []
reads_in (Some i) = reads_of i

-- the name that it loads
abbrev pub name_loaded : Option Instr → Option ℕ
name_loaded None = None
name_loaded (Some i) = if is_load_kind (kind_of i) then writes_of i else None

abbrev pub last_load : List Executed → Option ℕ
last_load [] = None
last_load (e ∷ older) = load_name e

-- the stages after a list, newest first
pub record IsAfter (s : Stages) (es : List Executed) : Type 0 where
  pub decode : s.decode ≡ (times_of es).decode
  pub read : s.read ≡ (times_of es).read
  pub execute : s.execute ≡ (times_of es).execute
  pub memory : s.memory ≡ (times_of es).memory
  pub write : s.write ≡ (times_of es).write
  pub left : s.left ≡ (times_of es).left
  pub redirected : s.redirected ≡ redirect_of es
  pub redirected_next : s.redirected_next ≡ redirect_after es
  pub loaded : s.loaded ≡ last_load es

abbrev pub no_stages : Stages
no_stages =
    record {
      decode = 0;
      read = 0;
      execute = 0;
      memory = 0;
      write = 0;
      left = 0;
      redirected = 0;
      redirected_next = 0;
      loaded = None;
    }

-- so far from the end of a number of 64 bits that an instruction more can't reach it
pub record IsEarly (s : Stages) : Type 0 where
  pub decode : s.decode < 2 ^ 62
  pub read : s.read < 2 ^ 62
  pub execute : s.execute < 2 ^ 62
  pub memory : s.memory < 2 ^ 62
  pub write : s.write < 2 ^ 62
  pub left : s.left < 2 ^ 62
  pub redirected : s.redirected < 2 ^ 62

-- stages and caches of these shapes after what was executed, newest first
pub record AreAfter (p : Pace) (icache dcache : Option Shape) (parts : Parts) (rs : List Ran) : Type 0 where
  pub icache_is : shape_of parts.icache ≡ icache
  pub dcache_is : shape_of parts.dcache ≡ dcache
  pub fetched : StandsForAddresses parts.icache (fetches rs)
  pub loaded : StandsForAddresses parts.dcache (loads rs)
  pub stages : IsAfter parts.stages (executed_of p (caches_of icache dcache) rs)

-- what was executed once a step was made; at its exit a job executes nothing more
abbrev pub ran_after : Step → Ran → List Ran → List Ran
ran_after Exit r rs = rs
ran_after other r rs = r ∷ rs
