-- What a run executes, as the pipeline sees it, and the time of a job in simple mode. What is executed is said by the
-- reference's steps, and which accesses hit by the list of all accesses. The pipeline and its caches are this project's own.
use Rattle.std.specs.Prelude.{ℕ, Bool, false, Option, Some, None, List, [], ◌∷◌, if◌then◌else◌}
use Rattle.mips_isa.specs.Kinds.{kind_of}
use Rattle.mips_isa.specs.declared.instr.Instr.{Instr}
use Rattle.mips_isa.specs.declared.instr.Kind.{Kind}
use Rattle.mips_isa.specs.declared.instr.Kind.TheVariants.{Load}
use Rattle.mips_ref.specs.Memory.{in_port}
use Rattle.mips_ref.specs.Mips.{Mips}
use Rattle.mips_ref.specs.Ran.{ran}
use Rattle.mips_ref.specs.declared.records.Ran.{Ran}
use Rattle.visa_io.specs.declared.records.Shape.{Shape}
use Rattle.cache_lru.specs.Recency.{hits_at}
use Rattle.simple_pipe.specs.declared.executed.Executed.{Executed}
use Rattle.simple_pipe.specs.declared.pace.Pace.{Pace}
use Rattle.simple_pipe.specs.Pace.{timed, untimed, memory_excess_of}
use Rattle.simple_pipe.specs.Times.{times_of}

-- the addresses that are fetched, and those that are loaded through the data cache, newest first: a load from the port isn't
abbrev pub fetches : List Ran → List ℕ
fetches [] = []
fetches (r ∷ rs) = if r.is_code then r.at ∷ fetches rs else fetches rs

abbrev pub with_load : Option ℕ → List ℕ → List ℕ
with_load None ats = ats
with_load (Some at) ats = if in_port at then ats else at ∷ ats

abbrev pub loads : List Ran → List ℕ
loads [] = []
loads (r ∷ rs) = with_load r.load (loads rs)

-- whether the newest of a list of addresses hits, for instructions and for data
pub record Caches : Type 0 where
  pub fetch_hits : List ℕ → Bool
  pub load_hits : List ℕ → Bool

-- a cache that is empty before the oldest access, or none
abbrev pub newest_hits : Option Shape → List ℕ → Bool
newest_hits shape [] = false
newest_hits shape (at ∷ older) = hits_at shape at older

abbrev pub caches_of : Option Shape → Option Shape → Caches
caches_of icache dcache = record { fetch_hits = newest_hits icache; load_hits = newest_hits dcache }

-- cycles of an access beyond the first
abbrev pub excess : Bool → ℕ → ℕ
excess hit miss = if hit then 0 else miss

-- of the fetch of what executed, and of its load or store; where there is no code there is no fetch, and with a trap there is
-- no access to data; a load from the port always misses
abbrev pub fetch_cost : Pace → Caches → Ran → List Ran → ℕ
fetch_cost p c r rs = if r.is_code then excess (c.fetch_hits (fetches (r ∷ rs))) p.miss else 0

abbrev pub load_hit : Caches → Option ℕ → List ℕ → Bool
load_hit c None ats = false
load_hit c (Some at) ats = if in_port at then false else c.load_hits ats

abbrev pub access_cost : Pace → Caches → Ran → List Ran → Kind → ℕ
access_cost p c r rs Load = excess (load_hit c r.load (loads (r ∷ rs))) p.miss
access_cost p c r rs other = memory_excess_of p other

abbrev pub unless_trapped : Bool → ℕ → ℕ
unless_trapped trapped cost = if trapped then 0 else cost

-- what executed, after older ones, as the pipeline sees it
abbrev pub as_instr : Pace → Caches → Ran → List Ran → Option Instr → Executed
as_instr p c r rs None = untimed (fetch_cost p c r rs)
as_instr p c r rs (Some i) =
    timed p i r.taken (fetch_cost p c r rs) (unless_trapped r.trapped (access_cost p c r rs (kind_of i)))

unfoldable pub executed_of : Pace → Caches → List Ran → List Executed
executed_of p c [] = []
executed_of p c (r ∷ rs) = as_instr p c r rs r.instr ∷ executed_of p c rs

-- what a job executes that ends after n steps
abbrev pub executed : Pace → Caches → ℕ → Mips → List Executed
executed p c n x = executed_of p c (ran n x)

-- the cycles of a job that ends after n steps: until its last instruction has left the pipeline
abbrev pub simple_time : Pace → Caches → ℕ → Mips → ℕ
simple_time p c n x = (times_of (executed p c n x)).left
