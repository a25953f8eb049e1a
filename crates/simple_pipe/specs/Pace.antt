-- What accesses and slow instructions take at a clock period, and what a decoded instruction costs at most. This project's own.
use Rattle.std.specs.Prelude.{ℕ, ◌+◌, ◌-◌, Bool, true, false, not, None, [], ◌∷◌, if◌then◌else◌}
use Rattle.std.specs.Int.{div_ceil}
use Rattle.mips_isa.specs.Kinds.{kind_of}
use Rattle.mips_isa.specs.Names.{reads_of, writes_of}
use Rattle.mips_isa.specs.Prediction.{predicted_taken_of}
use Rattle.mips_isa.specs.declared.instr.Instr.{Instr}
use Rattle.mips_isa.specs.declared.instr.Kind.{Kind}
use Rattle.mips_isa.specs.declared.instr.Kind.TheVariants.{Mul, Div, Load, Store, Branch, Return}
use Rattle.simple_pipe.specs.declared.executed.Executed.{Executed}
use Rattle.simple_pipe.specs.declared.pace.Pace.{Pace}

-- the extra cycles of a missed access and of a store are their times over the period, rounded up
abbrev pub pace_of : ℕ → ℕ → ℕ → ℕ → ℕ → Pace
pace_of mem_ps store_ps mul div period_ps =
    record { miss = div_ceil mem_ps period_ps; store = div_ceil store_ps period_ps; mul = mul; div = div }

-- cycles beyond the first in the execute stage, and in the memory stage, where every access misses
abbrev pub execute_excess_of : Pace → Kind → ℕ
execute_excess_of p Mul = p.mul - 1
execute_excess_of p Div = p.div - 1
execute_excess_of p other = 0

abbrev pub memory_excess_of : Pace → Kind → ℕ
memory_excess_of p Load = p.miss
memory_excess_of p Store = p.store
memory_excess_of p other = 0

abbrev pub is_load_kind : Kind → Bool
is_load_kind Load = true
is_load_kind other = false

abbrev pub differs : Bool → Bool → Bool
differs true b = not b
differs false b = b

-- whether an instruction redirects the fetch: a return, and a branch that goes against its prediction
abbrev pub redirects_by : Kind → Bool → Bool → Bool
redirects_by Return predicted taken = true
redirects_by Branch predicted taken = differs predicted taken
redirects_by other predicted taken = false

-- an instruction, taken or not, whose fetch and access take so many cycles beyond the first
unfoldable pub timed : Pace → Instr → Bool → ℕ → ℕ → Executed
timed p i taken fetch_excess memory_excess =
    record {
      fetch_excess = fetch_excess;
      execute_excess = execute_excess_of p (kind_of i);
      memory_excess = memory_excess;
      is_load = is_load_kind (kind_of i);
      reads = reads_of i;
      writes = writes_of i;
      redirects = redirects_by (kind_of i) (predicted_taken_of i) taken;
    }

-- a word that is no instruction, or an address that is no code, reads and writes nothing
abbrev pub untimed : ℕ → Executed
untimed fetch_excess =
    record {
      fetch_excess = fetch_excess;
      execute_excess = 0;
      memory_excess = 0;
      is_load = false;
      reads = None ∷ None ∷ None ∷ [];
      writes = None;
      redirects = false;
    }

-- what an instruction costs at most, in cycles, a redirect aside
unfoldable pub static_cost : Pace → Instr → ℕ
static_cost p i =
    1 + p.miss + execute_excess_of p (kind_of i) + memory_excess_of p (kind_of i) + (if is_load_kind (kind_of i) then 1 else 0)
