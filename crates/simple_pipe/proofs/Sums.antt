-- No instruction costs more than 200066 cycles, so the times of a run are known to be small.
use Rattle.std.proofs.Common.{◌≡◌, ℕ, zero, suc, ◌*◌, ◌≤◌, Bool, true, false, List, [], ◌∷◌, length, refl, ap, arith}
use Rattle.std.specs.Prelude.{Option, Some, None, if◌then◌else◌}
use Rattle.mips_isa.specs.Kinds.{kind_of}
use Rattle.mips_isa.specs.declared.instr.Instr.{Instr}
use Rattle.mips_isa.specs.declared.instr.Kind.{Kind}
use Rattle.mips_isa.specs.declared.instr.Kind.TheVariants.{Mul, Div, Load, Store}
use Rattle.mips_ref.specs.Mips.{Mips}
use Rattle.mips_ref.specs.Ran.{ran_by}
use Rattle.mips_ref.specs.declared.records.Ran.{Ran}
use Rattle.simple_pipe.specs.declared.executed.Executed.{Executed}
use Rattle.simple_pipe.specs.declared.pace.Pace.{Pace}
use Rattle.simple_pipe.specs.Cost.{cost_of, total_cost, wait_after}
use Rattle.simple_pipe.specs.Pace.{execute_excess_of, memory_excess_of, is_load_kind, static_cost}
use Rattle.simple_pipe.specs.Pipe.{IsSteady}
use Rattle.simple_pipe.specs.Simple.{Caches, as_instr, executed_of}
use Rattle.simple_pipe.proofs.Static.{fetch_small, whole_cost}

execute_small : (p : Pace) (k : Kind) → IsSteady p → execute_excess_of p k ≤ 64
execute_small p Mul s = omega (arith, s.mul)
execute_small p Div s = omega (arith, s.div)
execute_small p other s = omega arith

memory_small : (p : Pace) (k : Kind) → IsSteady p → memory_excess_of p k ≤ 100000
memory_small p Load s = omega (arith, s.miss)
memory_small p Store s = omega (arith, s.store)
memory_small p other s = omega arith

one_if : (b : Bool) (n : ℕ) → (if b then n else 0) ≤ n
one_if true n = omega arith
one_if false n = omega arith

static_cost-small : (p : Pace) (i : Instr) → IsSteady p → static_cost p i ≤ 200066
unfolding static_cost
static_cost-small p i s =
    omega (arith, s.miss, execute_small p (kind_of i) s, memory_small p (kind_of i) s, one_if (is_load_kind (kind_of i)) 1)

pub instr_small : (p : Pace) (c : Caches) (r : Ran) (rs : List Ran) (i : Option Instr) → IsSteady p → cost_of (as_instr p c r rs i) ≤ 200066
instr_small p c r rs None s = omega (arith, s.miss, fetch_small p c r rs)
instr_small p c r rs (Some i) s = omega (arith, whole_cost p c r rs i, static_cost-small p i s)

pub wait_after-small : (es : List Executed) → wait_after es ≤ 2
wait_after-small [] = omega arith
wait_after-small (e ∷ []) = omega arith
wait_after-small (e ∷ r ∷ older) = one_if r.redirects 2

-- the total of a list
pub total_cost-small : (p : Pace) (c : Caches) (rs : List Ran) → IsSteady p → total_cost (executed_of p c rs) ≤ 200068 * length rs
unfolding executed_of
total_cost-small p c [] s = omega arith
total_cost-small p c (r ∷ rs) s =
    omega (arith, instr_small p c r rs r.instr s, wait_after-small (executed_of p c rs), total_cost-small p c rs s)

-- so many steps execute so many instructions
pub length-ran_by : (n : ℕ) (x : Mips) → length (ran_by n x) ≡ n
unfolding ran_by
length-ran_by zero x = refl
length-ran_by (suc n) x = ap suc (length-ran_by n x)
