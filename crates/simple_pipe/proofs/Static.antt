-- What an instruction costs when it executes, whatever was executed before it.
use Rattle.std.proofs.Common.{ℕ, ◌+◌, ◌≤◌, Bool, true, false, List, ◌∷◌, arith}
use Rattle.std.specs.Prelude.{Some, if◌then◌else◌}
use Rattle.mips_isa.specs.Kinds.{kind_of}
use Rattle.mips_isa.specs.declared.instr.Instr.{Instr}
use Rattle.mips_isa.specs.declared.instr.Kind.{Kind}
use Rattle.mips_isa.specs.declared.instr.Kind.TheVariants.{Load}
use Rattle.mips_ref.specs.declared.records.Ran.{Ran}
use Rattle.simple_pipe.specs.declared.pace.Pace.{Pace}
use Rattle.simple_pipe.specs.Cost.{cost_of}
use Rattle.simple_pipe.specs.Pace.{timed, static_cost, memory_excess_of}
use Rattle.simple_pipe.specs.Simple.{Caches, access_cost, as_instr, excess, fetch_cost, fetches, load_hit, loads, unless_trapped}

excess_small : (hit : Bool) (miss : ℕ) → excess hit miss ≤ miss
excess_small true miss = omega arith
excess_small false miss = omega arith

fetch_case : (is_code : Bool) (cost miss : ℕ) → cost ≤ miss → (if is_code then cost else 0) ≤ miss
fetch_case true cost miss h = h
fetch_case false cost miss h = omega arith

pub fetch_small : (p : Pace) (c : Caches) (r : Ran) (rs : List Ran) → fetch_cost p c r rs ≤ p.miss
fetch_small p c r rs = fetch_case r.is_code _ p.miss (excess_small (c.fetch_hits (fetches (r ∷ rs))) p.miss)

access_small : (p : Pace) (c : Caches) (r : Ran) (rs : List Ran) (k : Kind) → access_cost p c r rs k ≤ memory_excess_of p k
access_small p c r rs Load = excess_small (load_hit c r.load (loads (r ∷ rs))) p.miss
access_small p c r rs other = omega arith

unless : (trapped : Bool) (m n : ℕ) → m ≤ n → unless_trapped trapped m ≤ n
unless true m n h = omega arith
unless false m n h = h

-- its fetch aside it costs at most what the static cost leaves without a missed fetch
pub rest_cost : (p : Pace) (c : Caches) (r : Ran) (rs : List Ran) (i : Instr)
    → cost_of (as_instr p c r rs (Some i)) + p.miss ≤ static_cost p i + fetch_cost p c r rs
unfolding timed static_cost
rest_cost p c r rs i =
    let m = unless r.trapped (access_cost p c r rs (kind_of i)) (memory_excess_of p (kind_of i)) (access_small p c r rs (kind_of i)) in
    omega (arith, m)

-- and all in all at most the static cost
pub whole_cost : (p : Pace) (c : Caches) (r : Ran) (rs : List Ran) (i : Instr) → cost_of (as_instr p c r rs (Some i)) ≤ static_cost p i
whole_cost p c r rs i = omega (arith, rest_cost p c r rs i, fetch_small p c r rs)
