-- At a slower point nothing costs more cycles.
use Rattle.std.proofs.Common.{◌≤◌, Bool, true, false, arith}
use Rattle.mips_isa.specs.Kinds.{kind_of}
use Rattle.mips_isa.specs.declared.instr.Instr.{Instr}
use Rattle.mips_isa.specs.declared.instr.Kind.{Kind}
use Rattle.mips_isa.specs.declared.instr.Kind.TheVariants as kind
use Rattle.path_wcet.specs.Static.{more_of, static_cost}
use Rattle.path_wcet.specs.declared.costs.Pen.{Pen}

slower_more : (k : Kind) (slow fast : Pen) → slow.m ≤ fast.m → slow.w ≤ fast.w → slow.mul ≤ fast.mul → slow.div ≤ fast.div → more_of k slow ≤ more_of k fast
slower_more kind.Mul slow fast m w mul div = omega (arith, mul)
slower_more kind.Div slow fast m w mul div = omega (arith, div)
slower_more kind.Load slow fast m w mul div = omega (arith, m)
slower_more kind.Store slow fast m w mul div = w
slower_more kind.Plain slow fast m w mul div = omega arith
slower_more kind.Branch slow fast m w mul div = omega arith
slower_more kind.Jump slow fast m w mul div = omega arith
slower_more kind.Call slow fast m w mul div = omega arith
slower_more kind.Return slow fast m w mul div = omega arith
slower_more kind.Indirect slow fast m w mul div = omega arith
slower_more kind.Stop slow fast m w mul div = omega arith

pub slower_cost : (i : Instr) (charged : Bool) (slow fast : Pen) → slow.m ≤ fast.m → slow.w ≤ fast.w → slow.mul ≤ fast.mul → slow.div ≤ fast.div → static_cost i charged slow ≤ static_cost i charged fast
unfolding static_cost
slower_cost i true slow fast m w mul div = let h = slower_more (kind_of i) slow fast m w mul div in omega (arith, h, m)
slower_cost i false slow fast m w mul div = let h = slower_more (kind_of i) slow fast m w mul div in omega (arith, h)
