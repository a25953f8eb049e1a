-- The time of a switch is made up of small parts.
use Rattle.std.proofs.Common.{ℕ, ◌+◌, ◌*◌, ◌^◌, ◌≤◌, ◌<◌, arith}
use Rattle.std.proofs.Math.Nat.{mul-le-mul_left}
use Rattle.visa_io.specs.declared.records.Machine.{Machine}
use Rattle.checkpoint_plan.specs.Plan.{handover_of, switch_of}

pub record HasSmallParts (m : Machine) (flight pa pb : ℕ) : Type 0 where
  pub waited : flight * pa ≤ 10 ^ 12
  pub settled : flight * pa + m.settle_ps ≤ 10 ^ 12
  pub handed : handover_of m ≤ 10 ^ 12
  pub handed_ps : handover_of m * pb ≤ 10 ^ 12
  pub all : flight * pa + m.settle_ps + handover_of m * pb ≤ 10 ^ 12

pub small_parts : (m : Machine) (flight pa pb : ℕ) → switch_of m flight pa pb ≤ 10 ^ 12 → 0 < pb
    → HasSmallParts m flight pa pb
unfolding switch_of
small_parts m flight pa pb small some =
    let most = mul-le-mul_left {m = 1} {n = pb} (handover_of m) some in
    record {
      waited = omega (arith, small);
      settled = omega (arith, small);
      handed = omega (arith, small, most);
      handed_ps = omega (arith, small);
      all = omega (arith, small);
    }
