use Rattle.std.proofs.Common.{◌≡◌, Some, true, arith, rules}
use Rattle.mips_ref.specs.Held.{Stands}
use Rattle.mips_ref.specs.Memory.{IsMemory, place_of, takes_stores}
use Rattle.mips_ref.proofs.Covered.{covered-range}
use Rattle.mips_ref.proofs.memory.Memory.covered_to.Goals as goal
use Rattle.mips_ref.proofs.memory.Memory.covered_to.Goals.{else-write-via-then-write+else-not-takes_stores, else-write-via-else-write}

pub returns : goal.returns
returns c =
    let p = c.in_ok-place.place in
    let found : place_of c.args.self.now c.args.at ≡ Some p = search rules in
    let kept : IsMemory c.args.self.now = search rules in
    let stands : Stands c.args.self.now c.args.at p = search rules in
    let may = λ (is : c.args.write ≡ true). elim c.else-write.branch as (λ b. takes_stores p.span ≡ true) [
      | else-write-via-then-write+else-not-takes_stores w ↦ search rules
      | else-write-via-else-write w ↦ cc
    ] in
    (omega (arith, stands), covered-range c.args.write c.args.self.now c.args.at p kept found may)
