use Rattle.std.proofs.Common.{◌≡◌, ◌≤◌, ◌+◌, ◌-◌, Some, arith, rules}
use Rattle.mips_ref.specs.Memory.{place_of}
use Rattle.mips_ref.proofs.Found.{run_each}
use Rattle.mips_ref.proofs.memory.Memory.bytes_from.Goals as goal

pub returns-clause-each : goal.returns-clause-each
returns-clause-each c = λ k below.
    let p = c.in-Some.place in
    let count = p.index + c.min-count.result - p.index in
    let found : place_of c.args.self.now c.args.at ≡ Some p = search rules in
    let same : c.deref.result.now ≡ c.args.self.now.bytes = search rules in
    let within : count ≤ p.span.start + p.span.len - c.args.at = omega (arith, c.min-count.ensures) in
    run_each c.args.self.now c.args.at k count p c.deref.result.now same c.in-Some.ensures.kept found within below
