use Rattle.std.proofs.Common.{sym, ◌≡◌, ◌≤◌, ◌+◌, Some, true, arith, rules}
use Rattle.std.proofs.lemmas.Grind.{common_steps}
use Rattle.mips_ref.specs.Memory.{place_of}
use Rattle.mips_ref.proofs.Found.{readable_whole}
use Rattle.mips_ref.proofs.memory.Memory.readable_lanes.Goals as goal

pub returns-then-whole : goal.returns-then-whole
returns-then-whole c =
    let p = c.in-Some.place in
    let found : place_of c.args.self.now c.args.at ≡ Some p = search rules in
    let fits : c.args.at + 4 ≤ p.span.start + p.span.len = grind (arith, common_steps) in
    let may : p.span.r ≡ true = search rules in
    sym (readable_whole c.args.self.now c.args.at c.args.mask p c.in-Some.ensures.kept found fits may)
