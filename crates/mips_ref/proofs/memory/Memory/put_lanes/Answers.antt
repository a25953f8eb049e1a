use Rattle.std.proofs.Common.{sym, ap, ◌∙◌, ◌≡◌, ◌≤◌, ◌+◌, ℕ, List, Some, arith, rules}
use Rattle.std.proofs.lemmas.Grind.{common_steps}
use Rattle.mips_ref.specs.Held.{set_lanes}
use Rattle.mips_ref.specs.Memory.{Flat, place_of}
use Rattle.mips_ref.proofs.Found.{put_whole}
use Rattle.mips_ref.proofs.memory.Memory.put_lanes.Goals as goal

pub returns-then-whole : goal.returns-then-whole
returns-then-whole c =
    let p = c.in-Some.place in
    let found : place_of c.args.self.now c.args.at ≡ Some p = search rules in
    let fits : c.args.at + 4 ≤ p.span.start + p.span.len = grind (arith, common_steps) in
    let put = put_whole c.args.self.now c.args.at c.args.mask c.args.word p c.in-Some.ensures.kept found fits in
    ap (λ (bs : List ℕ). let m : Flat = record { spans = c.self.inside.spans.items; bytes = bs; big = c.self.inside.big } in m) c.set_lanes.ensures.items
    ∙ ap (λ (m : Flat). let n : Flat = record m { bytes = set_lanes p.index c.args.mask c.args.word m.bytes } in n) c.self.view_is
    ∙ sym put
