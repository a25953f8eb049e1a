use Rattle.std.proofs.Common.{sym, ap, ◌∙◌, ◌≡◌, List, ℕ, Some, arith, rules, take, length, length-take-le}
use Rattle.mips_ref.specs.Held.{Stands}
use Rattle.mips_ref.specs.Layout.{overwritten}
use Rattle.mips_ref.specs.Memory.{Flat, place_of}
use Rattle.mips_ref.proofs.Filled.{put-run}
use Rattle.mips_ref.proofs.memory.Memory.fill_run.Goals as goal

pub returns-clause-filled : goal.returns-clause-filled
returns-clause-filled c =
    let p = c.in-Some.place in
    let run = take c.min-count.result c.args.bytes.now in
    let found : place_of c.args.self.now c.args.at ≡ Some p = search rules in
    let stands : Stands c.args.self.now c.args.at p = search rules in
    let len : length run ≡ c.min-count.result = length-take-le c.min-count.result c.args.bytes.now (omega (arith, c.min-count.ensures)) in
    let put = put-run c.args.self.now c.args.at p run c.in-Some.ensures.kept found (omega (arith, len, stands)) (omega (arith, len, stands)) in
    ap (λ (bs : List ℕ). let m : Flat = record { spans = c.self.inside.spans.items; bytes = bs; big = c.self.inside.big } in m) c.overwrite.ensures.items
    ∙ ap (λ (m : Flat). let n : Flat = record m { bytes = overwritten p.index run m.bytes } in n) c.self.view_is
    ∙ sym put
