use Rattle.std.proofs.Common.{sym, ap, subst, ◌∙◌, ◌≡◌, ◌<◌, ◌+◌, ◌-◌, ℕ, List, Some, length, replicate, vec_len, arith, rules}
use Rattle.std.proofs.lemmas.Grind.{common_steps}
use Rattle.mips_ref.proofs.Runs.{length-input_buffer, put_none, put_run, run_room, set_run-append}
use Rattle.mips_ref.specs.Held.{set_run}
use Rattle.mips_ref.specs.Memory.{AllDeclared, Flat, input_buffer, place_of}
use Rattle.mips_ref.proofs.memory.Memory.fill_buffer.Goals as goal

pub returns-then-len-eq0 : goal.returns-then-len-eq0
returns-then-len-eq0 c =
    sym (put_none c.args.self.now c.args.at (input_buffer c.args.len c.args.input.now) (length-input_buffer c.args.len c.args.input.now c.requires.fits ∙ c.if-len-eq0.true))

pub set_run-requires : goal.set_run-requires
set_run-requires c =
    let found : place_of c.args.self.now c.args.at ≡ Some c.in-Some.place = search rules in
    let some : 0 < c.args.len = grind (arith, common_steps) in
    let room = run_room c.args.self.now c.args.at c.args.len c.in-Some.place c.in-Some.ensures.kept found c.requires.declared some in
    let same : length c.args.self.now.bytes ≡ vec_len c.self.inside.bytes = search rules in
    omega (arith, room, same, c.requires.fits)

pub clear_run-requires : goal.clear_run-requires
clear_run-requires c =
    let found : place_of c.args.self.now c.args.at ≡ Some c.in-Some.place = search rules in
    let some : 0 < c.args.len = grind (arith, common_steps) in
    let room = run_room c.args.self.now c.args.at c.args.len c.in-Some.place c.in-Some.ensures.kept found c.requires.declared some in
    let same : length c.args.self.now.bytes ≡ vec_len c.self.inside.bytes = search rules in
    omega (arith, room, same, c.requires.fits, c.set_run.ensures.len)

pub returns-in-Some : goal.returns-in-Some
returns-in-Some c =
    let p = c.in-Some.place in
    let buffer = input_buffer c.args.len c.args.input.now in
    let found : place_of c.args.self.now c.args.at ≡ Some p = search rules in
    let all : AllDeclared c.args.self.now c.args.at (length buffer) =
    subst (λ n. AllDeclared c.args.self.now c.args.at n) (sym (length-input_buffer c.args.len c.args.input.now c.requires.fits)) c.requires.declared in
    let put = put_run c.args.self.now c.args.at buffer p c.in-Some.ensures.kept.laid_out found all in
    let bytes = c.clear_run.ensures.items
    ∙ ap (λ bs. set_run bs (p.index + length c.args.input.now) (replicate (c.args.len - length c.args.input.now) 0)) c.set_run.ensures.items
    ∙ sym (set_run-append c.self.inside.bytes.items p.index c.args.input.now (replicate (c.args.len - length c.args.input.now) 0)) in
    ap (λ (bs : List ℕ). let m : Flat = record { spans = c.self.inside.spans.items; bytes = bs; big = c.self.inside.big } in m) bytes
    ∙ ap (λ (m : Flat). let n : Flat = record m { bytes = set_run m.bytes p.index buffer } in n) c.self.view_is
    ∙ sym put
