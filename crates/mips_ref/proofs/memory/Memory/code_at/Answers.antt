use Rattle.std.proofs.Common.{sym, ap, ◌∙◌, Some, ◌≡◌, ◌%◌, rules, true}
use Rattle.mips_ref.proofs.Found.{code_found, four_of}
use Rattle.mips_ref.specs.Memory.{in_order, is_code, place_of}
use Rattle.mips_ref.proofs.memory.Memory.code_at.Goals as goal

pub returns-then-runs-clause-value : goal.returns-then-runs-clause-value
returns-then-runs-clause-value c =
    let found : place_of c.args.self.now c.args.at ≡ Some c.in-Some.place = search rules in
    let runs : is_code c.args.at c.in-Some.place ≡ true = search rules in
    let aligned : c.args.at % 4 ≡ 0 = search rules in
    let word : c.ordered.result ≡ in_order c.args.self.now.big (four_of c.args.self.now.bytes c.in-Some.place.index) = search rules in
    ap Some word ∙ sym (code_found c.args.self.now c.args.at c.in-Some.place c.in-Some.ensures.kept found aligned runs)
