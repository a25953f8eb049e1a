use Rattle.std.proofs.Common.{◌≡◌, ◌∙◌, sym, subst, List, length}
use Rattle.std.specs.Prelude.{IfOk, All}
use Rattle.visa_io.specs.declared.image_code.Placed.{Placed}
use Rattle.visa_io.specs.ImageCode.{Fits, code_from_pieces}
use Rattle.visa_io.proofs.ImageLaws.{all_fit}
use Rattle.visa_io.proofs.image_code.code_of_parts.Goals as goal

pub code_from-requires : goal.code_from-requires
code_from-requires c =
    let P : List Placed → Type 0 = λ pieces. All (Fits (length c.args.bytes.now)) pieces in
    subst P (sym (c.deref.ensures.value ∙ c.in_ok-pieces.ensures)) (all_fit c.args.spans.now (length c.args.bytes.now) c.requires.bytes c.requires.ends)

pub returns-clause-code : goal.returns-clause-code
returns-clause-code c =
    let P : List Placed → Type 0 = λ pieces. IfOk c.code_from.result (λ code. code ≡ code_from_pieces c.args.big c.args.bytes.now pieces) in
    subst P (c.deref.ensures.value ∙ c.in_ok-pieces.ensures) c.code_from.ensures.code
