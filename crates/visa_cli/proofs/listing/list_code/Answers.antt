use Rattle.std.proofs.Common.{sym, subst, ◌+◌, ◌^◌, ◌≤◌, All}
use Rattle.visa_io.specs.declared.records.Code.{Code}
use Rattle.list_text.proofs.Ends.{code_ends}
use Rattle.visa_cli.proofs.listing.list_code.Goals as goal

pub put_list-requires-clause-ends : goal.put_list-requires-clause-ends
put_list-requires-clause-ends g c =
    let End : Code → Type 0 = λ code. All (λ span. span.start + span.len ≤ 2 ^ 32) code.spans in
    subst End (sym c.in-Ok.ensures.code) (code_ends c.args.image.now c.requires)
