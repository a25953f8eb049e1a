use Rattle.std.proofs.Common.{◌∙◌, subst, ◌∷◌, []}
use Rattle.visa_io.specs.Puts.{Puts}
use Rattle.visa_io.specs.ImageCode.{code_of_image}
use Rattle.visa_io.proofs.PutLaws.{puts_after, puts_failed, some_of_longer}
use Rattle.list_text.specs.Lists.{lines_of_spans, list_header, list_lines, symbol_lines}
use Rattle.list_text.proofs.put.put_list.Goals as goal

pub returns-in_err-put_header-clause-puts : goal.returns-in_err-put_header-clause-puts
unfolding list_lines
returns-in_err-put_header-clause-puts g c image code table =
    puts_failed _ _ _ c.from_residual.result c.from_residual.ensures.0 (some_of_longer (lines_of_spans (symbol_lines image.symbols) (code_of_image image).spans (code_of_image image).words) c.in_err-put_header.ensures)

pub returns-clause-puts : goal.returns-clause-puts
unfolding list_lines
returns-clause-puts g c image code table =
    puts_after _ _ _ (list_header ∷ []) (lines_of_spans (symbol_lines image.symbols) (code_of_image image).spans (code_of_image image).words) c.put_spans.result c.in_ok-put_header.ensures
    (subst (λ lines. Puts (g.S.Sink.taken c.put_header.new.sink) (g.S.Sink.taken c.put_spans.new.sink) lines c.put_spans.result)
    ((λ i. lines_of_spans (λ at. table.same at i) (c.as_slice.ensures i) (c.as_slice-2.ensures i)) ∙ (λ i. lines_of_spans (symbol_lines image.symbols) (code i).spans (code i).words)) c.put_spans.ensures.puts)
