use Rattle.std.proofs.Common.{◌∷◌, []}
use Rattle.visa_io.proofs.PutLaws.{puts_after, puts_failed, puts_then_some, some_of_longer}
use Rattle.log_text.specs.Lines.{output_line, registers_line, shown_lines, state_lines}
use Rattle.log_text.proofs.put.put_state.Goals as goal

pub returns-in_err-put_registers-clause-puts : goal.returns-in_err-put_registers-clause-puts
unfolding state_lines
returns-in_err-put_registers-clause-puts g c =
    let x = c.args.state.now.mips in
    puts_failed _ _ _ c.from_residual.result c.from_residual.ensures.0
    (some_of_longer (output_line x.output ∷ shown_lines x.memory c.args.show.now) c.in_err-put_registers.ensures.puts)

pub returns-in_err-put_output-clause-puts : goal.returns-in_err-put_output-clause-puts
unfolding state_lines
returns-in_err-put_output-clause-puts g c =
    puts_failed _ _ _ c.from_residual-in_err-put_output.result c.from_residual-in_err-put_output.ensures.0
    (puts_then_some c.in_ok-put_registers.ensures.puts
    (some_of_longer (shown_lines c.args.state.now.mips.memory c.args.show.now) c.in_err-put_output.ensures.puts))

pub returns-clause-puts : goal.returns-clause-puts
unfolding state_lines
returns-clause-puts g c =
    let x = c.args.state.now.mips in
    puts_after _ _ _ (registers_line x ∷ []) _ c.put_shown.result c.in_ok-put_registers.ensures.puts
    (puts_after _ _ _ (output_line x.output ∷ []) _ c.put_shown.result c.in_ok-put_output.ensures.puts c.put_shown.ensures.puts)
