use Rattle.std.proofs.Common.{◌++◌, ◌∷◌, []}
use Rattle.visa_io.proofs.PutLaws.{puts_after, puts_failed, puts_then_some, some_of_longer}
use Rattle.log_text.specs.Lines.{job_line, record_lines, state_lines, sub_lines}
use Rattle.log_text.proofs.put.put_lines.Goals as goal

pub returns-in_err-put_job-clause-puts : goal.returns-in_err-put_job-clause-puts
unfolding record_lines
returns-in_err-put_job-clause-puts g c =
    puts_failed _ _ _ c.from_residual.result c.from_residual.ensures.0
    (some_of_longer (sub_lines c.args.counts.now ++ state_lines c.args.state.now.mips c.args.show.now) c.in_err-put_job.ensures.puts)

pub returns-in_err-put_subs-clause-puts : goal.returns-in_err-put_subs-clause-puts
unfolding record_lines
returns-in_err-put_subs-clause-puts g c =
    puts_failed _ _ _ c.from_residual-in_err-put_subs.result c.from_residual-in_err-put_subs.ensures.0
    (puts_then_some c.in_ok-put_job.ensures.puts
    (some_of_longer (state_lines c.args.state.now.mips c.args.show.now) c.in_err-put_subs.ensures.puts))

pub returns-clause-puts : goal.returns-clause-puts
unfolding record_lines
returns-clause-puts g c =
    puts_after _ _ _ (job_line c.args.job.now ∷ []) _ c.put_state.result c.in_ok-put_job.ensures.puts
    (puts_after _ _ _ (sub_lines c.args.counts.now) _ c.put_state.result c.in_ok-put_subs.ensures.puts c.put_state.ensures.puts)
