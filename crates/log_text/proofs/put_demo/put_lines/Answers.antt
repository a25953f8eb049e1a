use Rattle.std.proofs.Common.{◌∷◌, []}
use Rattle.std.specs.Prelude.{codes}
use Rattle.visa_io.proofs.PutLaws.{puts_after, puts_failed, puts_then_some, some_of_longer}
use Rattle.log_text.specs.Demo.{number_line, sum_line, summary_lines}
use Rattle.log_text.proofs.put_demo.put_lines.Goals as goal

pub returns-in_err-put_seed-clause-puts : goal.returns-in_err-put_seed-clause-puts
unfolding summary_lines
returns-in_err-put_seed-clause-puts g c =
    let s = c.args.summary.now in
    puts_failed _ _ _ c.from_residual.result c.from_residual.ensures.0
    (some_of_longer
    (number_line (codes "jobs") s.jobs ∷ number_line (codes "fast") s.fast ∷ number_line (codes "missed") s.missed
    ∷ number_line (codes "latest") s.latest_ps ∷ sum_line s.sum ∷ [])
    c.in_err-put_seed.ensures.puts)

pub returns-in_err-put_tally-clause-puts : goal.returns-in_err-put_tally-clause-puts
unfolding summary_lines
returns-in_err-put_tally-clause-puts g c =
    let s = c.args.summary.now in
    puts_failed _ _ _ c.from_residual-in_err-put_tally.result c.from_residual-in_err-put_tally.ensures.0
    (puts_then_some c.in_ok-put_seed.ensures.puts
    (some_of_longer (number_line (codes "latest") s.latest_ps ∷ sum_line s.sum ∷ []) c.in_err-put_tally.ensures.puts))

pub returns-clause-puts : goal.returns-clause-puts
unfolding summary_lines
returns-clause-puts g c =
    let s = c.args.summary.now in
    puts_after _ _ _ (number_line (codes "visa 1 demo") s.seed ∷ []) _ c.put_results.result c.in_ok-put_seed.ensures.puts
    (puts_after _ _ _
    (number_line (codes "jobs") s.jobs ∷ number_line (codes "fast") s.fast ∷ number_line (codes "missed") s.missed ∷ []) _
    c.put_results.result c.in_ok-put_tally.ensures.puts c.put_results.ensures.puts)
