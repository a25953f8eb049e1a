use Rattle.std.proofs.Common.{◌∷◌, []}
use Rattle.std.specs.Prelude.{codes}
use Rattle.visa_io.proofs.PutLaws.{puts_after, puts_failed, some_of_longer}
use Rattle.log_text.specs.Demo.{number_line, sum_line}
use Rattle.log_text.proofs.put_demo.put_results.Goals as goal

pub returns-in_err-put_number-clause-puts : goal.returns-in_err-put_number-clause-puts
returns-in_err-put_number-clause-puts g c =
    puts_failed _ _ _ c.from_residual.result c.from_residual.ensures.0
    (some_of_longer (sum_line c.args.summary.now.sum ∷ []) c.in_err-put_number.ensures.puts)

pub returns-clause-puts : goal.returns-clause-puts
returns-clause-puts g c =
    puts_after _ _ _ (number_line (codes "latest") c.args.summary.now.latest_ps ∷ []) _ c.put_sum.result c.in_ok-put_number.ensures.puts c.put_sum.ensures.puts
