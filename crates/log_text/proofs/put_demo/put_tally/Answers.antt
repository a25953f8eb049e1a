use Rattle.std.proofs.Common.{◌∷◌, []}
use Rattle.std.specs.Prelude.{codes}
use Rattle.visa_io.proofs.PutLaws.{puts_after, puts_failed, puts_then_some, some_of_longer}
use Rattle.log_text.specs.Demo.{number_line}
use Rattle.log_text.proofs.put_demo.put_tally.Goals as goal

pub returns-in_err-put_number-clause-puts : goal.returns-in_err-put_number-clause-puts
returns-in_err-put_number-clause-puts g c =
    let s = c.args.summary.now in
    puts_failed _ _ _ c.from_residual.result c.from_residual.ensures.0
    (some_of_longer (number_line (codes "fast") s.fast ∷ number_line (codes "missed") s.missed ∷ []) c.in_err-put_number.ensures.puts)

pub returns-in_err-put_number-2-clause-puts : goal.returns-in_err-put_number-2-clause-puts
returns-in_err-put_number-2-clause-puts g c =
    puts_failed _ _ _ c.from_residual-in_err-put_number-2.result c.from_residual-in_err-put_number-2.ensures.0
    (puts_then_some c.in_ok-put_number.ensures.puts
    (some_of_longer (number_line (codes "missed") c.args.summary.now.missed ∷ []) c.in_err-put_number-2.ensures.puts))

pub returns-clause-puts : goal.returns-clause-puts
returns-clause-puts g c =
    let s = c.args.summary.now in
    puts_after _ _ _ (number_line (codes "jobs") s.jobs ∷ []) _ c.put_number-3.result c.in_ok-put_number.ensures.puts
    (puts_after _ _ _ (number_line (codes "fast") s.fast ∷ []) _ c.put_number-3.result c.in_ok-put_number-2.ensures.puts c.put_number-3.ensures.puts)
