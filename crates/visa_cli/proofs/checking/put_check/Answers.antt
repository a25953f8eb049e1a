use Rattle.std.proofs.Common.{[], ◌∷◌, ◌++◌}
use Rattle.visa_io.proofs.PutLaws.{fails_one, puts_after, puts_failed, puts_one, puts_then_some, some_of_longer}
use Rattle.log_text.specs.Check.{check_header}
use Rattle.visa_cli.specs.Check.{all_bound_lines, all_pair_lines}
use Rattle.visa_cli.proofs.checking.put_check.Goals as goal

pub returns-in_err-put : goal.returns-in_err-put
returns-in_err-put g c =
    let x = c.args.admitted.now in
    puts_failed _ _ _ c.from_residual.result c.from_residual.ensures.0
    (some_of_longer (all_bound_lines x.task x.times ++ all_pair_lines x.task x.times) (fails_one c.in_err-put.ensures.failed))

pub returns-in_err-put_all_bounds : goal.returns-in_err-put_all_bounds
returns-in_err-put_all_bounds g c =
    let x = c.args.admitted.now in
    puts_failed _ _ _ c.from_residual-in_err-put_all_bounds.result c.from_residual-in_err-put_all_bounds.ensures.0
    (puts_then_some (puts_one c.in_ok-put.ensures.ok) (some_of_longer (all_pair_lines x.task x.times) c.in_err-put_all_bounds.ensures.puts))

pub returns : goal.returns
returns g c =
    let x = c.args.admitted.now in
    puts_after _ _ _ (check_header ∷ []) (all_bound_lines x.task x.times ++ all_pair_lines x.task x.times) c.put_all_pairs.result (puts_one c.in_ok-put.ensures.ok)
    (puts_after _ _ _ (all_bound_lines x.task x.times) (all_pair_lines x.task x.times) c.put_all_pairs.result c.in_ok-put_all_bounds.ensures.puts c.put_all_pairs.ensures.puts)
