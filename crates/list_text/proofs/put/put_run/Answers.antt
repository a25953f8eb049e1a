use Rattle.std.proofs.Common.{subst}
use Rattle.visa_io.specs.Puts.{Put, PutFailed}
use Rattle.visa_io.proofs.PutLaws.{puts_failed}
use Rattle.list_text.proofs.Runs.{run_ends, run_more, run_stops}
use Rattle.list_text.proofs.put.put_run.Goals as goal

pub returns-then-symbol-at : goal.returns-then-symbol-at
returns-then-symbol-at g c =
    run_ends c.args.run.now c.args.at c.requires.rising c.requires.from _ _ c.loop-symbol.symbol-index c.symbol-item.result c.loop-symbol-test.true c.symbol-item.is c.if-symbol-at.true c.loop-symbol.invariant

pub returns-in_err-put : goal.returns-in_err-put
returns-in_err-put g c =
    puts_failed _ _ _ c.from_residual.result c.from_residual.ensures.0
    (run_stops c.args.run.now c.args.at c.requires.rising c.requires.from c.loop-symbol.symbol-index c.symbol-item.result c.loop-symbol-test.true c.symbol-item.is c.if-symbol-at.false c.loop-symbol.invariant
    (subst (λ piece. PutFailed (g.S.Sink.taken c.loop-symbol.sink) (g.S.Sink.taken c.put.new.self) piece) c.as_slice.ensures.value c.in_err-put.ensures.failed))

pub loop-symbol-preserved : goal.loop-symbol-preserved
loop-symbol-preserved g c =
    run_more c.args.run.now c.args.at c.requires.rising c.requires.from c.loop-symbol.symbol-index c.symbol-item.result c.loop-symbol-test.true c.symbol-item.is c.if-symbol-at.false c.loop-symbol.invariant
    (subst (λ piece. Put (g.S.Sink.taken c.loop-symbol.sink) (g.S.Sink.taken c.put.new.self) piece) c.as_slice.ensures.value c.in_ok-put.ensures.ok)
