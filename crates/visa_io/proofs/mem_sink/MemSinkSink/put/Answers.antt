-- A put that failed appended a prefix of the piece.
use Rattle.std.proofs.Common.{◌++◌, ap, sym, ◌∙◌, arith}
use Rattle.std.specs.Prelude.{Some}
use Rattle.visa_io.proofs.PutShares.{parts_of}
use Rattle.visa_io.proofs.mem_sink.MemSinkSink.put.Goals as goal

pub returns-clause-failed : goal.returns-clause-failed
returns-clause-failed c =
    let parts = parts_of c.kept_bytes-kept.result _ c.args.piece.now in
    record {
      part = record {
        kept = c.part_put.result.now;
        lost = parts.0;
        parts = parts.1 ∙ ap (λ front. front ++ parts.0) (sym c.part_put.ensures.part);
        taken = ap Some c.append.ensures.items;
      };
      fault = omega arith;
      counted = omega arith;
    }
