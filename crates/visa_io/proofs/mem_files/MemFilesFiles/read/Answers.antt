use Rattle.std.proofs.Common.{arith}
use Rattle.visa_io.proofs.MemAnswers.{answered}
use Rattle.visa_io.proofs.mem_files.MemFilesFiles.read.Goals as goal

pub returns-clause-exact : goal.returns-clause-exact
returns-clause-exact c =
    answered c.args.self.now _ _ _ c.args.name.now c.args.max c.saturating_add-number.result c.is_among-is_made_to_fail.result _ c.note-2.result
    c.as_slice-2.ensures c.as_bytes-name.ensures.value c.as_slice.ensures (omega arith) c.is_among-is_made_to_fail.ensures c.answer_of-taken.ensures.answer c.note-2.ensures.answer
