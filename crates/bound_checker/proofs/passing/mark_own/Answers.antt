use Rattle.std.specs.Prelude.{slice_index}
use Rattle.run_law.proofs.Coded.{is_first_word}
use Rattle.bound_checker.proofs.Calls.{own_reason, slot_reason}
use Rattle.bound_checker.proofs.passing.mark_own.Goals as goal

pub set_written-requires-clause-writes : goal.set_written-requires-clause-writes
set_written-requires-clause-writes c = λ r writes below.
    own_reason c.args.code.now (slice_index c.args.g.now.functions c.args.row) c.args.unit.at r c.args.unit c.args.unit.first c.requires.member (is_first_word c.args.code.now c.args.unit.at) c.requires.unit.first writes

pub set_written-requires-in-Some-clause-writes : goal.set_written-requires-in-Some-clause-writes
set_written-requires-in-Some-clause-writes c = λ r writes below.
    slot_reason c.args.code.now c.args.g.now.entry (slice_index c.args.g.now.functions c.args.row) r c.args.unit c.in-Some.slot c.requires.unit c.requires.member c.in-Some.is writes
