use Rattle.std.proofs.Common.{inr, refl}
use Rattle.visa_io.proofs.PutLaws.{fails_one}
use Rattle.visa_cli.proofs.report.put_line.Goals as goal

pub returns-in-Err : goal.returns-in-Err
returns-in-Err g c = inr (refl, fails_one c.in-Err.ensures.failed)
