use Rattle.visa_cli.proofs.Chains.{file_not_read, file_read}
use Rattle.visa_cli.proofs.stages.read_file.Goals as goal

pub returns-in-Ok : goal.returns-in-Ok
returns-in-Ok g c =
    file_read c.args.role c.args.name.now c.in-Ok.bytes _ _ (record {
      contents = c.in-Ok.ensures.contents;
      faults = c.in-Ok.ensures.faults;
      counted = c.in-Ok.ensures.reads;
      last_name_is = c.in-Ok.ensures.last_name;
      last_failed = c.in-Ok.ensures.last_failed;
      last_took = c.in-Ok.ensures.last_taken;
      fits = c.in-Ok.ensures.fits;
      told = c.in-Ok.ensures.told;
    })

pub returns-in-Err : goal.returns-in-Err
returns-in-Err g c =
    file_not_read c.args.role c.args.name.now c.in-Err.fault c.file_status.result _ _ c.file_status.ensures (record {
      contents = c.in-Err.ensures.contents;
      faults = c.in-Err.ensures.faults;
      counted = c.in-Err.ensures.reads;
      last_name_is = c.in-Err.ensures.last_name;
      last_failed = c.in-Err.ensures.last_failed;
      last_took = c.in-Err.ensures.last_taken;
      fits = c.in-Err.ensures.fits;
      told = c.in-Err.ensures.told;
    })
