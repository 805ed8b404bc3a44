use Rattle.std.proofs.Common.{refl}
use Rattle.scanimage_cli.proofs.Carrying.{has_written}
use Rattle.scanimage_cli.proofs.program_run.program.Goals as goal

pub returns-clause-written : goal.returns-clause-written
returns-clause-written g c zero = has_written _ _ _ _ _ c.what_is_carried_out_is_written.ensures
    (record { number = c.args.outputs.now.files.shelf.number; out = refl; named = refl; stock = refl })
    (record { number = c.exit_code.new.outputs.files.shelf.number; out = refl; named = refl; stock = refl })
    (c.exit_code.ensures.well zero)
