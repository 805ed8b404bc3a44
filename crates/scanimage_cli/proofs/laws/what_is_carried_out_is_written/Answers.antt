use Rattle.scanimage_cli.proofs.Written.{carried_out_is_written}
use Rattle.scanimage_cli.proofs.laws.what_is_carried_out_is_written.Goals as goal

pub returns : goal.returns
returns c = carried_out_is_written
