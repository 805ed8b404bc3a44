use Rattle.std.proofs.Common.{refl}
use Rattle.std.specs.IoError.{error_kind}
use Rattle.saned_cli.specs.DaemonCauses.HasNotServed.{CannotBind}
use Rattle.saned_cli.proofs.daemon_run.serve_at.Goals as goal

pub returns-in-Err-clause-otherwise : goal.returns-in-Err-clause-otherwise
returns-in-Err-clause-otherwise g c = CannotBind (error_kind c.in-Err.fault) c.in-Err.ensures.told refl (record { memory = c.of_bind.ensures.memory; refused = c.of_bind.ensures.port })
