use Rattle.saned_cli.proofs.BackLaws.{carried}
use Rattle.saned_cli.proofs.daemon_run.daemon_program.Goals as goal

pub returns : goal.returns
returns g c = record {
  carried = λ zero none. carried c.what_sockets_carry.ensures _ _ _ _ _ (c.daemon_exit_code.ensures.well zero none);
  listens = c.daemon_exit_code.ensures.listens;
  text = c.daemon_exit_code.ensures.text;
  otherwise = c.daemon_exit_code.ensures.otherwise;
}
