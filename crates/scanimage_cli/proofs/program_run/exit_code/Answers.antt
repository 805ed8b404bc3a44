use Rattle.scanimage_cli.proofs.CausedRun.{told_cause}
use Rattle.scanimage_cli.proofs.Carrying.{still_told}
use Rattle.scanimage_cli.proofs.program_run.exit_code.Goals as goal

pub returns-in-Err-clause-otherwise : goal.returns-in-Err-clause-otherwise
returns-in-Err-clause-otherwise g c = λ other. record {
  ending = c.in-Err.ending;
  status_is = c.tell_ending.ensures.status;
  failure = c.in-Err.ensures.failed;
  cause = told_cause c.args.words.now _ _ c.in-Err.ending c.in-Err.ensures.silent c.in-Err.ensures.cause;
  no_file = c.in-Err.ensures.no_file;
  of_output = c.in-Err.ensures.output;
  told = still_told _ _ _ _ _ c.in-Err.ensures.silent c.tell_ending.ensures.line;
}
