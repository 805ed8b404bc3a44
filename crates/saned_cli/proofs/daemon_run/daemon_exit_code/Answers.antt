use Rattle.std.proofs.Common.{◌≡◌, Option, arith, refl, subst, sym}
use Rattle.std.specs.Prelude.{IsSome}
use Rattle.std.proofs.lemmas.Bool.{false≢true}
use Rattle.saned_cli.specs.Binding.{TellsLine}
use Rattle.saned_cli.specs.DaemonLines.{daemon_ending_line}
use Rattle.saned_cli.specs.declared.daemon_ending.DaemonEnding.TheVariants.{CannotWrite}
use Rattle.saned_cli.specs.declared.own_texts.OwnText.{OwnText}
use Rattle.saned_cli.specs.declared.port_line.DaemonOutput.{DaemonOutput}
use Rattle.saned_cli.proofs.daemon_run.daemon_exit_code.Goals as goal

pub returns-in-Err-clause-otherwise : goal.returns-in-Err-clause-otherwise
returns-in-Err-clause-otherwise g c = λ _. record {
  ending = CannotWrite;
  status_is = c.tell_daemon_ending.ensures.status;
  failure = λ e. let clash : 9 ≡ 0 = e in omega arith;
  line = c.tell_daemon_ending.ensures.line;
  own = λ _. refl;
  cause = λ none. cc (c.in-Some.ensures, none);
}

pub returns-in-Err-run-clause-otherwise : goal.returns-in-Err-run-clause-otherwise
returns-in-Err-run-clause-otherwise g c = λ _. record {
  ending = c.in-Err-run.ending;
  status_is = c.tell_daemon_ending-in-Err-run.ensures.status;
  failure = c.in-Err-run.ensures.failed;
  line = subst (λ (err : DaemonOutput g.row.E.Denot). TellsLine (daemon_ending_line c.in-Err-run.ending) c.tell_daemon_ending-in-Err-run.new.err.tally.failed (g.E.Write.contents err.to) (g.E.Write.contents c.tell_daemon_ending-in-Err-run.new.err.to))
      c.in-Err-run.ensures.silent c.tell_daemon_ending-in-Err-run.ensures.line;
  own = λ some. absurd (false≢true (subst (λ (text : Option OwnText). IsSome text) (sym c.in-None.ensures) some));
  cause = λ _. c.in-Err-run.ensures.cause;
}
