use Rattle.scan_world.proofs.Refused.{given_up, gone_on, idle, laid, starved, still_runs, torn_out, unseeded}
use Rattle.scan_world.proofs.lies.a_run_is_no_lie.Goals as goal

pub returns : goal.returns
returns c = record { idle = idle; gone_on = gone_on; given_up = given_up; starved = starved; laid = laid; torn_out = torn_out; unseeded = unseeded; still_runs = still_runs }
