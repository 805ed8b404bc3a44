-- A run of saned and runs of scanimage at a host, each of exit status 0, and how they acted together.
use Rattle.std.specs.Prelude.{ℕ, ◌≡◌, Some, List, map, slice_get}
use Rattle.config_pages.specs.InputTexts.{SeenInputs}
use Rattle.scan_job.specs.declared.job.Job.{Job}
use Rattle.interleaving.specs.HandingOn.{Owner}
use Rattle.interleaving.specs.Interleavings.{job_journal, server_journal}
use Rattle.interleaving.specs.Parts.{ControlHandsOnAmong, DataIsFromDaemon}
use Rattle.programs_refine.specs.Programs.{Acts, OwnersAreJobs}
use Rattle.programs_refine.specs.StepTraffic.{traffic_of}
use Rattle.recorded_net.specs.NetsBack.{BackNets}
use Rattle.saned_cli.specs.WholeDaemon.{HasServedFor}
use Rattle.scanimage_cli.specs.Host.{dials_between}
use Rattle.scanimage_cli.specs.Programs.{IsDoneThere, asked_there}
use Rattle.scanimage_cli.specs.Whole.{HasRunFor, ProgramState}
use Rattle.scanimage_cli.specs.declared.planning.Location.TheVariants.{There}
use Rattle.scanimage_cli.specs.declared.planning.Remote.{Remote}

-- **a scan at a host that ended well (`NetExit`)**: what the contract of scanimage says of exit status 0, for a command
-- line whose device is at a host: from this state of its inputs, connections and outputs to that one, its job was done.
pub record NetExit : Type 0 where
  pub words : List (List ℕ)
  pub was : ProgramState
  pub now : ProgramState
  pub ran : HasRunFor words was now
  pub remote : Remote
  pub at_host : ran.plan.location ≡ There remote
  pub done
      : IsDoneThere (asked_there remote ran.plan.job ran.carried.password) (dials_between was.ports now.ports)
      was.outputs now.outputs

-- **a daemon that ended well (`DaemonExit`)**: what the contract of saned says of exit status 0.
pub record DaemonExit : Type 0 where
  pub words : List (List ℕ)
  pub was : SeenInputs
  pub now : SeenInputs
  pub nets : BackNets
  pub back : BackNets
  pub served : HasServedFor was now nets back words

-- the jobs of these runs, in their order
abbrev pub jobs_of : List NetExit → List Job
jobs_of exits = map (λ e. e.done.job) exits

-- **acted together (`ActTogether`)**: one order of all that a daemon and these runs did: its journal is the daemon's
-- part, and the steps of the loop of each run are that one's part.
pub record ActTogether (daemon : DaemonExit) (exits : List NetExit) (acts : Acts) : Type 0 where
  pub server : server_journal acts ≡ daemon.served.serves.served.journal
  pub loops : (i : ℕ) (e : NetExit) → slice_get exits i ≡ Some e → job_journal i acts ≡ e.done.ran.loop.steps.steps

-- **connected (`AreConnected`)**: their control connections hand on what they are given, also among strangers, and the
-- other end of each of their data connections is the daemon. No run has two control connections.
pub record AreConnected (owner : Owner) (exits : List NetExit) (acts : Acts) : Type 0 where
  pub owns : OwnersAreJobs owner (jobs_of exits)
  pub hands_on : ControlHandsOnAmong traffic_of owner acts
  pub from_daemon : DataIsFromDaemon traffic_of owner acts
