-- A job that ran at a host, under the name that its connection's bytes spell.
use Rattle.std.proofs.Common.{ℕ, ◌≡◌, inl, inr, Bool, List, Option, subst, sym}
use Rattle.scan_job.specs.declared.job.Job.{Job}
use Rattle.scanimage_cli.specs.Causes.{IsUnconnected}
use Rattle.scanimage_cli.specs.Host.{DialsBetween, IsAddressOf, IsHostCalled, remote_at}
use Rattle.scanimage_cli.specs.JobOutputs.{JobOutputs}
use Rattle.scanimage_cli.specs.NetDoing.{host_job}
use Rattle.scanimage_cli.specs.Programs.{RanThere}
use Rattle.scanimage_cli.specs.declared.planning.Destination.{Destination}
use Rattle.scanimage_cli.specs.declared.ending.Ending.{Ending}
use Rattle.scanimage_cli.specs.declared.planning.Remote.{Remote}
use Rattle.scanimage_cli.specs.declared.printed.Printout.{Printout}

pub ran_at : (job : Job) (host other : List ℕ) (destination : Destination) (dials : DialsBetween) (was now : JobOutputs) (printed : Printout) → host ≡ other → RanThere (host_job host job) destination dials was now printed → RanThere (host_job other job) destination dials was now printed
ran_at job host other destination dials was now printed same ran = subst (λ h. RanThere (host_job h job) destination dials was now printed) same ran

-- the host of a plan was called, where its connection was asked for by the same name, port and way
pub called_as : (remote : Remote) (host : List ℕ) (is_made : Bool) (was now : Option (List ℕ)) → host ≡ remote.host
    → IsHostCalled (remote_at host remote.port remote.dial_first) is_made was now → IsHostCalled remote is_made was now
called_as remote host is_made was now same x = record {
  at = x.at;
  address = subst (λ h. IsAddressOf h x.at.address) same x.address;
  port = x.port;
  is_first = x.is_first;
  called = x.called;
}

pub unconnected_as : (remote : Remote) (host : List ℕ) (was now : Option (List ℕ)) (ending : Ending) → host ≡ remote.host
    → IsUnconnected (remote_at host remote.port remote.dial_first) was now ending → IsUnconnected remote was now ending
unconnected_as remote host was now ending same x = (
  x.0,
  elim x.1 [
    | inl none ↦ inl ((λ address is. none.0 address (subst (λ h. IsAddressOf h address) (sym same) is)), none.1)
    | inr called ↦ inr (called_as remote host _ was now same called)
  ],
)
