use Rattle.daemon_refines.proofs.Cores.{core_feeds}
use Rattle.daemon_refines.proofs.requests.a_fed_daemon_follows_the_model.Goals as goal

pub returns : goal.returns
returns c = core_feeds
