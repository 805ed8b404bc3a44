use Rattle.daemon_refines.proofs.Beginning.{openings_show, registries_show}
use Rattle.daemon_refines.proofs.requests.the_beginning_is_shown.Goals as goal

pub returns-clause-registry : goal.returns-clause-registry
returns-clause-registry c = registries_show

pub returns-clause-session : goal.returns-clause-session
returns-clause-session c = openings_show
