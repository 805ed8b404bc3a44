use Rattle.daemon_refines.proofs.Leaves.{devices_leave, ends_leave, requests_leave}
use Rattle.daemon_refines.proofs.requests.others_are_left_alone.Goals as goal

pub returns-clause-by_a_request : goal.returns-clause-by_a_request
returns-clause-by_a_request c = requests_leave

pub returns-clause-by_an_end : goal.returns-clause-by_an_end
returns-clause-by_an_end c = ends_leave

pub returns-clause-by_a_device : goal.returns-clause-by_a_device
returns-clause-by_a_device c = devices_leave
