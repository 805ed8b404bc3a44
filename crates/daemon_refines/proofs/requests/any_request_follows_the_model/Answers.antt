use Rattle.daemon_refines.proofs.AnyRequest.{requests_agree}
use Rattle.daemon_refines.proofs.requests.any_request_follows_the_model.Goals as goal

pub returns : goal.returns
returns c = requests_agree
