use Rattle.daemon_refines.proofs.FeedRefines.{feeds_agree}
use Rattle.daemon_refines.proofs.requests.a_feed_follows_the_model.Goals as goal

pub returns : goal.returns
returns c = feeds_agree
