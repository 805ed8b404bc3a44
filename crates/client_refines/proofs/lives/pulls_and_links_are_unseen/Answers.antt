use Rattle.client_refines.proofs.ClientEndings.{pulls_unseen}
use Rattle.client_refines.proofs.lives.pulls_and_links_are_unseen.Goals as goal

pub returns : goal.returns
returns c = pulls_unseen
