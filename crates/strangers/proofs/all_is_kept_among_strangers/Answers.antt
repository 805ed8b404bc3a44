use Rattle.strangers.proofs.Together.{all_kept}
use Rattle.strangers.proofs.all_is_kept_among_strangers.Goals as goal

pub returns : goal.returns
returns c = all_kept
