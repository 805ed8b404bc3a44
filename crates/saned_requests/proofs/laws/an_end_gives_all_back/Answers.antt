use Rattle.saned_requests.proofs.Returning.{sound_all, lasts_all, all_return}
use Rattle.saned_requests.proofs.laws.an_end_gives_all_back.Goals as goal

pub returns-clause-back : goal.returns-clause-back
returns-clause-back c = all_return

pub returns-clause-others : goal.returns-clause-others
returns-clause-others c = lasts_all

pub returns-clause-sound : goal.returns-clause-sound
returns-clause-sound c = sound_all
