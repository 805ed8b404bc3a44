use Rattle.interleaving.proofs.Owners.{none_speaks, strangers_speak, without}
use Rattle.interleaving.proofs.strangers_are_apart.Goals as goal

pub returns-clause-without : goal.returns-clause-without
returns-clause-without g c = without

pub returns-clause-speak : goal.returns-clause-speak
returns-clause-speak g c = strangers_speak

pub returns-clause-refuted : goal.returns-clause-refuted
returns-clause-refuted g c = none_speaks
