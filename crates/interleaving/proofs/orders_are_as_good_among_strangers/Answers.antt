use Rattle.interleaving.proofs.Ahead.{all_sooner}
use Rattle.interleaving.proofs.Fronts.{reads_written}
use Rattle.interleaving.proofs.Sooner.{comes_sooner}
use Rattle.interleaving.proofs.orders_are_as_good_among_strangers.Goals as goal

pub returns-clause-moves : goal.returns-clause-moves
returns-clause-moves g c = comes_sooner

pub returns-clause-all : goal.returns-clause-all
returns-clause-all g c = all_sooner

pub returns-clause-reads : goal.returns-clause-reads
returns-clause-reads g c = reads_written
