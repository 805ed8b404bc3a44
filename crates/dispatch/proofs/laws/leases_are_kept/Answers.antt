use Rattle.dispatch.proofs.Names.{sound_fresh, sound_take, sound_back, sound_unplug, lease_in_again, other_lease}
use Rattle.dispatch.proofs.Leases.{is_lease}
use Rattle.dispatch.proofs.laws.leases_are_kept.Goals as goal

pub returns-clause-fresh : goal.returns-clause-fresh
returns-clause-fresh c = sound_fresh

pub returns-clause-take : goal.returns-clause-take
returns-clause-take c = sound_take

pub returns-clause-taken : goal.returns-clause-taken
returns-clause-taken c = is_lease

pub returns-clause-give_back : goal.returns-clause-give_back
returns-clause-give_back c = sound_back

pub returns-clause-unplug : goal.returns-clause-unplug
returns-clause-unplug c = sound_unplug

pub returns-clause-given_back : goal.returns-clause-given_back
returns-clause-given_back c = lease_in_again

pub returns-clause-other : goal.returns-clause-other
returns-clause-other c = other_lease
