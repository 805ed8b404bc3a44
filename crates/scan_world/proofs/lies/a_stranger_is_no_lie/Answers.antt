use Rattle.scan_world.proofs.Shared.{taken, their_page}
use Rattle.scan_world.proofs.lies.a_stranger_is_no_lie.Goals as goal

pub returns : goal.returns
returns c = record { theirs = their_page; taken = taken }
