use Rattle.event_world.proofs.Falling.{never_more, one_less, spends}
use Rattle.event_world.proofs.laws.moves_fall.Goals as goal

pub returns : goal.returns
returns c = record {
  spent = spends;
  less = one_less;
  never_more = λ source event w v leads i p q at now. never_more source event w v i p q leads at now;
}
