use Rattle.scan_world.proofs.Refused.{both_busy, neither, refused, stopped, turned_away}
use Rattle.scan_world.proofs.lies.a_refusal_is_no_lie.Goals as goal

pub returns : goal.returns
returns c = record { stopped = stopped; refused = refused; turned_away = turned_away; both_busy = both_busy; neither = neither }
