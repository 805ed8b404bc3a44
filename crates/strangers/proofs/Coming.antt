-- In a world of jobs and strangers all stand among one another.
use Rattle.std.proofs.Common.{ℕ, ◌+◌, ◌≤◌, length, arith}
use Rattle.event_world.specs.Worlds.{WorldCore}
use Rattle.world_refines.specs.GhostStates.{Ghost}
use Rattle.world_refines.specs.WorldRefinement.{stranger_of}
use Rattle.strangers.specs.Among.{MayHaveStrangers, StandsAmong, StrangersMayCome}

pub may_come : StrangersMayCome
may_come t w h = record {
  jobs = record { sound = h.refines.sound; asks = h.refines.asks; endpoints = h.refines.endpoints };
  limits = h.limits;
  links = h.refines.links;
  nowhere = λ n. h.nowhere (stranger_of w n) (omega arith);
  strangers = h.refines.strangers;
}
