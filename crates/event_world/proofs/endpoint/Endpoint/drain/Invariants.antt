use Rattle.std.proofs.Common.{◌≡◌, true, List}
use Rattle.frame_join.specs.FrameHistory.{JoinHistory}
use Rattle.client_replies.specs.ProtocolStates.{scans}
use Rattle.event_world.specs.FileDraining.{HasPlace, HoldsHistory, IsLaid, StaysOutOfMemory}
use Rattle.event_world.proofs.AllPulls.{IsUnderway}
use Rattle.event_world.proofs.endpoint.Endpoint.drain.Given as goal

abbrev pub invariant-loop-i : goal.invariant-loop-i
invariant-loop-i l = record {
  rest : IsLaid l.initial.self l.self;
  starved : StaysOutOfMemory l.initial.self l.self;
  under : (past : JoinHistory) (pages : List JoinHistory) → scans l.initial.self.task ≡ true → HasPlace l.initial.self pages → HoldsHistory past pages l.initial.self → IsUnderway past pages l.initial.self l._i l.self;
}
