use Rattle.std.proofs.Common.{refl}
use Rattle.scan_world.proofs.Calls.{move_call, move_is}
use Rattle.scan_world.proofs.world.World.next_move.Goals as goal

pub returns : goal.returns
returns g c = record {
  is = move_is _ c.args.i _ _ c.next_move.result refl c.next_move.ensures.is c.next_move.ensures.none;
  kept = λ h job at. move_call c.what_stands_below.ensures _ c.args.i _ (move_is _ c.args.i _ _ c.next_move.result refl c.next_move.ensures.is c.next_move.ensures.none) h job at;
}
